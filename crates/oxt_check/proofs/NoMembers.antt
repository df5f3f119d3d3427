-- Where no member of an enum occurs, nothing is wrong with one.
use Rattle.std.proofs.Common.{◌≡◌, ◌∙◌, refl, sym, ap, ℕ, List, [], ◌∷◌, ◌++◌, Bool, true, false, ◌&&◌, Option, None, Some, cond}
use Rattle.std.specs.List.{list_any}
use Rattle.std.specs.Prelude.{codes}
use Rattle.std.specs.Str.{bytes_eq}
use Rattle.oxt_check.specs.Occurring.{form_at, forms, occurs}
use Rattle.oxt_check.proofs.Absences.{member_is_form, one}
use Rattle.oxt_check.proofs.Formless.{GivesAtAlone, apart, none_in, other_kind}
use Rattle.oxt_declares.specs.Dropped.{is_declared_field, is_dropped_by}
use Rattle.oxt_enum_checks.specs.Around.{enum_in, within}
use Rattle.oxt_enum_checks.specs.Members as members
use Rattle.oxt_enum_checks.specs.Members.{member_in, member_of, members_of}
use Rattle.oxt_enum_checks.specs.Misnamed.{first_repeated, lesser, misnamed}
use Rattle.oxt_enum_checks.specs.Misused.{misused}
use Rattle.oxt_enum_checks.specs.Shadows.{Shadow, all_among, all_at, all_shadows, initializer_shadows, least, left_all, member_shadows, shadowed}
use Rattle.oxt_grammar.specs.Field.{Field}
use Rattle.oxt_grammar.specs.Rows.{row_of}
use Rattle.oxt_grammar.specs.declared.kind.Kind.{Kind}
use Rattle.oxt_grammar.specs.declared.kind.Kind.TheVariants as kind
use Rattle.oxt_names.specs.declared.ids.SymbolId.{SymbolId}
use Rattle.oxt_scoping.specs.Scoped.{Scoped}
use Rattle.oxt_search.proofs.Nothing.{both_none, each_empty, either_none}
use Rattle.oxt_search.specs.All as every
use Rattle.oxt_search.specs.All.{all_in, given}
use Rattle.oxt_tree.specs.Doc.{Doc, nil, flag, number, text, list, node, Docs, no_docs, doc}
use Rattle.oxt_tree.specs.Fields.{named}

-- no member occurs among what the forms are
abbrev Has : List Kind → Bool
Has ks = list_any (one kind.TSEnumMember) ks

-- ---- names of members

no_members : (l : Bool) (s : Scoped) (d : Doc) → occurs d kind.TSEnumMember ≡ false → members_of l s d ≡ []
no_members l s d h = none_in (one kind.TSEnumMember) (members.sought l s) member_is_form gives d None h
  where
    gives : GivesAtAlone (one kind.TSEnumMember) (members.sought l s)
    gives a k i ds off = either_none (is_dropped_by k ds) (member_of s k i a) (ap (λ b. cond b (member_in s i (enum_in s.symbols a)) None) off)

-- what is misnamed is what is misused
lone : (o : Option ℕ) → lesser None o ≡ o
lone None = refl
lone (Some n) = refl

pub misused_alone : (l : Bool) (s : Scoped) (d : Doc) → occurs d kind.TSEnumMember ≡ false → misused l s d ≡ misnamed l s d
misused_alone l s d h = sym (ap (λ ms. lesser (first_repeated [] ms) (misused l s d)) (no_members l s d h) ∙ lone (misused l s d))

-- ---- shadowed names

no_own : (l : Bool) (s : Scoped) (k : Kind) (ds : Docs) (a : Option SymbolId) → one kind.TSEnumMember k ≡ false → member_shadows l s k ds a ≡ []
no_own l s k ds a off = ap (λ b. cond b (initializer_shadows l s (named (codes "initializer") k ds) (enum_in s.symbols a)) []) off

no_left : (b : Bool) (xs : List Shadow) → xs ≡ [] → cond b xs [] ≡ []
no_left true xs e = e
no_left false xs e = refl

mutual
  no_all : (l : Bool) (s : Scoped) (d : Doc) (a : Option SymbolId) → Has (all_in forms d tt) ≡ false → all_shadows l s d a ≡ []
  no_all l s nil a h = refl
  no_all l s (flag b) a h = refl
  no_all l s (number n) a h = refl
  no_all l s (text t) a h = refl
  no_all l s (list ds) a h = no_among l s ds a h
  no_all l s (node k i b e ds) a h =
      let two = apart (one kind.TSEnumMember) (given (form_at k)) (every.all_among forms ds tt) h in
      let other = other_kind (one kind.TSEnumMember) member_is_form k two.0 in
      each_empty (is_dropped_by k ds) (left_all l k ds (all_at l s ds (row_of k) (codes "decorators") a)) (member_shadows l s k ds a ++ all_among l s ds (within s k ds a))
      (no_left (l && is_declared_field k ds) (all_at l s ds (row_of k) (codes "decorators") a) (no_at l s ds (row_of k) (codes "decorators") a two.1))
      (both_none (member_shadows l s k ds a) (all_among l s ds (within s k ds a)) (no_own l s k ds a other) (no_among l s ds (within s k ds a) two.1))

  no_among : (l : Bool) (s : Scoped) (ds : Docs) (a : Option SymbolId) → Has (every.all_among forms ds tt) ≡ false → all_among l s ds a ≡ []
  no_among l s no_docs a h = refl
  no_among l s (doc d ds) a h =
      let two = apart (one kind.TSEnumMember) (all_in forms d tt) (every.all_among forms ds tt) h in
      both_none (all_shadows l s d a) (all_among l s ds a) (no_all l s d a two.0) (no_among l s ds a two.1)

  no_at : (l : Bool) (s : Scoped) (ds : Docs) (fs : List Field) (name : List ℕ) (a : Option SymbolId) → Has (every.all_among forms ds tt) ≡ false → all_at l s ds fs name a ≡ []
  no_at l s no_docs fs name a h = refl
  no_at l s (doc d ds) [] name a h = refl
  no_at l s (doc d ds) (f ∷ fs) name a h =
      let two = apart (one kind.TSEnumMember) (all_in forms d tt) (every.all_among forms ds tt) h in
      each_empty (bytes_eq f.name name) (all_shadows l s d a) (all_at l s ds fs name a) (no_all l s d a two.0) (no_at l s ds fs name a two.1)

pub none_shadowed : (l : Bool) (s : Scoped) (d : Doc) → occurs d kind.TSEnumMember ≡ false → None ≡ shadowed l s d
none_shadowed l s d h = sym (ap least (no_all l s d None h))
