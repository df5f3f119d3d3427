-- In a program without members of enums nothing is wrong with one.
use Rattle.std.proofs.Common.{◌≡◌, ◌∙◌, refl, sym, ap, ℕ, List, [], ◌∷◌, ◌++◌, Bool, true, false, ◌&&◌, ◌||◌, ◌==◌, Option, None, Some, cond}
use Rattle.std.specs.Prelude.{codes, slice_get}
use Rattle.std.specs.Int.RustNames.{bit_and}
use Rattle.std.specs.Str.{bytes_eq}
use Rattle.oxt_declares.specs.Declarations.{Declared}
use Rattle.oxt_declares.specs.Declares.{each_found}
use Rattle.oxt_declares.specs.RoleOf.{role_of}
use Rattle.oxt_declares.specs.declared.collect.Mode.{Mode}
use Rattle.oxt_enum_checks.specs.Around.{Enum, enum_in, within}
use Rattle.oxt_enum_checks.specs.Members.{Member, member_in, member_of, member_views, members_of, name_in, name_of, named_member}
use Rattle.oxt_enum_checks.specs.Members as members
use Rattle.oxt_enum_checks.specs.Misused.{HasNoMember, is_member, is_member_symbol, is_misused_use, misused, misused_at}
use Rattle.oxt_enum_checks.specs.Misused as misuse
use Rattle.oxt_enum_checks.specs.Shadows.{Fields, Shadow, all_among, all_at, all_shadows, declares_name, each_shadows, field_shadows, initializer_shadows, left_shadows, member_shadows, own_shadow, read_shadows, shadowed, shadows, step_shadows, least}
use Rattle.oxt_enum_checks.specs.Uses.{is_member_of, is_own_symbol, is_scope, means_member, scope_around}
use Rattle.oxt_enum_checks.specs.Wide.{HasNoLargest, ends_with_largest, has_largest, wide, wide_among, wide_in}
use Rattle.oxt_enum_checks.specs.Wide as wides
use Rattle.oxt_enum_checks.specs.declared.members.EnumMember.{EnumMember}
use Rattle.oxt_enum_checks.specs.declared.wide.WideMember.{WideMember}
use Rattle.oxt_search.proofs.Nothing.{each_empty, either_none, none_in}
use Rattle.oxt_scopes.specs.Owners.{read}
use Rattle.oxt_scopes.specs.Scopes.{Level}
use Rattle.oxt_scopes.specs.Ways.{step_of, way_of}
use Rattle.oxt_scopes.specs.declared.way.Reading.{Reading}
use Rattle.oxt_scopes.specs.declared.way.Step.{Step}
use Rattle.oxt_scopes.specs.declared.way.Step.TheVariants as step
use Rattle.oxt_scopes.specs.declared.way.Way.{Way}
use Rattle.oxt_scopes.specs.declared.way.Way.TheVariants as way
use Rattle.oxt_scoping.specs.Entries.{SymbolData}
use Rattle.oxt_scoping.specs.Meant.{symbol_in, value_use}
use Rattle.oxt_scoping.specs.Scoped.{Scoped, at_node}
use Rattle.oxt_scoping.specs.declared.entry.Reference.{Reference}
use Rattle.oxt_search.specs.All.{all_in, given, given_inside}
use Rattle.oxt_search.specs.All as every
use Rattle.oxt_search.specs.First.{first}
use Rattle.oxt_tree.specs.declared.inside.Inside.TheVariants as inside
use Rattle.oxt_names.specs.declared.ids.SymbolId.{SymbolId}
use Rattle.oxt_grammar.specs.Field.{Field}
use Rattle.oxt_grammar.specs.Places.{same_kind}
use Rattle.oxt_grammar.specs.Keys.{key_of}
use Rattle.oxt_grammar.specs.Rows.{row_of}
use Rattle.oxt_grammar.specs.declared.field.Field.{Field as FieldName}
use Rattle.oxt_grammar.specs.declared.field.Field.TheVariants as field
use Rattle.oxt_grammar.specs.declared.kind.Kind.{Kind}
use Rattle.oxt_grammar.specs.declared.kind.Kind.TheVariants as kind
use Rattle.oxt_tree.specs.Doc.{Doc, nil, flag, number, text, list, node, Docs, no_docs, doc}
use Rattle.oxt_tree.specs.Fields.{elements, named}
use Rattle.oxt_declares.specs.Dropped.{is_declared_field, is_dropped_by}

and_false : (b : Bool) → (b && false) ≡ false
and_false true = refl
and_false false = refl

-- ---- bare names

not_member : (s : Scoped) → HasNoMember s → (o : Option SymbolId) → is_member s o ≡ false
not_member s h None = refl
not_member s h (Some i) = h i.0

not_misused : (s : Scoped) → HasNoMember s → (b : Bool) (o : Option Reference) → is_misused_use s b o ≡ false
not_misused s h b None = refl
not_misused s h b (Some r) = ap (λ c. (b || bit_and r.flags.0 2 == 2) && c) (not_member s h r.symbol) ∙ and_false (b || bit_and r.flags.0 2 == 2)

misused_none : (s : Scoped) → HasNoMember s → (b : Bool) (i : ℕ) → misused_at s b i ≡ None
misused_none s h b i = ap (λ c. cond c (Some i) None) (not_misused s h b (value_use s i))

pub no_misused : (l : Bool) (s : Scoped) (d : Doc) (b : Bool) → (b ≡ false → HasNoMember s) → b ≡ false → None ≡ misused l s d
no_misused l s d b none is = sym (ap first (none_in (misuse.sought l s) (λ e k i ds. either_none (is_dropped_by k ds) (misused_at s e i) (misused_none s (none is) e i)) d false))

-- ---- members

no_name : (o : Option SymbolData) → is_member_symbol o ≡ false → name_of o ≡ None
no_name None h = refl
no_name (Some y) h = ap (λ c. cond c (Some y.name) None) h

no_name_in : (s : Scoped) → HasNoMember s → (o : Option SymbolId) → name_in s.symbols o ≡ None
no_name_in s h None = refl
no_name_in s h (Some i) = no_name (slice_get s.symbols i.0) (h i.0)

no_member_in : (s : Scoped) → HasNoMember s → (n : ℕ) (a : Option Enum) → member_in s n a ≡ None
no_member_in s h n None = refl
no_member_in s h n (Some a) = ap (named_member a n) (no_name_in s h (at_node (record { 0 = n }) s.declared))

no_member_of : (s : Scoped) → HasNoMember s → (k : Kind) (n : ℕ) (a : Option SymbolId) → member_of s k n a ≡ None
no_member_of s h k n a = pick (same_kind k kind.TSEnumMember) (member_in s n (enum_in s.symbols a)) (no_member_in s h n (enum_in s.symbols a))
  where
    pick : (b : Bool) (o : Option Member) → o ≡ None → cond b o None ≡ None
    pick true o e = e
    pick false o e = refl

pub no_members : (l : Bool) (s : Scoped) (d : Doc) (b : Bool) (ms : List EnumMember) → (b ≡ false → HasNoMember s) → b ≡ false → ms ≡ [] → member_views ms ≡ members_of l s d
no_members l s d b ms none is empty =
    ap member_views empty ∙ sym (none_in (members.sought l s) (λ a k i ds. either_none (is_dropped_by k ds) (member_of s k i a) (no_member_of s (none is) k i a)) d None)

-- ---- constants: where none is the largest, none behind it is too large

not_largest_in : (s : Scoped) → HasNoLargest s → (o : Option SymbolId) → has_largest (symbol_in s.symbols o) ≡ false
not_largest_in s h None = refl
not_largest_in s h (Some i) = h i.0

not_last : (s : Scoped) → HasNoLargest s → (d : Doc) → ends_with_largest s d ≡ false
not_last s h nil = refl
not_last s h (flag b) = refl
not_last s h (number n) = refl
not_last s h (text t) = refl
not_last s h (list ds) = refl
not_last s h (node k i b e ds) = not_largest_in s h (at_node (record { 0 = i }) s.declared)

no_wide_among : (s : Scoped) → HasNoLargest s → (ds : Docs) → wide_among s false ds ≡ None
no_wide_among s h no_docs = refl
no_wide_among s h (doc d ds) = ap (λ b. wide_among s b ds) (not_last s h d) ∙ no_wide_among s h ds

no_wide_body : (s : Scoped) → HasNoLargest s → (k : Kind) (ds : Docs) → wide_in s k ds ≡ None
no_wide_body s h k ds = pick (same_kind k kind.TSEnumBody) (wide_among s false (elements (named (codes "members") k ds))) (no_wide_among s h (elements (named (codes "members") k ds)))
  where
    pick : (b : Bool) (o : Option WideMember) → o ≡ None → cond b o None ≡ None
    pick true o e = e
    pick false o e = refl

-- nothing in a node, whether it is erased or not
no_wide_inside : (c keeps : Bool) (alike by_field : Option WideMember → List WideMember) (alone : FieldName → Option WideMember → List WideMember) (o : Option WideMember)
    → o ≡ None → alike None ≡ [] → alone field.Decorators None ≡ []
    → given (cond c None None) ++ given_inside alike by_field alone (cond c (cond keeps (inside.Only field.Decorators None) inside.Skipped) (inside.Alike o)) ≡ []
no_wide_inside true true alike by_field alone o none h e = e
no_wide_inside true false alike by_field alone o none h e = refl
no_wide_inside false keeps alike by_field alone o none h e = ap alike none ∙ h

mutual
  no_wide_in : (l : Bool) (s : Scoped) → HasNoLargest s → (d : Doc) → all_in (wides.sought l s) d None ≡ []
  no_wide_in l s h nil = refl
  no_wide_in l s h (flag b) = refl
  no_wide_in l s h (number n) = refl
  no_wide_in l s h (text t) = refl
  no_wide_in l s h (list ds) = no_wides l s h ds
  no_wide_in l s h (node k i b e ds) =
      no_wide_inside (is_dropped_by k ds) (l && is_declared_field k ds) (every.all_among (wides.sought l s) ds) (every.all_below (wides.sought l s) ds k (row_of k)) (λ f. every.all_at (wides.sought l s) ds (row_of k) (key_of f)) (wide_in s k ds)
      (no_wide_body s h k ds) (no_wides l s h ds) (no_wide_at l s h ds (row_of k) (codes "decorators"))

  no_wides : (l : Bool) (s : Scoped) → HasNoLargest s → (ds : Docs) → every.all_among (wides.sought l s) ds None ≡ []
  no_wides l s h no_docs = refl
  no_wides l s h (doc d ds) = ap (λ xs. xs ++ every.all_among (wides.sought l s) ds None) (no_wide_in l s h d) ∙ no_wides l s h ds

  no_wide_at : (l : Bool) (s : Scoped) → HasNoLargest s → (ds : Docs) (rs : List Field) (name : List ℕ) → every.all_at (wides.sought l s) ds rs name None ≡ []
  no_wide_at l s h no_docs rs name = refl
  no_wide_at l s h (doc d ds) [] name = refl
  no_wide_at l s h (doc d ds) (r ∷ rs) name =
      each_empty (bytes_eq r.name name) (all_in (wides.sought l s) d None) (every.all_at (wides.sought l s) ds rs name None) (no_wide_in l s h d) (no_wide_at l s h ds rs name)

pub no_wide : (l : Bool) (s : Scoped) (d : Doc) (b : Bool) → (b ≡ false → HasNoLargest s) → b ≡ false → None ≡ wide l s d
no_wide l s d b none is = sym (ap first (no_wide_in l s (none is) d))

-- ---- shadowed names

not_own : (s : Scoped) (a : Enum) (o : Option SymbolData) → is_member_symbol o ≡ false → is_own_symbol s a o ≡ false
not_own s a None h = refl
not_own s a (Some y) h = ap (λ c. c && is_scope a.scope (scope_around (slice_get s.scopes y.scope.0))) h

not_of : (s : Scoped) → HasNoMember s → (a : Enum) (o : Option SymbolId) → is_member_of s a o ≡ false
not_of s h a None = refl
not_of s h a (Some i) = not_own s a (slice_get s.symbols i.0) (h i.0)

not_meant : (s : Scoped) → HasNoMember s → (a : Enum) (o : Option Reference) → means_member s a o ≡ false
not_meant s h a None = refl
not_meant s h a (Some r) = not_of s h a r.symbol

no_own : (s : Scoped) → HasNoMember s → (a : Enum) (i : ℕ) (ls : List Level) → own_shadow s a i ls ≡ []
no_own s h a i ls = ap (λ c. cond (c && declares_name a.name ls) (record { node = i; name = a.name } ∷ []) []) (not_meant s h a (value_use s i))

two_empty : (xs ys : List Shadow) → xs ≡ [] → ys ≡ [] → xs ++ ys ≡ []
two_empty xs ys e h = ap (λ zs. zs ++ ys) e ∙ h

no_step : (s : Scoped) → HasNoMember s → (a : Enum) (t : Step) (r : Reading) (k : Kind) (i : ℕ) (ds : Docs) (ls : List Level) (m : Mode → List Declared) (c : Fields) → ((r : Reading) (ls : List Level) → c r ls ≡ []) → step_shadows t s a r k i ds ls m c ≡ []
no_step s h a step.Use r k i ds ls m c none = no_own s h a i ls
no_step s h a step.Plain r k i ds ls m c none = none _ ls
no_step s h a step.Opens r k i ds ls m c none = two_empty _ _ (none _ ls) (none _ _)
no_step s h a step.Hides r k i ds ls m c none = two_empty _ _ (none _ _) (none _ ls)

no_read : (o : Option Way) (c : Way → List Level → List Shadow) (ls : List Level) → ((w : Way) (ls : List Level) → c w ls ≡ []) → read_shadows o c ls ≡ []
no_read None c ls none = refl
no_read (Some w) c ls none = none w ls

-- nothing in what is left of an erased node
no_left : (b : Bool) (r : Reading) (c : Fields) (ls : List Level) → ((r : Reading) (ls : List Level) → c r ls ≡ []) → left_shadows b r c ls ≡ []
no_left true r c ls none = none _ ls
no_left false r c ls none = refl

no_left_all : (b : Bool) (ns : List Shadow) → ns ≡ [] → cond b ns [] ≡ []
no_left_all true ns e = e
no_left_all false ns e = refl

mutual
  no_shadow : (l : Bool) (s : Scoped) → HasNoMember s → (a : Enum) (d : Doc) (w : Way) (ls : List Level) → shadows l s a d w ls ≡ []
  no_shadow l s h a nil w ls = refl
  no_shadow l s h a (flag b) w ls = refl
  no_shadow l s h a (number n) w ls = refl
  no_shadow l s h a (text t) w ls = refl
  no_shadow l s h a (list ds) w ls = no_each l s h a ds w ls
  no_shadow l s h a (node k i b e ds) w ls =
      each_empty (is_dropped_by k ds) _ _
      (no_left (l && is_declared_field k ds) (read (role_of k) w k ds) (field_shadows l s a ds (row_of k)) ls (λ r ms. no_fields l s h a ds (row_of k) r ms))
      (no_step s h a (step_of (role_of k) w) (read (role_of k) w k ds) k i ds ls (each_found ds) (field_shadows l s a ds (row_of k)) (λ r ms. no_fields l s h a ds (row_of k) r ms))

  no_each : (l : Bool) (s : Scoped) → HasNoMember s → (a : Enum) (ds : Docs) (w : Way) (ls : List Level) → each_shadows l s a ds w ls ≡ []
  no_each l s h a no_docs w ls = refl
  no_each l s h a (doc d ds) w ls = two_empty (shadows l s a d w ls) (each_shadows l s a ds w ls) (no_shadow l s h a d w ls) (no_each l s h a ds w ls)

  no_fields : (l : Bool) (s : Scoped) → HasNoMember s → (a : Enum) (ds : Docs) (fs : List Field) (r : Reading) (ls : List Level) → field_shadows l s a ds fs r ls ≡ []
  no_fields l s h a no_docs fs r ls = refl
  no_fields l s h a (doc d ds) [] r ls = refl
  no_fields l s h a (doc d ds) (f ∷ fs) r ls =
      two_empty (read_shadows (way_of r f.name) (shadows l s a d) ls) (field_shadows l s a ds fs r ls) (no_read (way_of r f.name) (shadows l s a d) ls (λ w ms. no_shadow l s h a d w ms)) (no_fields l s h a ds fs r ls)

no_initializer : (l : Bool) (s : Scoped) → HasNoMember s → (d : Doc) (a : Option Enum) → initializer_shadows l s d a ≡ []
no_initializer l s h d None = refl
no_initializer l s h d (Some a) = no_shadow l s h a d way.Whole []

no_member_shadows : (l : Bool) (s : Scoped) → HasNoMember s → (k : Kind) (ds : Docs) (a : Option SymbolId) → member_shadows l s k ds a ≡ []
no_member_shadows l s h k ds a = pick (same_kind k kind.TSEnumMember) (initializer_shadows l s (named (codes "initializer") k ds) (enum_in s.symbols a)) (no_initializer l s h (named (codes "initializer") k ds) (enum_in s.symbols a))
  where
    pick : (b : Bool) (xs : List Shadow) → xs ≡ [] → cond b xs [] ≡ []
    pick true xs e = e
    pick false xs e = refl

mutual
  no_all : (l : Bool) (s : Scoped) → HasNoMember s → (d : Doc) (a : Option SymbolId) → all_shadows l s d a ≡ []
  no_all l s h nil a = refl
  no_all l s h (flag b) a = refl
  no_all l s h (number n) a = refl
  no_all l s h (text t) a = refl
  no_all l s h (list ds) a = no_among l s h ds a
  no_all l s h (node k i b e ds) a =
      each_empty (is_dropped_by k ds) _ _
      (no_left_all (l && is_declared_field k ds) (all_at l s ds (row_of k) (codes "decorators") a) (no_at l s h ds (row_of k) (codes "decorators") a))
      (two_empty (member_shadows l s k ds a) (all_among l s ds (within s k ds a)) (no_member_shadows l s h k ds a) (no_among l s h ds (within s k ds a)))

  no_among : (l : Bool) (s : Scoped) → HasNoMember s → (ds : Docs) (a : Option SymbolId) → all_among l s ds a ≡ []
  no_among l s h no_docs a = refl
  no_among l s h (doc d ds) a = two_empty (all_shadows l s d a) (all_among l s ds a) (no_all l s h d a) (no_among l s h ds a)

  no_at : (l : Bool) (s : Scoped) → HasNoMember s → (ds : Docs) (fs : List Field) (name : List ℕ) (a : Option SymbolId) → all_at l s ds fs name a ≡ []
  no_at l s h no_docs fs name a = refl
  no_at l s h (doc d ds) [] name a = refl
  no_at l s h (doc d ds) (f ∷ fs) name a =
      each_empty (bytes_eq f.name name) (all_shadows l s d a) (all_at l s ds fs name a) (no_all l s h d a) (no_at l s h ds fs name a)

pub no_shadows : (l : Bool) (s : Scoped) (d : Doc) (b : Bool) → (b ≡ false → HasNoMember s) → b ≡ false → None ≡ shadowed l s d
no_shadows l s d b none is = sym (ap least (no_all l s (none is) d None))
