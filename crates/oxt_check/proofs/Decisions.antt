-- No place is found exactly where the document is plain beside the wrappers.
use Rattle.std.proofs.Common.{ℕ, ◌+◌, ◌≡◌, refl, ap, ◌∙◌, List, [], ◌∷◌, Bool, true, false, not, ◌&&◌, ◌||◌, cond, Option, None, Some, is_none}
use Rattle.std.specs.Fmt.{decimal}
use Rattle.std.specs.List.{slice_get}
use Rattle.oxt_grammar.specs.Field.{Field, is_typescript_field}
use Rattle.oxt_grammar.specs.Kinds.{is_typescript_kind}
use Rattle.oxt_grammar.specs.Rows.{row_of}
use Rattle.oxt_grammar.specs.declared.holds.Holds.{Holds}
use Rattle.oxt_check.specs.Beside.{all_plain_beside, below_first, beside_in_each, beside_in_fields, beside_in_first, below_plain_beside, first_plain_beside, first_typescript_beside, in_field, in_row, is_kept, is_plain_beside}
use Rattle.oxt_check.specs.Targets.{held_by}
use Rattle.oxt_tree.specs.Doc.{Doc, nil, flag, number, text, list, node, Docs, no_docs, doc}
use Rattle.oxt_tree.specs.Fields.{is_default}
use Rattle.oxt_valid.proofs.Decisions.{none_below, none_of_both}
use Rattle.oxt_valid.specs.Misfit.{below}
use Rattle.oxt_valid.specs.Plain.{fields_plain}

swap : (p q a : Bool) → (p && (q && a)) ≡ (q && (p && a))
swap true q a = refl
swap false true a = refl
swap false false a = refl

-- A field holds nothing of TypeScript where it is not such a field itself, and nothing is inside.
field_decides : (t f p q a : Bool) → ((not (t && not f) && p) && (q && a)) ≡ (((not t || f) && q) && (p && a))
field_decides false f p q a = swap p q a
field_decides true true p q a = swap p q a
field_decides true false p q a = refl

none_in_field : (r : Field) (d : Doc) (o : Option (List ℕ)) → is_none (in_field r d o) ≡ (not (is_typescript_field r.presence && not (is_default r.holds d)) && is_none o)
none_in_field r d o = step (is_typescript_field r.presence && not (is_default r.holds d))
  where
    step : (b : Bool) → is_none (cond b (Some []) o) ≡ (not b && is_none o)
    step true = refl
    step false = refl

none_in_row : (d : Doc) (o : Option (List ℕ)) → is_none (in_row None d o) ≡ is_none o
none_in_row d None = refl
none_in_row d (Some place) = refl

none_below_first : (rs : List Field) (o : Option (List ℕ)) → is_none (below_first rs o) ≡ is_none o
none_below_first [] None = refl
none_below_first [] (Some place) = refl
none_below_first (r ∷ rs) o = none_below r.name o

-- of a wrapper that is kept, and of another node
none_in_node : (w c : Bool) (inner o : Option (List ℕ)) (a b : Bool) → is_none inner ≡ a → is_none o ≡ b → is_none (cond w inner (cond c (Some []) o)) ≡ cond w a (not c && b)
none_in_node true c inner o a b e f = e
none_in_node false true inner o a b e f = refl
none_in_node false false inner o a b e f = f

mutual
  pub typescript_decides : (d : Doc) (h : Holds) (ks : ℕ → Bool) → is_none (first_typescript_beside d h ks) ≡ is_plain_beside d h ks
  typescript_decides nil h ks = refl
  typescript_decides (flag b) h ks = refl
  typescript_decides (number n) h ks = refl
  typescript_decides (text t) h ks = refl
  typescript_decides (list ds) h ks = plain_each ds h ks 0
  typescript_decides (node k i b e ds) h ks =
      none_in_node (is_kept h (node k i b e ds) i ks) (is_typescript_kind k) (below_first (row_of k) (beside_in_first ds (row_of k) ks)) (beside_in_fields ds ks (row_of k)) _ _
      (none_below_first (row_of k) (beside_in_first ds (row_of k) ks) ∙ plain_first ds (row_of k) ks)
      (plain_fields ds ks (row_of k))

  plain_first : (ds : Docs) (rs : List Field) (ks : ℕ → Bool) → is_none (beside_in_first ds rs ks) ≡ first_plain_beside ds rs ks
  plain_first no_docs rs ks = refl
  plain_first (doc d ds) rs ks = typescript_decides d (held_by (slice_get rs 0)) ks

  plain_fields : (ds : Docs) (ks : ℕ → Bool) (rs : List Field) → is_none (beside_in_fields ds ks rs) ≡ (fields_plain rs ds && below_plain_beside ds rs ks)
  plain_fields no_docs ks [] = refl
  plain_fields no_docs ks (r ∷ rs) = refl
  plain_fields (doc d ds) ks [] =
      none_of_both (in_row None d (first_typescript_beside d (held_by None) ks)) _ _ _ (none_in_row d (first_typescript_beside d (held_by None) ks) ∙ typescript_decides d (held_by None) ks) (plain_fields ds ks [])
  plain_fields (doc d ds) ks (r ∷ rs) =
      none_of_both (below r.name (in_field r d (first_typescript_beside d r.holds ks))) _ _ _
      (none_below r.name (in_field r d (first_typescript_beside d r.holds ks)) ∙ none_in_field r d (first_typescript_beside d r.holds ks) ∙ ap (λ b. not (is_typescript_field r.presence && not (is_default r.holds d)) && b) (typescript_decides d r.holds ks))
      (plain_fields ds ks rs)
      ∙ field_decides (is_typescript_field r.presence) (is_default r.holds d) (is_plain_beside d r.holds ks) (fields_plain rs ds) (below_plain_beside ds rs ks)

  plain_each : (ds : Docs) (h : Holds) (ks : ℕ → Bool) (i : ℕ) → is_none (beside_in_each ds h ks i) ≡ all_plain_beside ds h ks
  plain_each no_docs h ks i = refl
  plain_each (doc d ds) h ks i =
      none_of_both (below (decimal i) (first_typescript_beside d h ks)) _ _ _ (none_below (decimal i) (first_typescript_beside d h ks) ∙ typescript_decides d h ks) (plain_each ds h ks (i + 1))

-- a place was found, or none
pub some_typescript : (d : Doc) (h : Holds) (ks : ℕ → Bool) (place : List ℕ) → Some place ≡ first_typescript_beside d h ks → false ≡ is_plain_beside d h ks
some_typescript d h ks place e = ap is_none e ∙ typescript_decides d h ks

pub no_typescript : (d : Doc) (h : Holds) (ks : ℕ → Bool) → None ≡ first_typescript_beside d h ks → true ≡ is_plain_beside d h ks
no_typescript d h ks e = ap is_none e ∙ typescript_decides d h ks
