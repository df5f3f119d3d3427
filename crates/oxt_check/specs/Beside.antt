-- What stands of TypeScript in a document beside wrappers that are kept.
use Rattle.std.specs.Prelude.{ℕ, ◌+◌, List, [], ◌∷◌, Bool, true, not, ◌&&◌, if◌then◌else◌, Option, None, Some}
use Rattle.std.specs.Fmt.{decimal}
use Rattle.std.specs.List.{slice_get}
use Rattle.oxt_grammar.specs.Field.{Field, is_typescript_field}
use Rattle.oxt_grammar.specs.Kinds.{is_typescript_kind}
use Rattle.oxt_grammar.specs.Rows.{row_of}
use Rattle.oxt_grammar.specs.declared.holds.Holds.{Holds}
use Rattle.oxt_check.specs.Targets.{held_by, is_wrapped_target}
use Rattle.oxt_tree.specs.Doc.{Doc, nil, flag, number, text, list, node, Docs, no_docs, doc}
use Rattle.oxt_tree.specs.Fields.{is_default}
use Rattle.oxt_valid.specs.Misfit.{below, or_else}
use Rattle.oxt_valid.specs.Plain.{fields_plain}

-- a wrapper that cannot be opened where it stands, whose number passes the test: it is no fault itself
abbrev pub is_kept : Holds → Doc → ℕ → (ℕ → Bool) → Bool
is_kept h d i ks = is_wrapped_target h d && ks i

-- No node of the document, which stands where a field holds `h`, has a kind or a field of TypeScript, but for wrappers
-- that are kept where something is assigned; of these only the expression is looked at, which is the first field.
abbrev mutual
  pub is_plain_beside : Doc → Holds → (ℕ → Bool) → Bool
  is_plain_beside nil h ks = true
  is_plain_beside (flag b) h ks = true
  is_plain_beside (number n) h ks = true
  is_plain_beside (text t) h ks = true
  is_plain_beside (list ds) h ks = all_plain_beside ds h ks
  is_plain_beside (node k i b e ds) h ks =
      if is_kept h (node k i b e ds) i ks then first_plain_beside ds (row_of k) ks
      else not (is_typescript_kind k) && (fields_plain (row_of k) ds && below_plain_beside ds (row_of k) ks)

  -- of the elements of a list
  pub all_plain_beside : Docs → Holds → (ℕ → Bool) → Bool
  all_plain_beside no_docs h ks = true
  all_plain_beside (doc d ds) h ks = is_plain_beside d h ks && all_plain_beside ds h ks

  -- of the fields of a node with these rows
  pub below_plain_beside : Docs → List Field → (ℕ → Bool) → Bool
  below_plain_beside no_docs rs ks = true
  below_plain_beside (doc d ds) [] ks = is_plain_beside d (held_by None) ks && below_plain_beside ds [] ks
  below_plain_beside (doc d ds) (r ∷ rs) ks = is_plain_beside d r.holds ks && below_plain_beside ds rs ks

  -- of the first of them alone
  pub first_plain_beside : Docs → List Field → (ℕ → Bool) → Bool
  first_plain_beside no_docs rs ks = true
  first_plain_beside (doc d ds) rs ks = is_plain_beside d (held_by (slice_get rs 0)) ks

-- the field itself, where only TypeScript has it and it is away from its default, and else the
-- place in what it holds
abbrev pub in_field : Field → Doc → Option (List ℕ) → Option (List ℕ)
in_field r d inside =
    if is_typescript_field r.presence && not (is_default r.holds d) then Some [] else inside

-- the same, seen from the node; a field without a row has no name, and stands at its node's place
abbrev pub in_row : Option Field → Doc → Option (List ℕ) → Option (List ℕ)
in_row None d None = None
in_row None d (Some place) = Some []
in_row (Some r) d inside = below r.name (in_field r d inside)

-- a place in the first of the fields of these rows, seen from the node; a field without a row has no name, and
-- stands at its node's place
abbrev pub below_first : List Field → Option (List ℕ) → Option (List ℕ)
below_first [] None = None
below_first [] (Some place) = Some []
below_first (r ∷ rs) inside = below r.name inside

-- The first place at which something of TypeScript stands in a document, where a field holds `h`, beside wrappers that
-- are kept: a node of such a kind, or a field that only TypeScript has and that is away from its default.
abbrev mutual
  pub first_typescript_beside : Doc → Holds → (ℕ → Bool) → Option (List ℕ)
  first_typescript_beside nil h ks = None
  first_typescript_beside (flag b) h ks = None
  first_typescript_beside (number n) h ks = None
  first_typescript_beside (text t) h ks = None
  first_typescript_beside (list ds) h ks = beside_in_each ds h ks 0
  first_typescript_beside (node k i b e ds) h ks =
      if is_kept h (node k i b e ds) i ks then below_first (row_of k) (beside_in_first ds (row_of k) ks)
      else if is_typescript_kind k then Some [] else beside_in_fields ds ks (row_of k)

  -- in the first of the fields alone
  pub beside_in_first : Docs → List Field → (ℕ → Bool) → Option (List ℕ)
  beside_in_first no_docs rs ks = None
  beside_in_first (doc d ds) rs ks = first_typescript_beside d (held_by (slice_get rs 0)) ks

  -- in the fields of the rows
  pub beside_in_fields : Docs → (ℕ → Bool) → List Field → Option (List ℕ)
  beside_in_fields no_docs ks rs = None
  beside_in_fields (doc d ds) ks [] =
      or_else (in_row None d (first_typescript_beside d (held_by None) ks)) (beside_in_fields ds ks [])
  beside_in_fields (doc d ds) ks (r ∷ rs) =
      or_else (in_row (Some r) d (first_typescript_beside d r.holds ks)) (beside_in_fields ds ks rs)

  -- in the elements of a list from an index on
  pub beside_in_each : Docs → Holds → (ℕ → Bool) → ℕ → Option (List ℕ)
  beside_in_each no_docs h ks i = None
  beside_in_each (doc d ds) h ks i =
      or_else (below (decimal i) (first_typescript_beside d h ks)) (beside_in_each ds h ks (i + 1))
