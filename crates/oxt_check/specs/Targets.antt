-- Wrappers that stay in the output: those where something is assigned, around neither an identifier nor a member.
use Rattle.std.specs.Prelude.{ℕ, List, [], ◌∷◌, ◌++◌, map, Bool, nat_eq, not, ◌&&◌, if◌then◌else◌, Option, None, Some}
use Rattle.std.specs.List.{list_any, slice_get}
use Rattle.oxt_grammar.specs.Field.{Field}
use Rattle.oxt_grammar.specs.Rows.{row_of}
use Rattle.oxt_grammar.specs.declared.category.Category.TheVariants as category
use Rattle.oxt_grammar.specs.declared.holds.Holds.{Holds}
use Rattle.oxt_grammar.specs.declared.holds.Holds.TheVariants as holds
use Rattle.oxt_inline.specs.Target.{holds_target}
use Rattle.oxt_tree.specs.Doc.{Doc, nil, flag, number, text, list, node, Docs, no_docs, doc}
use Rattle.oxt_tree.specs.Fields.{is_in}
use Rattle.oxt_tree.specs.Inner.{inner_expression}
use Rattle.oxt_tree.specs.Syntax.{is_definition_file}
use Rattle.oxt_names.specs.declared.ids.NodeId.{NodeId}
use Rattle.oxt_declares.specs.Dropped.{is_dropped_by, keeps_decorators}

-- the numbers of the nodes
abbrev pub numbers_in : List NodeId → List ℕ
numbers_in ns = map (λ n. n.0) ns

-- the number is one of the list
abbrev pub is_listed : List ℕ → ℕ → Bool
is_listed ns n = list_any (nat_eq n) ns

-- a wrapper that cannot be opened where something is assigned: what is inside it, through wrappers and
-- parentheses, is neither an identifier nor a member
abbrev pub is_closed_wrapper : Doc → Bool
is_closed_wrapper d = is_in category.Wrapper d && not (is_in category.SimpleAssignmentTarget (inner_expression d))

-- the document is such a wrapper where something is assigned, by what the field holds in which it stands or in
-- whose list
abbrev pub is_wrapped_target : Holds → Doc → Bool
is_wrapped_target h d = holds_target h && is_closed_wrapper d

-- its number, where it is
abbrev pub target_at : Holds → Doc → ℕ → List ℕ
target_at h d i = if is_wrapped_target h d then i ∷ [] else []

-- what a field with that row holds; nothing is assigned to what has no row
abbrev pub held_by : Option Field → Holds
held_by None = holds.Flag
held_by (Some r) = r.holds

-- The numbers of such wrappers in the document where a field holds `h`, outside erased code: that of a node stands
-- before those of the nodes in it. Of a field that is only declared the decorators, its first field, are no erased code
-- where they have their older meaning, as the flag says.
abbrev mutual
  pub targets_in : Bool → Doc → Holds → List ℕ
  targets_in legacy nil h = []
  targets_in legacy (flag b) h = []
  targets_in legacy (number n) h = []
  targets_in legacy (text t) h = []
  targets_in legacy (list ds) h = targets_among legacy ds h
  targets_in legacy (node k i b e ds) h =
      if is_dropped_by k ds then (if keeps_decorators legacy k ds then targets_first legacy ds (row_of k) else [])
      else target_at h (node k i b e ds) i ++ targets_below legacy ds (row_of k)

  -- in the elements of a list
  pub targets_among : Bool → Docs → Holds → List ℕ
  targets_among legacy no_docs h = []
  targets_among legacy (doc d ds) h = targets_in legacy d h ++ targets_among legacy ds h

  -- in the fields of a node with these rows
  pub targets_below : Bool → Docs → List Field → List ℕ
  targets_below legacy no_docs rs = []
  targets_below legacy (doc d ds) [] = []
  targets_below legacy (doc d ds) (r ∷ rs) = targets_in legacy d r.holds ++ targets_below legacy ds rs

  -- in the first of them alone
  pub targets_first : Bool → Docs → List Field → List ℕ
  targets_first legacy no_docs rs = []
  targets_first legacy (doc d ds) rs = targets_in legacy d (held_by (slice_get rs 0))

-- those of a whole program
abbrev pub targets : Bool → Doc → List ℕ
targets legacy d = if is_definition_file d then [] else targets_in legacy d (holds.Node category.Program)
