-- How JSON data is read as a document of the grammar.
use Rattle.std.specs.Prelude.{ℕ, ◌+◌, List, [], ◌∷◌, codes, if◌then◌else◌, Option, None, Some, Result, Ok, Err}
use Rattle.std.specs.Cmp.Lexicographic.{slice_cmp}
use Rattle.std.specs.Fmt.{decimal}
use Rattle.std.specs.Ordering.{nat_cmp, match_ordering}
use Rattle.serde_json.specs.Data.{Data, null, boolean, number, string, array, object, Items, no_items, item, Members, no_members, member}
use Rattle.serde_json.specs.Find.{get_member}
use Rattle.oxt_grammar.specs.Context.{setting_of}
use Rattle.oxt_grammar.specs.Field.{Field, is_required}
use Rattle.oxt_grammar.specs.Places.{narrow, element_of, category_of}
use Rattle.oxt_grammar.specs.Rows.{row_of}
use Rattle.oxt_grammar.specs.declared.category.Category.{Category}
use Rattle.oxt_grammar.specs.declared.category.Category.TheVariants as category
use Rattle.oxt_grammar.specs.declared.context.Setting.{Setting}
use Rattle.oxt_grammar.specs.declared.context.Setting.TheVariants.{Elsewhere}
use Rattle.oxt_grammar.specs.declared.holds.Holds.{Holds}
use Rattle.oxt_grammar.specs.declared.holds.Holds.TheVariants as holds
use Rattle.oxt_grammar.specs.declared.kind.Kind.{Kind}
use Rattle.oxt_valid.specs.Condition.{fault}
use Rattle.oxt_tree.specs.Doc.{Doc, list, node, docs_of}
use Rattle.oxt_tree.specs.Fields.{default_of}
use Rattle.oxt_json.specs.Answer.{Answer, below, and_then, mapped, allowed}
use Rattle.oxt_valid.specs.Pointer.{at_key}
use Rattle.oxt_json.specs.Leaves.{null_doc, flag_doc, number_doc, text_doc, kind_at, offset_at}

-- how a value reads: in a setting, at a place that holds this, with the next number of a node
abbrev pub Reader : Type 0
Reader = Setting → Holds → ℕ → Answer Doc

-- a list reads where the place holds one
abbrev pub list_as : Option Holds → (Holds → ℕ → Answer (List Doc)) → ℕ → Answer Doc
list_as None elements n = Err []
list_as (Some h) elements n = mapped (λ ds. list (docs_of ds)) (elements h n)

-- what a node has before its fields
pub record Head : Type 0 where
  pub kind : Kind
  pub start : ℕ
  pub end : ℕ

-- what a key has to hold, or the key as the place
abbrev pub needed : {A B : Type 0} → List ℕ → Option A → (A → Result B (List ℕ)) → Result B (List ℕ)
needed name None f = Err (at_key name [])
needed name (Some x) f = f x

-- `type`, `start` and `end`, in this order
abbrev pub head_as : Category → Members → Result Head (List ℕ)
head_as c ms =
    needed (codes "type") (kind_at c (get_member (codes "type") ms)) (λ k.
    needed (codes "start") (offset_at (get_member (codes "start") ms)) (λ b.
    needed (codes "end") (offset_at (get_member (codes "end") ms)) (λ e.
    Ok (record { kind = k; start = b; end = e }))))

-- what is left out stands at its default, unless it has to be there
abbrev pub missing_doc : Field → Option Doc
missing_doc r = if is_required r.presence then None else Some (default_of r.holds)

-- a field of a node in `s`, whose own nodes stand in `inner`
abbrev pub field_as : Field → Option Reader → Setting → Setting → ℕ → Answer Doc
field_as r None s inner n = allowed (missing_doc r) n
field_as r (Some reads) s inner n = reads inner (narrow s r.holds) n

-- the fields, in the order of the rows
abbrev pub fields_as : List Field → (List ℕ → Option Reader) → Setting → Setting → ℕ → Answer (List Doc)
fields_as [] members s inner n = Ok ([], n)
fields_as (r ∷ rs) members s inner n =
    and_then (below r.name (field_as r (members r.name) s inner n)) (λ d m.
    mapped (λ ds. d ∷ ds) (fields_as rs members s inner m))

-- a node that meets its condition
abbrev pub whole_node : Option (List ℕ) → Doc → ℕ → Answer Doc
whole_node None d n = Ok (d, n)
whole_node (Some name) d n = Err (at_key name [])

-- a node takes its number before those in it, and its condition is checked last
abbrev pub headed_as : Result Head (List ℕ) → Setting → (List ℕ → Option Reader) → ℕ → Answer Doc
headed_as (Err place) s members n = Err place
headed_as (Ok h) s members n =
    and_then (fields_as (row_of h.kind) members s (setting_of h.kind) (n + 1)) (λ ds m.
    whole_node (fault s h.kind (docs_of ds)) (node h.kind n h.start h.end (docs_of ds)) m)

-- an object reads as a node where the place holds one
abbrev pub node_as : Option Category → Setting → Members → (List ℕ → Option Reader) → ℕ → Answer Doc
node_as None s ms members n = Err []
node_as (Some c) s ms members n = headed_as (head_as c ms) s members n

-- An object hands down how each of its members reads.
abbrev mutual
  pub read_as : Data → Setting → Holds → ℕ → Answer Doc
  read_as null s h n = allowed (null_doc h) n
  read_as (boolean b) s h n = allowed (flag_doc h b) n
  read_as (number x) s h n = allowed (number_doc h x) n
  read_as (string t) s h n = allowed (text_doc h t) n
  read_as (array ds) s h n = list_as (element_of h) (each_as ds s 0) n
  read_as (object ms) s h n = node_as (category_of h) s ms (member_as ms) n

  -- the elements of a list from an index on
  pub each_as : Items → Setting → ℕ → Holds → ℕ → Answer (List Doc)
  each_as no_items s i h n = Ok ([], n)
  each_as (item d ds) s i h n =
      and_then (below (decimal i) (read_as d s h n)) (λ x m.
      mapped (λ xs. x ∷ xs) (each_as ds s (i + 1) h m))

  -- how the member of that name reads, where there is one
  pub member_as : Members → List ℕ → Option (Setting → Holds → ℕ → Answer Doc)
  member_as no_members name = None
  member_as (member key d ms) name =
      match_ordering (slice_cmp nat_cmp name key) (member_as ms name) (Some (read_as d)) (member_as ms name)

-- a whole tree, whose first node has the number 1
abbrev pub tree_of : Data → Answer Doc
tree_of d = read_as d Elsewhere (holds.Node category.Program) 1
