-- The effect word of a document: what its code does, as a flat list of items.
use Rattle.std.specs.Prelude.{ℕ, ◌+◌, List, [], ◌∷◌, ◌++◌, if◌then◌else◌}
use Rattle.std.specs.Str.{bytes_eq}
use Rattle.oxt_facts.specs.Facts.{Known}
use Rattle.oxt_facts.specs.Groups.{numbered_groups}
use Rattle.oxt_facts.specs.Inside.{inside}
use Rattle.oxt_grammar.specs.Field.{Field}
use Rattle.oxt_grammar.specs.Rows.{row_of}
use Rattle.oxt_tree.specs.Doc.{Doc, nil, flag, number, text, list, node, Docs, no_docs, doc}
use Rattle.oxt_tree.specs.View.{docs_in}
use Rattle.oxt_tree.specs.declared.tree.Node.{Node}
use Rattle.oxt_facts.specs.Entry.{Entry, lone}
use Rattle.oxt_facts.specs.Tags.{numbered}
use Rattle.oxt_forms.specs.Details.{is_read}
use Rattle.oxt_items.specs.Node.{OneField, AllFields}
use Rattle.oxt_items.specs.RuleOf.{rule_of}
use Rattle.oxt_facts.specs.declared.item.ItemKind.TheVariants as item
use Rattle.oxt_items.specs.declared.way.Way.{Way}
use Rattle.oxt_items.specs.declared.way.Way.TheVariants as way
use Rattle.oxt_items.specs.Read.{node_word, list_word, takes, turn, final}

-- what a document does, read that way
abbrev mutual
  pub said : Known → Doc → Way → List Entry
  said f nil w = lone item.Nil
  said f (flag b) w = []
  said f (number n) w = []
  said f (text t) w = []
  said f (list ds) w = list_word w (each_said f ds) (turns_said f ds) (last_said f ds) (some_said f ds 0)
  said f (node k i b e ds) w =
      node_word (inside f i k ds) w (rule_of k) k i ds
      (field_said (inside f i k ds) ds (row_of k)) (fields_said (inside f i k ds) ds (row_of k))

  pub each_said : Known → Docs → Way → List Entry
  each_said f no_docs w = []
  each_said f (doc d ds) w = said f d w ++ each_said f ds w

  pub turns_said : Known → Docs → Way → List Entry
  turns_said f no_docs w = []
  turns_said f (doc d ds) w = turn ds (said f d way.Whole) (said f d w) ++ turns_said f ds w

  pub last_said : Known → Docs → Way → List Entry
  last_said f no_docs w = []
  last_said f (doc d ds) w = final ds (said f d w) ++ last_said f ds w

  -- the elements that the way takes, of which the first stands at that place
  pub some_said : Known → Docs → ℕ → Way → List Entry
  some_said f no_docs i w = []
  some_said f (doc d ds) i w =
      (if takes w i then said f d way.Whole else []) ++ some_said f ds (i + 1) w

  -- the field of that name; an absent part where there is none
  pub field_said : Known → Docs → List Field → List ℕ → Way → List Entry
  field_said f no_docs rs name w = lone item.Nil
  field_said f (doc d ds) [] name w = lone item.Nil
  field_said f (doc d ds) (r ∷ rs) name w =
      if bytes_eq r.name name then said f d w else field_said f ds rs name w

  pub fields_said : Known → Docs → List Field → Way → List Entry
  fields_said f no_docs rs w = []
  fields_said f (doc d ds) [] w = []
  fields_said f (doc d ds) (r ∷ rs) w =
      (if is_read r then said f d w else []) ++ fields_said f ds rs w

-- what the field of that name of a node does
abbrev pub each_field : Known → Node → OneField
each_field f n = field_said f (docs_in n.parts.items) (row_of n.kind)

-- what all its fields do, in order
abbrev pub all_fields : Known → Node → AllFields
all_fields f n = fields_said f (docs_in n.parts.items) (row_of n.kind)

-- the effect word, where that is known of names, with its made names and its groups numbered
abbrev pub word : Known → Doc → List Entry
word f d = numbered_groups (numbered [] (said f d way.Whole))
