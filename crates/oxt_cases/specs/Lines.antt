-- Words as lines.
use Rattle.std.specs.Prelude.{ℕ, List, [], ◌∷◌, ◌++◌, map}
use Rattle.oxt_tree.specs.Doc.{Doc, nil, flag, number, text, list, node}
use Rattle.oxt_facts.specs.Entry.{Entry}
use Rattle.oxt_facts.specs.ItemKinds.{item_kind_name}
use Rattle.serde_json.specs.Data as json
use Rattle.serde_json.specs.Data.{Data}
use Rattle.serde_json.specs.View.{items_of}
use Rattle.serde_json.specs.Written.{compact_text}

-- a text, a number or a flag as JSON; null for what is absent
abbrev pub atom_data : Doc → Data
atom_data nil = json.null
atom_data (flag b) = json.boolean b
atom_data (number n) = json.number (json.unsigned n)
atom_data (text t) = json.string t
atom_data (list ds) = json.null
atom_data (node k i b e ds) = json.null

-- An item is an array: the name of its kind, what it is spelled, and its further texts and flags.
abbrev pub entry_data : Entry → Data
entry_data e =
    json.array (items_of (json.string (item_kind_name e.kind) ∷ atom_data e.spelling
    ∷ map atom_data e.details))

-- the text of the array, and a line feed
abbrev pub line : Entry → List ℕ
line e = compact_text (entry_data e) ++ 10 ∷ []

-- the lines of items, one after another
abbrev pub lines : List Entry → List ℕ
lines [] = []
lines (e ∷ es) = line e ++ lines es
