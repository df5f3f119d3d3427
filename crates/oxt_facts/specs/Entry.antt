-- The items of a word, as contracts see them.
use Rattle.std.specs.Prelude.{ℕ, List, [], ◌∷◌, Option, None, codes, map}
use Rattle.oxt_grammar.specs.Kinds.{name_of}
use Rattle.oxt_grammar.specs.Words.{text_of}
use Rattle.oxt_tree.specs.Doc.{Doc, nil, flag, number, text, list, node}
use Rattle.oxt_names.specs.Names.{name_bytes}
use Rattle.oxt_facts.specs.declared.item.Atom.{Atom}
use Rattle.oxt_facts.specs.declared.item.Atom.TheVariants as atom
use Rattle.oxt_facts.specs.declared.item.Binding.{Binding}
use Rattle.oxt_facts.specs.declared.item.Binding.TheVariants as binding
use Rattle.oxt_facts.specs.declared.item.Item.{Item}
use Rattle.oxt_facts.specs.declared.item.ItemKind.{ItemKind}

-- what it stands for, what it is spelled, further texts and flags, and the group that a name means or declares: none
-- where the name is free, and for what is no name
pub record Entry : Type 0 where
  pub kind : ItemKind
  pub spelling : Doc
  pub details : List Doc
  pub group : Option ℕ

-- an item of a name with that group
abbrev pub entry_in : Option ℕ → ItemKind → Doc → List Doc → Entry
entry_in g m s ds = record { kind = m; spelling = s; details = ds; group = g }

abbrev pub entry : ItemKind → Doc → List Doc → Entry
entry m s ds = entry_in None m s ds

-- an item that is not spelled
abbrev pub lone : ItemKind → List Entry
lone m = entry m nil [] ∷ []

-- an item with that spelling
abbrev pub spelled : ItemKind → Doc → List Entry
spelled m s = entry m s [] ∷ []

-- an item with that spelling and these further texts and flags
abbrev pub detailed : ItemKind → Doc → List Doc → List Entry
detailed m s ds = entry m s ds ∷ []

-- the same, of a name with that group
abbrev pub owned : Option ℕ → ItemKind → Doc → List Doc → List Entry
owned g m s ds = entry_in g m s ds ∷ []

-- what a name is declared as
abbrev pub binding_text : Binding → List ℕ
binding_text binding.Var = codes "var"
binding_text binding.Let = codes "let"
binding_text binding.Const = codes "const"
binding_text binding.Using = codes "using"
binding_text binding.AwaitUsing = codes "await using"
binding_text binding.Function = codes "function"
binding_text binding.Class = codes "class"
binding_text binding.Import = codes "import"
binding_text binding.Parameter = codes "parameter"
binding_text binding.Catch = codes "catch"
binding_text binding.Inner = codes "inner"

abbrev pub atom_doc : Atom → Doc
atom_doc atom.Nothing = nil
atom_doc (atom.Flag b) = flag b
atom_doc (atom.Number n) = number n
atom_doc (atom.Text name) = text (name_bytes name)
atom_doc (atom.Word w) = text (text_of w)
atom_doc (atom.Kind k) = text (name_of k)
atom_doc (atom.Binding b) = text (binding_text b)

abbrev pub entry_of : Item → Entry
entry_of i = entry_in i.group i.kind (atom_doc i.spelling) (map atom_doc i.details.items)

-- the items of a list
abbrev pub entries : List Item → List Entry
entries items = map entry_of items

-- a text, a number or a flag itself; nothing for a list or a node
abbrev pub detail : Doc → Doc
detail nil = nil
detail (flag b) = flag b
detail (number n) = number n
detail (text t) = text t
detail (list ds) = nil
detail (node k i b e ds) = nil
