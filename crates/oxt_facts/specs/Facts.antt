-- What is known of the names of a tree that is read: a name is made where a binding of the tree has it, and
-- no name of the source is spelled so.
use Rattle.std.specs.Prelude.{ℕ, List, [], ◌∷◌, ◌++◌, Bool, true, false, not, ◌&&◌, if◌then◌else◌, filter, Option, None, Some, option_map, option_to_list, codes}
use Rattle.std.specs.Str.{bytes_eq}
use Rattle.oxt_grammar.specs.Places.{same_kind}
use Rattle.oxt_grammar.specs.declared.kind.Kind.{Kind}
use Rattle.oxt_grammar.specs.declared.kind.Kind.TheVariants as kind
use Rattle.oxt_tree.specs.Doc.{Doc, nil, flag, number, text, list, node, Docs, no_docs, doc}
use Rattle.oxt_tree.specs.Fields.{named, text_in}
use Rattle.oxt_facts.specs.Owners.{Owners, inner_group, owner_in}
use Rattle.oxt_facts.specs.Privates.{Privates}
use Rattle.oxt_facts.specs.Told.{Block, Tellings}
use Rattle.oxt_facts.specs.declared.facts.Inner.{Inner}
use Rattle.oxt_names.specs.Made.{all_added, is_among}

-- the name that a node itself binds
abbrev pub own_binding : Kind → Docs → Option (List ℕ)
own_binding k ds =
    if same_kind k kind.BindingIdentifier then text_in (named (codes "name") k ds) else None

-- the spellings of the bindings of a document, in the order of its fields
abbrev mutual
  pub bindings : Doc → List (List ℕ)
  bindings nil = []
  bindings (flag b) = []
  bindings (number n) = []
  bindings (text t) = []
  bindings (list ds) = bindings_of_each ds
  bindings (node k i b e ds) = option_to_list (own_binding k ds) ++ bindings_of_each ds

  pub bindings_of_each : Docs → List (List ℕ)
  bindings_of_each no_docs = []
  bindings_of_each (doc d ds) = bindings d ++ bindings_of_each ds

-- A name that the source has not. The parameter of a setter that is made has a name of its own, which is
-- none of those that are made.
abbrev pub is_new : List (List ℕ) → List ℕ → Bool
is_new names t = not (is_among t names) && not (bytes_eq t (codes "value"))

-- the made names of a document, where the source has these names
abbrev pub made_in : List (List ℕ) → Doc → List (List ℕ)
made_in names d = all_added (filter (is_new names) (bindings d)) []

-- what is known: whether the tree is the source, what is told of its nodes, the made names, the groups of names, and
-- around a place the private names of the classes and the blocks of enums that become functions, the outermost first
pub record Known : Type 0 where
  pub is_source : Bool
  pub told : Tellings
  pub made : List (List ℕ)
  pub owners : Owners
  pub classes : List Privates
  pub blocks : List Inner

-- of a source, in which no name is made, of whose nodes that is told, and whose names have these groups
abbrev pub of_told_source : Tellings → Owners → Known
of_told_source ts os = record { is_source = true; told = ts; made = []; owners = os; classes = []; blocks = [] }

-- the same, where nothing is told and no group is known
abbrev pub of_source : Known
of_source = of_told_source [] []

-- of what was made of a source that has these names, where its own names have these groups
abbrev pub of_output : List (List ℕ) → Owners → Doc → Known
of_output names os d = record { is_source = false; told = []; made = made_in names d; owners = os; classes = []; blocks = [] }

-- the same in a class with these private names
abbrev pub in_class : Privates → Known → Known
in_class c f = record f { classes = f.classes ++ c ∷ [] }

-- the blocks with that one inside them, where its enum has a group
abbrev pub block_inside : Option ℕ → ℕ → List Inner → List Inner
block_inside None n bs = bs
block_inside (Some g) n bs = bs ++ record { group = g; block = n } ∷ []

-- the same in a block of an enum that becomes a function
abbrev pub in_block : Block → Known → Known
in_block b f = record f { blocks = block_inside b.group b.node f.blocks }

-- what a name of that group means at a place: inside a block of an enum that becomes a function, the enum's own name is
-- the parameter of that
abbrev pub group_here : Known → Option ℕ → Option ℕ
group_here f g = option_map (inner_group f.blocks) g

-- the same of the name that is the node of that number
abbrev pub group_at : Known → ℕ → Option ℕ
group_at f i = group_here f (owner_in f.owners i)

-- the spelling is that of a made name
abbrev pub is_made : Known → Doc → Bool
is_made f nil = false
is_made f (flag b) = false
is_made f (number n) = false
is_made f (text t) = is_among t f.made
is_made f (list ds) = false
is_made f (node k i b e ds) = false
