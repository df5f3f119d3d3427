-- Whether the made names of a tree are bound once.
use Rattle.std.specs.Prelude.{ℕ, List, [], ◌∷◌, ◌++◌, Bool, false, ◌&&◌, ◌||◌, if◌then◌else◌, nat_eq, Option, None, Some, is_some, codes}
use Rattle.std.specs.Option.{option_or}
use Rattle.std.specs.Str.{bytes_eq}
use Rattle.oxt_facts.specs.Facts.{Known, is_made}
use Rattle.oxt_facts.specs.Owners.{Owners, owner_in}
use Rattle.oxt_grammar.specs.Places.{same_kind}
use Rattle.oxt_grammar.specs.declared.kind.Kind.{Kind}
use Rattle.oxt_grammar.specs.declared.kind.Kind.TheVariants as kind
use Rattle.oxt_tree.specs.Doc.{Doc, nil, flag, number, text, list, node, Docs, no_docs, doc}
use Rattle.oxt_tree.specs.Fields.{named, text_in}

-- a made name in a tree: the number of its node, its spelling, and whether it is bound there or used
pub record MadeAt : Type 0 where
  pub node : ℕ
  pub name : List ℕ
  pub is_binding : Bool

abbrev pub named_at : Bool → ℕ → Option (List ℕ) → List MadeAt
named_at b i None = []
named_at b i (Some t) = record { node = i; name = t; is_binding = b } ∷ []

-- the node itself, if it is a name that is made
abbrev pub own_made : Known → Kind → ℕ → Docs → List MadeAt
own_made f k i ds =
    if (same_kind k kind.BindingIdentifier || same_kind k kind.IdentifierReference) && is_made f (named (codes "name") k ds)
    then named_at (same_kind k kind.BindingIdentifier) i (text_in (named (codes "name") k ds))
    else []

-- the made names in a document, in the order of the text
abbrev mutual
  pub made_names : Known → Doc → List MadeAt
  made_names f nil = []
  made_names f (flag b) = []
  made_names f (number n) = []
  made_names f (text t) = []
  made_names f (list ds) = each_made f ds
  made_names f (node k i b e ds) = own_made f k i ds ++ each_made f ds

  pub each_made : Known → Docs → List MadeAt
  each_made f no_docs = []
  each_made f (doc d ds) = made_names f d ++ each_made f ds

-- the number of the first binding with that spelling
abbrev pub binding_of : List MadeAt → List ℕ → Option ℕ
binding_of [] t = None
binding_of (n ∷ ns) t = if n.is_binding && bytes_eq t n.name then Some n.node else binding_of ns t

-- the first spelling of a binding that a later one has too
abbrev pub bound_again : List MadeAt → Option (List ℕ)
bound_again [] = None
bound_again (n ∷ ns) = if n.is_binding && is_some (binding_of ns n.name) then Some n.name else bound_again ns

abbrev pub same_node : Option ℕ → Option ℕ → Bool
same_node None o = false
same_node (Some n) None = false
same_node (Some n) (Some m) = nat_eq n m

-- the first of the names whose owner is not the first binding with its spelling, where all are those
abbrev pub stray : Owners → List MadeAt → List MadeAt → Option (List ℕ)
stray os all [] = None
stray os all (n ∷ ns) =
    if same_node (owner_in os n.node) (binding_of all n.name) then stray os all ns else Some n.name

abbrev pub misbound_among : Owners → List MadeAt → Option (List ℕ)
misbound_among os ns = option_or (bound_again ns) (stray os ns ns)

-- A made spelling that is not bound once: the first that two bindings have, and else that of the first name, bound or used,
-- whose owner is not the binding with its spelling.
abbrev pub misbound : Known → Doc → Option (List ℕ)
misbound f d = misbound_among f.owners (made_names f d)
