-- What is known of private names inside a class.
use Rattle.std.specs.Prelude.{ℕ, List, Bool, not, ◌&&◌, ◌||◌, if◌then◌else◌, length, nat_eq, Option, None, Some, is_some, codes}
use Rattle.std.specs.List.{list_any}
use Rattle.oxt_grammar.specs.Places.{kind_in, same_kind}
use Rattle.oxt_grammar.specs.declared.category.Category.TheVariants as category
use Rattle.oxt_grammar.specs.declared.kind.Kind.{Kind}
use Rattle.oxt_grammar.specs.declared.kind.Kind.TheVariants as kind
use Rattle.oxt_tree.specs.Doc.{Doc, nil, flag, number, text, list, node, Docs, no_docs, doc}
use Rattle.oxt_tree.specs.Fields.{docs_list, elements, field_of, is_kind, is_text, named, text_in}
use Rattle.oxt_names.specs.Made.{added}
use Rattle.oxt_facts.specs.Facts.{Known, in_block, in_class, is_made}
use Rattle.oxt_facts.specs.Privates.{Privates, no_privates, stored_by}
use Rattle.oxt_facts.specs.Told.{Telling, block, told_of}

-- wrappers, parentheses and sequences, of which a part is the key
abbrev pub holds_key : Kind → Bool
holds_key k = kind_in category.Transparent k || same_kind k kind.SequenceExpression

-- the name, if it is made
abbrev pub made_name : Known → Kind → Docs → Option (List ℕ)
made_name f k ds =
    if same_kind k kind.IdentifierReference && is_made f (named (codes "name") k ds)
    then text_in (named (codes "name") k ds)
    else None

-- the second, where nothing comes after
abbrev pub if_last : Docs → Option (List ℕ) → Option (List ℕ) → Option (List ℕ)
if_last no_docs last rest = last
if_last (doc d ds) last rest = rest

-- the first, where a part of such a node is the key
abbrev pub chosen_key : Kind → Option (List ℕ) → Option (List ℕ) → Option (List ℕ)
chosen_key k part own = if holds_key k then part else own

-- the made name that a key is, inside wrappers and parentheses and as the last of a sequence
abbrev mutual
  pub made_key : Known → Doc → Option (List ℕ)
  made_key f nil = None
  made_key f (flag b) = None
  made_key f (number n) = None
  made_key f (text t) = None
  made_key f (list ds) = last_key f ds
  made_key f (node k i b e ds) = chosen_key k (first_key f ds) (made_name f k ds)

  pub first_key : Known → Docs → Option (List ℕ)
  first_key f no_docs = None
  first_key f (doc d ds) = made_key f d

  pub last_key : Known → Docs → Option (List ℕ)
  last_key f no_docs = None
  last_key f (doc d ds) = if_last ds (made_key f d) (last_key f ds)

-- the made name that is the key of an element, if that is a setter
abbrev pub setter_name : Known → Doc → Option (List ℕ)
setter_name f d =
    if is_kind kind.MethodDefinition d && is_text (codes "set") (field_of (codes "kind") d)
    then made_key f (field_of (codes "key") d)
    else None

-- the private name that is the key of an element
abbrev pub private_key : Doc → Option (List ℕ)
private_key d = if is_kind kind.PrivateIdentifier d then text_in (field_of (codes "name") d) else None

abbrev pub private_name : Doc → Option (List ℕ)
private_name d = private_key (field_of (codes "key") d)

abbrev pub with_name : Option (List ℕ) → Privates → Privates
with_name None c = c
with_name (Some t) c = record c { names = added t c.names }

abbrev pub with_made : Option (List ℕ) → Privates → Privates
with_made None c = c
with_made (Some t) c = record c { made = added t c.made }

-- the private names of a class with these elements, and the made names that key its setters
abbrev pub privates_of : Known → Docs → Privates → Privates
privates_of f no_docs c = c
privates_of f (doc d ds) c = privates_of f ds (with_made (setter_name f d) (with_name (private_name d) c))

-- A body of a class, one of whose setters has a made name as its key or which stands in such a class.
abbrev pub is_told : Known → Kind → Docs → Bool
is_told f k ds =
    same_kind k kind.ClassBody
    && (not (nat_eq (length f.classes) 0)
    || list_any (λ d. is_some (setter_name f d)) (docs_list (elements (named (codes "body") k ds))))

-- what is known inside a node that may be the body of a class
abbrev pub inside_class : Known → Kind → Docs → Known
inside_class f k ds =
    if is_told f k ds
    then in_class (privates_of f (elements (named (codes "body") k ds)) no_privates) f
    else f

-- what is known inside a node of which that is told
abbrev pub inside_told : Known → Option Telling → Kind → Docs → Known
inside_told f (Some (block b)) k ds = in_block b f
inside_told f t k ds = inside_class f k ds

-- what is known inside the node of that number
abbrev pub inside : Known → ℕ → Kind → Docs → Known
inside f i k ds = inside_told f (told_of f.told i) k ds

-- what is known then, if more is
abbrev pub known_or : Known → Option Known → Known
known_or f None = f
known_or f (Some g) = g

-- the made name for which a spelling stands, as a private name
abbrev pub stored_text : Known → Option (List ℕ) → Option (List ℕ)
stored_text f None = None
stored_text f (Some t) = stored_by f.classes t

abbrev pub stored_at : Known → Doc → Option (List ℕ)
stored_at f d = stored_text f (text_in d)
