-- The private names of a class: those of its elements, and those of the storages of its accessors.
use Rattle.std.specs.Prelude.{ℕ, eqb, List, Bool, false, not, ◌&&◌, ◌||◌, if◌then◌else◌, Option, None, Some, codes}
use Rattle.std.specs.List.{ends_with, list_any, starts_with}
use Rattle.oxt_fields.specs.Storage.{storage_text}
use Rattle.oxt_fields.specs.Fates.{needs_temporary}
use Rattle.oxt_fields.specs.Rules.{Rules}
use Rattle.oxt_grammar.specs.Places.{same_kind}
use Rattle.oxt_grammar.specs.declared.kind.Kind.{Kind}
use Rattle.oxt_grammar.specs.declared.kind.Kind.TheVariants as kind
use Rattle.oxt_names.specs.Made.{added}
use Rattle.oxt_tree.specs.Doc.{Doc, node, Docs, no_docs, doc}
use Rattle.oxt_tree.specs.Fields.{docs_list, field_of, is_kind, named, text_in}
use Rattle.oxt_declares.specs.Dropped.{is_dropped_by}

-- ---- names

-- the text of a key that is a private name
abbrev pub private_key : Doc → Option (List ℕ)
private_key d = if is_kind kind.PrivateIdentifier d then text_in (field_of (codes "name") d) else None

-- the private name of an element that is not erased
abbrev pub own_private : Doc → Option (List ℕ)
own_private (node k i b e ds) = if is_dropped_by k ds then None else private_key (named (codes "key") k ds)
own_private d = None

-- the key of the element is kept in a temporary
abbrev pub keeps_key : Rules → Kind → Docs → Bool
keeps_key r k ds = needs_temporary r (named (codes "key") k ds)

-- an accessor whose storage has a name that follows from its key alone
abbrev pub has_plain_storage : Rules → Kind → Docs → Bool
has_plain_storage r k ds = same_kind k kind.AccessorProperty && not (keeps_key r k ds)

-- the name of the storage of such an accessor
abbrev pub own_storage : Rules → Doc → Option (List ℕ)
own_storage r (node k i b e ds) = if has_plain_storage r k ds then Some (storage_text (node k i b e ds)) else None
own_storage r d = None

-- ---- names that may be those of storages with a temporary

-- A name that may be that of the storage of an accessor whose key is kept in a temporary: a temporary begins with an
-- underscore, and one more stands in front of it.
abbrev pub is_reserved : List ℕ → Bool
is_reserved t = starts_with eqb t (codes "__") && ends_with eqb t (codes "_computed_accessor_storage")

abbrev pub is_reserved_in : Option (List ℕ) → Bool
is_reserved_in None = false
is_reserved_in (Some t) = is_reserved t

-- the private name of the element or its storage is such a name
abbrev pub has_reserved : Rules → Doc → Bool
has_reserved r d = is_reserved_in (own_private d) || is_reserved_in (own_storage r d)

-- that of one of the elements is
abbrev pub is_any_reserved : Rules → Docs → Bool
is_any_reserved r es = list_any (has_reserved r) (docs_list es)

-- ---- lists of names

-- the names with that one, if there is one
abbrev pub with_name : Option (List ℕ) → List (List ℕ) → List (List ℕ)
with_name None ns = ns
with_name (Some t) ns = added t ns

-- the names with the private names of the elements
abbrev pub with_privates : Docs → List (List ℕ) → List (List ℕ)
with_privates no_docs ns = ns
with_privates (doc d ds) ns = with_privates ds (with_name (own_private d) ns)
