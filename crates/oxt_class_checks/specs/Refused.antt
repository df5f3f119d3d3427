-- Accessors and setters whose private names cannot be told from others once accessors are lowered.
use Rattle.std.specs.Prelude.{ℕ, List, [], ◌∷◌, ◌++◌, Bool, not, ◌&&◌, ◌||◌, if◌then◌else◌, codes}
use Rattle.std.specs.List.{list_all}
use Rattle.oxt_class_checks.specs.Class.{is_class}
use Rattle.oxt_class_checks.specs.Keys.{has_alias_key}
use Rattle.oxt_class_checks.specs.Nodes.{some_node}
use Rattle.oxt_class_checks.specs.Storages.{is_any_reserved, keeps_key, own_storage, with_name, with_privates}
use Rattle.oxt_fields.specs.Storage.{storage_text}
use Rattle.oxt_fields.specs.Text.{is_within_identifier}
use Rattle.oxt_fields.specs.Classes.{elements_of}
use Rattle.oxt_fields.specs.Rules.{Rules}
use Rattle.oxt_grammar.specs.Places.{same_kind}
use Rattle.oxt_grammar.specs.declared.kind.Kind.{Kind}
use Rattle.oxt_grammar.specs.declared.kind.Kind.TheVariants as kind
use Rattle.oxt_names.specs.Made.{is_among}
use Rattle.oxt_tree.specs.Doc.{Doc, nil, flag, number, text, list, node, Docs, no_docs, doc}
use Rattle.oxt_tree.specs.Fields.{is_text, named}
use Rattle.oxt_declares.specs.Dropped.{is_dropped_by}

-- ---- one element; the flag says whether a private name of the class is reserved

-- The name of the storage is taken: by one of the names, or, where a temporary is in it, by a reserved one.
abbrev pub is_taken : Rules → Bool → List (List ℕ) → List ℕ → Kind → Docs → Bool
is_taken r reserved ns t k ds = if keeps_key r k ds then reserved else is_among t ns

-- each byte is one that an ASCII identifier has; the names of storages begin with an underscore
abbrev pub is_plain : List ℕ → Bool
is_plain t = list_all is_within_identifier t

-- An accessor whose storage has that name: this is no ASCII identifier, or is taken, or the key is read as an alias
-- where a name is reserved.
abbrev pub is_accessor_refused : Rules → Bool → List (List ℕ) → List ℕ → Kind → Docs → Bool
is_accessor_refused r reserved ns t k ds =
    not (is_plain t) || (is_taken r reserved ns t k ds || (reserved && has_alias_key r k ds))

-- a setter that is not erased
abbrev pub is_setter : Kind → Docs → Bool
is_setter k ds =
    same_kind k kind.MethodDefinition && (is_text (codes "set") (named (codes "kind") k ds) && not (is_dropped_by k ds))

-- a setter whose key is read as an alias where a name is reserved
abbrev pub is_setter_refused : Rules → Bool → Kind → Docs → Bool
is_setter_refused r reserved k ds = is_setter k ds && (reserved && has_alias_key r k ds)

abbrev pub is_refused : Rules → Bool → List (List ℕ) → Kind → Docs → Bool
is_refused r reserved ns k ds =
    if same_kind k kind.AccessorProperty then is_accessor_refused r reserved ns (storage_text (some_node k ds)) k ds
    else is_setter_refused r reserved k ds

-- the number, where that is so
abbrev pub number_if : Bool → ℕ → List ℕ
number_if b i = if b then i ∷ [] else []

-- the number of the element, if it is refused where those names stand before its own
abbrev pub refused_one : Rules → Bool → List (List ℕ) → Doc → List ℕ
refused_one r reserved ns (node k i b e ds) = number_if (is_refused r reserved ns k ds) i
refused_one r reserved ns d = []

-- ---- classes

-- those of the elements, where each storage stands before those of later elements
abbrev pub refused_among : Rules → Bool → List (List ℕ) → Docs → List ℕ
refused_among r reserved ns no_docs = []
refused_among r reserved ns (doc d ds) =
    refused_one r reserved ns d ++ refused_among r reserved (with_name (own_storage r d) ns) ds

-- those of a class with these elements, whose private names stand before all storages
abbrev pub refused_elements : Rules → Docs → List ℕ
refused_elements r es = refused_among r (is_any_reserved r es) (with_privates es []) es

-- those of the node itself, if it is a class
abbrev pub own_refused : Rules → Kind → Docs → List ℕ
own_refused r k ds = if is_class k then refused_elements r (elements_of (some_node k ds)) else []

-- ---- trees

-- those of all classes of a document, also in code that is erased
abbrev mutual
  pub refused_in : Rules → Doc → List ℕ
  refused_in r nil = []
  refused_in r (flag b) = []
  refused_in r (number n) = []
  refused_in r (text t) = []
  refused_in r (list ds) = refused_each r ds
  refused_in r (node k i b e ds) = own_refused r k ds ++ refused_each r ds

  pub refused_each : Rules → Docs → List ℕ
  refused_each r no_docs = []
  refused_each r (doc d ds) = refused_in r d ++ refused_each r ds

-- The accessors and setters that are refused, where accessors are lowered: none else.
abbrev pub refused_accessors : Rules → Doc → List ℕ
refused_accessors r d = if r.legacy then refused_in r d else []
