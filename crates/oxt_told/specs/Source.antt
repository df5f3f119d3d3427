-- What is told of the enums of a source, of the expressions that are inlined, of what its `import =` and the specifiers of
-- its modules become, and of its classes, by its table of scopes and symbols, by its plan, and by what is chosen.
use Rattle.std.specs.Prelude.{ℕ, ◌==◌, List, [], ◌∷◌, ◌++◌, Bool, true, false, ◌&&◌, if◌then◌else◌, Option, None, Some, codes}
use Rattle.std.specs.BTreeMap.{insert_entry}
use Rattle.std.specs.Ordering.{nat_cmp}
use Rattle.oxt_facts.specs.Told.{Tellings, Value, block, member, bare, inlined, gone, constant, following, written}
use Rattle.oxt_options.specs.Facts.{Facts, alias_at, constant_at, is_in}
use Rattle.oxt_options.specs.Metadata.{type_at}
use Rattle.oxt_options.specs.declared.metadata.MetadataType.{MetadataType}
use Rattle.oxt_options.specs.declared.rewrite.RewriteExtensionsMode.{RewriteExtensionsMode}
use Rattle.oxt_scoping.specs.Entries.{SymbolData}
use Rattle.oxt_scoping.specs.Meant.{declared_symbol}
use Rattle.oxt_scoping.specs.Scoped.{Scoped, live_at}
use Rattle.oxt_scoping.specs.declared.entry.Reference.{Reference}
use Rattle.oxt_names.specs.Constant.{Constant}
use Rattle.oxt_names.specs.declared.ids.ReferenceId.{ReferenceId}
use Rattle.oxt_grammar.specs.Places.{same_kind}
use Rattle.oxt_grammar.specs.declared.kind.Kind.{Kind}
use Rattle.oxt_grammar.specs.declared.kind.Kind.TheVariants as kind
use Rattle.oxt_fields.specs.Rules.{Rules, rules_of, rules_view}
use Rattle.oxt_options.specs.Options.{TransformData}
use Rattle.oxt_told.specs.Classes.{class_told, is_class}
use Rattle.oxt_told.specs.Extensions.{extension_told, has_source}
use Rattle.oxt_told.specs.Namespaces.{seat_told, seat_inside}
use Rattle.oxt_told.specs.Symbols.{first_node, named_symbol}
use Rattle.oxt_told.specs.declared.seat.Seat.{Seat}
use Rattle.oxt_constant.specs.Reversed.{is_reversed}
use Rattle.oxt_told.specs.Syntax.{is_pure}
use Rattle.oxt_told.specs.Uses.{legacy_told}
use Rattle.oxt_told.specs.declared.told.Source.{Source}
use Rattle.oxt_tree.specs.Doc.{Doc, nil, flag, number, text, list, node, Docs, no_docs, doc}
use Rattle.oxt_told.specs.declared.members.EnumAround.{EnumAround}
use Rattle.oxt_tree.specs.Fields.{elements, field_of, is_nil, named}
use Rattle.oxt_names.specs.Names.{name_bytes}
use Rattle.oxt_declares.specs.Dropped.{is_dropped_by}

-- ---- members

-- one more than the member before it, if one stands there
abbrev pub following_or : Option (List ℕ) → Value
following_or None = written
following_or (Some t) = following t

-- the value of a member with that constant and initializer, behind the member of that name
abbrev pub value_of : Option Constant → Option (List ℕ) → Doc → Value
value_of (Some c) p d = constant c
value_of None p d = if is_nil d then following_or p else written

-- ---- enums

-- an enum around its members: its name, the group of that, and the number of the block in which they stand
pub record Around : Type 0 where
  pub name : List ℕ
  pub group : Option ℕ
  pub block : ℕ

abbrev pub around_view : EnumAround → Around
around_view a = record { name = name_bytes a.name.now; group = a.group; block = a.block }

-- the enum of that symbol around the block of that number
abbrev pub around : SymbolData → ℕ → Around
around y i = record { name = y.name; group = first_node y.declarations; block = i }

-- a reference that was not deleted is a bare name of a member of that enum
abbrev pub bare_at : Around → Option Reference → Tellings
bare_at a None = []
bare_at a (Some r) = (r.node.0, bare a.name a.group) ∷ []

abbrev pub bares : Scoped → Around → List ReferenceId → Tellings
bares s a [] = []
bares s a (r ∷ rs) = bare_at a (live_at s.references r.0) ++ bares s a rs

-- a member of that number and initializer, whose symbol that is, of that enum, behind the member of that name; and the
-- bare names that mean it
abbrev pub symbol_told : Scoped → Around → Option (List ℕ) → ℕ → Doc → Option SymbolData → Tellings
symbol_told s a p i d None = []
symbol_told s a p i d (Some y) =
    (i, member (record { owner = a.name; block = a.block; name = y.name; value = value_of y.value p d; is_reversed = is_reversed y.value d }))
    ∷ bares s a y.references

abbrev pub member_told : Scoped → Around → Option (List ℕ) → Doc → Tellings
member_told s a p (node k i b t ds) =
    symbol_told s a p i (named (codes "initializer") k ds) (declared_symbol s i)
member_told s a p d = []

abbrev pub name_in : Option SymbolData → Option (List ℕ)
name_in None = None
name_in (Some y) = Some y.name

-- the name of a member
abbrev pub member_name : Scoped → Doc → Option (List ℕ)
member_name s (node k i b t ds) = name_in (declared_symbol s i)
member_name s d = None

-- the members of a block of that enum, behind the member of that name
abbrev pub members_told : Scoped → Around → Option (List ℕ) → Docs → Tellings
members_told s a p no_docs = []
members_told s a p (doc d ds) = member_told s a p d ++ members_told s a (member_name s d) ds

-- the bare names that mean the member of that symbol
abbrev pub symbol_bares : Scoped → Around → Option SymbolData → Tellings
symbol_bares s a None = []
symbol_bares s a (Some y) = bares s a y.references

abbrev pub member_bares : Scoped → Around → Doc → Tellings
member_bares s a (node k i b t ds) = symbol_bares s a (declared_symbol s i)
member_bares s a d = []

-- those that mean the members of a block that emits nothing: in other blocks of its enum they are read as its members
abbrev pub members_bares : Scoped → Around → Docs → Tellings
members_bares s a no_docs = []
members_bares s a (doc d ds) = member_bares s a d ++ members_bares s a ds

-- ---- blocks

-- what the plan says of nodes by their numbers: which specifiers are kept, which blocks are first, which are dropped, which
-- expressions are inlined, which are names that nothing writes to, which are read as the alias of a class, what metadata writes for
-- annotations, and which names it writes
pub record Asked : Type 0 where
  pub kept : ℕ → Bool
  pub first : ℕ → Bool
  pub dropped : ℕ → Bool
  pub inlined : ℕ → Option Constant
  pub never : ℕ → Bool
  pub alias : ℕ → Option ℕ
  pub metadata : ℕ → Option MetadataType
  pub written : ℕ → Option ℕ

-- what a plan that knows that says
abbrev pub asked_of : Facts → Asked
asked_of p =
    record {
      kept = is_in p.kept;
      first = is_in p.first;
      dropped = is_in p.dropped;
      inlined = constant_at p.inlined;
      never = is_in p.never_written;
      alias = alias_at p.aliases;
      metadata = type_at p.metadata;
      written = alias_at p.written;
    }

-- what is chosen for the whole source: how extensions are rewritten, and the rules by which fields are lowered
pub record Chosen : Type 0 where
  pub mode : Option RewriteExtensionsMode
  pub rules : Rules

-- what the options choose for a source of whose nodes that is asked
abbrev pub chosen_of : TransformData → Asked → Chosen
chosen_of o p = record { mode = o.typescript.rewrite_import_extensions; rules = rules_of o p.never p.inlined p.alias p.metadata p.written }

-- the same as the program has it
abbrev pub chosen_in : Source → Chosen
chosen_in source = record { mode = source.mode; rules = rules_view source.rules }

-- a block of that number with these members, whose enum's symbol that is
abbrev pub block_told : Scoped → Asked → ℕ → Docs → Option SymbolData → Tellings
block_told s p i ms None = []
block_told s p i ms (Some y) =
    (i, block (record { name = y.name; group = first_node y.declarations; node = i; is_first = p.first i; is_top = y.scope.0 == 0; is_pure = is_pure ms }))
    ∷ members_told s (around y i) None ms

-- the same of one that emits nothing
abbrev pub ambient_told : Scoped → ℕ → Docs → Option SymbolData → Tellings
ambient_told s i ms None = []
ambient_told s i ms (Some y) = members_bares s (around y i) ms

-- the members of a block
abbrev pub members_in : Kind → Docs → Docs
members_in k ds = elements (field_of (codes "members") (named (codes "body") k ds))

-- a block of an enum: one that is ambient, one that is dropped, and one that becomes a function
abbrev pub enum_told : Scoped → Asked → Kind → ℕ → Docs → Tellings
enum_told s p k i ds =
    if is_dropped_by k ds then ambient_told s i (members_in k ds) (named_symbol s k ds)
    else if p.dropped i then (i, gone) ∷ []
    else block_told s p i (members_in k ds) (named_symbol s k ds)

-- an expression with that constant
abbrev pub inlined_told : ℕ → Option Constant → Tellings
inlined_told i None = []
inlined_told i (Some v) = (i, inlined v) ∷ []

-- the kinds of what may be inlined: members, the chains that hold them, and `a.b` in an `import =`
abbrev pub may_be_inlined : Kind → Bool
may_be_inlined kind.StaticMemberExpression = true
may_be_inlined kind.ComputedMemberExpression = true
may_be_inlined kind.ChainExpression = true
may_be_inlined kind.TSQualifiedName = true
may_be_inlined k = false

-- what the plan does not keep, of that number
abbrev pub unkept_told : (ℕ → Bool) → ℕ → Tellings
unkept_told ks i = if ks i then [] else (i, gone) ∷ []

-- a node that stands there: an expression that is inlined, a block of an enum, an `import =`, one that has a module's
-- specifier, a class, or what namespaces become
abbrev pub kind_told : Scoped → Asked → Chosen → Seat → Kind → ℕ → Docs → Doc → Tellings
kind_told s p c q k i ds d =
    if may_be_inlined k then inlined_told i (p.inlined i)
    else if same_kind k kind.TSEnumDeclaration then enum_told s p k i ds
    else if same_kind k kind.TSImportEqualsDeclaration then unkept_told p.kept i
    else if has_source k then extension_told c.mode (named (codes "source") k ds)
    else if is_class k then class_told s c.rules i d
    else seat_told s p.first q k i ds

-- the same, and what decorators make of it
abbrev pub own_told : Scoped → Asked → Chosen → Seat → Kind → ℕ → Docs → Doc → Tellings
own_told s p c q k i ds d = kind_told s p c q k i ds d ++ legacy_told s c.rules k i d

-- all these in a document that stands there
abbrev mutual
  pub told_in : Scoped → Asked → Chosen → Seat → Doc → Tellings
  told_in s p c q nil = []
  told_in s p c q (flag b) = []
  told_in s p c q (number n) = []
  told_in s p c q (text t) = []
  told_in s p c q (list ds) = told_in_each s p c q ds
  told_in s p c q (node k i b e ds) = own_told s p c q k i ds (node k i b e ds) ++ told_in_each s p c (seat_inside q k i) ds

  pub told_in_each : Scoped → Asked → Chosen → Seat → Docs → Tellings
  told_in_each s p c q no_docs = []
  told_in_each s p c q (doc d ds) = told_in s p c q d ++ told_in_each s p c q ds

-- these tellings over those
abbrev pub all_told : Tellings → Tellings → Tellings
all_told ts [] = ts
all_told ts (e ∷ es) = all_told (insert_entry nat_cmp ts e.0 e.1) es
