-- What the makers of names leave.
use Rattle.std.specs.Prelude.{ℕ, ◌+◌, List, [], ◌∷◌, ◌++◌, length, true, Option}
use Rattle.oxt_grammar.specs.declared.kind.Kind.TheVariants as kind
use Rattle.oxt_tree.specs.Doc.{Doc, text, node, no_docs, doc}
use Rattle.oxt_names.specs.declared.ids.NodeIds.{NodeIds}
use Rattle.oxt_names.specs.declared.flags.ReferenceFlags.{ReferenceFlags}
use Rattle.oxt_names.specs.declared.flags.SymbolFlags.{SymbolFlags}
use Rattle.oxt_names.specs.declared.ids.ScopeId.{ScopeId}
use Rattle.oxt_names.specs.declared.ids.SymbolId.{SymbolId}
use Rattle.oxt_scoping.specs.Scoped.{Scoped, new_symbol, with_reference, with_symbol}
use Rattle.oxt_stores.specs.Frame.{Frame, binding, declarator, with_var}
use Rattle.oxt_names.specs.Made.{added, made_name}
use Rattle.oxt_ctx.specs.Context.{Context}

-- a name that is used
abbrev pub reference : ℕ → List ℕ → Doc
reference n name = node kind.IdentifierReference n 0 0 (doc (text name) no_docs)

-- so many numbers used up
abbrev pub after : ℕ → NodeIds → NodeIds
after k ids = record { next = ids.next + k }

abbrev pub with_ids : ℕ → Context → Context
with_ids k c = record c { ids = after k c.ids }

-- The table with a symbol of that spelling more, which the scope binds it to. It is declared by the
-- next number.
abbrev pub bound_anew : List ℕ → ScopeId → SymbolFlags → NodeIds → Scoped → Scoped
bound_anew t x f ids s =
    with_symbol (record { 0 = ids.next }) (record { 0 = length s.symbols })
    (new_symbol t x f (record { node = record { 0 = ids.next }; flags = f; emits = true })) s

-- the table with a reference of the next number more
abbrev pub used_anew : Option SymbolId → ReferenceFlags → NodeIds → Scoped → Scoped
used_anew y f ids s =
    with_reference (record { 0 = length s.references })
    (record { node = record { 0 = ids.next }; symbol = y; flags = f }) s

-- ---- the context afterwards

-- the same of a context
abbrev pub with_binding : List ℕ → ScopeId → SymbolFlags → Context → Context
with_binding t x f c = record c { scoping = bound_anew t x f c.ids c.scoping; ids = after 1 c.ids }

abbrev pub with_use : Option SymbolId → ReferenceFlags → Context → Context
with_use y f c = record c { scoping = used_anew y f c.ids c.scoping; ids = after 1 c.ids }

-- with these names taken
abbrev pub with_taken : List (List ℕ) → Context → Context
with_taken ts c = record c { scoping = record c.scoping { taken = ts } }

-- the name that is made from a text
abbrev pub made_in : List ℕ → Context → List ℕ
made_in t c = made_name c.scoping.taken t

-- with the name that is made from a text taken
abbrev pub with_name : List ℕ → Context → Context
with_name t c = with_taken (added (made_in t c) c.scoping.taken) c

-- with that name bound in the scope
abbrev pub with_uid : List ℕ → ScopeId → SymbolFlags → Context → Context
with_uid t x f c = with_binding (made_in t c) x f (with_name t c)

-- the declarators of the lists that are open, with the name declared by `var` in the innermost
abbrev pub with_declared : List ℕ → ℕ → Option Doc → List Frame → List Frame
with_declared t n init fs = with_var (declarator (n + 1) (binding n t) init) fs

-- the first context but for the declarators and the next number, which are those of the second
abbrev pub but_declarators_of : Context → Context → Context
but_declarators_of old new = record old { declarations = new.declarations; ids = new.ids }

-- the first context but for the table of names, the declarators and the next number, which are those of
-- the second
abbrev pub but_names_of : Context → Context → Context
but_names_of old new = record old { scoping = new.scoping; declarations = new.declarations; ids = new.ids }
