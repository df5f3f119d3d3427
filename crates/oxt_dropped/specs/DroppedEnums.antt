-- The blocks of enums that are dropped.
use Rattle.std.specs.Prelude.{ℕ, List, [], Bool, false, not, ◌&&◌, ◌||◌, if◌then◌else◌, Option, None, Some, slice_get, codes}
use Rattle.oxt_grammar.specs.Places.{same_kind}
use Rattle.oxt_grammar.specs.declared.kind.Kind.{Kind}
use Rattle.oxt_grammar.specs.declared.kind.Kind.TheVariants as kind
use Rattle.oxt_inline.specs.Names.{named_symbol}
use Rattle.oxt_dropped.specs.Needed.{needed}
use Rattle.oxt_inline.specs.Values.{is_optimized_at, optimizes}
use Rattle.oxt_names.specs.declared.ids.SymbolId.{SymbolId}
use Rattle.oxt_options.specs.Facts.{is_in}
use Rattle.oxt_options.specs.Options.{TypeScriptData}
use Rattle.oxt_scoping.specs.Scoped.{Scoped}
use Rattle.oxt_search.specs.All.{all_in}
use Rattle.oxt_search.specs.Sought.{Sought}
use Rattle.oxt_tree.specs.declared.inside.Inside.{Inside}
use Rattle.oxt_tree.specs.declared.inside.Inside.TheVariants as inside
use Rattle.oxt_tree.specs.Doc.{Doc, Docs}
use Rattle.oxt_tree.specs.Fields.{named}
use Rattle.oxt_tree.specs.Syntax.{is_definition_file}
use Rattle.oxt_declares.specs.Dropped.{inside_dropped_by, is_dropped_by}

-- the enum of that symbol is dropped: its members are inlined, and it is not needed
abbrev pub goes : Scoped → TypeScriptData → (ℕ → Bool) → Option SymbolId → Bool
goes s o needs None = false
goes s o needs (Some i) = is_optimized_at o (slice_get s.symbols i.0) && not (needs i.0)

-- the node, if it is a block of such an enum
abbrev pub dropped_at : Scoped → TypeScriptData → (ℕ → Bool) → Kind → ℕ → Docs → Option ℕ
dropped_at s o needs k i ds =
    if same_kind k kind.TSEnumDeclaration && goes s o needs (named_symbol s (named (codes "id") k ds)) then Some i else None

-- what is looked at inside a node: nothing of what is erased, of which decorators are no part that are lowered
abbrev pub inside_of : Bool → Kind → Docs → Inside (Unit {0})
inside_of legacy k ds = if is_dropped_by k ds then inside_dropped_by legacy k ds tt else inside.Alike tt

-- outside what is erased, each such block; the flag says whether decorators have their older meaning
abbrev pub blocks : Scoped → TypeScriptData → Bool → (ℕ → Bool) → Sought (Unit {0}) ℕ
blocks s o legacy needs =
    record {
      at = λ u k i ds. dropped_at s o needs k i ds;
      inside = λ u k i ds. inside_of legacy k ds;
      in_field = λ u k r. Some u;
    }

-- those of a whole tree, by which symbols it needs
abbrev pub dropped_by : (ℕ → Bool) → Scoped → Doc → TypeScriptData → Bool → List ℕ
dropped_by needs s d o legacy = all_in (blocks s o legacy needs) d tt

-- a symbol is needed by either
abbrev pub both_need : (ℕ → Bool) → (ℕ → Bool) → ℕ → Bool
both_need needs zs n = needs n || zs n

-- The blocks that are dropped, by which `import a = ..` are kept, and which symbols metadata names: none where members of no enum are inlined, and none of a
-- file of definitions.
abbrev pub dropped : Scoped → (ℕ → Bool) → (ℕ → Bool) → Doc → TypeScriptData → Bool → List ℕ
dropped s ks zs d o legacy =
    if optimizes o && not (is_definition_file d)
    then dropped_by (both_need (is_in (needed s ks d o legacy)) zs) s d o legacy
    else []
