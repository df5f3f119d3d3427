-- The expressions that stand for a constant of a member of an enum.
use Rattle.std.specs.Prelude.{ℕ, List, [], Bool, if◌then◌else◌, Option, None, Some, option_map, codes}
use Rattle.oxt_grammar.specs.Places.{kind_in, same_kind}
use Rattle.oxt_grammar.specs.declared.category.Category.TheVariants as category
use Rattle.oxt_grammar.specs.declared.kind.Kind.{Kind}
use Rattle.oxt_grammar.specs.declared.kind.Kind.TheVariants as kind
use Rattle.oxt_inline.specs.Seats.{is_alias, is_value, seat_by, seat_in}
use Rattle.oxt_inline.specs.Constants.{constants_in}
use Rattle.oxt_inline.specs.Values.{Named, dotted_constant, member_constant, optimizes, optional_constant}
use Rattle.oxt_inline.specs.declared.inlined.Inlined.{Inlined}
use Rattle.oxt_inline.specs.declared.seat.Seat.{Seat}
use Rattle.oxt_inline.specs.declared.seat.Seat.TheVariants as seat
use Rattle.oxt_names.specs.Constant.{Constant, constant_view}
use Rattle.oxt_options.specs.Options.{TypeScriptData}
use Rattle.oxt_scoping.specs.Scoped.{Scoped}
use Rattle.oxt_search.specs.All.{all_in}
use Rattle.oxt_search.specs.Sought.{Sought}
use Rattle.oxt_tree.specs.declared.inside.Inside.TheVariants as inside
use Rattle.oxt_tree.specs.Doc.{Doc, Docs}
use Rattle.oxt_tree.specs.Fields.{named}
use Rattle.oxt_tree.specs.Inner.{inner_expression}

-- the number of an expression with its constant
abbrev pub inlined_view : Inlined → ℕ × Constant
inlined_view c = (c.node.0, constant_view c.value.now)

-- the constant of a chain with that element: what is inside its wrappers and parentheses is an optional member
abbrev pub chain_constant : Scoped → Named → TypeScriptData → Doc → Option Constant
chain_constant s c o d = optional_constant s c o (inner_expression d)

-- the constant of a member or of a chain
abbrev pub constant_of : Scoped → Named → TypeScriptData → Kind → Docs → Option Constant
constant_of s c o k ds =
    if same_kind k kind.ChainExpression then chain_constant s c o (named (codes "expression") k ds)
    else member_constant s c o k ds

-- The same where it stands so: no target has one, and no element of a chain. A dotted name has one in a kept `import a = ..`,
-- where it becomes a member expression.
abbrev pub constant_at : Scoped → Named → TypeScriptData → Seat → Kind → Docs → Option Constant
constant_at s c o q k ds =
    if is_value q then constant_of s c o k ds
    else if is_alias q then dotted_constant s c o k ds
    else None

-- the constant, at the number
abbrev pub numbered : ℕ → Constant → ℕ × Constant
numbered i v = (i, v)

abbrev pub inlined_at : Scoped → Named → TypeScriptData → Seat → Kind → ℕ → Docs → Option (ℕ × Constant)
inlined_at s c o q k i ds = option_map (numbered i) (constant_at s c o q k ds)

-- outside types, each node that has a constant, by which `import a = ..` are kept
abbrev pub sought : Scoped → (ℕ → Bool) → Named → TypeScriptData → Sought Seat (ℕ × Constant)
sought s ks c o =
    record {
      at = inlined_at s c o;
      inside = λ q k i ds. if kind_in category.TSType k then inside.Skipped else inside.ByField (seat_by ks q k i);
      in_field = λ q k r. Some (seat_in q k r);
    }

-- those of a whole tree, by the constants of its members
abbrev pub inlined_with : Named → Scoped → (ℕ → Bool) → Doc → TypeScriptData → List (ℕ × Constant)
inlined_with c s ks d o = all_in (sought s ks c o) d seat.Value

-- The expressions of a whole tree that are inlined, with their constants, by which `import a = ..` are kept. None is where
-- members of no enum are.
abbrev pub inlined : Scoped → (ℕ → Bool) → Doc → TypeScriptData → List (ℕ × Constant)
inlined s ks d o = if optimizes o then inlined_with (constants_in s d) s ks d o else []
