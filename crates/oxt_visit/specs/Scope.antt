-- Which nodes open a scope.
use Rattle.std.specs.Prelude.{Bool, true, false, ◌||◌}
use Rattle.oxt_declares.specs.RoleOf.{role_of}
use Rattle.oxt_declares.specs.declared.role.Role.{Role}
use Rattle.oxt_declares.specs.declared.role.Role.TheVariants as role
use Rattle.oxt_grammar.specs.Places.{same_kind}
use Rattle.oxt_grammar.specs.declared.kind.Kind.{Kind}
use Rattle.oxt_grammar.specs.declared.kind.Kind.TheVariants as kind

-- The program, functions, blocks, loops with a head, `switch`, `catch`, classes, static blocks, namespaces and modules
-- open a scope.
abbrev pub is_opening : Role → Bool
is_opening role.Program = true
is_opening role.Block = true
is_opening role.For = true
is_opening role.ForEach = true
is_opening role.Switch = true
is_opening role.Catch = true
is_opening role.Function = true
is_opening role.Overload = true
is_opening role.FunctionExpression = true
is_opening role.Arrow = true
is_opening role.Class = true
is_opening role.ClassExpression = true
is_opening role.StaticBlock = true
is_opening role.Namespace = true
is_opening role.Module = true
is_opening r = false

-- Nodes of the kind open a scope: those, and the body of an enum.
abbrev pub opens_scope : Kind → Bool
opens_scope k = same_kind k kind.TSEnumBody || is_opening (role_of k)
