-- How the names in a node are read, and in which scope.
use Rattle.std.specs.Prelude.{ℕ, List, Bool, true, false, not, if◌then◌else◌, Option, None, Some, codes}
use Rattle.std.specs.Str.{bytes_eq}
use Rattle.oxt_declares.specs.declared.role.Role.{Role}
use Rattle.oxt_declares.specs.declared.role.Role.TheVariants as role
use Rattle.oxt_scopes.specs.declared.way.Pass.TheVariants as pass
use Rattle.oxt_scopes.specs.declared.way.Pass.{Pass}
use Rattle.oxt_scopes.specs.declared.way.Reading.{Reading}
use Rattle.oxt_scopes.specs.declared.way.Step.{Step}
use Rattle.oxt_scopes.specs.declared.way.Step.TheVariants as step
use Rattle.oxt_scopes.specs.declared.way.Way.{Way}
use Rattle.oxt_scopes.specs.declared.way.Way.TheVariants as way

-- Names are read as types.
abbrev pub is_typed : Way → Bool
is_typed way.Whole = false
is_typed way.Method = false
is_typed way.Written = false
is_typed way.Updated = false
is_typed way.Typed = true
is_typed way.Signature = true

-- The program, functions, blocks, loops with a head, `switch`, `catch`, classes, static blocks and
-- the bodies of enums, namespaces and modules open a scope.
abbrev pub value_step : Role → Step
value_step role.Program = step.Opens
value_step role.Block = step.Opens
value_step role.For = step.Opens
value_step role.ForEach = step.Opens
value_step role.Switch = step.Opens
value_step role.Catch = step.Opens
value_step role.Function = step.Opens
value_step role.Overload = step.Opens
value_step role.FunctionExpression = step.Opens
value_step role.Arrow = step.Opens
value_step role.Class = step.Opens
value_step role.ClassExpression = step.Opens
value_step role.StaticBlock = step.Opens
value_step role.Enum = step.Opens
value_step role.Namespace = step.Opens
value_step role.Module = step.Opens
value_step r = step.Plain

-- The decorators of a method's parameter are read around the method.
abbrev pub method_step : Role → Step
method_step role.Parameter = step.Hides
method_step r = value_step r

-- In a type nothing opens a scope.
abbrev pub other_step : Role → Way → Step
other_step r way.Typed = step.Plain
other_step r way.Signature = step.Plain
other_step r way.Method = method_step r
other_step r w = value_step r

-- what becomes of a node
abbrev pub step_of : Role → Way → Step
step_of role.Reference w = step.Use
step_of role.Specifier w = step.Plain
step_of r w = other_step r w

-- a field that is read as values, or not at all
abbrev pub only : Bool → Option Way
only b = if b then Some way.Whole else None

-- A class's own decorators and what a `switch` looks at are read around the scope.
abbrev pub around_way : Role → List ℕ → Option Way
around_way role.Class name = only (bytes_eq name (codes "decorators"))
around_way role.ClassExpression name = only (bytes_eq name (codes "decorators"))
around_way role.Switch name = only (bytes_eq name (codes "discriminant"))
around_way r name = None

-- Only what belongs to a method is read in it.
abbrev pub in_method : Way → Way
in_method way.Method = way.Method
in_method w = way.Whole

-- The types of `this`, of the parameters and of the result are the signature of a function.
abbrev pub function_way : Way → List ℕ → Way
function_way w name =
    if bytes_eq name (codes "params") then in_method w
    else if bytes_eq name (codes "thisParam") then way.Signature
    else if bytes_eq name (codes "returnType") then way.Signature
    else way.Whole

-- What stands in front of `in` or `of` is assigned.
abbrev pub each_way : List ℕ → Way
each_way name = if bytes_eq name (codes "left") then way.Written else way.Whole

-- what is read in the scope that a node opens
abbrev pub within_way : Role → Way → List ℕ → Option Way
within_way role.Class w name = only (not (bytes_eq name (codes "decorators")))
within_way role.ClassExpression w name = only (not (bytes_eq name (codes "decorators")))
within_way role.Switch w name = only (not (bytes_eq name (codes "discriminant")))
within_way role.ForEach w name = Some (each_way name)
within_way role.Function w name = Some (function_way w name)
within_way role.Overload w name = Some (function_way w name)
within_way role.FunctionExpression w name = Some (function_way w name)
within_way role.Arrow w name = Some (function_way w name)
within_way r w name = Some way.Whole

abbrev pub own_decorators : Way → Option Way
own_decorators way.Method = None
own_decorators w = Some way.Whole

abbrev pub parameter_way : Way → List ℕ → Option Way
parameter_way w name =
    if bytes_eq name (codes "decorators") then own_decorators w
    else if bytes_eq name (codes "typeAnnotation") then Some way.Signature
    else Some way.Whole

abbrev pub method_way : List ℕ → Way
method_way name = if bytes_eq name (codes "value") then way.Method else way.Whole

-- The names in an import or an export of types alone are types.
abbrev pub named_way : Bool → Way → Way
named_way b w = if b then way.Typed else w

-- Of an exported name only the local one is a use of it.
abbrev pub specifier_way : Reading → List ℕ → Option Way
specifier_way r name = if bytes_eq name (codes "local") then Some (named_way r.is_marked r.way) else None

-- An assignment by `=` writes its left side, and another reads it besides.
abbrev pub assigned : Bool → Way
assigned b = if b then way.Written else way.Updated

abbrev pub assignment_way : Bool → List ℕ → Way
assignment_way b name = if bytes_eq name (codes "left") then assigned b else way.Whole

abbrev pub update_way : List ℕ → Way
update_way name = if bytes_eq name (codes "argument") then way.Updated else way.Whole

-- Keys and defaults in a pattern are values.
abbrev pub element_way : Way → List ℕ → Way
element_way w name = if bytes_eq name (codes "binding") then w else way.Whole

-- by the role, what holds no types
abbrev pub value_way : Role → Reading → List ℕ → Option Way
value_way role.Import r name = None
value_way role.Silent r name = None
value_way role.Type r name = Some way.Typed
value_way role.ExportList r name = Some (named_way r.is_marked way.Whole)
value_way role.ImportEquals r name = Some (named_way r.is_marked way.Whole)
value_way role.Assignment r name = Some (assignment_way r.is_marked name)
value_way role.Update r name = Some (update_way name)
value_way role.Target r name = Some r.way
value_way role.TargetElement r name = Some (element_way r.way name)
value_way role.Method r name = Some (method_way name)
value_way role.Parameter r name = parameter_way r.way name
value_way o r name = Some (in_method r.way)

abbrev pub role_way : Role → Reading → List ℕ → Option Way
role_way role.Specifier r name = specifier_way r name
role_way o r name = if is_typed r.way then Some r.way else value_way o r name

abbrev pub here_way : Reading → List ℕ → Option Way
here_way r name = role_way r.role r name

abbrev pub pass_way : Pass → Reading → List ℕ → Option Way
pass_way pass.Here r name = here_way r name
pass_way pass.Around r name = around_way r.role name
pass_way pass.Within r name = within_way r.role r.way name
pass_way pass.Beyond r name = only (bytes_eq name (codes "decorators"))

-- how the field of that name is read; none where it is not
abbrev pub way_of : Reading → List ℕ → Option Way
way_of r name = pass_way r.pass r name
