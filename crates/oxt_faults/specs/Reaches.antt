-- What of a node stands at the level of the code around it, by its kind and field.
use Rattle.std.specs.Prelude.{ℕ, List, [], ◌∷◌, Bool, if◌then◌else◌, codes}
use Rattle.std.specs.List.{list_any}
use Rattle.std.specs.Str.{bytes_eq}
use Rattle.oxt_faults.specs.declared.reach.Reach.{Reach}
use Rattle.oxt_faults.specs.declared.reach.Reach.TheVariants as reach
use Rattle.oxt_grammar.specs.Field.{Field}
use Rattle.oxt_grammar.specs.declared.kind.Kind.{Kind}
use Rattle.oxt_grammar.specs.declared.kind.Kind.TheVariants as kind

-- that reach in the field of that name, and nothing in the others
abbrev pub reach_named : List ℕ → Reach → Field → Reach
reach_named name s r = if bytes_eq r.name name then s else reach.Hidden

-- code at the level, where it is one of the parts that stand there
abbrev pub shown : Bool → Reach
shown b = if b then reach.Level else reach.Hidden

-- the fields of a class that stand at the level around it; of its body only parts do
abbrev pub class_parts : List (List ℕ)
class_parts = codes "decorators" ∷ codes "superClass" ∷ codes "body" ∷ []

-- the fields of an element of a class that stand at the level around the class
abbrev pub element_parts : List (List ℕ)
element_parts = codes "decorators" ∷ codes "key" ∷ []

abbrev pub class_reach : Field → Reach
class_reach r = shown (list_any (bytes_eq r.name) class_parts)

-- in a field or an accessor
abbrev pub field_reach : Field → Reach
field_reach r = shown (list_any (bytes_eq r.name) element_parts)

-- in a method, of whose function the decorators of the parameters stand there too
abbrev pub element_reach : Field → Reach
element_reach r = if bytes_eq r.name (codes "value") then reach.Method else field_reach r

-- In a node that is code at the level: nothing in functions that are no arrows and in static blocks, what stands
-- around a class of it and of its elements, and all in anything else.
abbrev pub level_reach : Kind → Field → Reach
level_reach kind.FunctionDeclaration r = reach.Hidden
level_reach kind.FunctionExpression r = reach.Hidden
level_reach kind.TSDeclareFunction r = reach.Hidden
level_reach kind.TSEmptyBodyFunctionExpression r = reach.Hidden
level_reach kind.ClassDeclaration r = class_reach r
level_reach kind.ClassExpression r = class_reach r
level_reach kind.MethodDefinition r = element_reach r
level_reach kind.PropertyDefinition r = field_reach r
level_reach kind.AccessorProperty r = field_reach r
level_reach kind.StaticBlock r = reach.Hidden
level_reach k r = reach.Level

-- in a node of the function of a method: the decorators of its parameters
abbrev pub method_reach : Kind → Field → Reach
method_reach kind.FunctionExpression r = reach_named (codes "params") reach.Method r
method_reach kind.FormalParameters r = reach_named (codes "items") reach.Method r
method_reach kind.FormalParameter r = reach_named (codes "decorators") reach.Level r
method_reach k r = reach.Hidden

-- what stands at the level of what a field of a node of that kind holds, where the node is reached so
abbrev pub reach_of : Reach → Kind → Field → Reach
reach_of reach.Level k r = level_reach k r
reach_of reach.Method k r = method_reach k r
reach_of reach.Hidden k r = reach.Hidden
