-- Whether what a declaration says is there at run time.
use Rattle.std.specs.Prelude.{Bool, false, not, ◌&&◌, ◌||◌, if◌then◌else◌, codes}
use Rattle.oxt_grammar.specs.Places.{same_kind}
use Rattle.oxt_grammar.specs.declared.kind.Kind.{Kind}
use Rattle.oxt_grammar.specs.declared.kind.Kind.TheVariants as kind
use Rattle.oxt_tree.specs.Doc.{Docs}
use Rattle.oxt_tree.specs.Fields.{is_set, is_text, named}
use Rattle.oxt_tree.specs.Syntax.{is_erased_kind, is_type_only, lacks_body}
use Rattle.oxt_declares.specs.RoleOf.{role_of}
use Rattle.oxt_declares.specs.TypesAlone.{is_of_types}
use Rattle.oxt_declares.specs.declared.role.Role.{Role}
use Rattle.oxt_declares.specs.declared.role.Role.TheVariants as role
use Rattle.oxt_scopes.specs.declared.standing.Emission.{Emission}
use Rattle.oxt_scopes.specs.declared.standing.Emission.TheVariants as emission
use Rattle.oxt_scopes.specs.declared.standing.Standing.{Standing}

-- a declaration that says `declare`, or such a field
abbrev pub declares_alone : Kind → Docs → Bool
declares_alone k ds = not (same_kind k kind.FunctionExpression) && (not (same_kind k kind.ClassExpression) && is_set (named (codes "declare") k ds))

-- a namespace of types alone, or a file of definitions
abbrev pub is_erased_by : Role → Kind → Docs → Bool
is_erased_by role.Namespace k ds = is_of_types (named (codes "body") k ds)
is_erased_by role.Program k ds = is_text (codes "dts") (named (codes "lang") k ds)
is_erased_by r k ds = false

-- Types, modules, functions and members without a body, imports and exports of types, namespaces of
-- types and files of definitions are erased.
abbrev pub is_erased_alone : Kind → Docs → Bool
is_erased_alone k ds = is_erased_kind k || (is_type_only k ds || (lacks_body k ds || is_erased_by (role_of k) k ds))

-- a field that says `declare`, whose decorators outlive it where they have their older meaning
abbrev pub keeps_decorators : Bool → Kind → Docs → Bool
keeps_decorators legacy k ds = legacy && (same_kind k kind.PropertyDefinition && is_set (named (codes "declare") k ds))

abbrev pub own_emission : Bool → Kind → Docs → Emission
own_emission legacy k ds =
    if keeps_decorators legacy k ds then emission.Declared
    else if declares_alone k ds then emission.Ambient
    else if is_erased_alone k ds then emission.Erased
    else emission.Emitted

-- What stands in an erased node is erased, and what stands in one that says `declare` is as if it
-- said so.
abbrev pub joined : Emission → Emission → Emission
joined emission.Emitted e = e
joined emission.Erased emission.Erased = emission.Erased
joined emission.Erased emission.Emitted = emission.Erased
joined emission.Erased e = emission.Ambient
joined a e = emission.Ambient

-- what is around a node of that kind, as far as the node goes with it: a decorator outlives its field
abbrev pub around_of : Emission → Kind → Emission
around_of emission.Declared k = if same_kind k kind.Decorator then emission.Emitted else emission.Declared
around_of a k = a

-- what becomes of a node that stands in what has that standing
abbrev pub emission_in : Standing → Kind → Docs → Emission
emission_in s k ds = joined (around_of s.emission k) (own_emission s.legacy k ds)

-- the standing of a node that stands in what has that one
abbrev pub standing_in : Standing → Kind → Docs → Standing
standing_in s k ds = record { emission = emission_in s k ds; legacy = s.legacy }

-- the standing of a program, where decorators have their older meaning or not
abbrev pub of_program : Bool → Standing
of_program legacy = record { emission = emission.Emitted; legacy = legacy }
