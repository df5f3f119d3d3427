-- Kinds of which no node is erased by itself.
use Rattle.std.specs.Prelude.{◌≡◌, ◌||◌, Bool, true, false}
use Rattle.oxt_declares.specs.declared.role.Role.{Role}
use Rattle.oxt_declares.specs.declared.role.Role.TheVariants as role
use Rattle.oxt_grammar.specs.Places.{same_field}
use Rattle.oxt_grammar.specs.declared.field.Field.{Field}
use Rattle.oxt_grammar.specs.declared.field.Field.TheVariants as field
use Rattle.oxt_grammar.specs.declared.kind.Kind.{Kind}
use Rattle.oxt_scopes.specs.Standings.{own_emission}
use Rattle.oxt_scopes.specs.declared.standing.Emission.TheVariants as emission
use Rattle.oxt_tree.specs.Doc.{Docs}

-- nodes of the role are asked what they hold
abbrev pub is_asked : Role → Bool
is_asked role.Namespace = true
is_asked role.Program = true
is_asked r = false

-- the field may say that its node is erased
abbrev pub is_sign : Field → Bool
is_sign f =
    same_field f field.Declare || (same_field f field.ImportKind || (same_field f field.ExportKind || same_field f field.Value))

-- a node of the kind is not erased by itself, whatever it holds
abbrev pub StaysEmitted : Kind → Type 0
StaysEmitted k = (legacy : Bool) (ds : Docs) → own_emission legacy k ds ≡ emission.Emitted
