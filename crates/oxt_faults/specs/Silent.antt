-- Nodes in which nothing stands at the level.
use Rattle.std.specs.Prelude.{List, [], ◌∷◌, Bool, true, false, ◌&&◌, ◌||◌, if◌then◌else◌}
use Rattle.std.specs.List.{list_any}
use Rattle.oxt_faults.specs.declared.reach.Reach.{Reach}
use Rattle.oxt_faults.specs.declared.reach.Reach.TheVariants as reach
use Rattle.oxt_grammar.specs.Kinds.{is_typescript_kind}
use Rattle.oxt_grammar.specs.Places.{kind_in, same_kind}
use Rattle.oxt_grammar.specs.declared.category.Category.TheVariants as category
use Rattle.oxt_grammar.specs.declared.kind.Kind.{Kind}
use Rattle.oxt_grammar.specs.declared.kind.Kind.TheVariants as kind
use Rattle.oxt_tree.specs.declared.inside.Inside.{Inside}
use Rattle.oxt_tree.specs.declared.inside.Inside.TheVariants as inside
use Rattle.oxt_tree.specs.Doc.{Docs}
use Rattle.oxt_tree.specs.Syntax.{is_type_only}
use Rattle.oxt_declares.specs.Dropped.{inside_dropped_by, is_dropped_by}

-- what is reached so is left out
abbrev pub is_hidden : Reach → Bool
is_hidden reach.Level = false
is_hidden reach.Method = false
is_hidden reach.Hidden = true

-- erased as a whole: a declaration or an element of a class that stands for nothing at run time, or an import or an
-- export of types alone
abbrev pub is_erased_code : Kind → Docs → Bool
is_erased_code k ds = is_dropped_by k ds || is_type_only k ds

-- the kinds beside types that hold nothing but types
abbrev pub type_kinds : List Kind
type_kinds =
    kind.TSTypeAnnotation ∷ kind.TSTypeParameterDeclaration ∷ kind.TSTypeParameterInstantiation ∷ []

-- of TypeScript alone: a type, or what holds nothing but types
abbrev pub is_type : Kind → Bool
is_type k =
    is_typescript_kind k
    && (kind_in category.TSType k || list_any (λ j. same_kind k j) type_kinds)

-- neither the node nor anything in it stands at the level: it is out of reach, erased, or a type
abbrev pub is_silent : Reach → Kind → Docs → Bool
is_silent r k ds = is_hidden r || (is_erased_code k ds || is_type k)

-- What a search reaches inside such a node, in the state `s`: nothing, but for the decorators of a field that is only
-- declared, where the flag says that decorators have their older meaning.
abbrev pub silent_inside : {S : Type 0} → Bool → Reach → Kind → Docs → S → Inside S
silent_inside legacy r k ds s = if is_hidden r then inside.Skipped else inside_dropped_by legacy k ds s
