-- Which forms that only some programs have occur in a program.
use Rattle.std.specs.Prelude.{ℕ, ◌||◌, List, [], ◌∷◌, ◌++◌, Bool, if◌then◌else◌, Option, None, Some}
use Rattle.std.specs.List.{list_any}
use Rattle.oxt_check.specs.declared.survey.Form.{Form}
use Rattle.oxt_enum_checks.specs.Blocks.{own_block}
use Rattle.oxt_enum_checks.specs.declared.blocks.Block.{Block}
use Rattle.oxt_grammar.specs.Places.{same_kind}
use Rattle.oxt_grammar.specs.declared.kind.Kind.{Kind}
use Rattle.oxt_grammar.specs.declared.kind.Kind.TheVariants as kind
use Rattle.oxt_search.specs.All.{all_in, given}
use Rattle.oxt_search.specs.Sought.{Sought}
use Rattle.oxt_tree.specs.declared.inside.Inside.TheVariants as inside
use Rattle.oxt_tree.specs.Doc.{Doc, Docs}

-- the kinds of which only some programs have nodes
abbrev pub form_kinds : List Kind
form_kinds =
    kind.TSEnumMember ∷
    kind.TSModuleBlock ∷
    kind.TSImportEqualsDeclaration ∷
    kind.TSExportAssignment ∷
    kind.AccessorProperty ∷
    kind.PropertyDefinition ∷
    kind.ClassDeclaration ∷
    kind.ClassExpression ∷
    kind.TSEnumDeclaration ∷
    kind.TSNamespaceDeclaration ∷
    kind.JSXElement ∷
    kind.JSXFragment ∷
    kind.JSXOpeningElement ∷
    kind.JSXClosingElement ∷
    kind.JSXMemberExpression ∷ []

-- the kind is one of these
abbrev pub is_form : Kind → Bool
is_form k = list_any (λ other. same_kind k other) form_kinds

-- the kind, if it is such a one
abbrev pub form_at : Kind → Option Kind
form_at k = if is_form k then Some k else None

-- each node of such a kind
abbrev pub forms : Sought (Unit {0}) Kind
forms =
    record {
      at = λ u k i ds. form_at k;
      inside = λ u k i ds. inside.Alike u;
      in_field = λ u k r. Some u;
    }

-- the kinds of those of a tree, in the order of the text
abbrev pub occurring : Doc → List Kind
occurring d = all_in forms d tt

-- ---- the same and the blocks among them, as one search finds both

-- a node of that kind, which is that block
abbrev pub form_with : Kind → Option Block → Form
form_with k b = record { kind = k; block = b }

-- the node, if it is of such a kind
abbrev pub listed_form : Kind → ℕ → Docs → Option Form
listed_form k i ds = if is_form k then Some (form_with k (own_block k i ds)) else None

-- each such node
abbrev pub listed_forms : Sought (Unit {0}) Form
listed_forms =
    record {
      at = λ u k i ds. listed_form k i ds;
      inside = λ u k i ds. inside.Alike u;
      in_field = λ u k r. Some u;
    }

-- those of a tree, in the order of the text
abbrev pub forms_of : Doc → List Form
forms_of d = all_in listed_forms d tt

-- the blocks among them
abbrev pub blocks_among : List Form → List Block
blocks_among [] = []
blocks_among (f ∷ fs) = given f.block ++ blocks_among fs

-- ---- which of them occur

-- a node of the kind, which is one of such forms, occurs
abbrev pub occurs : Doc → Kind → Bool
occurs d k = list_any (λ own. same_kind own k) (occurring d)

-- a form for which a free name is made without decorators occurs
abbrev pub makes_names : Doc → Bool
makes_names d = occurs d kind.TSExportAssignment || (occurs d kind.TSImportEqualsDeclaration || occurs d kind.AccessorProperty)

-- a class, or what may be a field of one, occurs
abbrev pub has_class : Doc → Bool
has_class d =
    (occurs d kind.ClassDeclaration || occurs d kind.ClassExpression)
    || (occurs d kind.PropertyDefinition || occurs d kind.AccessorProperty)

-- that of a block of an enum or a namespace is among the kinds
abbrev pub has_block_among : List Kind → Bool
has_block_among ks = list_any (λ own. same_kind own kind.TSEnumDeclaration) ks || list_any (λ own. same_kind own kind.TSNamespaceDeclaration) ks

-- such a block occurs
abbrev pub has_block : Doc → Bool
has_block d = has_block_among (occurring d)

-- an element or a fragment of JSX occurs
abbrev pub has_jsx : Doc → Bool
has_jsx d = occurs d kind.JSXElement || occurs d kind.JSXFragment

-- what the name of an element of JSX stands in occurs
abbrev pub names_elements : Doc → Bool
names_elements d = occurs d kind.JSXOpeningElement || (occurs d kind.JSXClosingElement || occurs d kind.JSXMemberExpression)
