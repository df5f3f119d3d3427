-- Tests on documents that decide how a node is read.
use Rattle.std.specs.Prelude.{ℕ, ◌==◌, List, Bool, true, false, not, ◌&&◌, if◌then◌else◌, Option, None, Some, codes, nat_lt}
use Rattle.oxt_facts.specs.Facts.{Known}
use Rattle.oxt_facts.specs.Told.{Telling, alias, inner, told_of}
use Rattle.oxt_grammar.specs.declared.category.Category.TheVariants as category
use Rattle.oxt_grammar.specs.declared.kind.Kind.{Kind}
use Rattle.oxt_grammar.specs.declared.kind.Kind.TheVariants as kind
use Rattle.oxt_tree.specs.Fields.{first, count}
use Rattle.oxt_tree.specs.Inner.{seen}
use Rattle.oxt_tree.specs.Doc.{Doc, nil, flag, number, text, list, node, Docs}
use Rattle.oxt_tree.specs.Fields.{named, field_of, elements, is_nil, is_set, is_text, is_kind, is_in, is_empty_list}
use Rattle.oxt_facts.specs.declared.item.Binding.{Binding}
use Rattle.oxt_facts.specs.declared.item.Binding.TheVariants as binding

-- the field of that name, through wrappers and parentheses
abbrev pub within : List ℕ → Kind → Docs → Doc
within name k ds = seen (named name k ds)

-- two texts that are one
abbrev pub same_text : Doc → Doc → Bool
same_text (text t) d = is_text t d
same_text c d = false

-- an assignment by `=` to a member of an object
abbrev pub is_put : Kind → Docs → Bool
is_put k ds =
    is_text (codes "=") (named (codes "operator") k ds)
    && is_in category.MemberExpression (within (codes "left") k ds)

-- a sequence of two or more
abbrev pub is_long : Kind → Docs → Bool
is_long k ds = nat_lt 1 (count (elements (named (codes "expressions") k ds)))

-- `{}`
abbrev pub is_empty_object : Doc → Bool
is_empty_object d =
    is_kind kind.ObjectExpression d && is_empty_list (field_of (codes "properties") d)

-- the same bare name twice
abbrev pub is_name_again : Doc → Doc → Bool
is_name_again c d =
    is_kind kind.IdentifierReference c
    && (is_kind kind.IdentifierReference d
    && same_text (field_of (codes "name") c) (field_of (codes "name") d))

-- `x = {}`
abbrev pub makes : Doc → Doc → Bool
makes x d =
    is_kind kind.AssignmentExpression d
    && (is_text (codes "=") (field_of (codes "operator") d)
    && (is_name_again x (seen (field_of (codes "left") d))
    && is_empty_object (seen (field_of (codes "right") d))))

-- what is told of a name leaves it a bare one, which may be a made one or mean another group
abbrev pub leaves_bare : Option Telling → Bool
leaves_bare None = true
leaves_bare (Some (alias t)) = true
leaves_bare (Some (inner g)) = true
leaves_bare t = false

-- the same of a document
abbrev pub stays_bare : Known → Doc → Bool
stays_bare f (node k i b e ds) = leaves_bare (told_of f.told i)
stays_bare f d = true

-- a bare name that is read as one
abbrev pub is_bare_name : Known → Doc → Bool
is_bare_name f d = is_kind kind.IdentifierReference d && stays_bare f d

-- `x || ..` with such a name
abbrev pub is_choice : Known → Kind → Docs → Bool
is_choice f k ds =
    is_text (codes "||") (named (codes "operator") k ds) && is_bare_name f (within (codes "left") k ds)

-- `x || {}`
abbrev pub is_found : Known → Kind → Docs → Bool
is_found f k ds = is_choice f k ds && is_empty_object (within (codes "right") k ds)

-- `x || (x = {})`
abbrev pub is_found_made : Known → Kind → Docs → Bool
is_found_made f k ds =
    is_choice f k ds && makes (within (codes "left") k ds) (within (codes "right") k ds)

-- one element that is a node of its kind
abbrev pub is_one : Docs → Bool
is_one ds = count ds == 1

-- a parameter that is a bare name
abbrev pub is_bare_parameter : Doc → Bool
is_bare_parameter d =
    is_kind kind.BindingIdentifier (field_of (codes "pattern") d)
    && (is_nil (field_of (codes "initializer") d)
    && is_empty_list (field_of (codes "decorators") d))

-- exactly one parameter, a bare name
abbrev pub is_bare_list : Doc → Bool
is_bare_list d =
    is_nil (field_of (codes "rest") d)
    && (is_one (elements (field_of (codes "items") d))
    && is_bare_parameter (first (elements (field_of (codes "items") d))))

-- a nameless function expression, neither async nor a generator, with such a parameter
abbrev pub is_callable : Doc → Bool
is_callable d =
    is_kind kind.FunctionExpression d
    && (is_nil (field_of (codes "id") d)
    && (not (is_set (field_of (codes "async") d))
    && (not (is_set (field_of (codes "generator") d))
    && is_bare_list (field_of (codes "params") d))))

-- one argument, which is no spread
abbrev pub is_argument : Docs → Bool
is_argument ds = is_one ds && not (is_kind kind.SpreadElement (first ds))

-- the call, not optional, of such a function with one argument
abbrev pub is_called : Kind → Docs → Bool
is_called k ds =
    not (is_set (named (codes "optional") k ds))
    && (is_argument (elements (named (codes "arguments") k ds))
    && is_callable (within (codes "callee") k ds))

-- what the word of a declaration declares its names as
abbrev pub binding_of : Doc → Binding
binding_of d =
    if is_text (codes "let") d then binding.Let
    else if is_text (codes "const") d then binding.Const
    else if is_text (codes "using") d then binding.Using
    else if is_text (codes "await using") d then binding.AwaitUsing
    else binding.Var
