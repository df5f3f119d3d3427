-- The text from which the name of a variable is made that holds an expression.
use Rattle.std.specs.Prelude.{ℕ, List, [], ◌∷◌, ◌++◌, Bool, false, ◌&&◌, ◌||◌, ◌==◌, nat_le, if◌then◌else◌, Option, None, Some, codes}
use Rattle.std.specs.List.{list_all}
use Rattle.oxt_grammar.specs.Places.{same_kind}
use Rattle.oxt_grammar.specs.declared.kind.Kind.{Kind}
use Rattle.oxt_grammar.specs.declared.kind.Kind.TheVariants as kind
use Rattle.oxt_tree.specs.Doc.{Doc, nil, flag, number, text, list, node, Docs, no_docs, doc}
use Rattle.oxt_tree.specs.Fields.{field_of, named, text_in}
use Rattle.oxt_names.specs.Made.{is_digit}

-- the text of what has none of its own
abbrev pub no_name : List ℕ
no_name = codes "ref"

abbrev pub or_no_name : Option (List ℕ) → List ℕ
or_no_name None = no_name
or_no_name (Some t) = t

-- an ASCII letter, `_` or `$`
abbrev pub is_letter : ℕ → Bool
is_letter b = (nat_le 97 b && nat_le b 122) || ((nat_le 65 b && nat_le b 90) || (b == 95 || b == 36))

-- what an ASCII identifier may have behind its first byte
abbrev pub is_within_identifier : ℕ → Bool
is_within_identifier b = is_letter b || is_digit b

-- an ASCII identifier
abbrev pub is_identifier : List ℕ → Bool
is_identifier [] = false
is_identifier (b ∷ bs) = is_letter b && list_all is_within_identifier bs

-- a text that is an ASCII identifier
abbrev pub if_identifier : Option (List ℕ) → List ℕ
if_identifier None = no_name
if_identifier (Some t) = if is_identifier t then t else no_name

-- the text of an expression that is read by itself: of a name the name, of a string its value where
-- that is an identifier
abbrev pub own_text : Kind → Docs → List ℕ
own_text k ds =
    if same_kind k kind.IdentifierReference then or_no_name (text_in (named (codes "name") k ds))
    else if same_kind k kind.StringLiteral then if_identifier (text_in (named (codes "value") k ds))
    else no_name

-- an expression that has the text of its first field: a member with a name that of its object, a call or
-- `new` that of its callee, parentheses that of their inside
abbrev pub is_read_inside : Kind → Bool
is_read_inside k =
    same_kind k kind.StaticMemberExpression || (same_kind k kind.CallExpression
    || (same_kind k kind.NewExpression || same_kind k kind.ParenthesizedExpression))

-- what a member with a name has behind the text of its object: `$` and the name
abbrev pub member_text : Kind → Docs → List ℕ
member_text k ds =
    if same_kind k kind.StaticMemberExpression
    then 36 ∷ or_no_name (text_in (field_of (codes "name") (named (codes "property") k ds)))
    else []

abbrev pub node_text : Kind → Docs → List ℕ → List ℕ
node_text k ds inside = if is_read_inside k then inside ++ member_text k ds else own_text k ds

-- the text of an expression
abbrev mutual
  pub name_text : Doc → List ℕ
  name_text nil = no_name
  name_text (flag b) = no_name
  name_text (number n) = no_name
  name_text (text t) = no_name
  name_text (list ds) = no_name
  name_text (node k i b e ds) = node_text k ds (first_text ds)

  -- that of the first of them
  pub first_text : Docs → List ℕ
  first_text no_docs = no_name
  first_text (doc d ds) = name_text d
