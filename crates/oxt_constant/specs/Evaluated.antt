-- The constant of an expression, by recursion on its document.
use Rattle.std.specs.Prelude.{ℕ, List, [], ◌∷◌, ◌++◌, drop, if◌then◌else◌, Option, None, Some, option_map, false, map, codes}
use Rattle.std.specs.Option.{option_and_then}
use Rattle.std.specs.Str.{bytes_eq}
use Rattle.oxt_constant.specs.Forms.{form_of}
use Rattle.oxt_constant.specs.declared.form.Form.{Form}
use Rattle.oxt_constant.specs.declared.form.Form.TheVariants as form
use Rattle.oxt_constant.specs.Operations.{unary_constant, binary_constant}
use Rattle.oxt_names.specs.Constant.{Constant, constant_view, integer, string, spelling}
use Rattle.oxt_constant.specs.Integer.{signed}
use Rattle.oxt_constant.specs.Operators.{unary_written, binary_written}
use Rattle.oxt_grammar.specs.Field.{Field}
use Rattle.oxt_grammar.specs.Places.{same_kind}
use Rattle.oxt_grammar.specs.Rows.{row_of}
use Rattle.oxt_grammar.specs.declared.kind.Kind.{Kind}
use Rattle.oxt_grammar.specs.declared.kind.Kind.TheVariants as kind
use Rattle.oxt_tree.specs.Doc.{Doc, nil, flag, number, text, list, node, Docs, no_docs, doc}
use Rattle.oxt_names.specs.declared.constant.ConstantValue.{ConstantValue}
use Rattle.oxt_tree.specs.Fields.{named, field_of, elements, is_kind, is_set, text_in}
use Rattle.oxt_tree.specs.View.{docs_in}
use Rattle.oxt_tree.specs.declared.tree.Node.{Node}

-- what names mean where an expression stands: the constant of the enum member that a bare name means, by
-- the number of its node and its text, and that of the member of an enum, by the same of the enum's name
-- and the member's name
pub record Env : Type 0 where
  pub bare : ℕ → List ℕ → Option Constant
  pub member : ℕ → List ℕ → List ℕ → Option Constant

-- what is seen of a document: its constant; of a list, the constants of all its elements
pub record Seen : Type 0 where
  pub one : Option Constant
  pub all : Option (List Constant)

abbrev pub nothing_seen : Seen
nothing_seen = record { one = None; all = None }

-- both, where both are there
abbrev pub in_front : Option Constant → Option (List Constant) → Option (List Constant)
in_front None cs = None
in_front (Some c) cs = option_map (λ rest. c ∷ rest) cs

-- the constant of each, where all have one
abbrev pub all_of : List Seen → Option (List Constant)
all_of [] = Some []
all_of (s ∷ ss) = in_front s.one (all_of ss)

-- a number, where JavaScript's numbers hold it exactly
abbrev pub whole : Doc → Option Constant
whole (number n) = option_map integer (signed false n)
whole d = None

-- the text of the first constant, if there is one
abbrev pub first_spelling : List Constant → List ℕ
first_spelling [] = []
first_spelling (c ∷ cs) = spelling c

-- the texts of a template, each with the text of the constant behind it; none where a text is missing
abbrev pub template_text : Docs → List Constant → Option (List ℕ)
template_text no_docs cs = Some []
template_text (doc q qs) cs =
    option_and_then (λ t. option_map (λ rest. t ++ first_spelling cs ++ rest) (template_text qs (drop 1 cs))) (text_in (field_of (codes "cooked") q))

-- the constant of a template with those texts and constants
abbrev pub template_of : Docs → Option (List Constant) → Option Constant
template_of qs None = None
template_of qs (Some cs) = option_map string (template_text qs cs)

-- what the operator that is written so makes of the operand
abbrev pub unary_of : Option Constant → Option (List ℕ) → Option Constant
unary_of None t = None
unary_of (Some a) t = option_and_then (λ o. unary_constant o a) (option_and_then unary_written t)

-- what the operator that is written so makes of the operands
abbrev pub binary_of : Option Constant → Option Constant → Option (List ℕ) → Option Constant
binary_of None b t = None
binary_of (Some a) None t = None
binary_of (Some a) (Some b) t = option_and_then (λ o. binary_constant o a b) (option_and_then binary_written t)

-- the text of a literal text
abbrev pub literal_text : Doc → Option (List ℕ)
literal_text d = if is_kind kind.StringLiteral d then text_in (field_of (codes "value") d) else None

-- the constant of the member with that name of the enum that a bare name means
abbrev pub object_member : Env → List ℕ → Doc → Option Constant
object_member env x (node k i b e ds) =
    if same_kind k kind.IdentifierReference then option_and_then (λ t. env.member i t x) (text_in (named (codes "name") k ds)) else None
object_member env x d = None

-- the same, unless there is no such name or the access is optional
abbrev pub access_of : Env → Doc → Doc → Option (List ℕ) → Option Constant
access_of env optional object None = None
access_of env optional object (Some x) = if is_set optional then None else object_member env x object

-- the constant of a node of that form, with what is seen of its fields
abbrev pub node_constant : Env → Form → Kind → ℕ → Docs → (List ℕ → Seen) → Option Constant
node_constant env form.Number k i ds c = whole (named (codes "value") k ds)
node_constant env form.String k i ds c = option_map string (text_in (named (codes "value") k ds))
node_constant env form.Template k i ds c = template_of (elements (named (codes "quasis") k ds)) (c (codes "expressions")).all
node_constant env form.Parentheses k i ds c = (c (codes "expression")).one
node_constant env form.Unary k i ds c = unary_of (c (codes "argument")).one (text_in (named (codes "operator") k ds))
node_constant env form.Binary k i ds c = binary_of (c (codes "left")).one (c (codes "right")).one (text_in (named (codes "operator") k ds))
node_constant env form.Name k i ds c = option_and_then (env.bare i) (text_in (named (codes "name") k ds))
node_constant env form.Static k i ds c =
    access_of env (named (codes "optional") k ds) (named (codes "object") k ds) (text_in (field_of (codes "name") (named (codes "property") k ds)))
node_constant env form.Computed k i ds c =
    access_of env (named (codes "optional") k ds) (named (codes "object") k ds) (literal_text (named (codes "expression") k ds))
node_constant env form.Other k i ds c = None

abbrev mutual
  pub seen : Env → Doc → Seen
  seen env nil = nothing_seen
  seen env (flag b) = nothing_seen
  seen env (number n) = nothing_seen
  seen env (text t) = nothing_seen
  seen env (list ds) = record { one = None; all = all_of (each_seen env ds) }
  seen env (node k i b e ds) = record { one = node_constant env (form_of k) k i ds (field_seen env ds (row_of k)); all = None }

  -- of each of them
  pub each_seen : Env → Docs → List Seen
  each_seen env no_docs = []
  each_seen env (doc d ds) = seen env d ∷ each_seen env ds

  -- of the field of that name, by the rows of the table
  pub field_seen : Env → Docs → List Field → List ℕ → Seen
  field_seen env no_docs rs name = nothing_seen
  field_seen env (doc d ds) [] name = nothing_seen
  field_seen env (doc d ds) (r ∷ rs) name = if bytes_eq r.name name then seen env d else field_seen env ds rs name

-- the constant of an expression
abbrev pub constant : Env → Doc → Option Constant
constant env d = (seen env d).one

-- what is seen of the field of that name of a node
abbrev pub seen_in : Env → Node → List ℕ → Seen
seen_in env n name = field_seen env (docs_in n.parts.items) (row_of n.kind) name

-- of a list of constants of the program, what contracts see
abbrev pub constant_views : List ConstantValue → List Constant
constant_views cs = map constant_view cs
