-- Whether a member of an enum can be looked up by its value.
use Rattle.std.specs.Prelude.{Bool, false, true, not, ◌&&◌, ◌||◌, codes, Option, None, Some}
use Rattle.oxt_grammar.specs.Places.{same_kind}
use Rattle.oxt_grammar.specs.declared.kind.Kind.{Kind}
use Rattle.oxt_grammar.specs.declared.kind.Kind.TheVariants as kind
use Rattle.oxt_names.specs.Constant.{Constant, integer, string}
use Rattle.oxt_tree.specs.Doc.{Doc, nil, flag, number, text, list, node, Docs, no_docs, doc}
use Rattle.oxt_tree.specs.Fields.{is_text, named}

-- parentheses, and an operation by `+`
abbrev pub is_joining : Kind → Docs → Bool
is_joining k ds =
    same_kind k kind.ParenthesizedExpression
    || (same_kind k kind.BinaryExpression && is_text (codes "+") (named (codes "operator") k ds))

abbrev pub is_text_kind : Kind → Bool
is_text_kind k = same_kind k kind.StringLiteral || same_kind k kind.TemplateLiteral

-- A text by its form: a literal of one, a template, or parentheses or `+` around such.
abbrev mutual
  pub is_text_form : Doc → Bool
  is_text_form nil = false
  is_text_form (flag b) = false
  is_text_form (number n) = false
  is_text_form (text t) = false
  is_text_form (list ds) = false
  is_text_form (node k i b e ds) = is_text_kind k || (is_joining k ds && some_text_form ds)

  pub some_text_form : Docs → Bool
  some_text_form no_docs = false
  some_text_form (doc d ds) = is_text_form d || some_text_form ds

-- a constant that is a text
abbrev pub is_text_constant : Option Constant → Bool
is_text_constant None = false
is_text_constant (Some (integer z)) = false
is_text_constant (Some (string t)) = true

-- A member can be looked up by its value where that is no text, neither as a constant nor by its form.
abbrev pub is_reversed : Option Constant → Doc → Bool
is_reversed c d = not (is_text_constant c) && not (is_text_form d)
