-- Where the values of accessors are stored.
use Rattle.std.specs.Fmt.{decimal}
use Rattle.std.specs.Prelude.{ℕ, List, ◌∷◌, ◌++◌, Bool, ◌||◌, if◌then◌else◌, Option, codes}
use Rattle.oxt_fields.specs.Text.{name_text, or_no_name}
use Rattle.oxt_grammar.specs.declared.kind.Kind.TheVariants as kind
use Rattle.oxt_tree.specs.Doc.{Doc, nil, flag, number, text, list, node}
use Rattle.oxt_tree.specs.Fields.{field_of, is_kind, is_set, text_in}

-- the text of a literal: its value, and where that is no whole number what was written
abbrev pub value_text : Doc → Option (List ℕ) → List ℕ
value_text nil raw = or_no_name raw
value_text (flag b) raw = or_no_name raw
value_text (number n) raw = decimal n
value_text (text t) raw = t
value_text (list ds) raw = or_no_name raw
value_text (node k i b e ds) raw = or_no_name raw

-- a key that is a literal, where it is not computed
abbrev pub is_literal : Doc → Bool
is_literal d = is_kind kind.StringLiteral d || (is_kind kind.NumericLiteral d || is_kind kind.BigIntLiteral d)

-- the text of a key that is not computed: the name, the value of a literal, and else its text as an expression
abbrev pub written_key : Doc → List ℕ
written_key d =
    if is_kind kind.IdentifierName d || is_kind kind.PrivateIdentifier d then or_no_name (text_in (field_of (codes "name") d))
    else if is_literal d then value_text (field_of (codes "value") d) (text_in (field_of (codes "raw") d))
    else name_text d

-- the text of a computed key, and what stands behind it in the name of the storage
abbrev pub computed_key : Doc → List ℕ
computed_key d = name_text d ++ codes "_computed_accessor_storage"

-- the same of another one
abbrev pub plain_key : Doc → List ℕ
plain_key d = written_key d ++ codes "_accessor_storage"

abbrev pub key_text : Bool → Doc → List ℕ
key_text computed d = if computed then computed_key d else plain_key d

-- The private name under which the value of an accessor is stored whose key needs no temporary.
abbrev pub storage_text : Doc → List ℕ
storage_text d = codes "_" ++ key_text (is_set (field_of (codes "computed") d)) (field_of (codes "key") d)
