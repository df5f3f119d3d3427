-- What a node stands as, by what is around it.
use Rattle.std.specs.Prelude.{ℕ, Bool, true, false, ◌&&◌, if◌then◌else◌, codes}
use Rattle.std.specs.Str.{bytes_eq}
use Rattle.oxt_grammar.specs.Field.{Field}
use Rattle.oxt_grammar.specs.Places.{kind_in, same_kind}
use Rattle.oxt_grammar.specs.declared.category.Category.TheVariants as category
use Rattle.oxt_grammar.specs.declared.kind.Kind.{Kind}
use Rattle.oxt_grammar.specs.declared.kind.Kind.TheVariants as kind
use Rattle.oxt_inline.specs.Target.{holds_target}
use Rattle.oxt_inline.specs.declared.seat.Seat.{Seat}
use Rattle.oxt_inline.specs.declared.seat.Seat.TheVariants as seat

-- what stands in a wrapper or parentheses: a target in a target, and the element of a chain in such an element
abbrev pub passed : Seat → Seat
passed seat.Target = seat.Target
passed seat.Element = seat.Element
passed s = seat.Value

-- an enum, or a function or class that is an expression
abbrev pub has_own_name : Kind → Bool
has_own_name kind.TSEnumDeclaration = true
has_own_name kind.FunctionExpression = true
has_own_name kind.ClassExpression = true
has_own_name k = false

-- `import a = ..`, or a dotted name
abbrev pub has_dotted : Kind → Bool
has_dotted kind.TSImportEqualsDeclaration = true
has_dotted kind.TSQualifiedName = true
has_dotted k = false

-- what stands in either: a part of a kept `import a = B.C` in such a part
abbrev pub dotted : Seat → Seat
dotted seat.Alias = seat.Alias
dotted s = seat.Value

-- what a node of that kind and number is to its fields, by which `import a = ..` are kept
abbrev pub seat_by : (ℕ → Bool) → Seat → Kind → ℕ → Seat
seat_by ks s k i = if same_kind k kind.TSImportEqualsDeclaration then (if ks i then seat.Alias else seat.LeftOut) else s

-- what a node stands as in that field of a node of that kind
abbrev pub seat_in : Seat → Kind → Field → Seat
seat_in s k r =
    if kind_in category.Transparent k then passed s
    else if has_dotted k then dotted s
    else if same_kind k kind.ChainExpression then seat.Element
    else if same_kind k kind.ExportDeclaration then seat.Exported
    else if has_own_name k && bytes_eq r.name (codes "id") then seat.Name
    else if holds_target r.holds then seat.Target
    else seat.Value

abbrev pub is_value : Seat → Bool
is_value seat.Value = true
is_value s = false

abbrev pub is_exported : Seat → Bool
is_exported seat.Exported = true
is_exported s = false

abbrev pub is_name : Seat → Bool
is_name seat.Name = true
is_name s = false

abbrev pub is_constant : Seat → Bool
is_constant seat.Constant = true
is_constant s = false

abbrev pub is_alias : Seat → Bool
is_alias seat.Alias = true
is_alias s = false

abbrev pub is_left_out : Seat → Bool
is_left_out seat.LeftOut = true
is_left_out s = false
