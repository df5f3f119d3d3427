-- The enums of a tree with the constants of their members, as contracts see them.
use Rattle.std.specs.Prelude.{ℕ, ◌≡◌, ◌≤◌, List, Bool, false, Option, None, Some, map}
use Rattle.oxt_constant.specs.Metered.{most_text}
use Rattle.oxt_enums.specs.Blocks.{Block}
use Rattle.oxt_enums.specs.Constants.{Known, Told, first_value, flat, has_number, is_in_body, is_in_enum, told, told_views}
use Rattle.oxt_enums.specs.Groups.{Enum, enum_at, enum_in}
use Rattle.oxt_enums.specs.Held.{held}
use Rattle.oxt_enums.specs.Tables.{in_bodies, in_enums, in_numbers}
use Rattle.oxt_enums.specs.declared.enums.EnumConstants.{EnumConstants}
use Rattle.oxt_names.specs.Constant.{Constant}
use Rattle.oxt_names.specs.declared.ids.Span.{Span}

-- the constants of all members, in the order of the text
abbrev pub list_of : EnumConstants → List Told
list_of e = told_views e.members.constants.items

-- the constant of the member of that number
abbrev pub value_at : ℕ → EnumConstants → Option Constant
value_at i e = flat (in_numbers i e.members.tables)

-- the constant of the member of that name in the body of that number
abbrev pub value_in_body : ℕ → List ℕ → EnumConstants → Option Constant
value_in_body n t e = flat (in_bodies n t e.members.tables)

-- the constant of the member of that name in the enum of that name of the scope of that number
abbrev pub value_in_enum : ℕ → List ℕ → List ℕ → EnumConstants → Option Constant
value_in_enum n x t e = flat (in_enums n x t e.members.tables)

-- the enum of that name that the scope of that number declares
abbrev pub enum_named : ℕ → List ℕ → EnumConstants → Option Enum
enum_named n t e = enum_at n t e.groups

-- The table is that of these members and these blocks, and their texts hold no more bytes than they may.
pub record Describes (e : EnumConstants) (ks : List Known) (bs : List Block) : Type 0 where
  pub list : list_of e ≡ map told ks
  pub within : held (list_of e) ≤ most_text
  pub numbers : (i : ℕ) → value_at i e ≡ flat (first_value (has_number i) ks)
  pub bodies : (n : ℕ) (t : List ℕ) → value_in_body n t e ≡ flat (first_value (is_in_body n t) ks)
  pub enums : (n : ℕ) (x t : List ℕ) → value_in_enum n x t e ≡ flat (first_value (is_in_enum n x t) ks)
  pub blocks : (n : ℕ) (t : List ℕ) → enum_named n t e ≡ enum_in bs n t

-- whether an enum is `const`, if there is one
abbrev pub says_const : Option Enum → Bool
says_const None = false
says_const (Some e) = e.is_const

abbrev pub bodies_of : Enum → List ℕ
bodies_of e = e.bodies

-- where a member stands in the source text
abbrev pub place_of : Told → ℕ × ℕ
place_of t = (t.start, t.end)

abbrev pub span_view : Span → ℕ × ℕ
span_view s = (s.start, s.end)

abbrev pub is_too_large : Told → Bool
is_too_large t = t.is_wide
