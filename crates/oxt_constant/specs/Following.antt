-- The constants of the members of a block of an enum, by that of the member before.
use Rattle.std.specs.Prelude.{Bool, false, ◌&&◌, ◌==◌, if◌then◌else◌, Option, None, Some, option_map, ℤ, ◌+ℤ◌, pos, negsuc}
use Rattle.oxt_constant.specs.Evaluated.{Env, constant}
use Rattle.oxt_constant.specs.declared.member.Before.{Before}
use Rattle.oxt_constant.specs.declared.member.Before.TheVariants as before
use Rattle.oxt_names.specs.Constant.{Constant, constant_view, integer, string}
use Rattle.oxt_constant.specs.Integer.{kept, largest}
use Rattle.oxt_tree.specs.Doc.{Doc}
use Rattle.oxt_tree.specs.Fields.{is_nil}

-- what stands before a member in its block: nothing, or a member with or without a constant
pub data Preceding : Type 0 where
  nothing : Preceding
  member : Option Constant → Preceding

abbrev pub before_view : Before → Preceding
before_view before.Front = nothing
before_view (before.Behind v) = member (option_map constant_view v)

-- the constant of a member without initializer: the number after that of the member before, 0 at the front
abbrev pub following : Preceding → Option Constant
following nothing = Some (integer (pos 0))
following (member None) = None
following (member (Some (integer z))) = option_map integer (kept (z +ℤ pos 1))
following (member (Some (string t))) = None

-- the constant of a member with that initializer, or none where that is null
abbrev pub member_constant : Env → Preceding → Doc → Option Constant
member_constant env p d = if is_nil d then following p else constant env d

-- the largest constant
abbrev pub is_largest : ℤ → Bool
is_largest (pos n) = n == largest
is_largest (negsuc n) = false

-- the member before has the largest constant
abbrev pub after_largest : Preceding → Bool
after_largest nothing = false
after_largest (member None) = false
after_largest (member (Some (integer z))) = is_largest z
after_largest (member (Some (string t))) = false

-- a member without initializer behind the largest constant: it has none
abbrev pub is_wide : Preceding → Doc → Bool
is_wide p d = is_nil d && after_largest p
