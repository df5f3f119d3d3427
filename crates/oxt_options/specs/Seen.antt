-- The constants of a table as contracts see them.
use Rattle.std.specs.Prelude.{ℕ, List, map}
use Rattle.oxt_names.specs.Constant.{Constant, constant_view}
use Rattle.oxt_names.specs.declared.constant.ConstantValue.{ConstantValue}

-- each number with the constant that stands there
abbrev pub constants_of : List (ℕ × ConstantValue) → List (ℕ × Constant)
constants_of es = map (λ e. (e.0, constant_view e.1)) es
