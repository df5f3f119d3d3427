-- The text of a name.
use Rattle.std.specs.Prelude.{ℕ, List}
use Rattle.std.specs.Rc.{rc_str_bytes}
use Rattle.oxt_names.specs.Short.{short_bytes}
use Rattle.oxt_names.specs.declared.name.Name.{Name}
use Rattle.oxt_names.specs.declared.name.Text.{Text}
use Rattle.oxt_names.specs.declared.name.Text.TheVariants.{Short, Long}

abbrev pub text_bytes : Text → List ℕ
text_bytes (Short text) = short_bytes text
text_bytes (Long text) = rc_str_bytes text

abbrev pub name_bytes : Name → List ℕ
name_bytes name = text_bytes name.text
