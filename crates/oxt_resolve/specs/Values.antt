-- The constants of the members of enums, as the program looks them up.
use Rattle.oxt_enums.specs.Enums.{value_in_body}
use Rattle.oxt_enums.specs.declared.enums.EnumConstants.{EnumConstants}
use Rattle.oxt_resolve.specs.Resolved.{Values}

abbrev pub values_in : EnumConstants → Values
values_in e n t = value_in_body n t e
