-- The table of flags as contracts see it.
use Rattle.oxt_flags.specs.Flags.{FlagData}
use Rattle.oxt_flags.specs.declared.flags.Flag.{Flag}

abbrev pub flag_view : Flag → FlagData
flag_view f = record { name = f.name.now; takes_value = f.takes_value }
