use Rattle.std.proofs.Common.{◌≡◌, map, take}
use Rattle.clap.specs.Words.{app_of}
use Rattle.oxt_flags.specs.Matching.{app_with}
use Rattle.oxt_flags.specs.Views.{flag_view}
use Rattle.oxt_flags.proofs.matching.command_of.Given as goal

abbrev pub invariant-loop-flag : goal.invariant-loop-flag
invariant-loop-flag l = app_of l.command ≡ app_with (map flag_view (take l.flag-index l.flag-items))
