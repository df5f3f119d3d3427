-- No declaration so far is a block of an enum.
use Rattle.std.proofs.Common.{◌≡◌, drop}
use Rattle.oxt_scoping.specs.Entries.{begins_const}
use Rattle.oxt_scoping.proofs.entry.begins_const.Given as goal

abbrev pub invariant-loop-declaration : goal.invariant-loop-declaration
invariant-loop-declaration l = begins_const l.declarations ≡ begins_const (drop l.declaration-index l.declarations)
