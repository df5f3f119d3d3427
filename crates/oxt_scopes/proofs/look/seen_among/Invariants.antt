-- What is left decides.
use Rattle.std.proofs.Common.{◌≡◌}
use Rattle.oxt_scopes.specs.Stack.{seen_at}
use Rattle.oxt_scopes.proofs.look.seen_among.Given as goal

abbrev pub invariant-loop-own : goal.invariant-loop-own
invariant-loop-own l = seen_at l.name l.names.entries ≡ seen_at l.name l.own-iterator
