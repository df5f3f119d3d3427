use Rattle.std.proofs.Common.{ℕ, arith, length-append, length-take, length-drop}
use Rattle.oxt_io.proofs.InTurn.{ReadConsumes-front}
use Rattle.oxt_io.proofs.memory.MemorySourceSource.read_some.Goals as goal

pub returns-clause-bytes : goal.returns-clause-bytes
returns-clause-bytes c = ReadConsumes-front _ _ _ _ _
    (omega (arith, length-take {A = ℕ}, length-drop {A = ℕ}))
    (λ h. omega (arith, length-append {A = ℕ}, length-take {A = ℕ}, length-drop {A = ℕ}))
    c.give.ensures.given c.give.ensures.rest
