-- What a plan says of the calls of a source or a sink over memory.
use Rattle.std.specs.Prelude.{◌≡◌, ℕ, List, Contains}
use Rattle.oxt_io.specs.Counts.{next_count}
use Rattle.oxt_io.specs.declared.plan.Plan.{Plan}

-- the call that comes next is one that is to fail
abbrev pub IsDue : Plan → Type 0
IsDue p = Contains p.failing.items (next_count p.calls)

-- one more call was made, and the plan is the same
abbrev pub Called : Plan → Plan → Type 0
Called old new = (new.calls ≡ next_count old.calls) × (new.step ≡ old.step) × (new.failing.items ≡ old.failing.items)

-- a plan with this step and these failing calls, before the first call
abbrev pub IsFresh : Plan → ℕ → List ℕ → Type 0
IsFresh p step failing = (p.step ≡ step) × (p.failing.items ≡ failing) × (p.calls ≡ 0) × (p.faults ≡ 0)
