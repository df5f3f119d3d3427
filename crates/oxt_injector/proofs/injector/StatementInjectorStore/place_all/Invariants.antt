-- What is placed and taken so far, with what placing the statements left makes of it, is the whole.
use Rattle.std.proofs.Common.{◌≡◌, ℕ, ◌+◌, ◌≤◌, ◌++◌, length, vec_len, vec_capacity}
use Rattle.std.specs.Vec.Iter.{into_iter_items}
use Rattle.oxt_stores.specs.Insertion.{docs}
use Rattle.oxt_injector.specs.Pending.{pending}
use Rattle.oxt_injector.specs.Placed.{found, placed, without_all}
use Rattle.oxt_injector.proofs.injector.StatementInjectorStore.place_all.Given as goal

abbrev pub invariant-loop-statement : goal.invariant-loop-statement
invariant-loop-statement l = record {
  can_next : (goal.iterator-loop-statement).can_next l.statement-iterator;
  is_finite : (goal.iterator-loop-statement).is_finite l.statement-iterator;
  room : vec_len l.out + length (into_iter_items l.statement-iterator) + found (pending l.self) (docs (into_iter_items l.statement-iterator)) ≤ vec_capacity l.out;
  placed : docs l.out.items ++ placed (docs (into_iter_items l.statement-iterator)) (pending l.self) ≡ docs l.initial.out.items ++ placed (docs l.fn.statements.items) (pending l.initial.self);
  left : (n : ℕ) → without_all (pending l.self) (docs (into_iter_items l.statement-iterator)) n ≡ without_all (pending l.initial.self) (docs l.fn.statements.items) n;
}
