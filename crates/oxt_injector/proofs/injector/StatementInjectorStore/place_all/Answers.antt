use Rattle.std.proofs.Common.{◌≡◌, ◌∙◌, ◌∷◌, ◌+◌, ◌≤◌, ◌++◌, ap, arith, length, rules, subst, sym, vec_capacity, vec_len}
use Rattle.std.specs.Vec.Iter.{into_iter_items}
use Rattle.oxt_tree.specs.View.{part_doc}
use Rattle.oxt_stores.specs.Insertion.{docs}
use Rattle.oxt_injector.specs.Pending.{pending}
use Rattle.oxt_injector.specs.Placed.{found, placed, without_all}
use Rattle.oxt_injector.proofs.Placing.{found_left, left_more, placed_more}
use Rattle.oxt_injector.proofs.injector.StatementInjectorStore.place_all.Goals as goal

pub loop-statement-preserved : goal.loop-statement-preserved
loop-statement-preserved c =
    let out = c.loop-statement.out in
    let rest = into_iter_items c.next.new.self in
    let split : into_iter_items c.loop-statement.statement-iterator ≡ c.in-Some.statement ∷ into_iter_items c.next.new.self = search rules in
    let room : vec_len c.loop-statement.out + length (c.in-Some.statement ∷ into_iter_items c.next.new.self) + found (pending c.loop-statement.self) (docs (c.in-Some.statement ∷ into_iter_items c.next.new.self)) ≤ vec_capacity c.loop-statement.out = subst (λ ps. vec_len c.loop-statement.out + length ps + found (pending c.loop-statement.self) (docs ps) ≤ vec_capacity c.loop-statement.out) split c.loop-statement.invariant.room in
    let fewer = found_left (pending c.loop-statement.self) (pending c.place.new.self) (part_doc c.in-Some.statement) (docs rest) c.place.ensures.left in
    record {
      can_next = tt;
      is_finite = tt;
      room = omega (arith, room, fewer);
      placed = placed_more (pending c.loop-statement.self) (pending c.place.new.self) (part_doc c.in-Some.statement) (docs rest) (docs out.items) (docs c.place.new.out.items) _ c.place.ensures.left c.place.ensures.placed (ap (λ ps. docs out.items ++ placed (docs ps) (pending c.loop-statement.self)) (sym split) ∙ c.loop-statement.invariant.placed);
      left = λ n. left_more (pending c.loop-statement.self) (pending c.place.new.self) (part_doc c.in-Some.statement) (docs rest) c.place.ensures.left n ∙ (ap (λ ps. without_all (pending c.loop-statement.self) (docs ps) n) (sym split) ∙ c.loop-statement.invariant.left n);
    }
