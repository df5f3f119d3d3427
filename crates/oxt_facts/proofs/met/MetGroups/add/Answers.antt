-- The group has the next number.
use Rattle.std.proofs.Common.{◌≡◌, ◌∙◌, sym, ap, ◌++◌, ◌∷◌, [], cond, length, nat_eq, position, Some, ℕ}
use Rattle.std.specs.Cmp.{nat_eq_equiv}
use Rattle.std.specs.Map.{lookup}
use Rattle.oxt_facts.proofs.Places.{numbered_more}
use Rattle.oxt_facts.proofs.met.MetGroups.add.Goals as goal

pub invariant_of-self-2 : goal.invariant_of-self-2
invariant_of-self-2 c =
    let g = c.args.group in
    let old = λ (q : ℕ). lookup (nat_eq q) c.self.inside.numbers.entries in
    let new = λ (q : ℕ). lookup (nat_eq q) c.insert.new.self.entries in
    let number : c.len.result ≡ length c.self.inside.groups.items = c.len.ensures ∙ c.reserve.new.self.ok.0 ∙ ap length c.in_ok-reserve.ensures.items in
    λ q.
    numbered_more nat_eq_equiv old new c.self.inside.groups.items g c.self.invariant
    (λ r. c.in_ok-insert.ensures.updates.0 r ∙ ap (λ n. cond (nat_eq g r) (Some n) (old r)) number)
    (ap (position (nat_eq g)) c.self.view_is ∙ c.requires) q
    ∙ ap (position (nat_eq q)) (sym (c.push_reserved.ensures ∙ ap (λ gs. gs ++ g ∷ []) c.in_ok-reserve.ensures.items))
