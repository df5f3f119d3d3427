-- Blocks of enums around a place, one after the other.
use Rattle.std.proofs.Common.{◌≡◌, ◌∙◌, sym, ap, ℕ, ◌+◌, ◌<◌, ◌≤◌, List, length, drop, get_or, fold}
use Rattle.oxt_names.proofs.Lists.{drop_at, drop_end}
use Rattle.oxt_facts.specs.Owners.{inner_if}
use Rattle.oxt_facts.specs.declared.facts.Inner.{Inner}

pub no_further : (g found : ℕ) (bs : List Inner) (i : ℕ) → length bs ≤ i → fold (inner_if g) found (drop i bs) ≡ found
no_further g found bs i h = ap (fold (inner_if g) found) (drop_end bs i h)

pub one_further : (g before after : ℕ) (bs : List Inner) (i : ℕ) (b : Inner) → i < length bs → b ≡ get_or bs i b → after ≡ inner_if g before b
    → fold (inner_if g) before (drop i bs) ≡ fold (inner_if g) after (drop (i + 1) bs)
one_further g before after bs i b h e is =
    ap (fold (inner_if g) before) (drop_at bs i b h e)
    ∙ ap (λ found. fold (inner_if g) found (drop (i + 1) bs)) (sym is)

pub ruleset steps = (one_further, no_further)
