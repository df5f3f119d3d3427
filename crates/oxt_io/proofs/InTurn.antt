-- One read or one write after another, as a single one.
use Rattle.std.proofs.Common.{◌≡◌, ℕ, ◌+◌, ◌-◌, ◌<◌, ◌≤◌, List, ◌++◌, length, min, take, drop, Option, Some, Ok, arith, ap, subst, sym, ◌∙◌, take-add, length-append, length-drop}
use Rattle.std.proofs.KnownBytes.{Consumes-trans, Appends-trans}
use Rattle.std.proofs.lemmas.List.{drop_all, take_all, take-append-drop, take-append-le}
use Rattle.std.specs.Io.KnownBytes.{Appends, Consumes, ReadConsumes}
use Rattle.oxt_io.specs.declared.outcome.Failed.{Failed}
use Rattle.oxt_io.specs.Passed.{GavePast}

-- bytes that went past what was left of the limit went past the limit
pub GavePast-after : (a b c : Option (List ℕ)) (bytes : List ℕ) (limit : ℕ) → length bytes ≤ limit
    → Consumes a b bytes → GavePast b c (limit - length bytes) → GavePast a c limit
GavePast-after a b c bytes limit within gave past =
    let beyond : limit - length bytes < length past.0 = past.2 in
    let over : limit < length (bytes ++ past.0) = simp length-append (omega arith) in
    (bytes ++ past.0, Consumes-trans a b c _ _ gave past.1, over)

-- the first bytes, and then n of `&bytes[done..]`
pub take-next : (bytes : List ℕ) (done n : ℕ)
    → take (done + n) bytes ≡ take done bytes ++ take n (take (length bytes - done) (drop done bytes))
take-next bytes done n =
    let rest : take (length bytes - done) (drop done bytes) ≡ drop done bytes =
    take_all _ _ (omega (arith, length-drop done bytes)) in
    take-add done n bytes ∙ ap (λ l. take done bytes ++ take n l) (sym rest)

-- a sink that took the first bytes, and then n of `&bytes[done..]`
pub Appends-next : (a b c : Option (List ℕ)) (bytes : List ℕ) (done n : ℕ)
    → Appends a b (take done bytes) → Appends b c (take n (take (length bytes - done) (drop done bytes)))
    → Appends a c (take (done + n) bytes)
Appends-next a b c bytes done n took next =
    subst (Appends a c) (sym (take-next bytes done n)) (Appends-trans a b c _ _ took next)

-- a read into the front of a buffer is a read into the buffer
pub ReadConsumes-front : (had has part rest : List ℕ) (n : ℕ) → n ≡ min (length had) (length part)
    → (0 < length (part ++ rest) → 0 < length part) → take n part ≡ take n had → has ≡ drop n had
    → ReadConsumes {E = Failed} (Some had) (Some has) (Ok n) (part ++ rest)
ReadConsumes-front had has part rest n count room given left =
    let within : n ≤ length part = omega arith in (
      sym (take-append-drop n had) ∙ ap (λ l. l ++ drop n had) (sym (take-append-le n part rest within ∙ given)) ∙ ap (λ l. take n (part ++ rest) ++ l) (sym left),
      λ none some. left ∙ drop_all n had (let some' : 0 < length part = room some in omega arith),
    )
