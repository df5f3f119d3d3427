-- A list taken from one number and put behind that at another.
use Rattle.std.proofs.Common.{◌≡◌, ℕ, ◌∙◌, List, [], Bool, true, false, cond, Option, None, Some, unwrap_or, ap, arith, refl, sym}
use Rattle.std.proofs.lemmas.Grind.{common_steps}
use Rattle.oxt_stores.specs.Insertion.{Entry, followed}
use Rattle.oxt_injector.specs.Pending.{behind, moved, same_number, waiting, with_list, without_list}

pub apart : (m n : ℕ) → (m ≡ n → ⊥) → same_number m n ≡ false
apart m n differ = grind (arith, common_steps)

step : (b c : Bool) (x y : Option (List Entry)) (fs gs : List Entry) → fs ≡ gs → (b ≡ false → x ≡ y) → cond b None (cond c (Some fs) x) ≡ cond b None (cond c (Some gs) y)
step true c x y fs gs same off = refl
step false true x y fs gs same off = ap (λ es. Some es) same
step false false x y fs gs same off = off refl

-- what stays where the list was taken does not matter
pub moves : (p p' : ℕ → Option (List Entry)) (m n : ℕ) (es : List Entry) → same_number m n ≡ false → p m ≡ Some es → ((q : ℕ) → p' q ≡ with_list p m [] q) → (q : ℕ) → without_list (with_list p' n (followed (waiting p' n) es)) m q ≡ moved p m n q
moves p p' m n es far there taken q =
    let here : (q : ℕ) → same_number m q ≡ false → p' q ≡ p q = λ q off. taken q ∙ ap (λ b. cond b (Some []) (p q)) off in
    let same : waiting p' n ≡ waiting p n = ap (λ o. unwrap_or o []) (here n far) in
    let e : moved p m n q ≡ behind p (Some es) m n q = ap (λ b. cond b p (behind p (p m) m n) q) far ∙ ap (λ o. behind p o m n q) there in
    step (same_number m q) (same_number n q) (p' q) (p q) (followed (waiting p' n) es) (followed (waiting p n) es) (ap (λ fs. followed fs es) same) (here q) ∙ sym e
