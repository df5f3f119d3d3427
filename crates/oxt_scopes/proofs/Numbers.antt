-- Numbers of scopes that are put on those around a place, and taken off.
use Rattle.std.proofs.Common.{◌≡◌, ◌∙◌, refl, ap, ℕ, zero, suc, ◌-◌, List, [], ◌∷◌, ◌++◌, length, take, fold, arith}
use Rattle.oxt_scopes.specs.Nestings.{outer}
use Rattle.oxt_scopes.specs.Stack.{scope_numbers}
use Rattle.oxt_scopes.specs.declared.scope.Scope.{Scope}

abbrev pub deeper : List ℕ → Scope → List ℕ
deeper ns s = s.number.0 ∷ ns

push_from : (ns : List ℕ) (ss : List Scope) (s : Scope) → fold deeper ns (ss ++ s ∷ []) ≡ deeper (fold deeper ns ss) s
push_from ns [] s = refl
push_from ns (r ∷ ss) s = push_from (deeper ns r) ss s

pub numbers_push : (ss : List Scope) (s : Scope) → scope_numbers (ss ++ s ∷ []) ≡ s.number.0 ∷ scope_numbers ss
numbers_push ss s = push_from [] ss s

pop_from : (ns : List ℕ) (n : ℕ) (ss : List Scope) → length ss ≡ suc n → fold deeper ns (take n ss) ≡ outer (fold deeper ns ss)
pop_from ns n [] long = absurd (omega arith)
pop_from ns zero (s ∷ []) long = refl
pop_from ns zero (s ∷ r ∷ ss) long = absurd (omega arith)
pop_from ns (suc n) (s ∷ ss) long = pop_from (deeper ns s) n ss (omega arith)

pub numbers_pop : (before after : List Scope) → after ≡ take (length before - 1) before → scope_numbers after ≡ outer (scope_numbers before)
numbers_pop [] after is = ap scope_numbers is ∙ none (0 - 1)
  where
    none : (n : ℕ) → scope_numbers (take n []) ≡ []
    none zero = refl
    none (suc n) = refl
numbers_pop (s ∷ ss) after e =
    let long : length (s ∷ ss) - 1 ≡ length ss = omega arith in
    ap scope_numbers (e ∙ ap (λ n. take n (s ∷ ss)) long) ∙ pop_from [] (length ss) (s ∷ ss) refl

-- The scopes in a node are its own and those around it.
pub numbers_opened : (before after : List Scope) (s : Scope) (n : ℕ) (ns : List ℕ) → scope_numbers before ≡ ns → s.number.0 ≡ n → after ≡ before ++ s ∷ [] → scope_numbers after ≡ n ∷ ns
numbers_opened before after s n ns kept is put = ap scope_numbers put ∙ numbers_push before s ∙ ap (λ m. m ∷ scope_numbers before) is ∙ ap (λ ms. n ∷ ms) kept

-- The scopes are as before once the innermost is taken off.
pub numbers_closed : (before after : List Scope) (n m : ℕ) (ns : List ℕ) → scope_numbers before ≡ m ∷ ns → n ≡ length before → after ≡ take (n - 1) before → scope_numbers after ≡ ns
numbers_closed before after n m ns are long rest = numbers_pop before after (rest ∙ ap (λ k. take (k - 1) before) long) ∙ ap outer are
