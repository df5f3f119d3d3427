-- Scopes that are put on those around a place, and taken off.
use Rattle.std.proofs.Common.{◌≡◌, ◌∙◌, refl, sym, ap, ℕ, zero, suc, ◌-◌, List, [], ◌∷◌, ◌++◌, length, take, fold, arith}
use Rattle.oxt_scopes.specs.Owners.{outside}
use Rattle.oxt_scopes.specs.Scopes.{Level}
use Rattle.oxt_scopes.specs.Stack.{level_of, levels}
use Rattle.oxt_scopes.specs.declared.scope.Scope.{Scope}

abbrev pub deeper : List Level → Scope → List Level
deeper ls s = level_of s ls ∷ ls

push_from : (ls : List Level) (ss : List Scope) (s : Scope) → fold deeper ls (ss ++ s ∷ []) ≡ deeper (fold deeper ls ss) s
push_from ls [] s = refl
push_from ls (r ∷ ss) s = push_from (deeper ls r) ss s

pub levels_push : (ss : List Scope) (s : Scope) → levels (ss ++ s ∷ []) ≡ level_of s (levels ss) ∷ levels ss
levels_push ss s = push_from [] ss s

pop_from : (ls : List Level) (n : ℕ) (ss : List Scope) → length ss ≡ suc n → fold deeper ls (take n ss) ≡ outside (fold deeper ls ss)
pop_from ls n [] long = absurd (omega arith)
pop_from ls zero (s ∷ []) long = refl
pop_from ls zero (s ∷ r ∷ ss) long = absurd (omega arith)
pop_from ls (suc n) (s ∷ ss) long = pop_from (deeper ls s) n ss (omega arith)

pub levels_pop : (before after : List Scope) → after ≡ take (length before - 1) before → levels after ≡ outside (levels before)
levels_pop [] after is = ap levels is ∙ none (0 - 1)
  where
    none : (n : ℕ) → levels (take n []) ≡ []
    none zero = refl
    none (suc n) = refl
levels_pop (s ∷ ss) after is =
    let long : length (s ∷ ss) - 1 ≡ length ss = omega arith in
    ap levels (is ∙ ap (λ n. take n (s ∷ ss)) long) ∙ pop_from [] (length ss) (s ∷ ss) refl

-- The scopes inside and outside of a node are as the definition has them.
pub levels_opened : (before after : List Scope) (s : Scope) (l : List Level → Level) (ls : List Level) → levels before ≡ ls → ((ks : List Level) → level_of s ks ≡ l ks) → after ≡ before ++ s ∷ [] → levels after ≡ l ls ∷ ls
levels_opened before after s l ls kept is put = ap levels put ∙ levels_push before s ∙ ap (λ k. k ∷ levels before) (is (levels before)) ∙ ap (λ ks. l ks ∷ ks) kept

-- The scopes are as before once the innermost is taken off.
pub levels_closed : (before after : List Scope) (n : ℕ) (l : Level) (ls : List Level) → levels before ≡ l ∷ ls → n ≡ length before → after ≡ take (n - 1) before → levels after ≡ ls
levels_closed before after n l ls are long rest = levels_pop before after (rest ∙ ap (λ m. take (m - 1) before) long) ∙ ap outside are

-- The same scopes with the innermost taken off, changed in nothing, and put on again.
pub levels_again : (before front changed after : List Scope) (s : Scope) → before ≡ front ++ s ∷ [] → levels changed ≡ levels front → after ≡ changed ++ s ∷ [] → levels after ≡ levels before
levels_again before front changed after s is kept put =
    ap levels put ∙ levels_push changed s ∙ ap (λ ks. level_of s ks ∷ ks) kept ∙ sym (ap levels is ∙ levels_push front s)

pub levels_around : (before front : List Scope) (s : Scope) → before ≡ front ++ s ∷ [] → levels front ≡ outside (levels before)
levels_around before front s is = sym (ap (λ ss. outside (levels ss)) is ∙ ap outside (levels_push front s))
