-- Tables by the numbers of nodes.
use Rattle.std.proofs.Common.{◌≡◌, refl, sym, ap, ◌∙◌, ℕ, List, [], ◌∷◌, Bool, true, false, cond, Option, None, Some, is_some, Ordering, Less, Equal, Greater, is_eq, nat_cmp, nat_eq, true≢false}
use Rattle.std.proofs.lemmas.Bool.{eq-eqb}
use Rattle.std.proofs.lemmas.Map.{lookup-none}
use Rattle.std.proofs.lemmas.Map.Entries.{none_below_head}
use Rattle.std.proofs.lemmas.Map.Keys.{sorted_tail}
use Rattle.std.specs.BTreeMap.{insert_entry, is_at}
use Rattle.std.specs.Cmp.{nat_cmp_total, unsigned_tied}
use Rattle.std.specs.List.Sorted.{IsStrictlySortedBy}
use Rattle.std.specs.Map.{keys_of, lookup, remove_entry, set_value}
use Rattle.std.specs.Option.{unwrap_or}
use Rattle.std.specs.Ordering.{match_ordering}
use Rattle.oxt_names.specs.declared.ids.NodeId.{NodeId}
use Rattle.oxt_scoping.specs.Scoped.{with_before}

-- a number is found where it compares as equal
pub number_test : (n : ℕ) → is_at (nat_cmp n) ≡ nat_eq n
number_test n = λ j k. unsigned_tied n k j

unlike : {V : Type 0} (w : V) → None ≡ Some w → ⊥
unlike w h = true≢false (sym (ap is_some h))

module _ {V : Type 0} (n : ℕ) where
  here : (e : ℕ × V) (es : List (ℕ × V)) (o : Option V) → true ≡ nat_eq n e.0 → lookup (nat_eq n) (e ∷ es) ≡ o → Some e.1 ≡ o
  here e es o q h = ap (λ b. cond b (Some e.1) (lookup (nat_eq n) es)) q ∙ h

  further : (e : ℕ × V) (es : List (ℕ × V)) (o : Option V) → false ≡ nat_eq n e.0 → lookup (nat_eq n) (e ∷ es) ≡ o → lookup (nat_eq n) es ≡ o
  further e es o q h = ap (λ b. cond b (Some e.1) (lookup (nat_eq n) es)) q ∙ h

  module _ (v : V) where
    -- what was put first is taken out again
    taken_out : (es : List (ℕ × V)) → lookup (nat_eq n) es ≡ None → remove_entry (nat_eq n) (insert_entry nat_cmp es n v) ≡ es
    taken_out [] h = ap (λ b. cond b [] ((n, v) ∷ [])) (eq-eqb n n refl)
    taken_out (e ∷ es) h = by (nat_cmp n e.0) (unsigned_tied n e.0) (taken_out es)
      where
        by : (o : Ordering) → is_eq o ≡ nat_eq n e.0 → (lookup (nat_eq n) es ≡ None → remove_entry (nat_eq n) (insert_entry nat_cmp es n v) ≡ es)
            → remove_entry (nat_eq n) (match_ordering o ((n, v) ∷ e ∷ es) ((e.0, v) ∷ es) (e ∷ insert_entry nat_cmp es n v)) ≡ e ∷ es
        by Less q rest = ap (λ b. cond b (e ∷ es) ((n, v) ∷ remove_entry (nat_eq n) (e ∷ es))) (eq-eqb n n refl)
        by Equal q rest = absurd (unlike e.1 (sym (here e es None q h)))
        by Greater q rest =
            ap (λ b. cond b (insert_entry nat_cmp es n v) (e ∷ remove_entry (nat_eq n) (insert_entry nat_cmp es n v))) (sym q) ∙ ap (λ l. e ∷ l) (rest (further e es None q h))

    -- what was put over a value is overwritten by it again
    written_back : (es : List (ℕ × V)) (w : V) → IsStrictlySortedBy nat_cmp (keys_of es) → lookup (nat_eq n) es ≡ Some w → set_value (nat_eq n) (insert_entry nat_cmp es n v) w ≡ es
    written_back [] w s h = absurd (unlike w h)
    written_back (e ∷ es) w s h = by (nat_cmp n e.0) refl (unsigned_tied n e.0) (written_back es w (sorted_tail nat_cmp e.0 (keys_of es) s))
      where
        by : (o : Ordering) → nat_cmp n e.0 ≡ o → is_eq o ≡ nat_eq n e.0 → (lookup (nat_eq n) es ≡ Some w → set_value (nat_eq n) (insert_entry nat_cmp es n v) w ≡ es)
            → set_value (nat_eq n) (match_ordering o ((n, v) ∷ e ∷ es) ((e.0, v) ∷ es) (e ∷ insert_entry nat_cmp es n v)) w ≡ e ∷ es
        by Less c q rest = absurd (unlike w (sym (lookup-none (is_at (nat_cmp n)) (e ∷ es) (none_below_head nat_cmp_total n e es s c)) ∙ ap (λ test. lookup test (e ∷ es)) (number_test n) ∙ h))
        by Equal c q rest =
            ap (λ b. cond b ((e.0, w) ∷ es) ((e.0, v) ∷ set_value (nat_eq n) es w)) (sym q) ∙ ap (λ o. (e.0, unwrap_or o w) ∷ es) (sym (here e es (Some w) q h))
        by Greater c q rest =
            ap (λ b. cond b ((e.0, w) ∷ insert_entry nat_cmp es n v) (e ∷ set_value (nat_eq n) (insert_entry nat_cmp es n v) w)) (sym q) ∙ ap (λ l. e ∷ l) (rest (further e es (Some w) q h))

-- a value that was put is undone
put_undone : {V : Type 0} (n : NodeId) (v : V) (o : Option V) (es : List (ℕ × V)) → IsStrictlySortedBy nat_cmp (keys_of es) → lookup (nat_eq n.0) es ≡ o → with_before n o (insert_entry nat_cmp es n.0 v) ≡ es
put_undone n v None es s h = taken_out n.0 v es h
put_undone n v (Some w) es s h = written_back n.0 v es w s h

pub undone : {V : Type 0} (n : NodeId) (v : V) (o : Option V) (es new : List (ℕ × V)) → IsStrictlySortedBy nat_cmp (keys_of es) → o ≡ lookup (is_at (nat_cmp n.0)) es → new ≡ insert_entry nat_cmp es n.0 v → with_before n o new ≡ es
undone n v o es new s was put = ap (λ xs. with_before n o xs) put ∙ put_undone n v o es s (ap (λ test. lookup test es) (sym (number_test n.0)) ∙ sym was)

pub looked_up : {V : Type 0} (n : ℕ) (es : List (ℕ × V)) → lookup (is_at (nat_cmp n)) es ≡ lookup (nat_eq n) es
looked_up n es = ap (λ test. lookup test es) (number_test n)

pub removed : {V : Type 0} (n : ℕ) (es : List (ℕ × V)) → remove_entry (is_at (nat_cmp n)) es ≡ remove_entry (nat_eq n) es
removed n es = ap (λ test. remove_entry test es) (number_test n)

pub overwritten : {V : Type 0} (n : ℕ) (es : List (ℕ × V)) (v : V) → set_value (is_at (nat_cmp n)) es v ≡ set_value (nat_eq n) es v
overwritten n es v = ap (λ test. set_value test es v) (number_test n)

-- where there is nothing there is nothing to overwrite
nothing_over : {V : Type 0} (n : ℕ) (v : V) (es : List (ℕ × V)) → lookup (nat_eq n) es ≡ None → es ≡ set_value (nat_eq n) es v
nothing_over n v [] h = refl
nothing_over n v (e ∷ es) h = by (nat_eq n e.0) h (nothing_over n v es)
  where
    by : (b : Bool) → cond b (Some e.1) (lookup (nat_eq n) es) ≡ None → (lookup (nat_eq n) es ≡ None → es ≡ set_value (nat_eq n) es v) → e ∷ es ≡ cond b ((e.0, v) ∷ es) (e ∷ set_value (nat_eq n) es v)
    by true h rest = absurd (unlike e.1 (sym h))
    by false h rest = ap (λ l. e ∷ l) (rest h)

pub nothing_overwritten : {V : Type 0} (n : ℕ) (v : V) (es new : List (ℕ × V)) → None ≡ lookup (is_at (nat_cmp n)) es → new ≡ es → new ≡ set_value (nat_eq n) es v
nothing_overwritten n v es new none same = same ∙ nothing_over n v es (sym (looked_up n es) ∙ sym none)
