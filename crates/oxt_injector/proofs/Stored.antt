-- What is stored at a number, and what waits there then.
use Rattle.std.proofs.Common.{◌≡◌, ℕ, List, [], ◌∷◌, Bool, true, false, cond, Option, None, Some, option_map, unwrap_or, arith, refl, sym, ap, ◌∙◌, length}
use Rattle.std.specs.BTreeMap.{BTreeMap, Updates, get, is_at}
use Rattle.std.specs.Cmp.{nat_cmp_is}
use Rattle.std.specs.Map.{lookup}
use Rattle.std.specs.declared.cmp.Ordering.TheVariants.{Equal}
use Rattle.std.specs.Ordering.{is_eq, nat_cmp}
use Rattle.oxt_injector.specs.Pending.{pending, same_number, waiting, with_list}
use Rattle.oxt_injector.specs.declared.injector.StatementInjectorStore.{StatementInjectorStore}
use Rattle.oxt_stores.specs.Insertion.{Entry, entries}
use Rattle.oxt_stores.specs.declared.insertions.Insertions.{Insertions}

chosen : (b : Bool) (o : Option Insertions) (j : Insertions) (es : List Entry) → entries j ≡ es → option_map entries (cond b (Some j) o) ≡ cond b (Some es) (option_map entries o)
chosen true o j es same = ap (λ x. Some x) same
chosen false o j es same = refl

-- a list stored at a number
pub stored : (old : StatementInjectorStore) (new : BTreeMap ℕ Insertions) (k : ℕ) (j : Insertions) (es : List Entry) → Updates nat_cmp old.insertions new k (Some j) → entries j ≡ es → (n : ℕ) → option_map entries (get nat_cmp new n) ≡ with_list (pending old) k es n
stored old new k j es update same n = ap (option_map entries) (update.0 n) ∙ chosen (same_number k n) (get nat_cmp old.insertions n) j es same

-- a list changed where there is one
pub changed : (old : StatementInjectorStore) (new : BTreeMap ℕ Insertions) (k : ℕ) (i j : Insertions) (f : List Entry → List Entry) → get nat_cmp old.insertions k ≡ Some i → Updates nat_cmp old.insertions new k (Some j) → entries j ≡ f (entries i) → (n : ℕ) → option_map entries (get nat_cmp new n) ≡ with_list (pending old) k (f (waiting (pending old) k)) n
changed old new k i j f there update same =
    stored old new k j (f (waiting (pending old) k)) update (same ∙ ap (λ o. f (unwrap_or (option_map entries o) [])) (sym there))

-- a map without entries has nothing at any number, and only such a map
pub empty_none : (es : List (ℕ × Insertions)) → length es ≡ 0 → (n : ℕ) → option_map entries (lookup (is_at (nat_cmp n)) es) ≡ None
empty_none [] empty n = refl
empty_none (e ∷ es) empty n = absurd (omega arith)

itself : (n : ℕ) → is_eq (nat_cmp n n) ≡ true
itself n = ap is_eq (sym (nat_cmp_is n n Equal refl))

pub none_empty : (es : List (ℕ × Insertions)) → ((n : ℕ) → option_map entries (lookup (is_at (nat_cmp n)) es) ≡ None) → length es ≡ 0
none_empty [] none = refl
none_empty (e ∷ es) none =
    let first : option_map entries (cond (is_eq (nat_cmp e.0 e.0)) (Some e.1) (lookup (is_at (nat_cmp e.0)) es)) ≡ Some (entries e.1) = ap (λ b. option_map entries (cond b (Some e.1) (lookup (is_at (nat_cmp e.0)) es))) (itself e.0) in
    absurd (cc (none e.0))
