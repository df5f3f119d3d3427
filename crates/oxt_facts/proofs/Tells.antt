-- Tables of what is told of nodes, as contracts see them.
use denote.Ref.{Bor}
use Rattle.std.proofs.Common.{◌≡◌, refl, ap, ◌∙◌, ℕ, List, [], ◌∷◌, Bool, true, false, cond, nat_cmp, nat_eq, Ordering, Less, Equal, Greater, Option, None, Some, option_map}
use Rattle.std.specs.BTreeMap.{insert_entry, is_at}
use Rattle.std.specs.Cmp.{unsigned_tied}
use Rattle.std.specs.Map.{lookup}
use Rattle.std.specs.Option.{option_copied}
use Rattle.std.specs.Ordering.{match_ordering}
use Rattle.oxt_facts.specs.Told.{told_of, told_view, told_views}
use Rattle.oxt_facts.specs.declared.told.Told.{Told}

-- a number is found where it compares as equal
pub at_number : {V : Type 0} (n : ℕ) (es : List (ℕ × V)) → lookup (is_at (nat_cmp n)) es ≡ lookup (nat_eq n) es
at_number n es = ap (λ test. lookup test es) (λ j k. unsigned_tied n k j)

-- a look-up among views is the view of the look-up
pub told_found : (es : List (ℕ × Told)) (n : ℕ) → option_map told_view (lookup (nat_eq n) es) ≡ told_of (told_views es) n
told_found [] n = refl
told_found (e ∷ es) n = by (nat_eq n e.0) (told_found es n)
  where
    by : (b : Bool) → option_map told_view (lookup (nat_eq n) es) ≡ told_of (told_views es) n
        → option_map told_view (cond b (Some e.1) (lookup (nat_eq n) es)) ≡ cond b (Some (told_view e.1)) (told_of (told_views es) n)
    by true rest = refl
    by false rest = rest

-- what a table lends, as contracts see it
pub told_lent : (o : Option (Bor Told)) → option_map (λ (t : Bor Told). told_view t.now) o ≡ option_map told_view (option_copied o)
told_lent None = refl
told_lent (Some t) = refl

-- the views of a table with one telling more
told_put : (es : List (ℕ × Told)) (n : ℕ) (t : Told) → told_views (insert_entry nat_cmp es n t) ≡ insert_entry nat_cmp (told_views es) n (told_view t)
told_put [] n t = refl
told_put (e ∷ es) n t = by (nat_cmp n e.0) (told_put es n t)
  where
    by : (o : Ordering) → told_views (insert_entry nat_cmp es n t) ≡ insert_entry nat_cmp (told_views es) n (told_view t)
        → told_views (match_ordering o ((n, t) ∷ e ∷ es) ((e.0, t) ∷ es) (e ∷ insert_entry nat_cmp es n t))
        ≡ match_ordering o ((n, told_view t) ∷ (e.0, told_view e.1) ∷ told_views es) ((e.0, told_view t) ∷ told_views es) ((e.0, told_view e.1) ∷ insert_entry nat_cmp (told_views es) n (told_view t))
    by Less rest = refl
    by Equal rest = refl
    by Greater rest = ap (λ ts. (e.0, told_view e.1) ∷ ts) rest

pub told_more : (es new : List (ℕ × Told)) (n : ℕ) (t : Told) → new ≡ insert_entry nat_cmp es n t → told_views new ≡ insert_entry nat_cmp (told_views es) n (told_view t)
told_more es new n t is = ap told_views is ∙ told_put es n t
