-- The table of constants, one member after another.
use denote.Ref.{Bor}
use Rattle.std.proofs.Common.{◌≡◌, ◌∙◌, refl, sym, ap, ℕ, ◌+◌, ◌<◌, ◌≤◌, List, [], length, drop, get_or, Bool, true, false, ◌&&◌, cond, Option, Some, None, true≢false}
use Rattle.std.proofs.lemmas.Cmp.{nat_list_eq_equiv}
use Rattle.std.specs.Cmp.{nat_eq_equiv}
use Rattle.std.specs.HashMap.{HashMap, Updates, get}
use Rattle.std.specs.Option.{option_or}
use Rattle.std.specs.Prelude.{◌==◌, is_some, option_map}
use Rattle.std.specs.Str.{bytes_eq}
use Rattle.oxt_enums.proofs.Firsts.{name_found, same_names}
use Rattle.oxt_enums.specs.Tables.{Name, at_name}
use Rattle.oxt_inline.specs.Constants.{constant_lent, entry_at, first_valued, is_named, own_value, valued_view, valued_views}
use Rattle.oxt_inline.specs.declared.constants.Valued.{Valued}
use Rattle.oxt_names.specs.Constant.{Constant}
use Rattle.oxt_names.specs.declared.constant.ConstantValue.{ConstantValue}
use Rattle.oxt_names.proofs.Lists.{drop_at, drop_end}

abbrev pub Entries : Type 0
Entries = List (Name × Bor ConstantValue)

abbrev Table : Type 0 → Type 0
Table S = HashMap Name (Bor ConstantValue) S

-- a name as a key
abbrev named : ℕ → List ℕ → Name
named e x = (e, record { ref_ptr = (0, 0); now = x })

turned : (e n : ℕ) (x t : List ℕ) → (n == e && bytes_eq t x) ≡ (e == n && bytes_eq x t)
turned e n x t = λ i. nat_eq_equiv.symm n e i && nat_list_eq_equiv.symm t x i

comes : (b : Bool) (v : Bor ConstantValue) (o : Option (Bor ConstantValue)) → (b ≡ true → is_some o ≡ false) → option_map constant_lent (cond b (Some v) o) ≡ option_or (option_map constant_lent o) (cond b (Some (constant_lent v)) None)
comes true v (Some w) h = absurd (true≢false (h refl))
comes true v None h = refl
comes false v (Some w) h = refl
comes false v None h = refl

-- A constant that is put at a name which the table did not have comes to it.
pub name_comes : {S : Type 0} (k : Name) (v : Bor ConstantValue) (old new : Table S) → is_some (get same_names old k) ≡ false → Updates same_names old new k (Some v) → (e : ℕ) (x : List ℕ)
    → entry_at e x new.entries ≡ option_or (entry_at e x old.entries) (cond (e == k.0 && bytes_eq x k.1.now) (Some (constant_lent v)) None)
name_comes k v old new absent put e x =
    ap (option_map constant_lent) (put.0 (named e x) ∙ ap (λ b. cond b (Some v) (at_name e x old.entries)) (turned e k.0 x k.1.now))
    ∙ comes (e == k.0 && bytes_eq x k.1.now) v (at_name e x old.entries) (λ h. ap is_some (name_found k v e x old.entries h) ∙ absent)

-- The table has the constants of the members before a place; those from there on have the others.
abbrev pub SoFar : List Valued → ℕ → Entries → Type 0
SoFar ms i es = (e : ℕ) (x : List ℕ) → option_or (entry_at e x es) (first_valued (valued_views (drop i ms)) e x) ≡ first_valued (valued_views ms) e x

pub none_so_far : (ms : List Valued) (es : Entries) → es ≡ [] → SoFar ms 0 es
none_so_far ms es empty e x = ap (λ fs. option_or (entry_at e x fs) (first_valued (valued_views ms) e x)) empty

or_again : (a b c : Option Constant) → option_or (option_or a b) c ≡ option_or a (option_or b c)
or_again None b c = refl
or_again (Some v) b c = refl

or_none : (a : Option Constant) → option_or a None ≡ a
or_none None = refl
or_none (Some v) = refl

-- the first of the members is named so, or one of the others
first_or : (b : Bool) (v : Constant) (o : Option Constant) → option_or (cond b (Some v) None) o ≡ cond b (Some v) o
first_or true v o = refl
first_or false v o = refl

pub one_more : (ms : List Valued) (i : ℕ) (m : Valued) (old new : Entries) → i < length ms → m ≡ get_or ms i m → ((e : ℕ) (x : List ℕ) → entry_at e x new ≡ option_or (entry_at e x old) (own_value (valued_view m) e x)) → SoFar ms i old → SoFar ms (i + 1) new
one_more ms i m old new within at put so_far e x =
    let rest = first_valued (valued_views (drop (i + 1) ms)) e x in
    ap (λ o. option_or o rest) (put e x)
    ∙ or_again (entry_at e x old) (own_value (valued_view m) e x) rest
    ∙ ap (option_or (entry_at e x old)) (first_or (is_named e x (valued_view m)) (valued_view m).value rest ∙ sym (ap (λ ns. first_valued (valued_views ns) e x) (drop_at ms i m within at)))
    ∙ so_far e x

pub all_so_far : (ms : List Valued) (i : ℕ) (es : Entries) → length ms ≤ i → SoFar ms i es → (e : ℕ) (x : List ℕ) → entry_at e x es ≡ first_valued (valued_views ms) e x
all_so_far ms i es past so_far e x =
    sym (or_none (entry_at e x es)) ∙ ap (λ ns. option_or (entry_at e x es) (first_valued (valued_views ns) e x)) (sym (drop_end ms i past)) ∙ so_far e x

pub ruleset steps = (none_so_far, one_more, all_so_far)
