-- The arguments of the flags, as `clap` finds them.
use Rattle.std.proofs.Common.{◌≡◌, ◌∙◌, ◌||◌, ℕ, Bool, true, false, refl, sym, ap, cond, List, [], ◌∷◌, map, Option, Some, None, option_map}
use Rattle.std.specs.List.{find}
use Rattle.std.specs.Str.{bytes_eq}
use Rattle.std.proofs.lemmas.Slice.Eq.{bytes_eq-Decides}
use Rattle.clap.specs.Walk.{Rule, arg_by_id, arg_by_index, arg_by_long, arg_by_short, takes_values}
use Rattle.clap.specs.Simple.{filled_from}
use Rattle.clap.proofs.WalkLemmas.{find-map}
use Rattle.oxt_flags.specs.Flags.{FlagData, Text}
use Rattle.oxt_flags.specs.Matching.{full_rule, rule_for}

abbrev pub rules_for : List FlagData → List Rule
rules_for fs = map full_rule fs

abbrev pub named : List FlagData → Text → Option FlagData
named fs name = find (λ f. bytes_eq f.name name) fs

-- no argument is a positional, so none gets a place
pub all_filled : (fs : List FlagData) (i : ℕ) → filled_from i (map rule_for fs) ≡ rules_for fs
all_filled [] i = refl
all_filled (f ∷ fs) i = ap (λ rest. full_rule f ∷ rest) (all_filled fs i)

pub by_id : (fs : List FlagData) (id : Text) → arg_by_id (rules_for fs) id ≡ option_map full_rule (named fs id)
by_id fs id = sym (find-map (λ (a : Rule). bytes_eq a.id id) full_rule fs)

pub by_long : (fs : List FlagData) (name : Text) → arg_by_long (rules_for fs) name ≡ option_map full_rule (named fs name)
by_long [] name = refl
by_long (f ∷ fs) name = go (bytes_eq f.name name) (by_long fs name)
  where
    go : (b : Bool) → arg_by_long (rules_for fs) name ≡ option_map full_rule (named fs name)
        → cond (b || false) (Some (full_rule f)) (arg_by_long (rules_for fs) name) ≡ option_map full_rule (cond b (Some f) (named fs name))
    go true e = refl
    go false e = e

pub by_short : (fs : List FlagData) (x : ℕ) → arg_by_short (rules_for fs) x ≡ None
by_short [] x = refl
by_short (f ∷ fs) x = by_short fs x

pub by_index : (fs : List FlagData) (i : ℕ) → arg_by_index (rules_for fs) i ≡ None
by_index [] i = refl
by_index (f ∷ fs) i = by_index fs i

pub takes_is : (name : Text) (b : Bool) → takes_values (full_rule (record { name = name; takes_value = b })) ≡ b
takes_is name true = refl
takes_is name false = refl

pub same_text : (t : Text) → bytes_eq t t ≡ true
same_text t = (bytes_eq-Decides t t).1 refl

found_passes : {X : Type 0} (p : X → Bool) (xs : List X) (x : X) → find p xs ≡ Some x → p x ≡ true
found_passes p [] x e = absurd (cc)
found_passes p (y ∷ ys) x e = go (p y) refl e (found_passes p ys x)
  where
    go : (b : Bool) → p y ≡ b → cond b (Some y) (find p ys) ≡ Some x → (find p ys ≡ Some x → p x ≡ true) → p x ≡ true
    go true passes is rest = let same : y ≡ x = cc in ap p (sym same) ∙ passes
    go false passes is rest = rest is

-- the flag that is found has the name
pub named_is : (fs : List FlagData) (name : Text) (f : FlagData) → named fs name ≡ Some f → f.name ≡ name
named_is fs name f e = (bytes_eq-Decides f.name name).0 (found_passes (λ (g : FlagData). bytes_eq g.name name) fs f e)

pub named_again : (fs : List FlagData) (name : Text) (f : FlagData) → named fs name ≡ Some f → named fs f.name ≡ Some f
named_again fs name f e = ap (named fs) (named_is fs name f e) ∙ e
