-- Tables of constants, classes and types, as contracts see them.
use denote.Ref.{Bor}
use Rattle.std.proofs.Common.{◌≡◌, refl, sym, ap, ◌∙◌, ℕ, ◌+◌, ◌<◌, ◌≤◌, List, [], ◌∷◌, length, drop, get_or, Bool, true, false, cond, nat_eq, Option, None, Some, option_map, add-one, drop-cons}
use Rattle.std.specs.Map.{lookup, update, update_all}
use Rattle.std.specs.Option.{option_copied, option_or}
use Rattle.oxt_options.specs.Facts.{alias_at, constant_at, last_alias, last_constant}
use Rattle.oxt_options.specs.Lists.{by_number, constants_in, types_in}
use Rattle.oxt_options.specs.Metadata.{last_type, type_at}
use Rattle.oxt_options.specs.Seen.{constants_of}
use Rattle.oxt_names.specs.Constant.{Constant, constant_view}
use Rattle.oxt_names.specs.declared.constant.ConstantValue.{ConstantValue}
use Rattle.oxt_options.specs.declared.metadata.MetadataType.{MetadataType}
use Rattle.oxt_names.proofs.Lists.{drop_end}
use Rattle.oxt_names.specs.declared.ids.NodeId.{NodeId}

-- a look-up among views is the view of the look-up
pub constant_found : (es : List (ℕ × ConstantValue)) (n : ℕ) → option_map constant_view (lookup (nat_eq n) es) ≡ constant_at (constants_of es) n
constant_found [] n = refl
constant_found (e ∷ es) n = by (nat_eq n e.0) (constant_found es n)
  where
    by : (b : Bool) → option_map constant_view (lookup (nat_eq n) es) ≡ constant_at (constants_of es) n
        → option_map constant_view (cond b (Some e.1) (lookup (nat_eq n) es)) ≡ cond b (Some (constant_view e.1)) (constant_at (constants_of es) n)
    by true rest = refl
    by false rest = rest

-- the constant that a table lends, as contracts see it
pub constant_lent : (o : Option (Bor ConstantValue)) → option_map (λ (v : Bor ConstantValue). constant_view v.now) o ≡ option_map constant_view (option_copied o)
constant_lent None = refl
constant_lent (Some v) = refl

-- one more constant over those that stood
one_over : (o : Option Constant) (b : Bool) (v : ConstantValue) (p : Option ConstantValue)
    → option_or o (option_map constant_view (cond b (Some v) p)) ≡ option_or (option_or o (cond b (Some (constant_view v)) None)) (option_map constant_view p)
one_over (Some w) b v p = refl
one_over None true v p = refl
one_over None false v p = refl

-- constants put in turn over those that stood
all_over : (cs : List (NodeId × ConstantValue)) (f : ℕ → Option ConstantValue) (n : ℕ)
    → option_map constant_view (update_all nat_eq f (by_number cs) n) ≡ option_or (last_constant (constants_in cs) n) (option_map constant_view (f n))
all_over [] f n = refl
all_over (c ∷ cs) f n =
    all_over cs (update nat_eq f c.0.0 (Some c.1)) n ∙ one_over (last_constant (constants_in cs) n) (nat_eq c.0.0 n) c.1 (f n)

no_value : {V : Type 0} (o : Option V) → option_or o None ≡ o
no_value (Some w) = refl
no_value None = refl

-- A table into which constants were put in turn has the last of each node.
pub all_put : (cs : List (NodeId × ConstantValue)) (es : List (ℕ × ConstantValue))
    → ((n : ℕ) → lookup (nat_eq n) es ≡ update_all nat_eq (λ _. None) (by_number cs) n)
    → (n : ℕ) → constant_at (constants_of es) n ≡ last_constant (constants_in cs) n
all_put cs es put n =
    sym (constant_found es n) ∙ ap (option_map constant_view) (put n) ∙ all_over cs (λ _. None) n ∙ no_value (last_constant (constants_in cs) n)

-- one more value over those that stood
value_over : {V : Type 0} (o : Option V) (b : Bool) (v : V) (p : Option V) → option_or o (cond b (Some v) p) ≡ option_or (option_or o (cond b (Some v) None)) p
value_over (Some w) b v p = refl
value_over None true v p = refl
value_over None false v p = refl

-- classes put in turn over those that stood
aliases_over : (cs : List (ℕ × ℕ)) (f : ℕ → Option ℕ) (n : ℕ) → update_all nat_eq f cs n ≡ option_or (last_alias cs n) (f n)
aliases_over [] f n = refl
aliases_over (c ∷ cs) f n =
    aliases_over cs (update nat_eq f c.0 (Some c.1)) n ∙ value_over (last_alias cs n) (nat_eq c.0 n) c.1 (f n)

-- A table into which classes were put in turn has the last of each node.
pub aliases_put : (cs : List (ℕ × ℕ)) (es : List (ℕ × ℕ))
    → ((n : ℕ) → lookup (nat_eq n) es ≡ update_all nat_eq (λ _. None) cs n)
    → (n : ℕ) → alias_at es n ≡ last_alias cs n
aliases_put cs es put n = put n ∙ aliases_over cs (λ _. None) n ∙ no_value (last_alias cs n)

-- what was put of the types, with what is left of them, says what all of them say
abbrev pub IsPut : List (NodeId × MetadataType) → List (ℕ × MetadataType) → List (NodeId × MetadataType) → Type 0
IsPut all es left = (n : ℕ) → last_type (types_in all) n ≡ option_or (last_type (types_in left) n) (type_at es n)

pub none_put : (ts : List (NodeId × MetadataType)) → IsPut ts [] ts
none_put ts n = sym (no_value (last_type (types_in ts) n))

pub one_put : (all ts : List (NodeId × MetadataType)) (i : ℕ) (other : NodeId × MetadataType) (es es' : List (ℕ × MetadataType)) → i < length ts
    → ((n : ℕ) → type_at es' n ≡ cond (nat_eq (get_or ts i other).0.0 n) (Some (get_or ts i other).1) (type_at es n))
    → IsPut all es (drop i ts) → IsPut all es' (drop (i + 1) ts)
one_put all ts i other es es' within is so_far n =
    let here : drop i ts ≡ get_or ts i other ∷ drop (i + 1) ts = rw add-one (drop-cons ts i other within) in
    so_far n ∙ ap (λ us. option_or (last_type (types_in us) n) (type_at es n)) here
    ∙ sym (value_over (last_type (types_in (drop (i + 1) ts)) n) (nat_eq (get_or ts i other).0.0 n) (get_or ts i other).1 (type_at es n))
    ∙ ap (option_or (last_type (types_in (drop (i + 1) ts)) n)) (sym (is n))

pub each_put : (all ts : List (NodeId × MetadataType)) (i : ℕ) (es : List (ℕ × MetadataType)) → length ts ≤ i → IsPut all es (drop i ts)
    → (n : ℕ) → type_at es n ≡ last_type (types_in all) n
each_put all ts i es past so_far n = sym (so_far n ∙ ap (λ us. option_or (last_type (types_in us) n) (type_at es n)) (drop_end ts i past))

pub ruleset put_by_one = (none_put, one_put, each_put)

pub ruleset put_in_turn = (all_put, aliases_put)
