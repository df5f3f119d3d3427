-- What the tables tell of a member, and what is known of it.
use Rattle.std.proofs.Common.{◌≡◌, ◌∙◌, refl, sym, ap, subst, ℕ, ◌+◌, ◌<◌, ◌≤◌, List, [], ◌∷◌, ◌++◌, take, length, get_or, Bool, ◌&&◌, Option, Some, None, arith}
use Rattle.std.proofs.lemmas.List.{map-append, take_all, take_more}
use Rattle.std.proofs.lemmas.List.Sums.{fold-append}
use Rattle.std.specs.Option.{option_and_then}
use Rattle.std.specs.Prelude.{option_map}
use Rattle.oxt_constant.specs.Following.{before_view, is_wide, member, member_constant}
use Rattle.oxt_constant.specs.Metered.{most_text}
use Rattle.oxt_constant.specs.declared.member.Before.{Before}
use Rattle.oxt_enums.specs.Blocks.{Block, block_view}
use Rattle.oxt_enums.specs.Constants.{Known, Told, all_known, flat, is_emitted_block, known_behind, meanings, one_more, preceding, told, told_view, told_views}
use Rattle.oxt_enums.specs.Held.{held, held_by}
use Rattle.oxt_enums.specs.Members.{Found, found_view, found_views}
use Rattle.oxt_enums.specs.Tables.{Knows, Tells, home_at, owner_at, preceding_at, table_meanings, value_view}
use Rattle.oxt_enums.specs.declared.blocks.EnumBlock.{EnumBlock}
use Rattle.oxt_enums.specs.declared.budget.TextBudget.{TextBudget}
use Rattle.oxt_enums.specs.declared.constants.Evaluated.{Evaluated}
use Rattle.oxt_enums.specs.declared.constants.MemberConstant.{MemberConstant}
use Rattle.oxt_enums.specs.declared.homes.Homes.{Homes}
use Rattle.oxt_enums.specs.declared.members.Member.{Member}
use Rattle.oxt_enums.specs.declared.owners.Owners.{Owners}
use Rattle.oxt_enums.specs.declared.tables.Tables.{Tables}
use Rattle.oxt_scopes.specs.Stack.{number_at}
use Rattle.oxt_names.specs.declared.constant.ConstantValue.{ConstantValue}

same_meanings : (o : Owners) (t : Tables) (ks : List Known) → Knows t ks → table_meanings o t ≡ meanings (λ i. owner_at i o) ks
same_meanings o t ks knows = λ j. record {
  bare = λ i x. option_and_then (λ n. flat (knows.bodies n x j)) (owner_at i o);
  member = λ i e x. option_and_then (λ n. flat (knows.enums n e x j)) (owner_at i o);
}

same_preceding : (p : Option ℕ) (t : Tables) (ks : List Known) → Knows t ks → preceding_at p t ≡ preceding p ks
same_preceding None t ks knows = refl
same_preceding (Some i) t ks knows = ap (λ v. member (flat v)) (knows.numbers i)

-- what comes to the list
abbrev constant_for : Member → Option ConstantValue → Bool → MemberConstant
constant_for m v w = record { node = m.node.now.id; span = m.node.now.span; value = v; is_wide = w }

-- what comes to what is known
abbrev known_for : Member → Option EnumBlock → Option ConstantValue → Bool → Known
known_for m b v w = record { member = found_view m; block = option_map block_view b; value = value_view v; is_wide = w }

pub one_told : (o : Owners) (h : Homes) (old new : Evaluated) (m : Member) (b : Option EnumBlock) (p : Before) (v : Option ConstantValue) (w : Bool)
    → option_map block_view b ≡ home_at m.place.block.0 h
    → before_view p ≡ preceding_at (number_at m.place.previous) old.tables
    → w ≡ (is_emitted_block (option_map block_view b) && is_wide (before_view p) (found_view m).initializer)
    → value_view v ≡ member_constant (table_meanings o old.tables) (before_view p) (found_view m).initializer
    → ((ks : List Known) (x : Bool) → Knows old.tables ks → Knows new.tables (ks ++ known_for m b v x ∷ []))
    → new.constants.items ≡ old.constants.items ++ constant_for m v w ∷ []
    → (ks : List Known) → Tells old ks → Tells new (one_more (λ i. owner_at i o) (λ i. home_at i h) ks (found_view m))
one_told o h old new m b p v w home before wide value put pushed ks tells =
    subst (λ k. Tells new (ks ++ k ∷ [])) same (record {
      list = ap told_views pushed ∙ map-append told_view old.constants.items (constant_for m v w ∷ []) ∙ ap (λ ts. ts ++ told (known_for m b v w) ∷ []) tells.list ∙ sym (map-append told ks (known_for m b v w ∷ []));
      tables = put ks w tells.tables;
    })
  where
    front : before_view p ≡ preceding (number_at m.place.previous) ks
    front = before ∙ same_preceding (number_at m.place.previous) old.tables ks tells.tables

    valued : value_view v ≡ member_constant (meanings (λ i. owner_at i o) ks) (preceding (number_at m.place.previous) ks) (found_view m).initializer
    valued = value ∙ (λ j. member_constant (same_meanings o old.tables ks tells.tables j) (front j) (found_view m).initializer)

    widened : w ≡ (is_emitted_block (home_at m.place.block.0 h) && is_wide (preceding (number_at m.place.previous) ks) (found_view m).initializer)
    widened = wide ∙ (λ j. is_emitted_block (home j) && is_wide (front j) (found_view m).initializer)

    same : known_for m b v w ≡ known_behind (λ i. owner_at i o) (λ i. home_at i h) ks (found_view m)
    same = λ j. record { member = found_view m; block = home j; value = valued j; is_wide = widened j }

-- what is known of the members in front of a place
abbrev pub KnownTo : ℕ → Owners → Homes → List Member → Evaluated → Type 0
KnownTo i o h ms c = Tells c (all_known (λ n. owner_at n o) (λ n. home_at n h) (found_views (take i ms)))

pub known_next : (o : Owners) (h : Homes) (ms : List Member) (old new : Evaluated) (i : ℕ) (m : Member) → i < length ms → m ≡ get_or ms i m → KnownTo i o h ms old
    → ((ks : List Known) → Tells old ks → Tells new (one_more (λ n. owner_at n o) (λ n. home_at n h) ks (found_view m))) → KnownTo (i + 1) o h ms new
known_next o h ms old new i m within at so_far added =
    subst (λ fs. Tells new (all_known (λ n. owner_at n o) (λ n. home_at n h) fs)) (sym front)
    (subst (Tells new) (sym (fold-append (one_more (λ n. owner_at n o) (λ n. home_at n h)) [] (found_views (take i ms)) (found_view m ∷ []))) (added (all_known (λ n. owner_at n o) (λ n. home_at n h) (found_views (take i ms))) so_far))
  where
    front : found_views (take (i + 1) ms) ≡ found_views (take i ms) ++ found_view m ∷ []
    front = ap found_views (take_more ms i m within ∙ ap (λ x. take i ms ++ x ∷ []) (sym at)) ∙ map-append found_view (take i ms) (m ∷ [])

pub known_end : (o : Owners) (h : Homes) (ms : List Member) (c : Evaluated) (i : ℕ) → length ms ≤ i → KnownTo i o h ms c → Tells c (all_known (λ n. owner_at n o) (λ n. home_at n h) (found_views ms))
known_end o h ms c i past so_far = subst (λ xs. Tells c (all_known (λ n. owner_at n o) (λ n. home_at n h) (found_views xs))) (take_all i ms past) so_far

pub ruleset known_steps = (known_next, known_end)

-- what is known of the members in front of a place, whose texts were counted
pub record CountedTo (i : ℕ) (o : Owners) (h : Homes) (ms : List Member) (c : Evaluated) (b : TextBudget) : Type 0 where
  pub known : KnownTo i o h ms c
  pub counted : b.held.bytes ≡ held (told_views c.constants.items)
  pub within : b.held.bytes ≤ most_text

held_more : (ts : List Told) (t : Told) → held (ts ++ t ∷ []) ≡ held ts + held_by t.value
held_more [] t = omega arith
held_more (u ∷ ts) t = ap (λ n. held_by u.value + n) (held_more ts t) ∙ omega arith

-- the text of one member more
pub one_counted : (old new : List MemberConstant) (m : MemberConstant) (before after : ℕ) → new ≡ old ++ m ∷ [] → after ≡ before + held_by (value_view m.value) → before ≡ held (told_views old) → after ≡ held (told_views new)
one_counted old new m before after pushed more so_far =
    more ∙ ap (λ n. n + held_by (value_view m.value)) so_far
    ∙ sym (ap (λ ms. held (told_views ms)) pushed ∙ ap held (map-append told_view old (m ∷ [])) ∙ held_more (told_views old) (told_view m))

-- functions that agree at each number say the same
pub by_functions : (o q : ℕ → Option ℕ) (h g : ℕ → Option Block) (fs gs : List Found) (c : Evaluated) → ((i : ℕ) → o i ≡ q i) → ((i : ℕ) → h i ≡ g i) → fs ≡ gs → Tells c (all_known o h fs) → Tells c (all_known q g gs)
by_functions o q h g fs gs c owners homes members tells = subst (λ ks. Tells c ks) (λ j. all_known (λ i. owners i j) (λ i. homes i j) (members j)) tells
