-- The first member whose constant would be too large.
use Rattle.std.proofs.Common.{◌≡◌, ◌∙◌, sym, ap, ℕ, ◌+◌, ◌<◌, ◌≤◌, List, drop, length, get_or, true, false, Option, Some, None, cond}
use Rattle.std.specs.Prelude.{find, option_map}
use Rattle.oxt_enums.specs.Constants.{told_view, told_views}
use Rattle.oxt_enums.specs.Enums.{is_too_large, place_of, span_view}
use Rattle.oxt_enums.specs.declared.constants.MemberConstant.{MemberConstant}
use Rattle.oxt_names.proofs.Lists.{drop_at, drop_end}

-- where the first of them stands
abbrev pub first_in : List MemberConstant → Option (ℕ × ℕ)
first_in ms = option_map place_of (find is_too_large (told_views ms))

pub wide_found : (ms : List MemberConstant) (i : ℕ) (m : MemberConstant) → i < length ms → m ≡ get_or ms i m → m.is_wide ≡ true → first_in ms ≡ first_in (drop i ms) → Some (span_view m.span) ≡ first_in ms
wide_found ms i m within at wide so_far = sym (so_far ∙ ap first_in (drop_at ms i m within at) ∙ ap (λ b. option_map place_of (cond b (Some (told_view m)) (find is_too_large (told_views (drop (i + 1) ms))))) wide)

pub wide_next : (ms : List MemberConstant) (i : ℕ) (m : MemberConstant) → i < length ms → m ≡ get_or ms i m → m.is_wide ≡ false → first_in ms ≡ first_in (drop i ms) → first_in ms ≡ first_in (drop (i + 1) ms)
wide_next ms i m within at narrow so_far = so_far ∙ ap first_in (drop_at ms i m within at) ∙ ap (λ b. option_map place_of (cond b (Some (told_view m)) (find is_too_large (told_views (drop (i + 1) ms))))) narrow

pub wide_none : (ms : List MemberConstant) (i : ℕ) → length ms ≤ i → first_in ms ≡ first_in (drop i ms) → None ≡ first_in ms
wide_none ms i past so_far = sym (so_far ∙ ap first_in (drop_end ms i past))

pub ruleset steps = (wide_found, wide_next, wide_none)
