-- Blocks of an enum among declarations, one after the other.
use Rattle.std.proofs.Common.{◌≡◌, ◌∙◌, ap, ℕ, ◌+◌, ◌<◌, ◌≤◌, List, [], ◌∷◌, length, drop, get_or, Bool, true, false, if◌then◌else◌}
use Rattle.std.specs.Prelude.{◌==◌}
use Rattle.std.specs.Int.RustNames.{bit_and}
use Rattle.oxt_scoping.specs.Entries.{begins_const, is_enum}
use Rattle.oxt_scoping.specs.declared.entry.Redeclaration.{Redeclaration}
use Rattle.oxt_names.proofs.Lists.{drop_at, drop_end}

pub const_next : (whole : Bool) (ds : List Redeclaration) (i : ℕ) (d : Redeclaration) → i < length ds → d ≡ get_or ds i d → is_enum d.flags ≡ false → whole ≡ begins_const (drop i ds) → whole ≡ begins_const (drop (i + 1) ds)
const_next whole ds i d h at other so_far = so_far ∙ ap begins_const (drop_at ds i d h at) ∙ ap (λ b. if b then bit_and d.flags.0 2048 == 2048 else begins_const (drop (i + 1) ds)) other

pub const_here : (whole : Bool) (ds : List Redeclaration) (i : ℕ) (d : Redeclaration) → i < length ds → d ≡ get_or ds i d → is_enum d.flags ≡ true → whole ≡ begins_const (drop i ds) → whole ≡ (bit_and d.flags.0 2048 == 2048)
const_here whole ds i d h at here so_far = so_far ∙ ap begins_const (drop_at ds i d h at) ∙ ap (λ b. if b then bit_and d.flags.0 2048 == 2048 else begins_const (drop (i + 1) ds)) here

pub const_end : (whole : Bool) (ds : List Redeclaration) (i : ℕ) → length ds ≤ i → whole ≡ begins_const (drop i ds) → whole ≡ false
const_end whole ds i h so_far = so_far ∙ ap begins_const (drop_end ds i h)

pub ruleset const_steps = (const_next, const_here, const_end)
