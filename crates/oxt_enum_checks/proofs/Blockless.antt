-- In a program of which no block emits code nothing clashes, and nothing stands behind a namespace.
use Rattle.std.proofs.Common.{◌≡◌, ◌∙◌, refl, sym, ap, ℕ, zero, suc, List, [], ◌∷◌, Bool, true, false, ◌&&◌, ◌||◌, Option, None, Some, cond, true≢false}
use Rattle.std.specs.List.{list_any}
use Rattle.std.specs.Map.{lookup}
use Rattle.std.specs.Option.{option_eq}
use Rattle.std.specs.Prelude.{find, is_some, nat_eq, option_map, slice_get, slice_index_or}
use Rattle.oxt_enum_checks.specs.Clash.{clash_by, least_clash}
use Rattle.oxt_enum_checks.specs.LateBase.{late_by, least_late}
use Rattle.oxt_enum_checks.specs.Places.{Placed}
use Rattle.oxt_enum_checks.specs.Sort.{is_block, sort_of}
use Rattle.oxt_enum_checks.specs.Sought.{HasNoBlock, first_at, first_name, first_names, firsts_among, has_block, is_emitting_block, is_first, is_sought}
use Rattle.oxt_enum_checks.specs.declared.blocks.Block.{Block}
use Rattle.oxt_enum_checks.specs.declared.sought.Sought.TheVariants as sought
use Rattle.oxt_scoping.specs.Entries.{SymbolData}
use Rattle.oxt_scoping.specs.Scoped.{Scoped}
use Rattle.oxt_scoping.specs.declared.entry.Redeclaration.{Redeclaration}
use Rattle.oxt_names.specs.declared.ids.SymbolId.{SymbolId}

-- the declarations of one symbol
pub block_so : (o : Option SymbolData) (ds : List Redeclaration) (b : Bool) → option_map (λ (y : SymbolData). y.declarations) o ≡ Some ds → b ≡ list_any is_emitting_block ds → b ≡ has_block o
block_so None ds b are is = absurd (cc)
block_so (Some y) ds b are is = let same : y.declarations ≡ ds = cc in is ∙ ap (list_any is_emitting_block) (sym same)

neither : (a b : Bool) → (a || b) ≡ false → (a ≡ false) × (b ≡ false)
neither true b h = absurd (true≢false h)
neither false b h = (refl, h)

not_sought : (p : Placed) (d : Redeclaration) → is_emitting_block d ≡ false → is_sought p sought.Block d ≡ false
not_sought p d h = by d.emits (is_some (p d.node.0)) (is_block (sort_of d.flags)) h
  where
    by : (e q b : Bool) → (e && b) ≡ false → ((e && q) && b) ≡ false
    by true true b h = h
    by true false b h = refl
    by false q b h = refl

no_name : (p : Placed) (ds : List Redeclaration) → list_any is_emitting_block ds ≡ false → first_name p sought.Block ds ≡ None
no_name p [] h = refl
no_name p (d ∷ ds) h =
    let apart = neither (is_emitting_block d) (list_any is_emitting_block ds) h in
    ap (λ b. option_map (λ (e : Redeclaration). e.node.0) (cond b (Some d) (find (is_sought p sought.Block) ds))) (not_sought p d apart.0) ∙ no_name p ds apart.1

no_names : (p : Placed) (ys : List SymbolData) → ((n : ℕ) → has_block (slice_get ys n) ≡ false) → (i : ℕ) → slice_index_or (first_names p sought.Block ys) i None ≡ None
no_names p [] h i = refl
no_names p (y ∷ ys) h zero = no_name p y.declarations (h 0)
no_names p (y ∷ ys) h (suc i) = no_names p ys (λ n. h (suc n)) i

no_first : (p : Placed) (s : Scoped) → HasNoBlock s → (o : Option SymbolId) → first_at (first_names p sought.Block s.symbols) o ≡ None
no_first p s h None = refl
no_first p s h (Some i) = no_names p s.symbols h i.0

not_first : (p : Placed) (s : Scoped) → HasNoBlock s → (n : ℕ) → is_first s (first_names p sought.Block s.symbols) n ≡ false
not_first p s h n = ap (λ o. option_eq nat_eq o (Some n)) (no_first p s h (lookup (nat_eq n) s.declared))

no_blocks : (p : Placed) (s : Scoped) → HasNoBlock s → (bs : List Block) → firsts_among s (first_names p sought.Block s.symbols) bs ≡ []
no_blocks p s h [] = refl
no_blocks p s h (b ∷ bs) =
    let rest = firsts_among s (first_names p sought.Block s.symbols) bs in
    ap (λ c. cond c (b ∷ rest) rest) (not_first p s h b.name.0) ∙ no_blocks p s h bs

pub no_clash : (p : Placed) (s : Scoped) (bs : List Block) (b : Bool) → (b ≡ false → HasNoBlock s) → b ≡ false → None ≡ clash_by p s bs
no_clash p s bs b none is = sym (ap (least_clash s p) (no_blocks p s (none is) bs))

-- and no function or class stands behind a namespace
pub no_late : (p : Placed) (s : Scoped) (bs : List Block) (b : Bool) → (b ≡ false → HasNoBlock s) → b ≡ false → None ≡ late_by p s bs
no_late p s bs b none is = sym (ap (least_late s p) (no_blocks p s (none is) bs))
