-- Where no symbol is marked, no name means a marked one.
use Rattle.std.proofs.Common.{◌≡◌, ◌∙◌, refl, sym, ap, ℕ, zero, suc, List, [], ◌∷◌, Bool, true, false, Option, None, Some, cond, option_map, slice_get, true≢false}
use Rattle.std.specs.Prelude.{slice_index_or}
use Rattle.oxt_faults.specs.AllCaptured.{all_marked}
use Rattle.oxt_faults.specs.Captured.{Capture}
use Rattle.oxt_faults.specs.Earliest.{earlier}
use Rattle.oxt_faults.specs.Marks.{has_mark, marked, marked_as, marked_at, use_of}
use Rattle.oxt_faults.specs.WrittenNames.{is_written, marked_sought, written_marked}
use Rattle.oxt_fields.specs.Rules.{Rules}
use Rattle.oxt_names.specs.declared.ids.SymbolId.{SymbolId}
use Rattle.oxt_scoping.specs.Meant.{meant, value_meant}
use Rattle.oxt_scoping.specs.Scoped.{Scoped}
use Rattle.oxt_search.proofs.Nothing.{either_none, none_in}
use Rattle.oxt_search.specs.First.{first, first_in}
use Rattle.oxt_tree.specs.Doc.{Doc}
use Rattle.oxt_declares.specs.Dropped.{is_dropped_by}

not_marked : (bs : List Bool) (n : ℕ) → has_mark bs ≡ false → slice_index_or bs n false ≡ false
not_marked [] n h = refl
not_marked (true ∷ bs) n h = absurd (true≢false h)
not_marked (false ∷ bs) zero h = refl
not_marked (false ∷ bs) (suc n) h = not_marked bs n h

no_use : (s : Scoped) (bs : List Bool) (n : ℕ) (o : Option SymbolId) → has_mark bs ≡ false → marked_as s bs n o ≡ None
no_use s bs n None h = refl
no_use s bs n (Some i) h = ap (λ b. cond b (option_map (use_of n) (slice_get s.symbols i.0)) None) (not_marked bs i.0 h)

-- nothing, whether it is asked or not
unasked : (b : Bool) (o : Option Capture) → o ≡ None → cond b o None ≡ None
unasked true o e = e
unasked false o e = refl

none_used : (legacy : Bool) (s : Scoped) (bs : List Bool) (d : Doc) → has_mark bs ≡ false → first_in (marked legacy s bs) d tt ≡ None
none_used legacy s bs d h =
    ap first (none_in (marked legacy s bs) (λ u k i ds. either_none (is_dropped_by k ds) (marked_at s bs i) (no_use s bs i (value_meant s i) h)) d tt)

none_written : (r : Rules) (s : Scoped) (bs : List Bool) (d : Doc) → has_mark bs ≡ false → written_marked r s bs d ≡ None
none_written r s bs d h =
    unasked r.emits (first_in (marked_sought r s bs) d tt)
    (ap first (none_in (marked_sought r s bs) (λ u k i ds. unasked (is_written r i) (marked_as s bs i (meant s i)) (no_use s bs i (meant s i) h)) d tt))

pub none_marked : (r : Rules) (s : Scoped) (bs : List Bool) (d : Doc) → has_mark bs ≡ false → None ≡ all_marked r s bs d
none_marked r s bs d h =
    sym (ap (λ c. earlier c (written_marked r s bs d)) (none_used r.legacy s bs d h) ∙ ap (earlier None) (none_written r s bs d h))
