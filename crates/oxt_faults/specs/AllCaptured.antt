-- All names that would change their owner once erased declarations are gone.
use Rattle.std.specs.Prelude.{ℕ, List, Bool, Option}
use Rattle.oxt_faults.specs.Captured.{Capture, captured}
use Rattle.oxt_faults.specs.Earliest.{earlier}
use Rattle.oxt_faults.specs.Marks.{marked}
use Rattle.oxt_faults.specs.WrittenNames.{written_captured, written_marked}
use Rattle.oxt_fields.specs.Rules.{Rules}
use Rattle.oxt_scoping.specs.Scoped.{Scoped}
use Rattle.oxt_search.specs.First.{first_in}
use Rattle.oxt_tree.specs.Doc.{Doc}

-- The one at the node of the least number, of which the declarations with these names are left out: a name that is used as a value
-- outside what is erased, or one that metadata writes.
abbrev pub all_captured : Rules → Scoped → (ℕ → Bool) → Doc → Option Capture
all_captured r s ls d = earlier (captured r.legacy s ls d) (written_captured r s ls d)

-- the same by what is noted of symbols
abbrev pub all_marked : Rules → Scoped → List Bool → Doc → Option Capture
all_marked r s bs d = earlier (first_in (marked r.legacy s bs) d tt) (written_marked r s bs d)
