-- Words of initializers stand at members of enums alone.
use Rattle.std.proofs.Common.{refl, ap, Bool, ◌&&◌, not, cond, None}
use Rattle.std.specs.Prelude.{codes}
use Rattle.oxt_faults.specs.Initializers.{is_constant, own_word, sought}
use Rattle.oxt_faults.specs.Level.{level_word}
use Rattle.oxt_scoping.specs.Scoped.{Scoped}
use Rattle.oxt_declares.proofs.Outside.{no_member, passing_over}
use Rattle.oxt_declares.specs.Quiet.{IsQuietOutside}
use Rattle.oxt_tree.specs.Fields.{named}

-- the search for them gives nothing elsewhere
pub quiet_outside : (l : Bool) (s : Scoped) → IsQuietOutside l (sought l s) tt
quiet_outside l s =
    passing_over l (λ (u : Unit {0}) k i ds. own_word l s k i ds) (λ u k i ds. u) (sought l s).in_field tt
    (λ k i ds other. ap (λ b. cond (b && not (is_constant s i)) (level_word l (named (codes "initializer") k ds)) None) (no_member k other))
    (λ k i ds other. refl)
