-- What is looked up of the constants of members.
use Rattle.std.proofs.Common.{◌≡◌, List}
use Rattle.oxt_enums.specs.Enums.{Describes}
use Rattle.oxt_enums.specs.Blocks.{Block}
use Rattle.oxt_enums.specs.Constants.{known_in}
use Rattle.oxt_enums.specs.declared.enums.EnumConstants.{EnumConstants}
use Rattle.oxt_resolve.specs.Resolved.{values_by}
use Rattle.oxt_resolve.specs.Values.{values_in}
use Rattle.oxt_scopes.specs.Owners.{Owned}
use Rattle.oxt_scopes.specs.Nestings.{Opened}
use Rattle.oxt_tree.specs.Doc.{Doc}

-- what the program looks up is what the definition says
pub same_values : (d : Doc) (e : EnumConstants) (xs : List Opened) (os : List Owned) (bs : List Block) → Describes e (known_in os xs d) bs → values_in e ≡ values_by os xs d
same_values d e xs os bs h = λ j n t. h.bodies n t j
