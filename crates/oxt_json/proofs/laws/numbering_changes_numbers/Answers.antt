use Rattle.oxt_json.proofs.Numbering.{numbering}
use Rattle.oxt_json.proofs.laws.numbering_changes_numbers.Goals as goal

pub returns : goal.returns
returns c = numbering
