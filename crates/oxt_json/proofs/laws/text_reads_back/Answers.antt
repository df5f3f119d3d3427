use Rattle.oxt_json.proofs.Theorems.{text_reads_back}
use Rattle.oxt_json.proofs.laws.text_reads_back.Goals as goal

pub returns : goal.returns
returns c = text_reads_back
