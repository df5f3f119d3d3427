use Rattle.oxt_json.proofs.Theorems.{data_reads_back}
use Rattle.oxt_json.proofs.laws.data_reads_back.Goals as goal

pub returns : goal.returns
returns c = data_reads_back
