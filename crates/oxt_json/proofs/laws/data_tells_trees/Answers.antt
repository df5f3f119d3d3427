use Rattle.oxt_json.proofs.Theorems.{data_tells_trees}
use Rattle.oxt_json.proofs.laws.data_tells_trees.Goals as goal

pub returns : goal.returns
returns c = data_tells_trees
