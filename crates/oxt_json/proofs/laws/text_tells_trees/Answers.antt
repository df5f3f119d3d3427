use Rattle.oxt_json.proofs.Theorems.{text_tells_trees}
use Rattle.oxt_json.proofs.laws.text_tells_trees.Goals as goal

pub returns : goal.returns
returns c = text_tells_trees
