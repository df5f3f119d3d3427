-- The number of a node that was found.
use Rattle.std.proofs.Common.{◌≡◌, ℕ, Option, None, Some, option_map}
use Rattle.oxt_enum_checks.specs.Misused.{number_of}
use Rattle.oxt_scopes.specs.Stack.{number_at}
use Rattle.oxt_names.specs.declared.ids.NodeId.{NodeId}

pub number_of_found : (found : Option NodeId) (n : Option ℕ) → option_map number_of found ≡ n → number_at found ≡ n
number_of_found None n is = is
number_of_found (Some i) n is = is
