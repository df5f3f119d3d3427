-- Where contracts see what is found as it is, its view changes nothing.
use Rattle.std.proofs.Common.{◌≡◌, List, map, Option, option_map}
use Rattle.std.proofs.lemmas.Iterator.Adapters.{option_map_id}
use Rattle.std.proofs.lemmas.List.{map-id}

pub found_as_it_is : {A : Type 0} (o : Option A) → option_map (λ (x : A). x) o ≡ o
found_as_it_is o = option_map_id o

pub all_as_they_are : {A : Type 0} (xs : List A) → map (λ (x : A). x) xs ≡ xs
all_as_they_are xs = map-id xs

pub ruleset as_it_is = (found_as_it_is, all_as_they_are)
