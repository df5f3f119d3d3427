-- What is noted of tests of private names.
use Rattle.std.proofs.Common.{◌≡◌, refl, Bool, true, false, ◌||◌, List, [], ◌∷◌}
use Rattle.std.specs.List.{list_any}
use Rattle.oxt_decor.specs.Tests.{note_test, tests}
use Rattle.oxt_visit.specs.Calls.{Call, noted}

all_noted : (cs : List Call) → noted note_test true cs ≡ true
all_noted [] = refl
all_noted (c ∷ cs) = all_noted cs

by_test : (b : Bool) (cs : List Call) → noted note_test false cs ≡ list_any tests cs → noted note_test b cs ≡ b || list_any tests cs
by_test true cs same = all_noted cs
by_test false cs same = same

-- whether one of the visits was one
pub tests_noted : (cs : List Call) → noted note_test false cs ≡ list_any tests cs
tests_noted [] = refl
tests_noted (c ∷ cs) = by_test (tests c) cs (tests_noted cs)
