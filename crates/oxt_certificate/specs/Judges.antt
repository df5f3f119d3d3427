-- What the test of an output says.
pub use Rattle.oxt_check.specs.Refusals.{Difference, misfit_at, typescript_at, setting_at, item_at, owner_at, binding_of, difference_in, Refusal, uncertified}
use Rattle.std.specs.Prelude.{ℕ, ◌≡◌, List, Bool, true, Option, None, Some, ⊤, slice_get}
use Rattle.oxt_tree.specs.Doc.{Doc}
use Rattle.oxt_grammar.specs.declared.category.Category.TheVariants as category
use Rattle.oxt_grammar.specs.declared.holds.Holds.TheVariants as holds
use Rattle.oxt_certificate.specs.Bound.{misbound}
use Rattle.oxt_certificate.specs.Expected.{ExpectedData, known_of_output}
use Rattle.oxt_certificate.specs.Settings.{wrong_setting}
use Rattle.oxt_valid.specs.Misfit.{first_misfit}
use Rattle.oxt_check.specs.Beside.{first_typescript_beside, is_plain_beside}
use Rattle.oxt_check.specs.Targets.{is_listed}
use Rattle.oxt_valid.specs.Valid.{is_tree}
use Rattle.oxt_facts.specs.Compare.{IsFirstDifference, IsOfOwners}
use Rattle.oxt_facts.specs.Entry.{Entry}
use Rattle.oxt_facts.specs.Facts.{Known}
use Rattle.oxt_word.specs.Word.{word}

-- nothing of TypeScript is left in the output but those wrappers
abbrev pub is_plain_output : List ℕ → Doc → Bool
is_plain_output staying output = is_plain_beside output (holds.Node category.Program) (is_listed staying)

-- What comes before the test of names holds: the output is a tree of the grammar, plain beside the wrappers that may stay,
-- and has the settings that are expected.
abbrev pub IsReadable : ExpectedData → Doc → Type 0
IsReadable x output =
    (is_tree output ≡ true) × (is_plain_output x.staying output ≡ true) × (wrong_setting x.settings output ≡ None)

-- the items of that place differ in the owners of their names alone
abbrev pub IsMoved : List Entry → List Entry → ℕ → Type 0
IsMoved a b i = IsOfOwners (slice_get a i) (slice_get b i)

-- What the comparison of two words says: that they are one, or the first item in which they differ, by the owner of a name
-- alone or otherwise. It says nothing else.
abbrev pub Compares : List Entry → List Entry → Option Difference → Type 0
Compares a b None = a ≡ b
Compares a b (Some (item_at i)) = IsFirstDifference a b (Some i) × (IsMoved a b i → ⊥)
Compares a b (Some (owner_at i)) = IsFirstDifference a b (Some i) × IsMoved a b i
Compares a b (Some d) = ⊥

-- What the test of the names and the word of an output says, by what is known of its names: nothing, where each made name is
-- bound once and the word is the one that is expected; and else a made name that is not bound once, or how the words differ.
abbrev pub JudgesNames : Known → List Entry → Doc → Option Difference → Type 0
JudgesNames f expected output None = (misbound f output ≡ None) × Compares expected (word f output) None
JudgesNames f expected output (Some (binding_of name)) = misbound f output ≡ Some name
JudgesNames f expected output (Some d) = (misbound f output ≡ None) × Compares expected (word f output) (Some d)

-- the same of what is expected
abbrev pub JudgesWord : ExpectedData → Doc → Option Difference → Type 0
JudgesWord x output d = JudgesNames (known_of_output x.names output) x.word output d

-- What the test of an output says, by what is expected of it: nothing, where it is a tree of the grammar, plain beside the
-- wrappers that may stay, with the settings that are expected, each made name bound once, and the word that is expected; and
-- else the first of these that fails. Where the words differ first in the owner of a name alone, it says so.
abbrev pub Judges : ExpectedData → Doc → Option Difference → Type 0
Judges x output None = IsReadable x output × JudgesWord x output None
Judges x output (Some (misfit_at place)) = first_misfit output ≡ Some place
Judges x output (Some (typescript_at place)) =
    (is_tree output ≡ true) × (first_typescript_beside output (holds.Node category.Program) (is_listed x.staying) ≡ Some place)
Judges x output (Some (setting_at place)) =
    (is_tree output ≡ true) × (is_plain_output x.staying output ≡ true) × (wrong_setting x.settings output ≡ Some place)
Judges x output (Some (binding_of name)) = IsReadable x output × JudgesWord x output (Some (binding_of name))
Judges x output (Some (item_at i)) = IsReadable x output × JudgesWord x output (Some (item_at i))
Judges x output (Some (owner_at i)) = IsReadable x output × JudgesWord x output (Some (owner_at i))

-- that reason says how the output fails its test; for want of memory, nothing is said
abbrev pub IsFailure : Option Refusal → ExpectedData → Doc → Type 0
IsFailure None x output = ⊤
IsFailure (Some (uncertified d)) x output = Judges x output (Some d)
IsFailure (Some r) x output = ⊥
