-- Names that would mean something else once the decorators of class declarations go behind these.
use Rattle.std.specs.Prelude.{ℕ, List, fold, Bool, true, if◌then◌else◌, Option, None, option_map}
use Rattle.oxt_declares.specs.Calls.{elements_of}
use Rattle.oxt_fields.specs.PrivateIn.{holds_private_in}
use Rattle.oxt_class_checks.specs.Classes.{classes_in}
use Rattle.oxt_class_checks.specs.Privates.{private_capture}
use Rattle.oxt_class_checks.specs.Stations.{station_in, station_inside}
use Rattle.oxt_class_checks.specs.declared.station.Station.{Station}
use Rattle.oxt_class_checks.specs.declared.station.Station.TheVariants as station
use Rattle.oxt_faults.specs.Captured.{Capture}
use Rattle.oxt_faults.specs.Earliest.{earlier, of_word}
use Rattle.oxt_faults.specs.Level.{level_words}
use Rattle.oxt_search.specs.First.{first_in}
use Rattle.oxt_search.specs.Sought.{Sought}
use Rattle.oxt_tree.specs.Doc.{Doc, Docs}

-- what would be captured in a decorator with these fields: behind the class with these elements a private name of it, and in a
-- static block any word at its level
abbrev pub decorator_at : Docs → Station → Docs → Option Capture
decorator_at es station.Behind ds = private_capture es ds
decorator_at es station.IntoBlock ds = option_map of_word (level_words true ds)
decorator_at es s ds = None

-- the decorators of a class with these elements that go behind it, or into a static block of it where the flag says so
abbrev pub sought : Docs → Bool → Sought Station Capture
sought es into_block =
    record {
      at = λ s k i ds. decorator_at es s ds;
      inside = λ s k i ds. station_inside s k ds;
      in_field = station_in into_block;
    }

-- The first of a class: its own decorators and those of the parameters of its constructor go behind it, and so do those of its
-- elements that give calls and of their parameters, or into a static block of it where such a decorator holds a private `in`.
abbrev pub class_capture : Doc → Option Capture
class_capture d = first_in (sought (elements_of d) (holds_private_in d)) d station.Class

-- the earlier of that and the one of a class more
abbrev pub capture_behind : Option Capture → Doc → Option Capture
capture_behind o d = earlier o (class_capture d)

-- The one at the node of the least number, of a whole tree, where the flag says that decorators have their older meaning.
abbrev pub decorator_capture : Bool → Doc → Option Capture
decorator_capture legacy d = if legacy then fold capture_behind None (classes_in d) else None
