-- All that is told of a source.
use Rattle.std.specs.Prelude.{[], ◌++◌}
use Rattle.oxt_facts.specs.Told.{Tellings}
use Rattle.oxt_options.specs.Options.{TransformData}
use Rattle.oxt_scoping.specs.Scoped.{Scoped}
use Rattle.oxt_told.specs.Modules.{modules_told}
use Rattle.oxt_told.specs.Source.{Asked, all_told, chosen_of, told_in}
use Rattle.oxt_told.specs.declared.seat.Seat.TheVariants as seat
use Rattle.oxt_told.specs.Strict.{strict_told}
use Rattle.oxt_tree.specs.Doc.{Doc}

-- What is told under the options of a source's imports and exports, of what stands in it (the blocks of its enums, their
-- members and the bare names of these, the expressions that are inlined, its `import =`, the specifiers of its modules, and its
-- classes and their fields), and of the whole program, which may be made strict.
abbrev pub told_of_source : Scoped → Asked → TransformData → Doc → Tellings
told_of_source s p o d =
    all_told [] (modules_told p.kept o.typescript.only_remove_type_imports d
    ++ (told_in s p (chosen_of o p) seat.Elsewhere d ++ strict_told o.«module» d))
