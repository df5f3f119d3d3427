-- All that is told, under what is chosen.
use Rattle.std.proofs.Common.{◌≡◌, ◌∙◌, ap, [], ◌++◌}
use Rattle.oxt_facts.specs.Told.{Tellings}
use Rattle.oxt_fields.specs.Rules.{Rules, rules_of}
use Rattle.oxt_options.specs.Options.{TransformData}
use Rattle.oxt_scoping.specs.Scoped.{Scoped}
use Rattle.oxt_told.specs.Modules.{modules_told}
use Rattle.oxt_told.specs.Source.{Asked, all_told, told_in}
use Rattle.oxt_told.specs.Strict.{strict_told}
use Rattle.oxt_told.specs.Whole.{told_of_source}
use Rattle.oxt_told.specs.declared.seat.Seat.TheVariants as seat
use Rattle.oxt_tree.specs.Doc.{Doc}

-- the same by these rules, over what was told
abbrev pub told_by : Scoped → Asked → TransformData → Doc → Rules → Tellings → Tellings
told_by s p o d r ts =
    all_told ts (modules_told p.kept o.typescript.only_remove_type_imports d
    ++ (told_in s p (record { mode = o.typescript.rewrite_import_extensions; rules = r }) seat.Elsewhere d ++ strict_told o.«module» d))

pub told_whole : (s : Scoped) (p : Asked) (o : TransformData) (d : Doc) (r : Rules) (old new : Tellings) → old ≡ [] → r ≡ rules_of o p.never p.inlined p.alias p.metadata p.written → new ≡ told_by s p o d r old → new ≡ told_of_source s p o d
told_whole s p o d r old new empty are is = is ∙ ap (λ x. told_by s p o d x old) are ∙ ap (told_by s p o d (rules_of o p.never p.inlined p.alias p.metadata p.written)) empty
