use Rattle.std.proofs.Common.{◌≡◌, ◌∙◌, ap, ap₂, sym, map, take, List, [], ◌∷◌, ◌++◌}
use Rattle.std.proofs.lemmas.List.{map_more, map-append}
use Rattle.clap.specs.Simple.{with_rule}
use Rattle.oxt_flags.specs.Flags.{FlagData}
use Rattle.oxt_flags.specs.Matching.{app_of_rules, app_with, rule_for}
use Rattle.oxt_flags.specs.Views.{flag_view}
use Rattle.oxt_flags.proofs.matching.command_of.Goals as goal

-- one more argument
one_more : (fs : List FlagData) (f : FlagData) → with_rule (app_with fs) (rule_for f) ≡ app_with (fs ++ f ∷ [])
one_more fs f = ap app_of_rules (sym (map-append rule_for fs (f ∷ [])))

pub loop-flag-preserved : goal.loop-flag-preserved
loop-flag-preserved c =
    c.in_ok-command.ensures.shape c.arg_of.ensures.local ∙ ap₂ with_rule c.loop-flag.invariant c.arg_of.ensures.rule
    ∙ one_more (map flag_view (take c.loop-flag.flag-index c.flags-flag-items.result.now)) _
    ∙ ap app_with (sym (map_more flag_view c.flags-flag-items.result.now c.loop-flag.flag-index _ c.loop-flag-test.true))
