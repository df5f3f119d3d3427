-- The kinds and the blocks are those of the forms.
use Rattle.std.proofs.Common.{◌∙◌, ap, map}
use Rattle.oxt_check.proofs.Derived.{blocks_are, kinds_are}
use Rattle.oxt_check.specs.Occurring.{blocks_among}
use Rattle.oxt_check.specs.declared.survey.Form.{Form}
use Rattle.oxt_tree.specs.View.{node_doc}
use Rattle.oxt_check.proofs.survey.Survey.with.Goals as goal

pub places_of-requires : goal.places_of-requires
places_of-requires c = c.as_slice.ensures.value ∙ c.in_ok-kinds.ensures ∙ ap (map (λ (f : Form). f.kind)) c.requires ∙ kinds_are (node_doc c.args.program.now)

pub invariant_of-result-clause-complete : goal.invariant_of-result-clause-complete
invariant_of-result-clause-complete c = c.in_ok-kinds.ensures ∙ ap (map (λ (f : Form). f.kind)) c.requires ∙ kinds_are (node_doc c.args.program.now)

pub invariant_of-result-clause-named : goal.invariant_of-result-clause-named
invariant_of-result-clause-named c = c.in_ok-blocks.ensures ∙ ap blocks_among c.requires ∙ blocks_are (node_doc c.args.program.now)
