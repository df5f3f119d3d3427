-- Nothing is there to be found, or it stands in the outermost enums.
use Rattle.std.proofs.Common.{◌∙◌, sym, ap}
use Rattle.oxt_tree.specs.View.{node_doc}
use Rattle.oxt_enum_checks.proofs.Memberless.{no_shadows}
use Rattle.oxt_enum_checks.proofs.ShadowSites.{all_at_enums, said}
use Rattle.oxt_enum_checks.specs.Shadows.{least, shadow_views}
use Rattle.oxt_declares.specs.Sites.{said_of_each}
use Rattle.oxt_enum_checks.proofs.shadowed.first_shadowed.Goals as goal

pub returns-then-not-has_members : goal.returns-then-not-has_members
returns-then-not-has_members c =
    no_shadows c.args.sites.now.legacy c.args.scoping.now (node_doc c.args.sites.now.program.now) c.has_members.result c.has_members.ensures c.if-not-has_members.true

pub returns : goal.returns
returns c =
    let l = c.args.sites.now.legacy in
    let s = c.args.scoping.now in
    c.least.ensures ∙ ap (λ xs. least (shadow_views xs)) c.as_slice-2.ensures.value
    ∙ ap least (c.in_ok-names.ensures ∙ ap (λ ns. said_of_each (said l s) ns) c.as_slice.ensures ∙ sym (all_at_enums l s (node_doc c.args.sites.now.program.now)))
