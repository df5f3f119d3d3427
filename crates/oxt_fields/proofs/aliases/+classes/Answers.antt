-- The field has a place, and what stands there was given.
use Rattle.std.proofs.Common.{◌∙◌, sym}
use Rattle.oxt_fields.proofs.Uses.{alone_more}
use Rattle.oxt_fields.specs.Aliases.{decorated}
use Rattle.oxt_fields.specs.Rules.{rules_view}
use Rattle.oxt_options.specs.Lists.{pairs_in}
use Rattle.oxt_fields.proofs.aliases.+classes.Goals as goal

pub push_alone-returns-in_ok-push_at-in-Some : goal.push_alone-returns-in_ok-push_at-in-Some
push_alone-returns-in_ok-push_at-in-Some t c =
    alone_more (pairs_in c.args.out.now.items) (pairs_in c.push_at.new.out.items) (decorated c.args.scoping.now (rules_view c.args.rules)) tt
    c.args.rows.now c.args.parts.now c.args.field c.in-Some.place (sym c.in-Some.is ∙ c.place_of.ensures) c.in_ok-push_at-in-Some.ensures
