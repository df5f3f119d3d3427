-- The tables are put one after the other.
use Rattle.std.proofs.Common.{◌≡◌, ap, ◌∙◌}
use Rattle.oxt_options.specs.Facts.{last_alias, last_constant}
use Rattle.oxt_options.specs.Lists.{constants_in, facts_in, pairs_in, types_in}
use Rattle.oxt_options.specs.Metadata.{last_type}
use Rattle.oxt_options.proofs.Made.{has_tables, same_nodes}
use Rattle.oxt_options.proofs.plan.Plan.set_tables.Goals as goal

pub returns-clause-nodes : goal.returns-clause-nodes
returns-clause-nodes c =
    same_nodes c.args.self.now c.set_inlined.new.self c.set_aliases.new.self c.set_metadata.new.self c.set_written.new.self
    c.in_ok-set_inlined.ensures.others c.in_ok-set_aliases.ensures.others c.in_ok-set_metadata.ensures.others c.in_ok-set_written.ensures.others

pub returns-clause-tables : goal.returns-clause-tables
returns-clause-tables c =
    let constants : c.replace.result.items ≡ c.args.lists.now.inlined.items = ap (λ v. v.items) c.replace.ensures.value in
    let classes : c.replace-2.result.items ≡ c.args.lists.now.aliases.items = ap (λ v. v.items) c.replace-2.ensures.value in
    let types : c.replace-3.result.items ≡ c.args.lists.now.metadata.items = ap (λ v. v.items) c.replace-3.ensures.value in
    let names : c.replace-4.result.items ≡ c.args.lists.now.written.items = ap (λ v. v.items) c.replace-4.ensures.value in
    has_tables c.set_inlined.new.self c.set_aliases.new.self c.set_metadata.new.self c.set_written.new.self (facts_in c.args.lists.now)
    (λ n. c.in_ok-set_inlined.ensures.put n ∙ ap (λ l. last_constant (constants_in l) n) constants)
    c.in_ok-set_aliases.ensures.others (λ n. c.in_ok-set_aliases.ensures.put n ∙ ap (λ l. last_alias (pairs_in l) n) classes)
    c.in_ok-set_metadata.ensures.others (λ n. c.in_ok-set_metadata.ensures.put n ∙ ap (λ l. last_type (types_in l) n) types)
    c.in_ok-set_written.ensures.others (λ n. c.in_ok-set_written.ensures.put n ∙ ap (λ l. last_alias (pairs_in l) n) names)
