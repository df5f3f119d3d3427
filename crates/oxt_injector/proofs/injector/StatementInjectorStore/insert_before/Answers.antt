use Rattle.std.proofs.Common.{◌≡◌, ◌∙◌, ◌∷◌, ◌++◌, [], Some, ap, rules, sym}
use Rattle.std.specs.BTreeMap.{get}
use Rattle.std.specs.Option.{option_copied_mut}
use Rattle.std.specs.Ordering.{nat_cmp}
use Rattle.oxt_tree.specs.View.{node_doc}
use Rattle.oxt_tree.specs.declared.tree.Part.TheVariants as part
use Rattle.oxt_stores.specs.Insertion.{before_it, entries, last_before}
use Rattle.oxt_stores.proofs.Waiting.{entries_before, on_ok}
use Rattle.oxt_injector.proofs.Stored.{changed}
use Rattle.oxt_injector.proofs.injector.StatementInjectorStore.insert_before.Goals as goal

pub into_only_before-requires : goal.into_only_before-requires
into_only_before-requires c =
    (c.args.statement, ap (λ i. i.before.items) c.in-Err.ensures.back ∙ (c.in_ok-add_before-in-None.ensures.added ∙ ap (λ ps. ps ++ part.Node c.args.statement ∷ []) c.new-insertions.ensures.before))

pub returns-in-Some-clause-inserted : goal.returns-in-Some-clause-inserted
returns-in-Some-clause-inserted c =
    let there : get nat_cmp c.args.self.now.insertions c.args.target.0 ≡ Some c.in-Some.insertions.now = sym c.get_mut.ensures.value ∙ ap option_copied_mut c.in-Some.is in
    let update = (c.get_mut.follows.holds c.add_before.new.self).3 (search rules) in
    on_ok c.add_before.result (λ added n. changed c.args.self.now (c.get_mut.follows.lender c.add_before.new.self) c.args.target.0 c.in-Some.insertions.now c.add_before.new.self (last_before (before_it (node_doc c.args.statement))) there update (entries_before c.in-Some.insertions.now c.add_before.new.self (part.Node c.args.statement) added c.add_before.ensures.after ∙ ap (λ d. last_before (before_it d) (entries c.in-Some.insertions.now)) c.add_before.ensures.document) n) c.add_before.ensures.added
