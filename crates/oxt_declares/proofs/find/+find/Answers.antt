use denote.Ref.{Bor}
use Rattle.std.proofs.Common.{◌≡◌, ◌∙◌, ◌++◌, sym, subst, map, List, Some, OnOk}
use Rattle.oxt_declares.proofs.Finds.{place_is}
use Rattle.oxt_tree.specs.Doc.{Doc}
use Rattle.oxt_tree.specs.View.{node_doc}
use Rattle.oxt_tree.specs.declared.tree.Node.{Node}
use Rattle.oxt_declares.proofs.find.+find.Goals as goal

pub push_alone-returns-in-Some : goal.push_alone-returns-in-Some
push_alone-returns-in-Some t c =
    let same = place_is c.args.legacy c.args.rows.now c.args.parts.now c.args.field (Some c.in-Some.place) (sym c.in-Some.is ∙ c.place_of.ensures) in
    subst (λ (v : List Doc). OnOk c.push_at.result (map (λ (site : Bor Node). node_doc site.now) c.push_at.new.out.items ≡ map (λ (site : Bor Node). node_doc site.now) c.args.out.now.items ++ v)) same c.push_at.ensures
