use Rattle.std.proofs.Common.{◌≡◌, ◌∙◌, ◌++◌, [], ◌∷◌, OnOk, ap, append_assoc, codes, map, subst}
use Rattle.oxt_facts.specs.Entry.{entries, lone}
use Rattle.oxt_facts.specs.declared.item.ItemKind.TheVariants as item
use Rattle.oxt_forms.specs.Details.{start}
use Rattle.oxt_grammar.specs.declared.kind.Kind.TheVariants.{UnaryExpression}
use Rattle.oxt_tree.specs.Doc.{text}
use Rattle.oxt_names.specs.Names.{name_bytes}
use Rattle.oxt_items.specs.Metadata.{path_word}
use Rattle.oxt_items.proofs.metadata.put_typeof.Goals as goal

pub returns : goal.returns
returns c =
    let operator = start UnaryExpression (text (codes "typeof") ∷ []) in
    let path = path_word c.args.facts.now c.args.reference.now.root.0 (name_bytes c.args.reference.now.name) (map name_bytes c.args.path.now) in
    subst (λ v. OnOk c.put_lone.result (entries c.put_lone.new.out.items ≡ v))
    (ap (λ v. v ++ lone item.Close) (c.in_ok-put_path.ensures ∙ ap (λ v. v ++ path) c.in_ok-put_operation.ensures)
    ∙ append_assoc (entries c.args.out.now.items ++ operator) path (lone item.Close)
    ∙ append_assoc (entries c.args.out.now.items) operator (path ++ lone item.Close))
    c.put_lone.ensures
