use Rattle.std.proofs.Common.{◌≡◌, ◌∙◌, ◌++◌, [], ◌∷◌, OnOk, ap, append_assoc, codes, false, subst}
use Rattle.oxt_facts.specs.Entry.{entries}
use Rattle.oxt_forms.specs.Details.{start}
use Rattle.oxt_grammar.specs.declared.kind.Kind.TheVariants.{CallExpression}
use Rattle.oxt_tree.specs.Doc.{flag}
use Rattle.oxt_items.specs.Modules.{free_word}
use Rattle.oxt_items.proofs.modules.put_required_start.Goals as goal

pub returns : goal.returns
returns c =
    subst (λ v. OnOk c.put_free.result (entries c.put_free.new.out.items ≡ v))
    (ap (λ m. m ++ free_word (codes "require")) c.in_ok-put_call_start.ensures
    ∙ append_assoc (entries c.args.out.now.items) (start CallExpression (flag false ∷ flag false ∷ [])) (free_word (codes "require")))
    c.put_free.ensures
