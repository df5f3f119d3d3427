use Rattle.std.proofs.Common.{◌≡◌, ◌∙◌, ◌++◌, [], ◌∷◌, OnOk, ap, append_assoc, codes, false, subst}
use Rattle.oxt_facts.specs.Entry.{Entry, entries, spelled}
use Rattle.oxt_facts.specs.declared.item.ItemKind.TheVariants as item
use Rattle.oxt_forms.specs.Details.{start}
use Rattle.oxt_grammar.specs.declared.kind.Kind.TheVariants.{CallExpression}
use Rattle.oxt_tree.specs.Doc.{flag, text}
use Rattle.oxt_items.specs.Helpers.{helper_start}
use Rattle.oxt_items.specs.Modules.{free_word}
use Rattle.oxt_items.proofs.calls.put_helper_start.Goals as goal

pub returns : goal.returns
unfolding helper_start
returns c =
    let call = start CallExpression (flag false ∷ flag false ∷ []) in
    let object = free_word (codes "babelHelpers") in
    let member = spelled item.Str (text c.args.helper.now) ++ spelled item.Get (flag false) in
    subst (λ v. OnOk c.put_member.result (entries c.put_member.new.out.items ≡ v))
    (ap (λ v. v ++ member) (c.in_ok-put_free.ensures ∙ ap (λ v. v ++ object) c.in_ok-put_call_start.ensures)
    ∙ append_assoc (entries c.args.out.now.items ++ call) object member
    ∙ append_assoc (entries c.args.out.now.items) call (object ++ member))
    c.put_member.ensures
