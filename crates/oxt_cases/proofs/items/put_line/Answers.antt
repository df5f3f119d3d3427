use Rattle.std.proofs.Common.{◌≡◌, ◌∙◌, ◌++◌, ap}
use Rattle.oxt_facts.specs.Entry.{entry_of}
use Rattle.oxt_cases.proofs.Shows.{written}
use Rattle.oxt_cases.proofs.items.put_line.Goals as goal

pub returns : goal.returns
returns c = written (entry_of c.args.item.now) _ c.args.bytes.now.items _ _ _ c.in_ok-item_value.ensures c.in_ok-text.ensures.text (c.in_ok-extend_from_slice.ensures.items ∙ ap (λ t. c.args.bytes.now.items ++ t) c.as_slice.ensures.value) c.in_ok-push.ensures.items
