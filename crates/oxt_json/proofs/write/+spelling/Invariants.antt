use Rattle.std.proofs.Common.{◌≡◌, ◌++◌, drop}
use Rattle.oxt_json.proofs.WriteLoops.{items_from}
use Rattle.oxt_json.specs.Numbers.{ItemsFit, MembersFit}
use Rattle.oxt_json.specs.Slots.{laid_node}
use Rattle.oxt_json.specs.Tokens.{item_tokens, member_tokens}
use Rattle.oxt_tree.specs.View.{docs_in}
use Rattle.oxt_json.proofs.write.+spelling.Given as goal

abbrev pub invariant-write_list-loop-part : goal.invariant-write_list-loop-part
invariant-write_list-loop-part l = record {
  before : l.out.before ≡ l.initial.out.before;
  tokens : l.initial.out.tokens ++ item_tokens (items_from 0 l.parts) ≡ l.out.tokens ++ item_tokens (items_from l.part-index l.parts);
  numbers : ItemsFit (items_from l.part-index l.parts) → ItemsFit (items_from 0 l.parts);
}

abbrev pub invariant-write_members-loop-slot : goal.invariant-write_members-loop-slot
invariant-write_members-loop-slot l = record {
  before : l.out.before ≡ l.initial.out.before;
  tokens : l.initial.out.tokens ++ member_tokens (laid_node l.kind l.span.start l.span.end (docs_in l.parts) l.slot-items) ≡ l.out.tokens ++ member_tokens (laid_node l.kind l.span.start l.span.end (docs_in l.parts) (drop l.slot-index l.slot-items));
  numbers : MembersFit (laid_node l.kind l.span.start l.span.end (docs_in l.parts) (drop l.slot-index l.slot-items)) → MembersFit (laid_node l.kind l.span.start l.span.end (docs_in l.parts) l.slot-items);
}
