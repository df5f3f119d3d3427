-- What is put so far, with what is left, is the whole.
use Rattle.std.proofs.Common.{◌≡◌, ◌++◌, drop, map}
use Rattle.oxt_facts.specs.Entry.{entries}
use Rattle.oxt_facts.specs.Told.{type_view}
use Rattle.oxt_items.specs.Metadata.{types_word}
use Rattle.oxt_items.proofs.metadata.put_types.Given as goal

abbrev pub invariant-loop-noted : goal.invariant-loop-noted
invariant-loop-noted l = entries l.initial.out.items ++ types_word l.facts (map type_view l.types) ≡ entries l.out.items ++ types_word l.facts (map type_view (drop l.noted-index l.types))
