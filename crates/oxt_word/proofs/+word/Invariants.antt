-- What is put so far, with what is left, is the whole.
use Rattle.std.proofs.Common.{◌≡◌, ◌++◌}
use Rattle.oxt_tree.specs.View.{docs_in}
use Rattle.std.proofs.Common.{drop}
use Rattle.oxt_word.proofs.Loops.{fields_from}
use Rattle.oxt_facts.specs.Entry.{entries}
use Rattle.oxt_word.specs.Word.{each_said, some_said, turns_said}
use Rattle.oxt_word.proofs.+word.Given as goal

abbrev pub invariant-word::put_each-loop-part : goal.invariant-word::put_each-loop-part
invariant-word::put_each-loop-part l = entries l.initial.out.items ++ each_said l.facts (docs_in l.parts) l.way ≡ entries l.out.items ++ each_said l.facts (docs_in (drop l.part-index l.parts)) l.way

abbrev pub invariant-word::put_turns-loop-i : goal.invariant-word::put_turns-loop-i
invariant-word::put_turns-loop-i l = entries l.initial.out.items ++ turns_said l.facts (docs_in l.parts) l.way ≡ entries l.out.items ++ turns_said l.facts (docs_in (drop l.i l.parts)) l.way

abbrev pub invariant-word::put_fields-loop-i : goal.invariant-word::put_fields-loop-i
invariant-word::put_fields-loop-i l = entries l.initial.out.items ++ fields_from l.facts 0 l.rows l.parts l.way ≡ entries l.out.items ++ fields_from l.facts l.i l.rows l.parts l.way

abbrev pub invariant-word::put_some-loop-i : goal.invariant-word::put_some-loop-i
invariant-word::put_some-loop-i l = entries l.initial.out.items ++ some_said l.facts (docs_in l.parts) 0 l.way ≡ entries l.out.items ++ some_said l.facts (docs_in (drop l.i l.parts)) l.i l.way
