-- What is put so far, with what is left, is the whole.
use Rattle.std.proofs.Common.{◌≡◌, ◌++◌, [], map}
use Rattle.oxt_facts.specs.Entry.{entries}
use Rattle.oxt_names.specs.Names.{name_bytes}
use Rattle.oxt_items.proofs.Noted.{tests_from}
use Rattle.oxt_items.specs.Metadata.{tests_word}
use Rattle.oxt_items.proofs.metadata.put_later_tests.Given as goal

abbrev pub invariant-loop-place : goal.invariant-loop-place
invariant-loop-place l =
    entries l.initial.out.items ++ tests_word l.facts l.reference.root.0 (name_bytes l.reference.name) [] (map name_bytes l.path)
    ≡ entries l.out.items ++ tests_from l.facts l.reference.root.0 (name_bytes l.reference.name) l.path l.place
