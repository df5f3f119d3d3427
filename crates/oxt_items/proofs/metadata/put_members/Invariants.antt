-- What is put so far, with what is left, is the whole.
use Rattle.std.proofs.Common.{◌≡◌, ◌++◌, drop, map}
use Rattle.oxt_facts.specs.Entry.{entries}
use Rattle.oxt_names.specs.Names.{name_bytes}
use Rattle.oxt_items.specs.Metadata.{member_words}
use Rattle.oxt_items.proofs.metadata.put_members.Given as goal

abbrev pub invariant-loop-name : goal.invariant-loop-name
invariant-loop-name l = entries l.initial.out.items ++ member_words (map name_bytes l.path) ≡ entries l.out.items ++ member_words (map name_bytes (drop l.name-index l.path))
