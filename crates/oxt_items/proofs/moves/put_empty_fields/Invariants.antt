-- What is put so far, with what is left, is the whole.
use Rattle.std.proofs.Common.{◌≡◌, ◌++◌, drop, map}
use Rattle.oxt_facts.specs.Entry.{entries}
use Rattle.oxt_names.specs.Names.{name_bytes}
use Rattle.oxt_items.specs.Classes.{empty_fields}
use Rattle.oxt_items.proofs.moves.put_empty_fields.Given as goal

abbrev pub invariant-loop-name : goal.invariant-loop-name
invariant-loop-name l = entries l.initial.out.items ++ empty_fields (map name_bytes l.names) ≡ entries l.out.items ++ empty_fields (map name_bytes (drop l.name-index l.names))
