-- What is put so far, with what is left, is the whole.
use Rattle.std.proofs.Common.{◌≡◌, ◌++◌, drop}
use Rattle.oxt_facts.specs.Entry.{entries}
use Rattle.oxt_facts.specs.Told.{names_view}
use Rattle.oxt_names.specs.Names.{name_bytes}
use Rattle.oxt_items.specs.Namespaces.{name_puts}
use Rattle.oxt_items.proofs.namespaces.put_names.Given as goal

abbrev pub invariant-loop-name : goal.invariant-loop-name
invariant-loop-name l = entries l.initial.out.items ++ name_puts (name_bytes l.tag) (names_view l.names) ≡ entries l.out.items ++ name_puts (name_bytes l.tag) (names_view (drop l.name-index l.names))
