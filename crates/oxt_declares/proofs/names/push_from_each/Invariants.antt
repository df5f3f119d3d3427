-- The names so far stand in front of those of what is left.
use Rattle.std.proofs.Common.{◌≡◌, ◌++◌, drop}
use Rattle.oxt_grammar.specs.Keys.{key_of}
use Rattle.oxt_tree.specs.View.{docs_in}
use Rattle.oxt_declares.specs.Bare.{bare_views}
use Rattle.oxt_declares.specs.Declares.{names_in_each}
use Rattle.oxt_declares.proofs.names.push_from_each.Given as goal

abbrev pub invariant-loop-part : goal.invariant-loop-part
invariant-loop-part l = bare_views l.initial.names.items ++ names_in_each (key_of l.field) (docs_in l.parts) ≡ bare_views l.names.items ++ names_in_each (key_of l.field) (docs_in (drop l.part-index l.parts))
