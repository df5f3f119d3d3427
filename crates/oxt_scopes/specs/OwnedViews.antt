-- Owners as contracts see them.
use Rattle.std.specs.Prelude.{List, map}
use Rattle.oxt_scopes.specs.Owners.{Owned}
use Rattle.oxt_scopes.specs.Stack.{number_at}
use Rattle.oxt_scopes.specs.declared.owners.OwnedName.{OwnedName}

abbrev pub owned_view : OwnedName → Owned
owned_view n = record { node = n.node.0; name = n.name.now; owner = number_at n.owner; usage = n.usage }

abbrev pub owned_views : List OwnedName → List Owned
owned_views ns = map owned_view ns
