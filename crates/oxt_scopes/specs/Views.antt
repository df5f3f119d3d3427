-- Scopes as contracts see them.
use Rattle.std.specs.Prelude.{List, map}
use Rattle.oxt_declares.specs.Declarations.{declared_views}
use Rattle.oxt_scopes.specs.Stack.{number_at}
use Rattle.oxt_scopes.specs.Nestings.{Opened}
use Rattle.oxt_scopes.specs.declared.scopes.OpenedScope.{OpenedScope}

abbrev pub opened_view : OpenedScope → Opened
opened_view s = record { number = s.number.0; parent = number_at s.parent; role = s.role; standing = s.standing; declared = declared_views s.declarations.items }

abbrev pub opened_views : List OpenedScope → List Opened
opened_views ss = map opened_view ss
