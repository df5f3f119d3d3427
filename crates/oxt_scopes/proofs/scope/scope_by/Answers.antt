-- The tables are those of the declarations.
use Rattle.oxt_scopes.proofs.Tables.{same_level}
use Rattle.oxt_scopes.proofs.scope.scope_by.Goals as goal

pub returns-clause-level : goal.returns-clause-level
returns-clause-level c =
    same_level (record { number = c.scope_number.result; names = c.in_ok-names_of.field-0; blocks = c.in_ok-blocks_of.field-0; enum_name = c.enum_of.result })
    _ _ _ c.scope_number.ensures c.in_ok-names_of.ensures c.in_ok-blocks_of.ensures c.enum_of.ensures
