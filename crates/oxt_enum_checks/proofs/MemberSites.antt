-- Members of enums stand in enums.
use Rattle.std.proofs.Common.{◌≡◌, ap, Bool, Option, None, cond}
use Rattle.std.specs.Prelude.{codes}
use Rattle.oxt_enum_checks.specs.Around.{enum_in, symbol_of_name, within}
use Rattle.oxt_enum_checks.specs.Members.{member_in, member_of, sought}
use Rattle.oxt_names.specs.declared.ids.SymbolId.{SymbolId}
use Rattle.oxt_scoping.specs.Scoped.{Scoped}
use Rattle.oxt_declares.proofs.Outside.{no_enum, no_member, passing_over}
use Rattle.oxt_declares.specs.Quiet.{IsQuietOutside}
use Rattle.oxt_tree.specs.Fields.{named}

pub quiet_outside : (l : Bool) (s : Scoped) → IsQuietOutside l (sought l s) None
quiet_outside l s =
    passing_over l (λ (a : Option SymbolId) k i ds. member_of s k i a) (λ a k i ds. within s k ds a) (sought l s).in_field None
    (λ k i ds other. ap (λ b. cond b (member_in s i (enum_in s.symbols None)) None) (no_member k other))
    (λ k i ds other. ap (λ b. cond b (symbol_of_name s (named (codes "id") k ds)) None) (no_enum k other))
