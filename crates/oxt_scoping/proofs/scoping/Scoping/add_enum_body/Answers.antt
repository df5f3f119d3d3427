-- The scope of the body is there.
use Rattle.std.proofs.Common.{◌<◌, length, subst, sym}
use Rattle.oxt_scoping.specs.Scoped.{Scoped}
use Rattle.oxt_scoping.proofs.Sound.{sound_body, table_of}
use Rattle.oxt_scoping.proofs.scoping.Scoping.add_enum_body.Goals as goal

pub invariant_of-self-2 : goal.invariant_of-self-2
invariant_of-self-2 c =
    sound_body (table_of c.self.inside) c.args.symbol.0 c.args.scope c.add_body_in.new.symbols.items c.self.invariant
    (subst (λ (s : Scoped). c.args.scope.0 < length s.scopes) (sym c.self.view_is) c.requires.scope) c.in_ok-add_body_in.ensures.pushed
