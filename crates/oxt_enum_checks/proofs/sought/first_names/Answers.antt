use Rattle.std.proofs.Common.{rules}
use Rattle.oxt_enum_checks.specs.Places.{places_in}
use Rattle.oxt_enum_checks.proofs.Symbols.{found_more}
use Rattle.oxt_enum_checks.proofs.sought.first_names.Goals as goal

pub loop-sought-preserved : goal.loop-sought-preserved
loop-sought-preserved c =
    found_more (places_in c.args.places.now) c.args.sought c.args.scoping.now.symbols c.loop-sought.found.items c.push.new.self.items c.len-in-loop-sought.result c.first_of-name.result
    (search rules) c.first_of-name.ensures c.in_ok-push.ensures.items c.loop-sought.invariant
