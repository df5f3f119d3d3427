use Rattle.oxt_faults.proofs.Memberless.{quiet_outside}
use Rattle.oxt_faults.proofs.initializer.first_initializer_word.Goals as goal

pub all_at_sites-requires : goal.all_at_sites-requires
all_at_sites-requires c = quiet_outside c.args.sites.now.legacy c.args.scoping.now
