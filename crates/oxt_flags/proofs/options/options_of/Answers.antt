use Rattle.std.proofs.Common.{sym, subst, List, ℕ, Bor, IsUtf8}
use Rattle.std.specs.List.{All}
use Rattle.oxt_flags.proofs.options.options_of.Goals as goal

pub options_of_texts-requires : goal.options_of_texts-requires
options_of_texts-requires c = subst (All (λ (t : Bor (List ℕ)). IsUtf8 t.now)) (sym c.as_slice.ensures.value) c.in_ok-texts.ensures.utf8
