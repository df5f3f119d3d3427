-- What being plain beside wrappers has to do with being plain.
use Rattle.std.specs.Prelude.{◌≡◌, ℕ, Bool, false}
use Rattle.oxt_grammar.specs.declared.holds.Holds.{Holds}
use Rattle.oxt_check.specs.Beside.{is_plain_beside}
use Rattle.oxt_tree.specs.Doc.{Doc}
use Rattle.oxt_valid.specs.Plain.{is_plain}

-- Where no wrapper is kept, plain beside them is plain.
abbrev pub PlainBesideNothing : Type 0
PlainBesideNothing = (d : Doc) (h : Holds) (ks : ℕ → Bool) → ((n : ℕ) → ks n ≡ false) → is_plain_beside d h ks ≡ is_plain d
