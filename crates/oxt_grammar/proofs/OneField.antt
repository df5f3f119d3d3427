-- Each field has a key of its own.
use Rattle.std.proofs.Common.{◌≡◌, ◌∙◌, sym, ap, Bool, true, Some, bytes_eq}
use Rattle.std.proofs.lemmas.Slice.Eq.{bytes_eq-Decides}
use Rattle.oxt_grammar.proofs.EachField.{field_of, field_of-key}
use Rattle.oxt_grammar.proofs.OneKind.{agreeing}
use Rattle.oxt_grammar.specs.Keys.{key_of}
use Rattle.oxt_grammar.specs.Places.{same_field}
use Rattle.oxt_grammar.specs.declared.field.Field.{Field}

some_same : (f g : Field) → Some f ≡ Some g → f ≡ g
some_same f g e = cc

-- fields of one key are one
pub one_field : (f g : Field) → key_of f ≡ key_of g → f ≡ g
one_field f g e = some_same f g (sym (field_of-key f) ∙ (ap field_of e ∙ field_of-key g))

-- a test that tells whether two fields are one tells whether their keys are
pub same_by_key : (f g : Field) (b : Bool) → (b ≡ true → f ≡ g) → (f ≡ g → b ≡ true) → b ≡ same_field f g
same_by_key f g b to from =
    agreeing b (same_field f g) (λ e. (bytes_eq-Decides (key_of f) (key_of g)).1 (ap key_of (to e))) (λ e. from (one_field f g ((bytes_eq-Decides (key_of f) (key_of g)).0 e)))
