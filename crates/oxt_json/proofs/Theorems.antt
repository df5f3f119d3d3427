-- The laws.
use Rattle.std.proofs.Common.{◌≡◌, ◌∙◌, refl, sym, ap, ℕ, List, Ok, Some, true}
use Rattle.std.specs.Str.{is_utf8}
use Rattle.std.proofs.lemmas.Str.{is_utf8-from_IsUtf8}
use Rattle.oxt_json.specs.Spelled.{data_of}
use Rattle.oxt_json.proofs.Numbering.{numbering}
use Rattle.oxt_json.proofs.Outlines.{same_data, fits_small}
use Rattle.oxt_json.proofs.Rereading.{reads}
use Rattle.oxt_json.proofs.Tokens.{one_json}
use Rattle.oxt_json.specs.Answer.{Answer}
use Rattle.oxt_json.specs.Laws.{DataReadsBack, TextReadsBack, DataTellsTrees, TextTellsTrees}
use Rattle.oxt_json.specs.Numbered.{numbered, unnumbered}
use Rattle.oxt_json.specs.Reading.{tree_of}
use Rattle.oxt_json.specs.Spelling.{value_of, answered, value_reading}
use Rattle.oxt_grammar.specs.declared.category.Category.TheVariants as category
use Rattle.oxt_grammar.specs.declared.context.Setting.TheVariants.{Elsewhere}
use Rattle.oxt_grammar.specs.declared.holds.Holds.TheVariants as holds
use Rattle.oxt_tree.specs.Doc.{Doc}
use Rattle.serde_json.specs.Data.{Data}
use Rattle.serde_json.specs.Read.{read}
use Rattle.serde_json.specs.Written.{IsInOrder, outline, blank}

pub data_reads_back : DataReadsBack
data_reads_back d valid = reads d Elsewhere (holds.Node category.Program) 1 valid.fits_the_grammar

value_read : (bytes : List ℕ) (d : Data) → is_utf8 bytes ≡ true → read bytes ≡ Some d → value_of bytes ≡ Some d
unfolding value_of
value_read bytes d is_text is = rw (is_text, is) refl

pub text_reads_back : TextReadsBack
text_reads_back bytes d valid utf8 back within =
    ap value_reading (value_read bytes (data_of d) (is_utf8-from_IsUtf8 bytes utf8) (back within)) ∙ ap answered (data_reads_back d valid)

one_reading : (p q : Doc × ℕ) (answer : Answer Doc) → answer ≡ Ok p → answer ≡ Ok q → p ≡ q
one_reading p q answer e f = cc

pub data_tells_trees : DataTellsTrees
data_tells_trees c d valid_c valid_d same =
    let read : numbered c 1 ≡ numbered d 1 = one_reading (numbered c 1) (numbered d 1) (tree_of (data_of c)) (data_reads_back c valid_c) (ap tree_of same ∙ data_reads_back d valid_d) in
    sym (numbering c 1) ∙ (ap (λ p. unnumbered p.0) read ∙ numbering d 1)

one_outline : (bytes : List ℕ) (c d : Doc) → IsInOrder bytes (data_of c) → IsInOrder bytes (data_of d) → outline (data_of c) ≡ outline (data_of d)
one_outline bytes c d in_c in_d = sym in_c.2 ∙ (ap blank (one_json in_c.0 in_d.0 (sym in_c.1 ∙ in_d.1)) ∙ in_d.2)

pub text_tells_trees : TextTellsTrees
text_tells_trees bytes c d valid_c valid_d in_c in_d =
    data_tells_trees c d valid_c valid_d (same_data (data_of c) (data_of d)
    (fits_small c Elsewhere (holds.Node category.Program) valid_c.fits_the_grammar)
    (fits_small d Elsewhere (holds.Node category.Program) valid_d.fits_the_grammar)
    (one_outline bytes c d in_c in_d))
