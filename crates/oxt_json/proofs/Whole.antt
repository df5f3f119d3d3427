-- The text of the whole tree, from its tokens.
use Rattle.std.proofs.Common.{◌≡◌, ◌∙◌, sym, ap, ℕ, List, [], ◌++◌, option_and_then, arith, append-nil}
use Rattle.json.proofs.Printed.Trees.{value-json_tokens}
use Rattle.json.specs.Json as json
use Rattle.json.specs.Lex.{tokens}
use Rattle.json.specs.Print.{print}
use Rattle.json.specs.Token.{Token}
use Rattle.oxt_json.proofs.ReadBack.{same_depth, same_blank, reads}
use Rattle.oxt_json.specs.Numbers.{DataFits}
use Rattle.oxt_json.specs.Spelled.{data_of, text_of, ReadsBack}
use Rattle.oxt_json.specs.Tokens.{tokens_of}
use Rattle.oxt_tree.specs.Doc.{Doc}
use Rattle.serde_json.proofs.Texts.{print-outline}
use Rattle.serde_json.specs.Read.{of_json, max_depth}
use Rattle.serde_json.specs.Written.{outline, IsInOrder}

-- what a writer that began with nothing gives back, and the tokens that are read in it
pub printed : (bytes before : List ℕ) (old ts us : List Token) → before ≡ [] → old ≡ [] → ts ≡ old ++ us → bytes ≡ before ++ print ts → tokens (print ts) ≡ ts → (bytes ≡ print us) × (tokens bytes ≡ us)
printed bytes before old ts us none empty is gives reads =
    let same : ts ≡ us = is ∙ ap (λ l. l ++ us) empty in
    let text : bytes ≡ print ts = gives ∙ ap (λ b. b ++ print ts) none in
    (text ∙ ap print same, ap tokens text ∙ (reads ∙ same))

-- they print as the document's text
pub is_text : (d : Doc) (bytes : List ℕ) → bytes ≡ print (tokens_of (data_of d)) → bytes ≡ text_of d
is_text d bytes is = is ∙ print-outline (data_of d)

-- the text has the data in order
pub is_in_order : (d : Doc) (bytes : List ℕ) → tokens bytes ≡ tokens_of (data_of d) → DataFits (data_of d) → IsInOrder bytes (data_of d)
is_in_order d bytes is fit = (outline (data_of d), is, same_blank (data_of d) fit)

-- and is read back
pub is_read_back : (d : Doc) (bytes : List ℕ) → tokens bytes ≡ tokens_of (data_of d) → DataFits (data_of d) → ReadsBack bytes (data_of d)
is_read_back d bytes is fit shallow =
    let value : json.value max_depth (tokens bytes) ≡ _ = ap (json.value max_depth) (is ∙ sym (append-nil _)) ∙ value-json_tokens (outline (data_of d)) max_depth [] (omega (arith, shallow, same_depth (data_of d))) in
    ap (λ o. option_and_then of_json (option_and_then (λ p. json.if_last p.0 p.1) o)) value ∙ reads d fit
