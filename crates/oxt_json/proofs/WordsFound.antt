-- A word that is found is the text that was looked for.
use Rattle.std.proofs.Common.{◌≡◌, List, [], ◌∷◌, ℕ, Bool, ◌||◌, true, false, Option, Some, None, option_map, cond, refl, sym, ap, ◌∙◌, bytes_eq}
use Rattle.std.specs.List.{find, list_any}
use Rattle.std.proofs.lemmas.Slice.Eq.{bytes_eq-Decides}
use Rattle.oxt_grammar.specs.Words.{text_of, words_in}
use Rattle.oxt_grammar.specs.declared.word.Word.{Word}
use Rattle.oxt_grammar.specs.declared.word.Words.{Words}
use Rattle.oxt_tree.specs.Doc.{text}
use Rattle.oxt_valid.specs.Valid.{is_among}

found_at : {W A : Type 0} (text_of : W → List ℕ) (f : List ℕ → A) (t : List ℕ) (w : W) (ws : List W) (b : Bool) → bytes_eq (text_of w) t ≡ b
    → option_map (λ v. f (text_of v)) (find (λ v. bytes_eq (text_of v) t) ws) ≡ cond (list_any (λ v. bytes_eq (text_of v) t) ws) (Some (f t)) None
    → option_map (λ v. f (text_of v)) (cond b (Some w) (find (λ v. bytes_eq (text_of v) t) ws)) ≡ cond (b || list_any (λ v. bytes_eq (text_of v) t) ws) (Some (f t)) None
found_at text_of f t w ws true e later = ap (λ u. Some (f u)) ((bytes_eq-Decides (text_of w) t).0 e)
found_at text_of f t w ws false e later = later

pub found_word : {W A : Type 0} (text_of : W → List ℕ) (f : List ℕ → A) (t : List ℕ) (ws : List W)
    → option_map (λ v. f (text_of v)) (find (λ v. bytes_eq (text_of v) t) ws) ≡ cond (list_any (λ v. bytes_eq (text_of v) t) ws) (Some (f t)) None
found_word text_of f t [] = refl
found_word text_of f t (w ∷ ws) = found_at text_of f t w ws (bytes_eq (text_of w) t) refl (found_word text_of f t ws)

-- at the words of a list
pub word_found : (ws : Words) (t : List ℕ)
    → option_map (λ w. text (text_of w)) (find (λ w. bytes_eq (text_of w) t) (words_in ws)) ≡ cond (list_any (λ w. bytes_eq (text_of w) t) (words_in ws)) (Some (text t)) None
word_found ws t = found_word text_of (λ u. text u) t (words_in ws)

pub word_of_some : (o : Option Words) (t : List ℕ) (ws : Words) (w : Word) → o ≡ Some ws → find (λ v. bytes_eq (text_of v) t) (words_in ws) ≡ Some w
    → Some (text (text_of w)) ≡ cond (is_among o t) (Some (text t)) None
word_of_some o t ws w is found = rw is (ap (option_map (λ v. text (text_of v))) (sym found) ∙ word_found ws t)
