use Rattle.std.proofs.Common.{◌≡◌, ◌∙◌, ap, ap₂, sym, subst, arith, map, List, ℕ, [], ◌∷◌, ◌++◌, Bor, IsUtf8, slice_index_or}
use Rattle.std.specs.List.{All}
use Rattle.std.proofs.lemmas.List.{map_more, map-append}
use Rattle.std.proofs.lemmas.List.Elements.{All-append}
use Rattle.oxt_names.specs.Names.{name_bytes}
use Rattle.oxt_flags.proofs.options.texts_of.Goals as goal

abbrev IsText : Bor (List ℕ) → Type 0
IsText t = IsUtf8 t.now

one_text : (t : Bor (List ℕ)) → IsUtf8 t.now → All IsText (t ∷ [])
one_text t u = λ k d lt. let first : 0 ≡ k = omega arith in subst (λ (j : ℕ). IsText (slice_index_or (t ∷ []) j d)) first u

pub loop-word-preserved : goal.loop-word-preserved
loop-word-preserved c =
    let words = c.args.words.now in
    let texts = c.loop-word.texts.items in
    let added = c.in_ok-push.ensures.items in
    record {
      same =
          ap (map (λ (t : Bor (List ℕ)). t.now)) added ∙ map-append (λ (t : Bor (List ℕ)). t.now) texts (c.as_str.result ∷ [])
          ∙ ap₂ (λ (front : List (List ℕ)) (last : List ℕ). front ++ last ∷ []) c.loop-word.invariant.same (c.as_str.ensures ∙ ap name_bytes c.word-item.is)
          ∙ sym (map_more name_bytes words c.loop-word.word-index c.word-item.result c.loop-word-test.true);
      utf8 = subst (All IsText) (sym added) (All-append IsText texts (c.as_str.result ∷ []) c.loop-word.invariant.utf8 (one_text c.as_str.result c.as_str.utf8));
    }
