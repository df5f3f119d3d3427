-- The word that was found is spelled as the text.
use Rattle.std.proofs.Common.{◌≡◌, sym, ◌∙◌, rules, Some}
use Rattle.oxt_grammar.specs.Places.{words_of}
use Rattle.oxt_grammar.specs.Words.{text_of}
use Rattle.oxt_tree.specs.Doc.{text}
use Rattle.oxt_tree.specs.View.{part_doc}
use Rattle.oxt_tree.specs.declared.tree.Part.{the_lemmas}
use Rattle.oxt_tree.specs.declared.tree.Part.TheVariants as part
use Rattle.oxt_json.proofs.WordsFound.{word_of_some}
use Rattle.oxt_json.proofs.leaves.word_part.Goals as goal

pub returns : goal.returns
returns c =
    let spelled : Some (part_doc (part.Word c.in_ok-word.word)) ≡ Some (text (text_of c.in_ok-word.word)) = search (rules, the_lemmas) in
    spelled ∙ word_of_some (words_of c.args.holds) c.args.text.now _ _ (sym c.in_ok-words.ensures) (sym c.in_ok-word.ensures)
