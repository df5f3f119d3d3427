-- How calls of the functions of `babelHelpers` begin.
use Rattle.std.specs.Prelude.{ℕ, List, [], ◌∷◌, ◌++◌, false, codes}
use Rattle.oxt_facts.specs.Entry.{Entry, spelled}
use Rattle.oxt_facts.specs.declared.item.ItemKind.TheVariants as item
use Rattle.oxt_forms.specs.Details.{start}
use Rattle.oxt_grammar.specs.declared.kind.Kind.TheVariants as kind
use Rattle.oxt_tree.specs.Doc.{flag, text}
use Rattle.oxt_items.specs.Modules.{free_word}

-- the start of a call of that function of `babelHelpers`
unfoldable pub helper_start : List ℕ → List Entry
helper_start x =
    start kind.CallExpression (flag false ∷ flag false ∷ [])
    ++ (free_word (codes "babelHelpers") ++ (spelled item.Str (text x) ++ spelled item.Get (flag false)))
