-- The documents of a list of parts.
use Rattle.std.proofs.Common.{◌+◌, ◌<◌, ◌≤◌, ◌≡◌, refl, sym, ap, ◌∙◌, arith, ℕ, zero, suc, List, [], ◌∷◌, length, map, drop, Bool, ◌||◌, cond, get_or, add-one}
use Rattle.std.proofs.Math.Seq.{drop-cons}
use Rattle.std.proofs.lemmas.List.Folds.{fold-map}
use Rattle.std.specs.List.{list_any, count_by}
use Rattle.oxt_tree.specs.Fields.{count}
use Rattle.oxt_tree.specs.Doc.{Doc}
use Rattle.oxt_tree.specs.Fields.{docs_list}
use Rattle.oxt_tree.specs.View.{docs_in, part_doc}
use Rattle.oxt_tree.specs.declared.tree.Part.{Part}

pub docs_list_docs_in : (ps : List Part) → docs_list (docs_in ps) ≡ map part_doc ps
docs_list_docs_in [] = refl
docs_list_docs_in (p ∷ ps) = ap (λ ds. part_doc p ∷ ds) (docs_list_docs_in ps)

pub count_docs_in : (ps : List Part) → length ps ≡ count (docs_in ps)
count_docs_in [] = refl
count_docs_in (p ∷ ps) = ap (λ n. suc n) (count_docs_in ps)

pub list_any_docs_in : (t : Doc → Bool) (ps : List Part) → list_any t (docs_list (docs_in ps)) ≡ list_any (λ p. t (part_doc p)) ps
list_any_docs_in t [] = refl
list_any_docs_in t (p ∷ ps) = ap (λ b. t (part_doc p) || b) (list_any_docs_in t ps)

pub count_by_docs_in : (t : Doc → Bool) (ps : List Part) → count_by t (docs_list (docs_in ps)) ≡ count_by (λ p. t (part_doc p)) ps
count_by_docs_in t ps = ap (count_by t) (docs_list_docs_in ps) ∙ fold-map (λ a x. a + cond (t x) 1 0) part_doc 0 ps

-- what is counted and sought among parts, and among their documents
pub ruleset searches = (list_any_docs_in, count_by_docs_in)
