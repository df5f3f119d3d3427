-- What holds no nodes gives nothing.
use Rattle.std.proofs.Common.{◌≡◌, refl, sym, ap, ◌∙◌, List, [], ◌++◌, Bool, true, false, Option, None, Some, append-nil}
use Rattle.oxt_search.specs.All.{all_in, given_in}
use Rattle.oxt_search.specs.First.{first}
use Rattle.oxt_search.specs.Sought.{Sought, holds_nodes}
use Rattle.oxt_tree.specs.Doc.{Doc, nil, flag, number, text, list, node}

nothing_in : {S A : Type 0} (q : Sought S A) (d : Doc) (s : S) → holds_nodes d ≡ false → all_in q d s ≡ []
nothing_in q nil s h = refl
nothing_in q (flag b) s h = refl
nothing_in q (number n) s h = refl
nothing_in q (text t) s h = refl
nothing_in q (list ds) s h = absurd (cc)
nothing_in q (node k i b e ds) s h = absurd (cc)

-- in whatever state it is reached
nothing_given : {S A : Type 0} (q : Sought S A) (d : Doc) (o : Option S) → holds_nodes d ≡ false → given_in (all_in q d) o ≡ []
nothing_given q d None h = refl
nothing_given q d (Some s) h = nothing_in q d s h

-- the first of it
pub first_of_bare : {S A : Type 0} (q : Sought S A) (d : Doc) (o : Option S) → holds_nodes d ≡ false → None ≡ first (given_in (all_in q d) o)
first_of_bare q d o h = ap first (sym (nothing_given q d o h))

-- behind what there is
pub all_of_bare : {S A : Type 0} (before : List A) (q : Sought S A) (d : Doc) (o : Option S) → holds_nodes d ≡ false → before ≡ before ++ given_in (all_in q d) o
all_of_bare before q d o h = sym (append-nil before) ∙ ap (λ xs. before ++ xs) (sym (nothing_given q d o h))
