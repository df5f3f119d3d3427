-- What is given at each site, one site at a time.
use denote.Ref.{Bor}
use Rattle.std.proofs.Common.{ℕ, ◌+◌, ◌<◌, ◌≤◌, ◌≡◌, sym, ap, ◌∙◌, List, [], ◌++◌, Bool, length, map, drop, get_or, append_assoc, append-nil}
use Rattle.oxt_search.specs.All.{all_in}
use Rattle.oxt_search.specs.Sought.{Sought}
use Rattle.oxt_declares.proofs.Finds.{site_doc}
use Rattle.oxt_declares.proofs.Outside.{all_outside}
use Rattle.oxt_declares.specs.Quiet.{IsQuietOutside}
use Rattle.oxt_declares.specs.Sites.{all_each, enum_sites}
use Rattle.oxt_names.proofs.Lists.{drop_at, drop_end}
use Rattle.oxt_tree.specs.Doc.{Doc}
use Rattle.oxt_tree.specs.declared.tree.Node.{Node}

-- one more
pub each_next : {S A : Type 0} (before after : List A) (q : Sought S A) (s : S) (ns : List (Bor Node)) (i : ℕ) (n : Bor Node) → i < length ns → n ≡ get_or ns i n → after ≡ before ++ all_in q (site_doc n) s
    → before ++ all_each q (map site_doc (drop i ns)) s ≡ after ++ all_each q (map site_doc (drop (i + 1) ns)) s
each_next before after q s ns i n lt here pushed =
    ap (λ ms. before ++ all_each q (map site_doc ms) s) (drop_at ns i n lt here)
    ∙ sym (append_assoc before (all_in q (site_doc n) s) (all_each q (map site_doc (drop (i + 1) ns)) s))
    ∙ ap (λ xs. xs ++ all_each q (map site_doc (drop (i + 1) ns)) s) (sym pushed)

-- no more
pub each_last : {S A : Type 0} (before : List A) (q : Sought S A) (s : S) (ns : List (Bor Node)) (i : ℕ) → length ns ≤ i → before ++ all_each q (map site_doc (drop i ns)) s ≡ before
each_last before q s ns i le = ap (λ ms. before ++ all_each q (map site_doc ms) s) (drop_end ns i le) ∙ append-nil before

pub ruleset each_steps = (each_next, each_last)

-- what is given at all the sites of a document is given in it
pub all_of_sites : {F S A : Type 0} (view : F → A) (l : Bool) (q : Sought S A) (s : S) (d : Doc) (before after : List F) (sites : List Doc) → IsQuietOutside l q s → before ≡ [] → sites ≡ enum_sites l d → map view after ≡ map view before ++ all_each q sites s
    → map view after ≡ all_in q d s
all_of_sites view l q s d before after sites quiet none all given =
    given ∙ ap (λ xs. map view xs ++ all_each q sites s) none ∙ ap (λ ds. all_each q ds s) all ∙ sym (all_outside l q s quiet d)
