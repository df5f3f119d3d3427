-- Names of a list of nodes, a node at a time.
use Rattle.std.proofs.Common.{ℕ, ◌+◌, ◌<◌, ◌≤◌, ◌≡◌, sym, ap, ◌∙◌, List, [], ◌∷◌, ◌++◌, length, map, drop, get_or, append_assoc, append-nil}
use Rattle.oxt_names.proofs.Lists.{drop_at, drop_end}
use Rattle.oxt_tree.specs.Bound.{Bound, bound_names}
use Rattle.oxt_tree.specs.Fields.{field_of}
use Rattle.oxt_tree.specs.View.{docs_in, part_doc}
use Rattle.oxt_tree.specs.declared.tree.Part.{Part}
use Rattle.oxt_declares.specs.Bare.{bare_view, bare_views}
use Rattle.oxt_declares.specs.Declarations.{Declared}
use Rattle.oxt_declares.specs.Declares.{names_in_each}
use Rattle.oxt_declares.specs.declared.bare.BareName.{BareName}

pub regroup : {A : Type 0} (whole old a rest : List A) → whole ≡ old ++ (a ++ rest) → whole ≡ (old ++ a) ++ rest
regroup whole old a rest h = h ∙ sym (append_assoc old a rest)

pub each_end : (before : List Bound) (name : List ℕ) (ps : List Part) (i : ℕ) → length ps ≤ i → before ++ names_in_each name (docs_in (drop i ps)) ≡ before
each_end before name ps i h = ap (λ qs. before ++ names_in_each name (docs_in qs)) (drop_end ps i h) ∙ append-nil before

pub each_next : (before after : List Bound) (name : List ℕ) (ps : List Part) (i : ℕ) (p : Part) → i < length ps → p ≡ get_or ps i p → after ≡ before ++ bound_names (field_of name (part_doc p)) → before ++ names_in_each name (docs_in (drop i ps)) ≡ after ++ names_in_each name (docs_in (drop (i + 1) ps))
each_next before after name ps i p h e pushed =
    ap (λ qs. before ++ names_in_each name (docs_in qs)) (drop_at ps i p h e)
    ∙ sym (append_assoc before (bound_names (field_of name (part_doc p))) (names_in_each name (docs_in (drop (i + 1) ps))))
    ∙ ap (λ bs. bs ++ names_in_each name (docs_in (drop (i + 1) ps))) (sym pushed)

pub ruleset each_steps = (each_next, each_end)

-- bare names that are declared, one after another
pub declare_end : (before : List Declared) (f : Bound → Declared) (ns : List BareName) (i : ℕ) → length ns ≤ i → before ++ map f (bare_views (drop i ns)) ≡ before
declare_end before f ns i h = ap (λ qs. before ++ map f (bare_views qs)) (drop_end ns i h) ∙ append-nil before

pub declare_next : (before after : List Declared) (f : Bound → Declared) (ns : List BareName) (i : ℕ) (n : BareName) → i < length ns → n ≡ get_or ns i n → after ≡ before ++ f (bare_view n) ∷ [] → before ++ map f (bare_views (drop i ns)) ≡ after ++ map f (bare_views (drop (i + 1) ns))
declare_next before after f ns i n h e pushed =
    ap (λ qs. before ++ map f (bare_views qs)) (drop_at ns i n h e)
    ∙ sym (append_assoc before (f (bare_view n) ∷ []) (map f (bare_views (drop (i + 1) ns))))
    ∙ ap (λ bs. bs ++ map f (bare_views (drop (i + 1) ns))) (sym pushed)

pub ruleset declare_steps = (declare_next, declare_end)
