-- The texts of a template, an element at a time.
use Rattle.std.proofs.Common.{ℕ, zero, suc, ◌+◌, ◌<◌, ◌≤◌, ◌≡◌, refl, sym, ap, ◌∙◌, List, [], ◌∷◌, ◌++◌, length, drop, get_or, Option, Some, None, option_map, append_assoc, append-nil, arith, codes}
use Rattle.std.specs.Option.{option_and_then}
use Rattle.oxt_constant.specs.Evaluated.{constant_views, first_spelling, template_text}
use Rattle.oxt_names.specs.Constant.{constant_view, spelling}
use Rattle.oxt_names.specs.declared.constant.ConstantValue.{ConstantValue}
use Rattle.oxt_names.proofs.Lists.{drop_at, drop_end}
use Rattle.oxt_tree.specs.Fields.{field_of, text_in}
use Rattle.oxt_tree.specs.View.{docs_in, part_doc}
use Rattle.oxt_tree.specs.declared.tree.Part.{Part}

-- ---- the constant at a place

pub spelled_at : (vs : List ConstantValue) (i : ℕ) (v : ConstantValue) → i < length vs → v ≡ get_or vs i v → first_spelling (constant_views (drop i vs)) ≡ spelling (constant_view v)
spelled_at vs i v h e = ap (λ ws. first_spelling (constant_views ws)) (drop_at vs i v h e)

pub spelled_past : (vs : List ConstantValue) (i : ℕ) → length vs ≤ i → first_spelling (constant_views (drop i vs)) ≡ []
spelled_past vs i h = ap (λ ws. first_spelling (constant_views ws)) (drop_end vs i h)

pub ruleset spellings = (spelled_at, spelled_past)

-- ---- the texts

drop_view : (vs : List ConstantValue) (i : ℕ) → drop 1 (constant_views (drop i vs)) ≡ constant_views (drop (suc i) vs)
drop_view [] zero = refl
drop_view [] (suc i) = refl
drop_view (v ∷ vs) zero = refl
drop_view (v ∷ vs) (suc i) = drop_view vs i

suc_is : (i : ℕ) → suc i ≡ i + 1
suc_is i = omega arith

drop_one : (vs : List ConstantValue) (i : ℕ) → drop 1 (constant_views (drop i vs)) ≡ constant_views (drop (i + 1) vs)
drop_one vs i = drop_view vs i ∙ ap (λ n. constant_views (drop n vs)) (suc_is i)

text_at : (ps : List Part) (vs : List ConstantValue) (i : ℕ) (p : Part) → i < length ps → p ≡ get_or ps i p → template_text (docs_in (drop i ps)) (constant_views (drop i vs))
    ≡ option_and_then (λ t. option_map (λ rest. t ++ first_spelling (constant_views (drop i vs)) ++ rest) (template_text (docs_in (drop (i + 1) ps)) (constant_views (drop (i + 1) vs)))) (text_in (field_of (codes "cooked") (part_doc p)))
text_at ps vs i p h e =
    ap (λ qs. template_text (docs_in qs) (constant_views (drop i vs))) (drop_at ps i p h e)
    ∙ ap (λ cs. option_and_then (λ t. option_map (λ rest. t ++ first_spelling (constant_views (drop i vs)) ++ rest) (template_text (docs_in (drop (i + 1) ps)) cs)) (text_in (field_of (codes "cooked") (part_doc p)))) (drop_one vs i)

pushed : (old t s : List ℕ) (r : Option (List ℕ)) → option_map (λ rest. old ++ rest) (option_map (λ rest. t ++ s ++ rest) r) ≡ option_map (λ rest. (old ++ (t ++ s)) ++ rest) r
pushed old t s None = refl
pushed old t s (Some rest) = ap (λ (xs : List ℕ). Some xs) (sym (append_assoc old (t ++ s) rest))

pub text_next : (whole : Option (List ℕ)) (ps : List Part) (vs : List ConstantValue) (i : ℕ) (p : Part) (old new t : List ℕ) → i < length ps → p ≡ get_or ps i p → text_in (field_of (codes "cooked") (part_doc p)) ≡ Some t
    → new ≡ old ++ (t ++ first_spelling (constant_views (drop i vs)))
    → whole ≡ option_map (λ rest. old ++ rest) (template_text (docs_in (drop i ps)) (constant_views (drop i vs)))
    → whole ≡ option_map (λ rest. new ++ rest) (template_text (docs_in (drop (i + 1) ps)) (constant_views (drop (i + 1) vs)))
text_next whole ps vs i p old new t h e c n w =
    w ∙ ap (option_map (λ rest. old ++ rest)) (text_at ps vs i p h e ∙ ap (option_and_then (λ u. option_map (λ rest. u ++ first_spelling (constant_views (drop i vs)) ++ rest) (template_text (docs_in (drop (i + 1) ps)) (constant_views (drop (i + 1) vs))))) c)
    ∙ pushed old t (first_spelling (constant_views (drop i vs))) (template_text (docs_in (drop (i + 1) ps)) (constant_views (drop (i + 1) vs)))
    ∙ ap (λ xs. option_map (λ rest. xs ++ rest) (template_text (docs_in (drop (i + 1) ps)) (constant_views (drop (i + 1) vs)))) (sym n)

pub text_none : (whole : Option (List ℕ)) (ps : List Part) (vs : List ConstantValue) (i : ℕ) (p : Part) (old : List ℕ) → i < length ps → p ≡ get_or ps i p → text_in (field_of (codes "cooked") (part_doc p)) ≡ None
    → whole ≡ option_map (λ rest. old ++ rest) (template_text (docs_in (drop i ps)) (constant_views (drop i vs)))
    → None ≡ whole
text_none whole ps vs i p old h e c w =
    sym (w ∙ ap (option_map (λ rest. old ++ rest)) (text_at ps vs i p h e ∙ ap (option_and_then (λ u. option_map (λ rest. u ++ first_spelling (constant_views (drop i vs)) ++ rest) (template_text (docs_in (drop (i + 1) ps)) (constant_views (drop (i + 1) vs))))) c))

pub text_end : (whole : Option (List ℕ)) (ps : List Part) (vs : List ConstantValue) (i : ℕ) (old : List ℕ) → length ps ≤ i
    → whole ≡ option_map (λ rest. old ++ rest) (template_text (docs_in (drop i ps)) (constant_views (drop i vs)))
    → Some old ≡ whole
text_end whole ps vs i old h w =
    sym (w ∙ ap (λ qs. option_map (λ rest. old ++ rest) (template_text (docs_in qs) (constant_views (drop i vs)))) (drop_end ps i h) ∙ ap (λ (xs : List ℕ). Some xs) (append-nil old))

pub ruleset steps = (text_next, text_none, text_end)
