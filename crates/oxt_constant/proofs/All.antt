-- The constants of a list, an element at a time.
use Rattle.std.proofs.Common.{ℕ, ◌+◌, ◌<◌, ◌≤◌, ◌≡◌, refl, sym, ap, ◌∙◌, List, [], ◌∷◌, ◌++◌, length, drop, get_or, Option, Some, None, option_map, append_assoc, append-nil}
use Rattle.oxt_constant.specs.Evaluated.{Env, constant, each_seen, all_of, in_front, constant_views}
use Rattle.oxt_names.specs.Constant.{Constant, constant_view}
use Rattle.oxt_names.specs.declared.constant.ConstantValue.{ConstantValue}
use Rattle.oxt_names.proofs.Lists.{drop_at, drop_end}
use Rattle.oxt_tree.specs.View.{docs_in, part_doc}
use Rattle.oxt_tree.specs.declared.tree.Part.{Part}

all_at : (env : Env) (ps : List Part) (i : ℕ) (p : Part) → i < length ps → p ≡ get_or ps i p → all_of (each_seen env (docs_in (drop i ps))) ≡ in_front (constant env (part_doc p)) (all_of (each_seen env (docs_in (drop (i + 1) ps))))
all_at env ps i p h e = ap (λ qs. all_of (each_seen env (docs_in qs))) (drop_at ps i p h e)

views_push : (vs : List ConstantValue) (v : ConstantValue) → constant_views (vs ++ v ∷ []) ≡ constant_views vs ++ constant_view v ∷ []
views_push [] v = refl
views_push (w ∷ vs) v = ap (λ cs. constant_view w ∷ cs) (views_push vs v)

pushed : (before : List Constant) (c : Constant) (r : Option (List Constant)) → option_map (λ rest. before ++ rest) (in_front (Some c) r) ≡ option_map (λ rest. (before ++ c ∷ []) ++ rest) r
pushed before c None = refl
pushed before c (Some rest) = ap (λ (xs : List Constant). Some xs) (sym (append_assoc before (c ∷ []) rest))

pub all_next : (env : Env) (whole : Option (List Constant)) (ps : List Part) (i : ℕ) (p : Part) (old new : List ConstantValue) (v : ConstantValue) → i < length ps → p ≡ get_or ps i p
    → Some (constant_view v) ≡ constant env (part_doc p) → new ≡ old ++ v ∷ []
    → whole ≡ option_map (λ rest. constant_views old ++ rest) (all_of (each_seen env (docs_in (drop i ps))))
    → whole ≡ option_map (λ rest. constant_views new ++ rest) (all_of (each_seen env (docs_in (drop (i + 1) ps))))
all_next env whole ps i p old new v h e c n w =
    w ∙ ap (option_map (λ rest. constant_views old ++ rest)) (all_at env ps i p h e ∙ ap (λ o. in_front o (all_of (each_seen env (docs_in (drop (i + 1) ps))))) (sym c))
    ∙ pushed (constant_views old) (constant_view v) (all_of (each_seen env (docs_in (drop (i + 1) ps))))
    ∙ ap (λ cs. option_map (λ rest. cs ++ rest) (all_of (each_seen env (docs_in (drop (i + 1) ps))))) (sym (ap constant_views n ∙ views_push old v))

pub all_none : (env : Env) (whole : Option (List Constant)) (ps : List Part) (i : ℕ) (p : Part) (old : List ConstantValue) → i < length ps → p ≡ get_or ps i p
    → None ≡ constant env (part_doc p)
    → whole ≡ option_map (λ rest. constant_views old ++ rest) (all_of (each_seen env (docs_in (drop i ps))))
    → None ≡ whole
all_none env whole ps i p old h e c w =
    sym (w ∙ ap (option_map (λ rest. constant_views old ++ rest)) (all_at env ps i p h e ∙ ap (λ o. in_front o (all_of (each_seen env (docs_in (drop (i + 1) ps))))) (sym c)))

pub all_end : (env : Env) (whole : Option (List Constant)) (ps : List Part) (i : ℕ) (old : List ConstantValue) → length ps ≤ i
    → whole ≡ option_map (λ rest. constant_views old ++ rest) (all_of (each_seen env (docs_in (drop i ps))))
    → Some (constant_views old) ≡ whole
all_end env whole ps i old h w =
    sym (w ∙ ap (λ qs. option_map (λ rest. constant_views old ++ rest) (all_of (each_seen env (docs_in qs)))) (drop_end ps i h) ∙ ap (λ (xs : List Constant). Some xs) (append-nil (constant_views old)))

pub ruleset steps = (all_next, all_none, all_end)
