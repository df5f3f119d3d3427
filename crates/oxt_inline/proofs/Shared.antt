-- Constants that are shared, one after another.
use Rattle.std.proofs.Common.{◌≡◌, ◌∙◌, sym, ap, ℕ, ◌+◌, ◌<◌, ◌≤◌, List, [], ◌∷◌, ◌++◌, length, map, drop, get_or, append_assoc, append-nil}
use Rattle.std.proofs.lemmas.List.{map-append}
use Rattle.oxt_inline.specs.Inlined.{inlined_view}
use Rattle.oxt_inline.specs.declared.inlined.Inlined.{Inlined}
use Rattle.oxt_names.specs.Constant.{constant_view}
use Rattle.oxt_names.specs.declared.constant.ConstantValue.{ConstantValue}
use Rattle.oxt_options.specs.Lists.{constants_in}
use Rattle.oxt_names.proofs.Lists.{drop_at, drop_end}
use Rattle.oxt_names.specs.declared.ids.NodeId.{NodeId}

-- one more
pub shared_next : (old new : List (NodeId × ConstantValue)) (fs : List Inlined) (i : ℕ) (f : Inlined) (v : ConstantValue) → i < length fs → f ≡ get_or fs i f → constant_view v ≡ constant_view f.value.now → new ≡ old ++ (f.node, v) ∷ [] → constants_in old ++ map inlined_view (drop i fs) ≡ constants_in new ++ map inlined_view (drop (i + 1) fs)
shared_next old new fs i f v within at same is =
    ap (λ gs. constants_in old ++ map inlined_view gs) (drop_at fs i f within at)
    ∙ ap (λ w. constants_in old ++ (f.node.0, w) ∷ map inlined_view (drop (i + 1) fs)) (sym same)
    ∙ sym (append_assoc (constants_in old) ((f.node.0, constant_view v) ∷ []) (map inlined_view (drop (i + 1) fs)))
    ∙ ap (λ cs. cs ++ map inlined_view (drop (i + 1) fs)) (sym (ap constants_in is ∙ map-append (λ c. (c.0.0, constant_view c.1)) old ((f.node, v) ∷ [])))

-- no more
pub shared_end : (cs : List (NodeId × ConstantValue)) (fs : List Inlined) (i : ℕ) → length fs ≤ i → constants_in cs ++ map inlined_view (drop i fs) ≡ constants_in cs
shared_end cs fs i past = ap (λ gs. constants_in cs ++ map inlined_view gs) (drop_end fs i past) ∙ append-nil (constants_in cs)

pub ruleset steps = (shared_next, shared_end)
