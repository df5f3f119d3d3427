-- Decorators, parameters and uses of names, one after another.
use Rattle.std.proofs.Common.{◌≡◌, ◌∙◌, sym, ap, ℕ, ◌+◌, ◌<◌, ◌≤◌, List, [], ◌∷◌, ◌++◌, length, get_or, drop, append_assoc, append-nil, Option, Some}
use Rattle.std.specs.BTreeMap.{insert_entry}
use Rattle.std.specs.Ordering.{nat_cmp}
use Rattle.oxt_facts.specs.Told.{Tellings, inner}
use Rattle.oxt_options.specs.Lists.{numbers_in}
use Rattle.oxt_search.specs.All.{all_among}
use Rattle.oxt_search.specs.Sought.{Sought}
use Rattle.oxt_told.proofs.Loops.{all_told-append}
use Rattle.oxt_told.specs.Source.{all_told}
use Rattle.oxt_told.specs.Uses.{decorator_told, decorators_of, decorators_told, in_element, in_elements, in_parameters, in_part, in_types, parameters_told, uses_told}
use Rattle.oxt_tree.specs.Fields.{field_of}
use Rattle.std.specs.Prelude.{codes}
use Rattle.oxt_names.proofs.Lists.{drop_at, drop_end}
use Rattle.oxt_tree.specs.View.{docs_in, part_doc}
use Rattle.oxt_names.specs.declared.ids.NodeId.{NodeId}
use Rattle.oxt_tree.specs.declared.tree.Part.{Part}

-- ---- decorators

pub decorator_more : (n : Option ℕ) (ts new : Tellings) (ps : List Part) (i : ℕ) (p : Part) → i < length ps → p ≡ get_or ps i p
    → new ≡ all_told ts (decorator_told n (part_doc p))
    → all_told ts (decorators_told n (docs_in (drop i ps))) ≡ all_told new (decorators_told n (docs_in (drop (i + 1) ps)))
decorator_more n ts new ps i p lt here told =
    ap (λ qs. all_told ts (decorators_told n (docs_in qs))) (drop_at ps i p lt here)
    ∙ all_told-append ts (decorator_told n (part_doc p)) (decorators_told n (docs_in (drop (i + 1) ps)))
    ∙ ap (λ x. all_told x (decorators_told n (docs_in (drop (i + 1) ps)))) (sym told)

pub decorator_done : (n : Option ℕ) (ts : Tellings) (ps : List Part) (i : ℕ) → length ps ≤ i → all_told ts (decorators_told n (docs_in (drop i ps))) ≡ ts
decorator_done n ts ps i le = ap (λ qs. all_told ts (decorators_told n (docs_in qs))) (drop_end ps i le)

pub ruleset decorator_steps = (decorator_more, decorator_done)

-- ---- those of parameters

pub parameter_more : (ts new : Tellings) (ps : List Part) (i : ℕ) (p : Part) → i < length ps → p ≡ get_or ps i p
    → new ≡ all_told ts (decorators_told (Some i) (decorators_of (part_doc p)))
    → all_told ts (parameters_told i (docs_in (drop i ps))) ≡ all_told new (parameters_told (i + 1) (docs_in (drop (i + 1) ps)))
parameter_more ts new ps i p lt here told =
    ap (λ qs. all_told ts (parameters_told i (docs_in qs))) (drop_at ps i p lt here)
    ∙ all_told-append ts (decorators_told (Some i) (decorators_of (part_doc p))) (parameters_told (i + 1) (docs_in (drop (i + 1) ps)))
    ∙ ap (λ x. all_told x (parameters_told (i + 1) (docs_in (drop (i + 1) ps)))) (sym told)

pub parameter_done : (ts : Tellings) (ps : List Part) (i : ℕ) → length ps ≤ i → all_told ts (parameters_told i (docs_in (drop i ps))) ≡ ts
parameter_done ts ps i le = ap (λ qs. all_told ts (parameters_told i (docs_in qs))) (drop_end ps i le)

pub ruleset parameter_steps = (parameter_more, parameter_done)

-- ---- uses that mean an inner name

pub use_more : (g : ℕ) (ts new : Tellings) (ns : List NodeId) (i : ℕ) (n : NodeId) → i < length ns → n ≡ get_or ns i n
    → new ≡ insert_entry nat_cmp ts n.0 (inner g)
    → all_told ts (uses_told g (numbers_in (drop i ns))) ≡ all_told new (uses_told g (numbers_in (drop (i + 1) ns)))
use_more g ts new ns i n lt here put =
    ap (λ ms. all_told ts (uses_told g (numbers_in ms))) (drop_at ns i n lt here) ∙ ap (λ x. all_told x (uses_told g (numbers_in (drop (i + 1) ns)))) (sym put)

pub use_done : (g : ℕ) (ts : Tellings) (ns : List NodeId) (i : ℕ) → length ns ≤ i → all_told ts (uses_told g (numbers_in (drop i ns))) ≡ ts
use_done g ts ns i le = ap (λ ms. all_told ts (uses_told g (numbers_in ms))) (drop_end ns i le)

pub ruleset use_steps = (use_more, use_done)

-- ---- uses, appended

pub none_more : (xs : List ℕ) → xs ≡ xs ++ []
none_more xs = sym (append-nil xs)

pub both_appended : (old one new a b : List ℕ) → one ≡ old ++ a → new ≡ one ++ b → new ≡ old ++ (a ++ b)
both_appended old one new a b first second = second ∙ ap (λ v. v ++ b) first ∙ append_assoc old a b

pub two_appended : (start : List NodeId) (one new a b : List ℕ) → start ≡ [] → one ≡ numbers_in start ++ a → new ≡ one ++ b → new ≡ a ++ b
two_appended start one new a b empty first second = second ∙ ap (λ v. v ++ b) (first ∙ ap (λ ns. numbers_in ns ++ a) empty)

pub four_appended : (old one two three new a b c d : List ℕ) → one ≡ old ++ a → two ≡ one ++ b → three ≡ two ++ c → new ≡ three ++ d
    → new ≡ old ++ (a ++ (b ++ (c ++ d)))
four_appended old one two three new a b c d first second third fourth =
    both_appended old one new a (b ++ (c ++ d)) first
    (both_appended one two new b (c ++ d) second (both_appended two three new c d third fourth))

-- ---- uses in decorators of elements

pub element_more : (q : Sought (Unit {0}) ℕ) (whole : List ℕ) (ps : List Part) (i : ℕ) (p : Part) (old new : List ℕ) → i < length ps → p ≡ get_or ps i p → new ≡ old ++ in_element q (part_doc p)
    → whole ≡ old ++ in_elements q (docs_in (drop i ps)) → whole ≡ new ++ in_elements q (docs_in (drop (i + 1) ps))
element_more q whole ps i p old new lt here is so_far =
    so_far ∙ ap (λ qs. old ++ in_elements q (docs_in qs)) (drop_at ps i p lt here)
    ∙ sym (append_assoc old (in_element q (part_doc p)) (in_elements q (docs_in (drop (i + 1) ps))))
    ∙ ap (λ v. v ++ in_elements q (docs_in (drop (i + 1) ps))) (sym is)

pub element_done : (q : Sought (Unit {0}) ℕ) (whole : List ℕ) (ps : List Part) (i : ℕ) (old : List ℕ) → length ps ≤ i → whole ≡ old ++ in_elements q (docs_in (drop i ps)) → old ≡ whole
element_done q whole ps i old le so_far = sym (so_far ∙ ap (λ qs. old ++ in_elements q (docs_in qs)) (drop_end ps i le) ∙ append-nil old)

pub ruleset element_steps = (element_more, element_done)

-- ---- uses in decorators of parameters

pub in_parameter_more : (q : Sought (Unit {0}) ℕ) (whole : List ℕ) (ps : List Part) (i : ℕ) (p : Part) (old new : List ℕ) → i < length ps → p ≡ get_or ps i p → new ≡ old ++ all_among q (decorators_of (part_doc p)) tt
    → whole ≡ old ++ in_parameters q (docs_in (drop i ps)) → whole ≡ new ++ in_parameters q (docs_in (drop (i + 1) ps))
in_parameter_more q whole ps i p old new lt here is so_far =
    so_far ∙ ap (λ qs. old ++ in_parameters q (docs_in qs)) (drop_at ps i p lt here)
    ∙ sym (append_assoc old (all_among q (decorators_of (part_doc p)) tt) (in_parameters q (docs_in (drop (i + 1) ps))))
    ∙ ap (λ v. v ++ in_parameters q (docs_in (drop (i + 1) ps))) (sym is)

pub in_parameter_done : (q : Sought (Unit {0}) ℕ) (whole : List ℕ) (ps : List Part) (i : ℕ) (old : List ℕ) → length ps ≤ i → whole ≡ old ++ in_parameters q (docs_in (drop i ps)) → old ≡ whole
in_parameter_done q whole ps i old le so_far = sym (so_far ∙ ap (λ qs. old ++ in_parameters q (docs_in qs)) (drop_end ps i le) ∙ append-nil old)

pub ruleset in_parameter_steps = (in_parameter_more, in_parameter_done)

-- ---- uses in annotations of parameters

abbrev typed_in : Sought (Unit {0}) ℕ → Part → List ℕ
typed_in q p = in_part q (field_of (codes "typeAnnotation") (part_doc p))

pub in_type_more : (q : Sought (Unit {0}) ℕ) (whole : List ℕ) (ps : List Part) (i : ℕ) (p : Part) (old new : List ℕ) → i < length ps → p ≡ get_or ps i p → new ≡ old ++ typed_in q p
    → whole ≡ old ++ in_types q (docs_in (drop i ps)) → whole ≡ new ++ in_types q (docs_in (drop (i + 1) ps))
in_type_more q whole ps i p old new lt here is so_far =
    so_far ∙ ap (λ qs. old ++ in_types q (docs_in qs)) (drop_at ps i p lt here)
    ∙ sym (append_assoc old (typed_in q p) (in_types q (docs_in (drop (i + 1) ps))))
    ∙ ap (λ v. v ++ in_types q (docs_in (drop (i + 1) ps))) (sym is)

pub in_type_done : (q : Sought (Unit {0}) ℕ) (whole : List ℕ) (ps : List Part) (i : ℕ) (old : List ℕ) → length ps ≤ i → whole ≡ old ++ in_types q (docs_in (drop i ps)) → old ≡ whole
in_type_done q whole ps i old le so_far = sym (so_far ∙ ap (λ qs. old ++ in_types q (docs_in qs)) (drop_end ps i le) ∙ append-nil old)

pub ruleset in_type_steps = (in_type_more, in_type_done)
