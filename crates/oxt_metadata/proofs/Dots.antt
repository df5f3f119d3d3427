-- Dotted names, and nodes that are found by their numbers.
use Rattle.std.proofs.Common.{◌≡◌, ◌∙◌, sym, ap, ℕ, ◌+◌, ◌<◌, ◌≤◌, List, [], ◌∷◌, ◌++◌, length, drop, get_or, map, append_assoc, append-nil, Option, None, Some}
use Rattle.std.proofs.lemmas.List.{map-append}
use Rattle.std.specs.Option.{option_or}
use Rattle.oxt_metadata.specs.DottedNames.{node_among, node_numbered}
use Rattle.oxt_names.proofs.Lists.{drop_at, drop_end}
use Rattle.oxt_tree.specs.Doc.{Doc}
use Rattle.oxt_names.specs.Names.{name_bytes}
use Rattle.oxt_tree.specs.View.{docs_in, part_doc}
use Rattle.oxt_names.specs.declared.name.Name.{Name}
use Rattle.oxt_tree.specs.declared.tree.Part.{Part}

-- ---- names

pub one_name : (old new : List Name) (n : Name) → new ≡ old ++ n ∷ [] → map name_bytes new ≡ map name_bytes old ++ name_bytes n ∷ []
one_name old new n is = ap (map name_bytes) is ∙ map-append name_bytes old (n ∷ [])

pub no_name : (old : List (List ℕ)) → old ≡ old ++ []
no_name old = sym (append-nil old)

pub both_names : (old mid new first last : List (List ℕ)) → mid ≡ old ++ first → new ≡ mid ++ last → new ≡ old ++ (first ++ last)
both_names old mid new first last is ends = ends ∙ ap (λ v. v ++ last) is ∙ append_assoc old first last

pub ruleset path_steps = (one_name, no_name, both_names)

-- ---- nodes

pub node_found : (whole : Option Doc) (n : ℕ) (ps : List Part) (i : ℕ) (p : Part) (d : Doc) → i < length ps → p ≡ get_or ps i p → Some d ≡ node_numbered n (part_doc p)
    → whole ≡ node_among n (docs_in (drop i ps)) → Some d ≡ whole
node_found whole n ps i p d within at is so_far =
    sym (so_far ∙ ap (λ qs. node_among n (docs_in qs)) (drop_at ps i p within at) ∙ ap (λ o. option_or o (node_among n (docs_in (drop (i + 1) ps)))) (sym is))

pub node_passed : (whole : Option Doc) (n : ℕ) (ps : List Part) (i : ℕ) (p : Part) → i < length ps → p ≡ get_or ps i p → None ≡ node_numbered n (part_doc p)
    → whole ≡ node_among n (docs_in (drop i ps)) → whole ≡ node_among n (docs_in (drop (i + 1) ps))
node_passed whole n ps i p within at is so_far =
    so_far ∙ ap (λ qs. node_among n (docs_in qs)) (drop_at ps i p within at) ∙ ap (λ o. option_or o (node_among n (docs_in (drop (i + 1) ps)))) (sym is)

pub none_found : (whole : Option Doc) (n : ℕ) (ps : List Part) (i : ℕ) → length ps ≤ i → whole ≡ node_among n (docs_in (drop i ps)) → None ≡ whole
none_found whole n ps i past so_far = sym (so_far ∙ ap (λ qs. node_among n (docs_in qs)) (drop_end ps i past))

pub ruleset among_steps = (node_found, node_passed, none_found)
