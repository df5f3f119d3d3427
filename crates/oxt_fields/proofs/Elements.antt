-- What is found among the documents of parts.
use Rattle.std.proofs.Common.{◌≡◌, ◌∙◌, refl, ap, ℕ, ◌+◌, List, [], ◌∷◌, Bool, true, false, cond, Option, Some, None, option_map}
use Rattle.std.specs.List.{position_from}
use Rattle.std.specs.Option.{option_and_then}
use Rattle.std.specs.Prelude.{find}
use Rattle.oxt_fields.specs.Classes.{behind, constructor_in, is_constructor, is_super_statement, super_call_position}
use Rattle.oxt_tree.specs.Doc.{Doc, nil, flag, number, text, list, node}
use Rattle.oxt_tree.specs.Fields.{docs_list, node_of}
use Rattle.oxt_tree.specs.View.{docs_in, part_doc}
use Rattle.oxt_tree.specs.declared.tree.Part.{Part}

-- ---- the place of a call

position_among : (t : Doc → Bool) (n : ℕ) (ps : List Part) → position_from (λ p. t (part_doc p)) n ps ≡ position_from t n (docs_list (docs_in ps))
position_among t n [] = refl
position_among t n (p ∷ ps) = ap (cond (t (part_doc p)) (Some n)) (position_among t (n + 1) ps)

pub position_found : (ps : List Part) (i : ℕ) → Some i ≡ position_from (λ p. is_super_statement (part_doc p)) 0 ps → i + 1 ≡ super_call_position (docs_in ps)
position_found ps i at = ap behind (at ∙ position_among is_super_statement 0 ps)

pub position_missing : (ps : List Part) → None ≡ position_from (λ p. is_super_statement (part_doc p)) 0 ps → 0 ≡ super_call_position (docs_in ps)
position_missing ps at = ap behind (at ∙ position_among is_super_statement 0 ps)

pub ruleset position_steps = (position_found, position_missing)

-- ---- the constructor, which is a node

found_one : (b : Bool) (p : Part) (q : Option Part) (o : Option Doc) → option_map part_doc q ≡ o → option_map part_doc (cond b (Some p) q) ≡ cond b (Some (part_doc p)) o
found_one true p q o h = refl
found_one false p q o h = h

found_among : (t : Doc → Bool) (ps : List Part) → option_map part_doc (find (λ p. t (part_doc p)) ps) ≡ find t (docs_list (docs_in ps))
found_among t [] = refl
found_among t (p ∷ ps) = found_one (t (part_doc p)) p (find (λ q. t (part_doc q)) ps) (find t (docs_list (docs_in ps))) (found_among t ps)

node_or_next : (b : Bool) (d : Doc) (o : Option Doc) → node_of d ≡ Some d → option_and_then node_of o ≡ o → option_and_then node_of (cond b (Some d) o) ≡ cond b (Some d) o
node_or_next true d o is h = is
node_or_next false d o is h = h

constructor_node : (ds : List Doc) → option_and_then node_of (find is_constructor ds) ≡ find is_constructor ds
constructor_node [] = refl
constructor_node (nil ∷ ds) = constructor_node ds
constructor_node (flag b ∷ ds) = constructor_node ds
constructor_node (number n ∷ ds) = constructor_node ds
constructor_node (text t ∷ ds) = constructor_node ds
constructor_node (list cs ∷ ds) = constructor_node ds
constructor_node (node k i b e cs ∷ ds) = node_or_next (is_constructor (node k i b e cs)) (node k i b e cs) (find is_constructor ds) refl (constructor_node ds)

pub constructor_found : (ps : List Part) (p : Part) (o : Option Doc) → Some p ≡ find (λ q. is_constructor (part_doc q)) ps → o ≡ node_of (part_doc p) → o ≡ constructor_in (docs_in ps)
constructor_found ps p o at is =
    is ∙ ap (λ r. option_and_then node_of (option_map part_doc r)) at ∙ ap (option_and_then node_of) (found_among is_constructor ps)
    ∙ constructor_node (docs_list (docs_in ps))

pub constructor_missing : (ps : List Part) → None ≡ find (λ q. is_constructor (part_doc q)) ps → None ≡ constructor_in (docs_in ps)
constructor_missing ps at = ap (option_map part_doc) at ∙ found_among is_constructor ps

pub ruleset constructor_steps = (constructor_found, constructor_missing)
