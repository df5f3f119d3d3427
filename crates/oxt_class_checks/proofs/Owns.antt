-- What is found among the elements of a class.
use Rattle.std.proofs.Common.{◌≡◌, ◌∙◌, refl, ap, List, [], ◌∷◌, Bool, true, false, cond, Option, Some, None, option_map, ℕ}
use Rattle.std.specs.Option.{option_and_then}
use Rattle.std.specs.Prelude.{find}
use Rattle.oxt_class_checks.specs.Privates.{is_own, own_name, private_text}
use Rattle.oxt_tree.specs.Doc.{Doc}
use Rattle.oxt_tree.specs.Fields.{docs_list}
use Rattle.oxt_tree.specs.View.{docs_in, part_doc}
use Rattle.oxt_tree.specs.declared.tree.Part.{Part}

found_one : (b : Bool) (p : Part) (q : Option Part) (o : Option Doc) → option_map part_doc q ≡ o → option_map part_doc (cond b (Some p) q) ≡ cond b (Some (part_doc p)) o
found_one true p q o h = refl
found_one false p q o h = h

found_among : (t : Doc → Bool) (ps : List Part) → option_map part_doc (find (λ p. t (part_doc p)) ps) ≡ find t (docs_list (docs_in ps))
found_among t [] = refl
found_among t (p ∷ ps) = found_one (t (part_doc p)) p (find (λ q. t (part_doc q)) ps) (find t (docs_list (docs_in ps))) (found_among t ps)

pub own_found : (x : List ℕ) (ps : List Part) (p : Part) (o : Option (List ℕ)) → Some p ≡ find (λ q. is_own x (part_doc q)) ps → o ≡ private_text (part_doc p) → o ≡ own_name (docs_in ps) x
own_found x ps p o at is = is ∙ ap (λ r. option_and_then private_text (option_map part_doc r)) at ∙ ap (option_and_then private_text) (found_among (is_own x) ps)

pub own_missing : (x : List ℕ) (ps : List Part) → None ≡ find (λ q. is_own x (part_doc q)) ps → None ≡ own_name (docs_in ps) x
own_missing x ps at = ap (λ r. option_and_then private_text (option_map part_doc r)) at ∙ ap (option_and_then private_text) (found_among (is_own x) ps)

pub ruleset own_steps = (own_found, own_missing)
