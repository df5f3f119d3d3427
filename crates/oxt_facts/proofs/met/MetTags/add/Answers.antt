-- The tag has the next number.
use Rattle.std.proofs.Common.{◌≡◌, ◌∙◌, sym, ap, ◌++◌, ◌∷◌, [], cond, length, map, string_bytes, List, Some, ℕ}
use Rattle.std.proofs.lemmas.Cmp.{nat_list_eq_equiv}
use Rattle.std.proofs.lemmas.List.{length-map, map-append}
use Rattle.std.proofs.lemmas.Map.Text.{hash_map_updates_text}
use Rattle.std.specs.List.{position}
use Rattle.std.specs.Map.{lookup}
use Rattle.std.specs.Str.{bytes_eq}
use Rattle.oxt_facts.proofs.Places.{numbered_more}
use Rattle.oxt_facts.proofs.met.MetTags.add.Goals as goal

pub invariant_of-self-2 : goal.invariant_of-self-2
invariant_of-self-2 c =
    let k = string_bytes c.in_ok-key.key in
    let ts = map string_bytes c.self.inside.tags.items in
    let old = λ (t : List ℕ). lookup (λ s. bytes_eq t (string_bytes s)) c.self.inside.numbers.entries in
    let new = λ (t : List ℕ). lookup (λ s. bytes_eq t (string_bytes s)) c.insert.new.self.entries in
    let number : c.len-number.result ≡ length ts = c.len-number.ensures ∙ c.self.inside.tags.ok.0 ∙ sym (length-map c.self.inside.tags.items string_bytes) in
    let spelled : k ≡ string_bytes c.in_ok-kept.kept = c.in_ok-key.ensures.ok ∙ sym c.in_ok-kept.ensures.ok in
    λ t.
    numbered_more nat_list_eq_equiv old new ts k c.self.invariant
    (λ r. hash_map_updates_text k c.self.inside.numbers c.insert.new.self (Some c.len-number.result) c.in_ok-insert.ensures.updates r ∙ ap (λ n. cond (bytes_eq k r) (Some n) (old r)) number)
    (ap (position (bytes_eq k)) c.self.view_is ∙ ap (λ b. position (bytes_eq b) c.args.self.now) c.in_ok-key.ensures.ok ∙ c.requires) t
    ∙ ap (position (bytes_eq t)) (sym (ap (map string_bytes) (c.push_reserved.ensures ∙ ap (λ ss. ss ++ c.in_ok-kept.kept ∷ []) c.in_ok-reserve.ensures.items) ∙ map-append string_bytes c.self.inside.tags.items (c.in_ok-kept.kept ∷ []) ∙ ap (λ b. ts ++ b ∷ []) (sym spelled)))
