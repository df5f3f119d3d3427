-- Names that are put, one after another.
use Rattle.std.proofs.Common.{◌≡◌, ◌∙◌, sym, ap, ℕ, ◌+◌, ◌<◌, ◌≤◌, List, ◌++◌, length, drop, get_or, append_assoc, append-nil}
use Rattle.oxt_facts.specs.Entry.{Entry}
use Rattle.oxt_facts.specs.Told.{names_view}
use Rattle.oxt_facts.specs.declared.told.ToldName.{ToldName}
use Rattle.oxt_names.proofs.Lists.{drop_at, drop_end}
use Rattle.oxt_names.specs.Names.{name_bytes}
use Rattle.oxt_items.specs.Namespaces.{name_put, name_puts}

pub one_more : (t : List ℕ) (whole : List Entry) (ns : List ToldName) (i : ℕ) (n : ToldName) (old new : List Entry) → i < length ns → n ≡ get_or ns i n → new ≡ old ++ name_put t (name_bytes n.name) n.group
    → whole ≡ old ++ name_puts t (names_view (drop i ns)) → whole ≡ new ++ name_puts t (names_view (drop (i + 1) ns))
one_more t whole ns i n old new within at is so_far =
    so_far ∙ ap (λ ms. old ++ name_puts t (names_view ms)) (drop_at ns i n within at)
    ∙ sym (append_assoc old (name_put t (name_bytes n.name) n.group) (name_puts t (names_view (drop (i + 1) ns))))
    ∙ ap (λ v. v ++ name_puts t (names_view (drop (i + 1) ns))) (sym is)

pub no_more : (t : List ℕ) (whole : List Entry) (ns : List ToldName) (i : ℕ) (old : List Entry) → length ns ≤ i → whole ≡ old ++ name_puts t (names_view (drop i ns)) → old ≡ whole
no_more t whole ns i old past so_far = sym (so_far ∙ ap (λ ms. old ++ name_puts t (names_view ms)) (drop_end ns i past) ∙ append-nil old)
