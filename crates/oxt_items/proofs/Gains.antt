-- Parameters that are put and fields that are made, one after another.
use Rattle.std.proofs.Common.{◌≡◌, ◌∙◌, false, sym, ap, ℕ, ◌+◌, ◌<◌, ◌≤◌, List, ◌++◌, length, drop, get_or, map, append_assoc, append-nil}
use Rattle.oxt_facts.specs.Entry.{Entry, spelled}
use Rattle.oxt_facts.specs.Told.{names_view}
use Rattle.oxt_facts.specs.declared.item.ItemKind.TheVariants as item
use Rattle.oxt_facts.specs.declared.told.ToldName.{ToldName}
use Rattle.oxt_names.proofs.Lists.{drop_at, drop_end}
use Rattle.oxt_tree.specs.Doc.{text}
use Rattle.oxt_names.specs.Names.{name_bytes}
use Rattle.oxt_names.specs.declared.name.Name.{Name}
use Rattle.oxt_items.specs.Classes.{empty_field, empty_fields, property_put, property_puts}

pub one_property : (whole : List Entry) (ns : List ToldName) (i : ℕ) (n : ToldName) (old new : List Entry) → i < length ns → n ≡ get_or ns i n → new ≡ old ++ property_put (name_bytes n.name) n.group
    → whole ≡ old ++ property_puts (names_view (drop i ns)) → whole ≡ new ++ property_puts (names_view (drop (i + 1) ns))
one_property whole ns i n old new within at is so_far =
    so_far ∙ ap (λ ms. old ++ property_puts (names_view ms)) (drop_at ns i n within at)
    ∙ sym (append_assoc old (property_put (name_bytes n.name) n.group) (property_puts (names_view (drop (i + 1) ns))))
    ∙ ap (λ v. v ++ property_puts (names_view (drop (i + 1) ns))) (sym is)

pub no_property : (whole : List Entry) (ns : List ToldName) (i : ℕ) (old : List Entry) → length ns ≤ i → whole ≡ old ++ property_puts (names_view (drop i ns)) → old ≡ whole
no_property whole ns i old past so_far = sym (so_far ∙ ap (λ ms. old ++ property_puts (names_view ms)) (drop_end ns i past) ∙ append-nil old)

-- an empty field of that name
abbrev pub field_named : Name → List Entry
field_named n = empty_field false (spelled item.Str (text (name_bytes n)))

pub one_field : (whole : List Entry) (ns : List Name) (i : ℕ) (n : Name) (old new : List Entry) → i < length ns → n ≡ get_or ns i n → new ≡ old ++ field_named n
    → whole ≡ old ++ empty_fields (map name_bytes (drop i ns)) → whole ≡ new ++ empty_fields (map name_bytes (drop (i + 1) ns))
one_field whole ns i n old new within at is so_far =
    so_far ∙ ap (λ ms. old ++ empty_fields (map name_bytes ms)) (drop_at ns i n within at)
    ∙ sym (append_assoc old (field_named n) (empty_fields (map name_bytes (drop (i + 1) ns))))
    ∙ ap (λ v. v ++ empty_fields (map name_bytes (drop (i + 1) ns))) (sym is)

pub no_field : (whole : List Entry) (ns : List Name) (i : ℕ) (old : List Entry) → length ns ≤ i → whole ≡ old ++ empty_fields (map name_bytes (drop i ns)) → old ≡ whole
no_field whole ns i old past so_far = sym (so_far ∙ ap (λ ms. old ++ empty_fields (map name_bytes ms)) (drop_end ns i past) ∙ append-nil old)
