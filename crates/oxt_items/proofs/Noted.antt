-- What metadata writes, one type or name after another.
use Rattle.std.proofs.Common.{◌≡◌, ◌∙◌, sym, ap, ℕ, ◌+◌, ◌<◌, ◌≤◌, List, [], ◌∷◌, ◌++◌, length, drop, take, get_or, map, append_assoc, append-nil, codes}
use Rattle.std.proofs.lemmas.List.{map-append, take_more}
use Rattle.oxt_facts.specs.Entry.{Entry, lone}
use Rattle.oxt_facts.specs.Facts.{Known}
use Rattle.oxt_facts.specs.Told.{type_view}
use Rattle.oxt_facts.specs.declared.item.ItemKind.TheVariants as item
use Rattle.oxt_facts.specs.declared.told.ToldType.{ToldType}
use Rattle.oxt_forms.specs.Details.{start}
use Rattle.oxt_grammar.specs.declared.kind.Kind.TheVariants as kind
use Rattle.oxt_names.proofs.Lists.{drop_at, drop_end}
use Rattle.oxt_tree.specs.Doc.{text}
use Rattle.oxt_names.specs.Names.{name_bytes}
use Rattle.oxt_names.specs.declared.name.Name.{Name}
use Rattle.oxt_items.specs.Metadata.{member_word, member_words, openings, path_word, test_word, tests_word, type_word, types_word}

-- ---- types

pub one_type : (f : Known) (whole : List Entry) (ts : List ToldType) (i : ℕ) (t : ToldType) (old new : List Entry) → i < length ts → t ≡ get_or ts i t → new ≡ old ++ type_word f (type_view t)
    → whole ≡ old ++ types_word f (map type_view (drop i ts)) → whole ≡ new ++ types_word f (map type_view (drop (i + 1) ts))
one_type f whole ts i t old new within at is so_far =
    so_far ∙ ap (λ us. old ++ types_word f (map type_view us)) (drop_at ts i t within at)
    ∙ sym (append_assoc old (type_word f (type_view t)) (types_word f (map type_view (drop (i + 1) ts))))
    ∙ ap (λ v. v ++ types_word f (map type_view (drop (i + 1) ts))) (sym is)

pub no_type : (f : Known) (whole : List Entry) (ts : List ToldType) (i : ℕ) (old : List Entry) → length ts ≤ i → whole ≡ old ++ types_word f (map type_view (drop i ts)) → old ≡ whole
no_type f whole ts i old past so_far = sym (so_far ∙ ap (λ us. old ++ types_word f (map type_view us)) (drop_end ts i past) ∙ append-nil old)

pub ruleset type_steps = (one_type, no_type)

-- ---- members

pub one_member : (whole : List Entry) (ns : List Name) (i : ℕ) (n : Name) (old new : List Entry) → i < length ns → n ≡ get_or ns i n → new ≡ old ++ member_word (name_bytes n)
    → whole ≡ old ++ member_words (map name_bytes (drop i ns)) → whole ≡ new ++ member_words (map name_bytes (drop (i + 1) ns))
one_member whole ns i n old new within at is so_far =
    so_far ∙ ap (λ ms. old ++ member_words (map name_bytes ms)) (drop_at ns i n within at)
    ∙ sym (append_assoc old (member_word (name_bytes n)) (member_words (map name_bytes (drop (i + 1) ns))))
    ∙ ap (λ v. v ++ member_words (map name_bytes (drop (i + 1) ns))) (sym is)

pub no_member : (whole : List Entry) (ns : List Name) (i : ℕ) (old : List Entry) → length ns ≤ i → whole ≡ old ++ member_words (map name_bytes (drop i ns)) → old ≡ whole
no_member whole ns i old past so_far = sym (so_far ∙ ap (λ ms. old ++ member_words (map name_bytes ms)) (drop_end ns i past) ∙ append-nil old)

pub ruleset member_steps = (one_member, no_member)

-- ---- tests

-- the start of an alternative
abbrev pub opening : List Entry
opening = start kind.LogicalExpression (text (codes "||") ∷ [])

pub one_opening : (whole : List Entry) (ns : List Name) (i : ℕ) (n : Name) (old new : List Entry) → i < length ns → n ≡ get_or ns i n → new ≡ old ++ opening
    → whole ≡ old ++ openings (map name_bytes (drop i ns)) → whole ≡ new ++ openings (map name_bytes (drop (i + 1) ns))
one_opening whole ns i n old new within at is so_far =
    so_far ∙ ap (λ ms. old ++ openings (map name_bytes ms)) (drop_at ns i n within at)
    ∙ sym (append_assoc old opening (openings (map name_bytes (drop (i + 1) ns))))
    ∙ ap (λ v. v ++ openings (map name_bytes (drop (i + 1) ns))) (sym is)

pub no_opening : (whole : List Entry) (ns : List Name) (i : ℕ) (old : List Entry) → length ns ≤ i → whole ≡ old ++ openings (map name_bytes (drop i ns)) → old ≡ whole
no_opening whole ns i old past so_far = sym (so_far ∙ ap (λ ms. old ++ openings (map name_bytes ms)) (drop_end ns i past) ∙ append-nil old)

pub ruleset opening_steps = (one_opening, no_opening)

-- the names before that place, and the name there
with_next : (ns : List Name) (i : ℕ) (n : Name) → i < length ns → n ≡ get_or ns i n → map name_bytes (take i ns) ++ name_bytes n ∷ [] ≡ map name_bytes (take (i + 1) ns)
with_next ns i n within at =
    ap (λ m. map name_bytes (take i ns) ++ name_bytes m ∷ []) at
    ∙ sym (map-append name_bytes (take i ns) (get_or ns i n ∷ []))
    ∙ ap (map name_bytes) (sym (take_more ns i n within))

-- the tests for the names from that place on
abbrev pub tests_from : Known → ℕ → List ℕ → List Name → ℕ → List Entry
tests_from f r x ns i = tests_word f r x (map name_bytes (take i ns)) (map name_bytes (drop i ns))

pub one_test : (f : Known) (r : ℕ) (x : List ℕ) (whole : List Entry) (ns front : List Name) (i : ℕ) (n : Name) (old mid new : List Entry) → i < length ns → n ≡ get_or ns i n
    → front ≡ take (i + 1) ns → mid ≡ old ++ test_word (path_word f r x (map name_bytes front)) → new ≡ mid ++ lone item.Close
    → whole ≡ old ++ tests_from f r x ns i → whole ≡ new ++ tests_from f r x ns (i + 1)
one_test f r x whole ns front i n old mid new within at is tested closed so_far =
    let rest : List (List ℕ) = map name_bytes (drop (i + 1) ns) in
    let before : List (List ℕ) = map name_bytes (take (i + 1) ns) in
    so_far
    ∙ ap (λ ms. old ++ tests_word f r x (map name_bytes (take i ns)) (map name_bytes ms)) (drop_at ns i n within at)
    ∙ ap (λ ps. old ++ (test_word (path_word f r x ps) ++ (lone item.Close ++ tests_word f r x ps rest))) (with_next ns i n within at)
    ∙ sym (append_assoc old (test_word (path_word f r x before)) (lone item.Close ++ tests_word f r x before rest))
    ∙ ap (λ ps. (old ++ test_word (path_word f r x (map name_bytes ps))) ++ (lone item.Close ++ tests_word f r x before rest)) (sym is)
    ∙ ap (λ v. v ++ (lone item.Close ++ tests_word f r x before rest)) (sym tested)
    ∙ sym (append_assoc mid (lone item.Close) (tests_word f r x before rest))
    ∙ ap (λ v. v ++ tests_word f r x before rest) (sym closed)

pub no_test : (f : Known) (r : ℕ) (x : List ℕ) (whole : List Entry) (ns : List Name) (i : ℕ) (old : List Entry) → length ns ≤ i → whole ≡ old ++ tests_from f r x ns i → old ≡ whole
no_test f r x whole ns i old past so_far =
    sym (so_far ∙ ap (λ ms. old ++ tests_word f r x (map name_bytes (take i ns)) (map name_bytes ms)) (drop_end ns i past) ∙ append-nil old)

pub ruleset test_steps = (one_test, no_test)
