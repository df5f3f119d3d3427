-- The lines of a word, an item at a time.
use Rattle.std.proofs.Common.{◌≡◌, ◌∙◌, refl, sym, ap, ℕ, ◌+◌, ◌<◌, ◌≤◌, List, [], ◌∷◌, ◌++◌, map, length, drop, get_or, append_assoc, append-nil, false}
use Rattle.std.proofs.lemmas.Bool.{or_from}
use Rattle.std.proofs.lemmas.List.{map-append}
use Rattle.oxt_names.proofs.Lists.{drop_at, drop_end}
use Rattle.oxt_tree.specs.Doc.{Doc, nil, flag, number, text, list, node}
use Rattle.oxt_facts.specs.Entry.{Entry, atom_doc, entries, entry_of}
use Rattle.oxt_facts.specs.declared.item.Atom.{Atom}
use Rattle.oxt_facts.specs.declared.item.Item.{Item}
use Rattle.oxt_cases.specs.Lines.{atom_data, entry_data, line, lines}
use Rattle.serde_json.specs.Data.{Data}
use Rattle.serde_json.specs.View.{view, items_of}
use Rattle.serde_json.specs.Written.{compact_text, has_float, items_have_float}
use Rattle.serde_json.specs.declared.value.Value.{Value}

-- the lines of the items from a place on
abbrev pub lines_from : ℕ → List Item → List ℕ
lines_from i items = lines (entries (drop i items))

pub one_more : (whole : List ℕ) (items : List Item) (i : ℕ) (x : Item) (old new : List ℕ) → i < length items → x ≡ get_or items i x → new ≡ old ++ line (entry_of x)
    → whole ≡ old ++ lines_from i items → whole ≡ new ++ lines_from (i + 1) items
one_more whole items i x old new within at is so_far =
    so_far ∙ ap (λ xs. old ++ lines (entries xs)) (drop_at items i x within at) ∙ sym (append_assoc old (line (entry_of x)) (lines_from (i + 1) items)) ∙ ap (λ v. v ++ lines_from (i + 1) items) (sym is)

pub no_more : (whole : List ℕ) (items : List Item) (i : ℕ) (old : List ℕ) → length items ≤ i → whole ≡ old ++ lines_from i items → old ≡ whole
no_more whole items i old past so_far = sym (so_far ∙ ap (λ xs. old ++ lines (entries xs)) (drop_end items i past) ∙ append-nil old)

-- the data of the atoms from a place on
abbrev pub data_from : ℕ → List Atom → List Data
data_from i atoms = map atom_data (map atom_doc (drop i atoms))

pub atom_more : (whole : List Data) (atoms : List Atom) (i : ℕ) (x : Atom) (vs : List Value) (v : Value) → i < length atoms → x ≡ get_or atoms i x → view v ≡ atom_data (atom_doc x)
    → whole ≡ map view vs ++ data_from i atoms → whole ≡ map view (vs ++ v ∷ []) ++ data_from (i + 1) atoms
atom_more whole atoms i x vs v within at is so_far =
    so_far ∙ ap (λ xs. map view vs ++ map atom_data (map atom_doc xs)) (drop_at atoms i x within at)
    ∙ ap (λ (d : Data). map view vs ++ d ∷ data_from (i + 1) atoms) (sym is)
    ∙ sym (append_assoc (map view vs) (view v ∷ []) (data_from (i + 1) atoms)) ∙ ap (λ ds. ds ++ data_from (i + 1) atoms) (sym (map-append view vs (v ∷ [])))

pub no_more_atoms : (whole : List Data) (atoms : List Atom) (i : ℕ) (vs : List Value) → length atoms ≤ i → whole ≡ map view vs ++ data_from i atoms → map view vs ≡ whole
no_more_atoms whole atoms i vs past so_far = sym (so_far ∙ ap (λ xs. map view vs ++ map atom_data (map atom_doc xs)) (drop_end atoms i past) ∙ append-nil (map view vs))

-- No item has a float.
atom_none : (d : Doc) → has_float (atom_data d) ≡ false
atom_none nil = refl
atom_none (flag b) = refl
atom_none (number n) = refl
atom_none (text t) = refl
atom_none (list ds) = refl
atom_none (node k i b e ds) = refl

atoms_none : (ds : List Doc) → items_have_float (items_of (map atom_data ds)) ≡ false
atoms_none [] = refl
atoms_none (d ∷ ds) = or_from (has_float (atom_data d)) _ (atom_none d) (atoms_none ds)

item_none : (e : Entry) → has_float (entry_data e) ≡ false
item_none e = or_from (has_float (atom_data e.spelling)) _ (atom_none e.spelling) (atoms_none e.details)

-- so the text of its data is its line
pub written : (e : Entry) (v : Data) (old held new bytes : List ℕ) → v ≡ entry_data e → (has_float v ≡ false → bytes ≡ compact_text v) → held ≡ old ++ bytes → new ≡ held ++ 10 ∷ [] → new ≡ old ++ line e
written e v old held new bytes is spelled put ended =
    ended ∙ ap (λ t. t ++ 10 ∷ []) put ∙ append_assoc old bytes (10 ∷ []) ∙ ap (λ t. old ++ (t ++ 10 ∷ [])) (spelled (ap has_float is ∙ item_none e) ∙ ap compact_text is)
