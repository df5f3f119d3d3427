-- What it means that atoms, and items, are one.
use Rattle.std.proofs.Common.{◌≡◌, ◌∙◌, refl, sym, ap, ℕ, suc, ◌+◌, ◌<◌, ◌≤◌, List, [], ◌∷◌, map, length, drop, get_or, Bool, true, false, ◌&&◌, Option}
use Rattle.std.proofs.lemmas.Bool.Decides.{Decides-eqb}
use Rattle.std.proofs.lemmas.Slice.Eq.{bytes_eq-Decides}
use Rattle.oxt_grammar.specs.Kinds.{name_of}
use Rattle.oxt_grammar.specs.Words.{text_of}
use Rattle.oxt_names.proofs.Lists.{drop_at, drop_end}
use Rattle.oxt_tree.specs.Doc.{Doc, nil, flag, number, text, list, node}
use Rattle.oxt_tree.specs.Fields.{is_nil, is_text}
use Rattle.oxt_names.specs.Names.{name_bytes}
use Rattle.oxt_facts.specs.Compare.{is_flag, is_number, same_atom, same_atoms, without_group}
use Rattle.oxt_facts.specs.Entry.{Entry, atom_doc, binding_text, entry_of}
use Rattle.oxt_facts.specs.declared.item.Atom.{Atom}
use Rattle.oxt_facts.specs.declared.item.Atom.TheVariants as atom
use Rattle.oxt_facts.specs.declared.item.Item.{Item}

nil_same : (d : Doc) → is_nil d ≡ true → nil ≡ d
nil_same nil e = refl
nil_same d e = cc

flag_same : (b : Bool) (d : Doc) → is_flag b d ≡ true → flag b ≡ d
flag_same true (flag c) e = ap flag (sym e)
flag_same false (flag true) e = cc
flag_same false (flag false) e = refl
flag_same b d e = cc

number_same : (n : ℕ) (d : Doc) → is_number n d ≡ true → number n ≡ d
number_same n (number m) e = ap number (sym ((Decides-eqb m n).0 e))
number_same n d e = cc

text_same : (t : List ℕ) (d : Doc) → is_text t d ≡ true → text t ≡ d
text_same t (text u) e = ap text (sym ((bytes_eq-Decides u t).0 e))
text_same t d e = cc

pub atom_same : (c d : Doc) → same_atom c d ≡ true → c ≡ d
atom_same nil d e = nil_same d e
atom_same (flag b) d e = flag_same b d e
atom_same (number n) d e = number_same n d e
atom_same (text t) d e = text_same t d e
atom_same (list ds) d e = cc
atom_same (node k i b f ds) d e = cc

pub atom_self : (a : Atom) → same_atom (atom_doc a) (atom_doc a) ≡ true
atom_self atom.Nothing = refl
atom_self (atom.Flag true) = refl
atom_self (atom.Flag false) = refl
atom_self (atom.Number n) = (Decides-eqb n n).1 refl
atom_self (atom.Text name) = (bytes_eq-Decides (name_bytes name) (name_bytes name)).1 refl
atom_self (atom.Word w) = (bytes_eq-Decides (text_of w) (text_of w)).1 refl
atom_self (atom.Binding b) = (bytes_eq-Decides (binding_text b) (binding_text b)).1 refl
atom_self (atom.Kind k) = (bytes_eq-Decides (name_of k) (name_of k)).1 refl

both : (b c : Bool) → (b && c) ≡ true → (b ≡ true) × (c ≡ true)
both true c e = (refl, e)
both false c e = cc

pub atoms_same : (cs ds : List Doc) → same_atoms cs ds ≡ true → cs ≡ ds
atoms_same [] [] e = refl
atoms_same [] (d ∷ ds) e = cc
atoms_same (c ∷ cs) [] e = cc
atoms_same (c ∷ cs) (d ∷ ds) e =
    let parts = both (same_atom c d) (same_atoms cs ds) e in
    let head = atom_same c d parts.0 in
    let rest = atoms_same cs ds parts.1 in
    cc

pub atoms_self : (xs : List Atom) → same_atoms (map atom_doc xs) (map atom_doc xs) ≡ true
atoms_self [] = refl
atoms_self (x ∷ xs) = ap (λ b. b && same_atoms (map atom_doc xs) (map atom_doc xs)) (atom_self x) ∙ atoms_self xs

-- the two loops over lists of one length
pub atoms_end : (xs ys : List Atom) (i : ℕ) → length xs ≤ i → length ys ≤ i → same_atoms (map atom_doc (drop i xs)) (map atom_doc (drop i ys)) ≡ true
atoms_end xs ys i h k = ap (λ zs. same_atoms (map atom_doc zs) (map atom_doc (drop i ys))) (drop_end xs i h) ∙ ap (λ zs. same_atoms [] (map atom_doc zs)) (drop_end ys i k)

pub atoms_at : (xs ys : List Atom) (i : ℕ) (x y : Atom) → i < length xs → x ≡ get_or xs i x → i < length ys → y ≡ get_or ys i y
    → same_atoms (map atom_doc (drop i xs)) (map atom_doc (drop i ys)) ≡ (same_atom (atom_doc x) (atom_doc y) && same_atoms (map atom_doc (drop (i + 1) xs)) (map atom_doc (drop (i + 1) ys)))
atoms_at xs ys i x y h e k f = ap (λ zs. same_atoms (map atom_doc zs) (map atom_doc (drop i ys))) (drop_at xs i x h e) ∙ ap (λ zs. same_atoms (map atom_doc (x ∷ drop (i + 1) xs)) (map atom_doc zs)) (drop_at ys i y k f)

pub atoms_lengths : (xs ys : List Atom) → (length xs ≡ length ys → ⊥) → same_atoms (map atom_doc xs) (map atom_doc ys) ≡ false
atoms_lengths [] [] h = absurd (h refl)
atoms_lengths [] (y ∷ ys) h = refl
atoms_lengths (x ∷ xs) [] h = refl
atoms_lengths (x ∷ xs) (y ∷ ys) h = step (same_atom (atom_doc x) (atom_doc y)) (atoms_lengths xs ys (λ e. h (ap (λ n. suc n) e)))
  where
    step : (b : Bool) {c : Bool} → c ≡ false → (b && c) ≡ false
    step true e = e
    step false e = refl

-- Two items are one but for their groups where their kinds, spellings and details are.
pub rest_same : (a b : Item) → a.kind ≡ b.kind → same_atom (atom_doc a.spelling) (atom_doc b.spelling) ≡ true → same_atoms (map atom_doc a.details.items) (map atom_doc b.details.items) ≡ true → without_group (entry_of a) ≡ without_group (entry_of b)
rest_same a b m s d =
    let spelling = atom_same (atom_doc a.spelling) (atom_doc b.spelling) s in
    let details = atoms_same (map atom_doc a.details.items) (map atom_doc b.details.items) d in
    cc

pub kind_of : (a b : Item) → without_group (entry_of a) ≡ without_group (entry_of b) → a.kind ≡ b.kind
kind_of a b e = ap (λ (x : Entry). x.kind) e

pub spelling_of : (a b : Item) → without_group (entry_of a) ≡ without_group (entry_of b) → same_atom (atom_doc a.spelling) (atom_doc b.spelling) ≡ true
spelling_of a b e = ap (λ (x : Entry). same_atom (atom_doc a.spelling) x.spelling) (sym e) ∙ atom_self a.spelling

pub details_of : (a b : Item) → without_group (entry_of a) ≡ without_group (entry_of b) → same_atoms (map atom_doc a.details.items) (map atom_doc b.details.items) ≡ true
details_of a b e = ap (λ (x : Entry). same_atoms (map atom_doc a.details.items) x.details) (sym e) ∙ atoms_self a.details.items

-- They are one where their groups are one too.
pub item_same : (a b : Item) → a.group ≡ b.group → without_group (entry_of a) ≡ without_group (entry_of b) → entry_of a ≡ entry_of b
item_same a b g e = ap (λ (x : Entry). record x { group = a.group }) e ∙ ap (λ (h : Option ℕ). record (entry_of b) { group = h }) g

pub group_of : (a b : Item) → entry_of a ≡ entry_of b → a.group ≡ b.group
group_of a b e = ap (λ (x : Entry). x.group) e

pub rest_of : (a b : Item) → entry_of a ≡ entry_of b → without_group (entry_of a) ≡ without_group (entry_of b)
rest_of a b e = ap without_group e
