-- Lists of insertions: what each change of the two sides makes of the entries.
use Rattle.std.proofs.Common.{◌≡◌, List, [], ◌∷◌, ◌++◌, map, true, false, cond, is_ok, OnOk, arith, refl, sym, ap, ◌∙◌, length, nat_eq}
use Rattle.std.specs.Prelude.{Result, Ok, Err}
use Rattle.std.specs.List.{list_any}
use Rattle.oxt_tree.specs.View.{part_doc}
use Rattle.oxt_tree.specs.declared.tree.Part.{Part}
use Rattle.oxt_stores.specs.Insertion.{Entry, IsJoined, after_it, before_it, docs, entries, followed, last_before}
use Rattle.oxt_stores.specs.declared.insertions.Insertions.{Insertions}

-- the entries of two sides
abbrev pub both : List Part → List Part → List Entry
both bs us = map before_it (docs bs) ++ map after_it (docs us)

both_before : (bs us : List Part) (p : Part) → both (bs ++ p ∷ []) us ≡ last_before (before_it (part_doc p)) (both bs us)
both_before [] [] p = refl
both_before [] (a ∷ us) p = refl
both_before (b ∷ bs) us p = ap (λ es. before_it (part_doc b) ∷ es) (both_before bs us p)

both_after : (bs us : List Part) (p : Part) → both bs (us ++ p ∷ []) ≡ both bs us ++ after_it (part_doc p) ∷ []
both_after [] [] p = refl
both_after [] (a ∷ us) p = ap (λ es. after_it (part_doc a) ∷ es) (both_after [] us p)
both_after (b ∷ bs) us p = ap (λ es. before_it (part_doc b) ∷ es) (both_after bs us p)

both_many_before : (ps bs us : List Part) → both (ps ++ bs) us ≡ map before_it (docs ps) ++ both bs us
both_many_before [] bs us = refl
both_many_before (p ∷ ps) bs us = ap (λ es. before_it (part_doc p) ∷ es) (both_many_before ps bs us)

both_many_after : (bs us ps : List Part) → both bs (us ++ ps) ≡ both bs us ++ map after_it (docs ps)
both_many_after [] [] ps = refl
both_many_after [] (a ∷ us) ps = ap (λ es. after_it (part_doc a) ∷ es) (both_many_after [] us ps)
both_many_after (b ∷ bs) us ps = ap (λ es. before_it (part_doc b) ∷ es) (both_many_after bs us ps)

none_after : (bs : List Part) → list_any (λ e. e.is_after) (both bs []) ≡ false
none_after [] = refl
none_after (b ∷ bs) = none_after bs

some_after : (bs : List Part) (a : Part) (us : List Part) → list_any (λ e. e.is_after) (both bs (a ∷ us)) ≡ true
some_after [] a us = refl
some_after (b ∷ bs) a us = some_after bs a us

sides_joined : (bs cs ds : List Part) → both (bs ++ cs) ds ≡ both bs [] ++ both cs ds
sides_joined [] cs ds = refl
sides_joined (b ∷ bs) cs ds = ap (λ es. before_it (part_doc b) ∷ es) (sides_joined bs cs ds)

all_after : (cs ds : List Part) → map after_it (docs (cs ++ ds)) ≡ map (λ e. after_it e.statement) (both cs ds)
all_after [] [] = refl
all_after [] (d ∷ ds) = ap (λ es. after_it (part_doc d) ∷ es) (all_after [] ds)
all_after (c ∷ cs) ds = ap (λ es. after_it (part_doc c) ∷ es) (all_after cs ds)

-- behind statements of which none stands after
followed_sides : (bs cs ds : List Part) → both (bs ++ cs) ds ≡ followed (both bs []) (both cs ds)
followed_sides bs cs ds = rw (none_after bs) (sides_joined bs cs ds)

-- behind statements of which some stand after
followed_after : (bs : List Part) (a : Part) (us cs ds : List Part) → both bs ((a ∷ us) ++ (cs ++ ds)) ≡ followed (both bs (a ∷ us)) (both cs ds)
followed_after bs a us cs ds =
    rw (some_after bs a us) (both_many_after bs (a ∷ us) (cs ++ ds) ∙ ap (λ es. both bs (a ∷ us) ++ es) (all_after cs ds))

-- one more before
pub entries_before : (i j : Insertions) (p : Part) → j.before.items ≡ i.before.items ++ p ∷ [] → j.after.items ≡ i.after.items → entries j ≡ last_before (before_it (part_doc p)) (entries i)
entries_before i j p before after =
    let e : both j.before.items j.after.items ≡ both (i.before.items ++ p ∷ []) i.after.items = cc in
    e ∙ both_before i.before.items i.after.items p

-- one more after
pub entries_after : (i j : Insertions) (p : Part) → j.after.items ≡ i.after.items ++ p ∷ [] → j.before.items ≡ i.before.items → entries j ≡ entries i ++ after_it (part_doc p) ∷ []
entries_after i j p after before =
    let e : both j.before.items j.after.items ≡ both i.before.items (i.after.items ++ p ∷ []) = cc in
    e ∙ both_after i.before.items i.after.items p

-- more in front of all
pub entries_many_before : (i j : Insertions) (ps : List Part) → j.before.items ≡ ps ++ i.before.items → j.after.items ≡ i.after.items → entries j ≡ map before_it (docs ps) ++ entries i
entries_many_before i j ps before after =
    let e : both j.before.items j.after.items ≡ both (ps ++ i.before.items) i.after.items = cc in
    e ∙ both_many_before ps i.before.items i.after.items

-- more behind all
pub entries_many_after : (i j : Insertions) (ps : List Part) → j.after.items ≡ i.after.items ++ ps → j.before.items ≡ i.before.items → entries j ≡ entries i ++ map after_it (docs ps)
entries_many_after i j ps after before =
    let e : both j.before.items j.after.items ≡ both i.before.items (i.after.items ++ ps) = cc in
    e ∙ both_many_after i.before.items i.after.items ps

no_parts : (ps : List Part) → length ps ≡ 0 → ps ≡ []
no_parts [] none = refl
no_parts (p ∷ ps) none = absurd (omega arith)

joined_sides : (i more j : Insertions) → i.after.items ≡ [] → j.before.items ≡ i.before.items ++ more.before.items → j.after.items ≡ i.after.items ++ more.after.items → IsJoined i more j
joined_sides i more j none before after =
    let e : both j.before.items j.after.items ≡ both (i.before.items ++ more.before.items) more.after.items = cc (ap (λ xs. xs ++ more.after.items) none) in
    let f : followed (both i.before.items []) (entries more) ≡ followed (entries i) (entries more) = ap (λ xs. followed (both i.before.items xs) (entries more)) (sym none) in
    e ∙ (followed_sides i.before.items more.before.items more.after.items ∙ f)

-- where nothing stood after, the sides go behind the sides
pub sides_appended : {T E : Type 0} (r : Result T E) (i more j : Insertions) → length i.after.items ≡ 0 → j.before.items ≡ cond (is_ok r) (i.before.items ++ more.before.items) i.before.items → j.after.items ≡ cond (is_ok r) (i.after.items ++ more.after.items) i.after.items → OnOk r (IsJoined i more j)
sides_appended (Ok x) i more j none before after = joined_sides i more j (no_parts i.after.items none) before after
sides_appended (Err e) i more j none before after = tt

joined_at : (bs us cs ds : List Part) → nat_eq (length us) 0 ≡ false → both bs (us ++ (cs ++ ds)) ≡ followed (both bs us) (both cs ds)
joined_at bs [] cs ds some = absurd (cc)
joined_at bs (a ∷ us) cs ds some = followed_after bs a us cs ds

joined_after : (i more j : Insertions) → nat_eq (length i.after.items) 0 ≡ false → j.before.items ≡ i.before.items → j.after.items ≡ i.after.items ++ (more.before.items ++ more.after.items) → IsJoined i more j
joined_after i more j some before after =
    let e : both j.before.items j.after.items ≡ both i.before.items (i.after.items ++ (more.before.items ++ more.after.items)) = cc in
    e ∙ joined_at i.before.items i.after.items more.before.items more.after.items some

-- where some stood after, all goes behind those
pub after_appended : {T E : Type 0} (r : Result T E) (i more j : Insertions) → nat_eq (length i.after.items) 0 ≡ false → j.before.items ≡ i.before.items → j.after.items ≡ cond (is_ok r) (i.after.items ++ (more.before.items ++ more.after.items)) i.after.items → OnOk r (IsJoined i more j)
after_appended (Ok x) i more j some before after = joined_after i more j some before after
after_appended (Err e) i more j some before after = tt

-- a fact that follows where a call succeeds
pub on_ok : {T E : Type 0} {P Q : Type 0} (r : Result T E) → (P → Q) → OnOk r P → OnOk r Q
on_ok (Ok x) f p = f p
on_ok (Err e) f p = p
