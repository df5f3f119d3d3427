-- Lists of parts and of references, one after another.
use Rattle.std.proofs.Common.{◌≡◌, ◌∙◌, refl, sym, ap, ℕ, ◌+◌, ◌<◌, ◌≤◌, List, [], ◌∷◌, ◌++◌, length, get_or, drop, Bool, ◌||◌, Option}
use Rattle.std.specs.BTreeMap.{insert_entry}
use Rattle.std.specs.Ordering.{nat_cmp}
use Rattle.oxt_facts.specs.Told.{Tellings}
use Rattle.oxt_scoping.specs.Scoped.{Scoped, live_at}
use Rattle.oxt_names.specs.declared.ids.ReferenceId.{ReferenceId}
use Rattle.oxt_told.specs.Modules.{specifier_told, specifiers_told, statement_told, statements_told}
use Rattle.oxt_told.specs.Source.{Around, Asked, Chosen, all_told, bare_at, bares, member_bares, member_name, member_told, members_bares, members_told, told_in, told_in_each}
use Rattle.oxt_told.specs.declared.seat.Seat.{Seat}
use Rattle.oxt_names.proofs.Lists.{drop_at, drop_end}
use Rattle.oxt_tree.specs.View.{docs_in, part_doc}
use Rattle.oxt_tree.specs.declared.tree.Part.{Part}

-- tellings over one another
pub all_told-append : (ts xs bs : Tellings) → all_told ts (xs ++ bs) ≡ all_told (all_told ts xs) bs
all_told-append ts [] bs = refl
all_told-append ts (e ∷ xs) bs = all_told-append (insert_entry nat_cmp ts e.0 e.1) xs bs

pub told_both : (ts mid new xs bs : Tellings) → mid ≡ all_told ts xs → new ≡ all_told mid bs → new ≡ all_told ts (xs ++ bs)
told_both ts mid new xs bs first second = second ∙ ap (λ x. all_told x bs) first ∙ sym (all_told-append ts xs bs)

pub told_three : (ts one two new xs bs cs : Tellings) → one ≡ all_told ts xs → two ≡ all_told one bs → new ≡ all_told two cs → new ≡ all_told ts (xs ++ (bs ++ cs))
told_three ts one two new xs bs cs first second third = told_both ts one new xs (bs ++ cs) first (told_both one two new bs cs second third)

pub told_four : (ts one two three new xs bs cs ds : Tellings) → one ≡ all_told ts xs → two ≡ all_told one bs → three ≡ all_told two cs → new ≡ all_told three ds
    → new ≡ all_told ts (xs ++ (bs ++ (cs ++ ds)))
told_four ts one two three new xs bs cs ds first second third fourth = told_both ts one new xs (bs ++ (cs ++ ds)) first (told_three one two three new bs cs ds second third fourth)

-- ---- members

pub member_more : (s : Scoped) (e : Around) (before after : Option (List ℕ)) (ts new : Tellings) (ps : List Part) (i : ℕ) (p : Part) → i < length ps → p ≡ get_or ps i p
    → new ≡ all_told ts (member_told s e before (part_doc p)) → after ≡ member_name s (part_doc p)
    → all_told ts (members_told s e before (docs_in (drop i ps))) ≡ all_told new (members_told s e after (docs_in (drop (i + 1) ps)))
member_more s e before after ts new ps i p lt here told named =
    ap (λ qs. all_told ts (members_told s e before (docs_in qs))) (drop_at ps i p lt here)
    ∙ all_told-append ts (member_told s e before (part_doc p)) (members_told s e (member_name s (part_doc p)) (docs_in (drop (i + 1) ps)))
    ∙ ap (λ x. all_told x (members_told s e (member_name s (part_doc p)) (docs_in (drop (i + 1) ps)))) (sym told)
    ∙ ap (λ a. all_told new (members_told s e a (docs_in (drop (i + 1) ps)))) (sym named)

pub member_done : (s : Scoped) (e : Around) (before : Option (List ℕ)) (ts : Tellings) (ps : List Part) (i : ℕ) → length ps ≤ i → all_told ts (members_told s e before (docs_in (drop i ps))) ≡ ts
member_done s e before ts ps i le = ap (λ qs. all_told ts (members_told s e before (docs_in qs))) (drop_end ps i le)

pub ruleset member_steps = (member_more, member_done)

-- ---- members of a block that emits nothing

pub ambient_more : (s : Scoped) (e : Around) (ts new : Tellings) (ps : List Part) (i : ℕ) (p : Part) → i < length ps → p ≡ get_or ps i p
    → new ≡ all_told ts (member_bares s e (part_doc p))
    → all_told ts (members_bares s e (docs_in (drop i ps))) ≡ all_told new (members_bares s e (docs_in (drop (i + 1) ps)))
ambient_more s e ts new ps i p lt here told =
    ap (λ qs. all_told ts (members_bares s e (docs_in qs))) (drop_at ps i p lt here)
    ∙ all_told-append ts (member_bares s e (part_doc p)) (members_bares s e (docs_in (drop (i + 1) ps)))
    ∙ ap (λ x. all_told x (members_bares s e (docs_in (drop (i + 1) ps)))) (sym told)

pub ambient_done : (s : Scoped) (e : Around) (ts : Tellings) (ps : List Part) (i : ℕ) → length ps ≤ i → all_told ts (members_bares s e (docs_in (drop i ps))) ≡ ts
ambient_done s e ts ps i le = ap (λ qs. all_told ts (members_bares s e (docs_in qs))) (drop_end ps i le)

pub ruleset ambient_steps = (ambient_more, ambient_done)

-- ---- references

pub bare_more : (s : Scoped) (e : Around) (ts new : Tellings) (rs : List ReferenceId) (i : ℕ) (r : ReferenceId) → i < length rs → r ≡ get_or rs i r
    → new ≡ all_told ts (bare_at e (live_at s.references r.0))
    → all_told ts (bares s e (drop i rs)) ≡ all_told new (bares s e (drop (i + 1) rs))
bare_more s e ts new rs i r lt here told =
    ap (λ qs. all_told ts (bares s e qs)) (drop_at rs i r lt here)
    ∙ all_told-append ts (bare_at e (live_at s.references r.0)) (bares s e (drop (i + 1) rs))
    ∙ ap (λ x. all_told x (bares s e (drop (i + 1) rs))) (sym told)

pub bare_done : (s : Scoped) (e : Around) (ts : Tellings) (rs : List ReferenceId) (i : ℕ) → length rs ≤ i → all_told ts (bares s e (drop i rs)) ≡ ts
bare_done s e ts rs i le = ap (λ qs. all_told ts (bares s e qs)) (drop_end rs i le)

pub ruleset bare_steps = (bare_more, bare_done)

-- ---- what stands in parts

pub each_more : (s : Scoped) (f : Asked) (c : Chosen) (q : Seat) (ts new : Tellings) (ps : List Part) (i : ℕ) (p : Part) → i < length ps → p ≡ get_or ps i p
    → new ≡ all_told ts (told_in s f c q (part_doc p))
    → all_told ts (told_in_each s f c q (docs_in (drop i ps))) ≡ all_told new (told_in_each s f c q (docs_in (drop (i + 1) ps)))
each_more s f c q ts new ps i p lt here told =
    ap (λ qs. all_told ts (told_in_each s f c q (docs_in qs))) (drop_at ps i p lt here)
    ∙ all_told-append ts (told_in s f c q (part_doc p)) (told_in_each s f c q (docs_in (drop (i + 1) ps)))
    ∙ ap (λ x. all_told x (told_in_each s f c q (docs_in (drop (i + 1) ps)))) (sym told)

pub each_done : (s : Scoped) (f : Asked) (c : Chosen) (q : Seat) (ts : Tellings) (ps : List Part) (i : ℕ) → length ps ≤ i → all_told ts (told_in_each s f c q (docs_in (drop i ps))) ≡ ts
each_done s f c q ts ps i le = ap (λ qs. all_told ts (told_in_each s f c q (docs_in qs))) (drop_end ps i le)

pub ruleset each_steps = (each_more, each_done)

-- ---- statements that import and export

pub statement_more : (ks : ℕ → Bool) (all : Bool) (ts new : Tellings) (ps : List Part) (i : ℕ) (p : Part) → i < length ps → p ≡ get_or ps i p
    → new ≡ all_told ts (statement_told ks all (part_doc p))
    → all_told ts (statements_told ks all (docs_in (drop i ps))) ≡ all_told new (statements_told ks all (docs_in (drop (i + 1) ps)))
statement_more ks all ts new ps i p lt here told =
    ap (λ qs. all_told ts (statements_told ks all (docs_in qs))) (drop_at ps i p lt here)
    ∙ all_told-append ts (statement_told ks all (part_doc p)) (statements_told ks all (docs_in (drop (i + 1) ps)))
    ∙ ap (λ x. all_told x (statements_told ks all (docs_in (drop (i + 1) ps)))) (sym told)

pub statement_done : (ks : ℕ → Bool) (all : Bool) (ts : Tellings) (ps : List Part) (i : ℕ) → length ps ≤ i → all_told ts (statements_told ks all (docs_in (drop i ps))) ≡ ts
statement_done ks all ts ps i le = ap (λ qs. all_told ts (statements_told ks all (docs_in qs))) (drop_end ps i le)

pub ruleset statement_steps = (statement_more, statement_done)

-- ---- their specifiers

pub specifier_more : (ks : ℕ → Bool) (ts new : Tellings) (ps : List Part) (i : ℕ) (p : Part) → i < length ps → p ≡ get_or ps i p
    → new ≡ all_told ts (specifier_told ks (part_doc p))
    → all_told ts (specifiers_told ks (docs_in (drop i ps))) ≡ all_told new (specifiers_told ks (docs_in (drop (i + 1) ps)))
specifier_more ks ts new ps i p lt here told =
    ap (λ qs. all_told ts (specifiers_told ks (docs_in qs))) (drop_at ps i p lt here)
    ∙ all_told-append ts (specifier_told ks (part_doc p)) (specifiers_told ks (docs_in (drop (i + 1) ps)))
    ∙ ap (λ x. all_told x (specifiers_told ks (docs_in (drop (i + 1) ps)))) (sym told)

pub specifier_done : (ks : ℕ → Bool) (ts : Tellings) (ps : List Part) (i : ℕ) → length ps ≤ i → all_told ts (specifiers_told ks (docs_in (drop i ps))) ≡ ts
specifier_done ks ts ps i le = ap (λ qs. all_told ts (specifiers_told ks (docs_in qs))) (drop_end ps i le)

pub ruleset specifier_steps = (specifier_more, specifier_done)
