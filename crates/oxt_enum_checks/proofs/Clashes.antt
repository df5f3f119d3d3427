-- Clashes among declarations, one after another.
use Rattle.std.proofs.Common.{◌≡◌, ◌∙◌, refl, sym, ap, ℕ, ◌+◌, ◌<◌, ◌≤◌, List, [], ◌∷◌, ◌++◌, length, drop, get_or, fold, add-one, drop-cons, append_assoc, append-nil, Bool, true, false, cond, not, ◌&&◌, ◌||◌, Option, Some, None, option_map, true≢false}
use Rattle.std.specs.Bool.{beq}
use Rattle.std.specs.Option.{option_or}
use Rattle.std.specs.Prelude.{find, is_some}
use Rattle.oxt_enum_checks.specs.Clash.{clash_from, clash_of, clash_with, clashes, emitted, emitted_as, lesser}
use Rattle.oxt_enum_checks.specs.Places.{Placed}
use Rattle.oxt_enum_checks.specs.Sort.{is_base, is_block, is_namespace}
use Rattle.oxt_enum_checks.specs.declared.clash.Emitted.{Emitted}
use Rattle.oxt_enum_checks.specs.declared.blocks.Block.{Block}
use Rattle.oxt_enum_checks.specs.declared.sort.Sort.{Sort}
use Rattle.oxt_enum_checks.specs.declared.sort.Sort.TheVariants as sort
use Rattle.oxt_scoping.specs.Scoped.{Scoped}
use Rattle.oxt_scoping.specs.declared.entry.Redeclaration.{Redeclaration}
use Rattle.oxt_names.proofs.Lists.{drop_at, drop_end}
use Rattle.oxt_names.specs.declared.ids.NodeId.{NodeId}

-- ---- the declarations that emit code

-- no more declarations
pub emitted_end : (before : List Emitted) (p : Placed) (ds : List Redeclaration) (i : ℕ) → length ds ≤ i → before ++ emitted p (drop i ds) ≡ before
emitted_end before p ds i h = ap (λ es. before ++ emitted p es) (drop_end ds i h) ∙ append-nil before

-- one more declaration
pub emitted_next : (before after : List Emitted) (p : Placed) (ds : List Redeclaration) (i : ℕ) (d : Redeclaration) → i < length ds → d ≡ get_or ds i d → after ≡ before ++ emitted_as d (p d.node.0)
    → before ++ emitted p (drop i ds) ≡ after ++ emitted p (drop (i + 1) ds)
emitted_next before after p ds i d h e pushed =
    ap (λ xs. before ++ emitted p xs) (drop_at ds i d h e)
    ∙ sym (append_assoc before (emitted_as d (p d.node.0)) (emitted p (drop (i + 1) ds)))
    ∙ ap (λ xs. xs ++ emitted p (drop (i + 1) ds)) (sym pushed)

pub ruleset emitted_steps = (emitted_next, emitted_end)

-- ---- the least clash

-- the least of what is known and of the clashes of these blocks
abbrev pub least_from : Scoped → Placed → Option ℕ → List Block → Option ℕ
least_from s p o bs = fold (λ m b. lesser m (clash_of s p b)) o bs

-- no more blocks
pub least_end : (s : Scoped) (p : Placed) (o : Option ℕ) (bs : List Block) (i : ℕ) → length bs ≤ i → least_from s p o (drop i bs) ≡ o
least_end s p o bs i h = ap (least_from s p o) (drop_end bs i h)

-- one more block
pub least_next : (s : Scoped) (p : Placed) (o new : Option ℕ) (bs : List Block) (i : ℕ) (b : Block) → i < length bs → b ≡ get_or bs i b → new ≡ lesser o (clash_of s p b)
    → least_from s p o (drop i bs) ≡ least_from s p new (drop (i + 1) bs)
least_next s p o new bs i b h e is = ap (least_from s p o) (drop_at bs i b h e) ∙ ap (λ m. least_from s p m (drop (i + 1) bs)) (sym is)

pub ruleset least_steps = (least_next, least_end)

-- ---- the first clash

-- the number of a declaration
abbrev number : NodeId → ℕ
number n = n.0

not_base : (o : Sort) → is_block o ≡ true → is_base o ≡ false
not_base sort.Enum h = refl
not_base sort.Namespace h = refl
not_base sort.Base h = absurd (true≢false (sym h))
not_base sort.Other h = refl

-- with a block merge only blocks that are exported as it is
merged : (p q sb tb base rest : Bool) → sb ≡ true → base ≡ false → (not (beq p q) || ((sb || tb) && not ((sb && tb) || (base && rest)))) ≡ false → (p ≡ q) × (tb ≡ true)
merged true true true true base rest f g h = (refl, refl)
merged false false true true base rest f g h = (refl, refl)
merged true true true false true rest f g h = absurd (true≢false g)
merged false false true false true rest f g h = absurd (true≢false g)
merged true true true false false rest f g h = absurd (true≢false h)
merged false false true false false rest f g h = absurd (true≢false h)
merged true false true tb base rest f g h = absurd (true≢false h)
merged false true true tb base rest f g h = absurd (true≢false h)
merged p q false tb base rest f g h = absurd (true≢false (sym f))

-- and these merge
merging : (p q sb tb rest : Bool) → p ≡ q → sb ≡ true → tb ≡ true → (not (beq p q) || ((sb || tb) && not ((sb && tb) || rest))) ≡ false
merging true true true true rest e f g = refl
merging false false true true rest e f g = refl
merging true false sb tb rest e f g = absurd (true≢false e)
merging false true sb tb rest e f g = absurd (true≢false (sym e))
merging true true false tb rest e f g = absurd (true≢false (sym f))
merging false false false tb rest e f g = absurd (true≢false (sym f))
merging true true true false rest e f g = absurd (true≢false (sym g))
merging false false true false rest e f g = absurd (true≢false (sym g))

-- what merges with one block merges with one another
alike : (b c : Bool) (e x y : Emitted) → is_block e.sort ≡ true → clashes b e x ≡ false → clashes b e y ≡ false → clashes c x y ≡ false
alike b c e x y k h g =
    let one = merged e.place.is_exported x.place.is_exported (is_block e.sort) (is_block x.sort) (is_base e.sort) (is_namespace x.sort && not b) k (not_base e.sort k) h in
    let other = merged e.place.is_exported y.place.is_exported (is_block e.sort) (is_block y.sort) (is_base e.sort) (is_namespace y.sort && not b) k (not_base e.sort k) g in
    merging x.place.is_exported y.place.is_exported (is_block x.sort) (is_block y.sort) (is_base x.sort && (is_namespace y.sort && not c)) (sym one.0 ∙ other.0) one.1 other.1

head_none : (b : Bool) (x : Emitted) (o : Option Emitted) → cond b (Some x) o ≡ None → (b ≡ false) × (o ≡ None)
head_none true x o h = absurd (cc)
head_none false x o h = (refl, h)

none_with : (b c : Bool) (e x : Emitted) (ys : List Emitted) → is_block e.sort ≡ true → clashes b e x ≡ false → find (clashes b e) ys ≡ None → find (clashes c x) ys ≡ None
none_with b c e x [] k h f = refl
none_with b c e x (y ∷ ys) k h f =
    let g = head_none (clashes b e y) y (find (clashes b e) ys) f in
    ap (λ t. cond t (Some y) (find (clashes c x) ys)) (alike b c e x y k h g.0) ∙ none_with b c e x ys k h g.1

-- Behind a block with which all that follow merge nothing clashes.
behind : (b c : Bool) (e : Emitted) (es : List Emitted) → is_block e.sort ≡ true → find (clashes b e) es ≡ None → clash_from c es ≡ None
behind b c e [] k f = refl
behind b c e (x ∷ xs) k f =
    let g = head_none (clashes b e x) x (find (clashes b e) xs) f in
    ap (λ o. option_or (option_map (λ (y : Emitted). y.place.declaration.0) o) (clash_from (c || is_base x.sort) xs)) (none_with b c e x xs k g.0 g.1) ∙ behind b (c || is_base x.sort) e xs k g.1

unmapped : (o : Option Emitted) → None ≡ option_map (λ (y : Emitted). y.place.declaration.0) o → o ≡ None
unmapped None h = refl
unmapped (Some e) h = absurd (cc)

stopped : (b : Bool) (e : Emitted) (es : List Emitted) (c : Option NodeId) → option_map number c ≡ clash_with b e es → (is_some c || is_block e.sort) ≡ true → clash_from b (e ∷ es) ≡ clash_with b e es
stopped b e es (Some n) is stop = ap (λ o. option_or o (clash_from (b || is_base e.sort) es)) (sym is) ∙ is
stopped b e es None is stop =
    ap (λ o. option_or o (clash_from (b || is_base e.sort) es)) (sym is) ∙ behind b (b || is_base e.sort) e es stop (unmapped (find (clashes b e) es) is) ∙ is

went_on : (b : Bool) (e : Emitted) (es : List Emitted) (c : Option NodeId) → option_map number c ≡ clash_with b e es → (is_some c || is_block e.sort) ≡ false → clash_from b (e ∷ es) ≡ clash_from (b || is_base e.sort) es
went_on b e es (Some n) is go = absurd (true≢false go)
went_on b e es None is go = ap (λ o. option_or o (clash_from (b || is_base e.sort) es)) (sym is)

-- the first clash was found, or there is none
pub clash_found : (b : Bool) (es later : List Emitted) (i : ℕ) (e : Emitted) (c : Option NodeId) → i < length es → later ≡ drop (i + 1) es → option_map (λ (n : NodeId). n.0) c ≡ clash_with b (get_or es i e) later
    → (is_some c || is_block (get_or es i e).sort) ≡ true → option_map (λ (n : NodeId). n.0) c ≡ clash_from b (drop i es)
clash_found b es later i e c lt rest given stop =
    let one = get_or es i e in
    let is = given ∙ ap (clash_with b one) rest in
    let here : drop i es ≡ one ∷ drop (i + 1) es = rw add-one (drop-cons es i e lt) in
    sym (ap (clash_from b) here ∙ stopped b one (drop (i + 1) es) c is stop ∙ sym is)

-- one more declaration
pub clash_next : (b : Bool) (es : List Emitted) (i : ℕ) (e : Emitted) (c : Option NodeId) → i < length es → e ≡ get_or es i e → option_map (λ (n : NodeId). n.0) c ≡ clash_with b e (drop (i + 1) es)
    → (is_some c || is_block e.sort) ≡ false → clash_from b (drop i es) ≡ clash_from (b || is_base e.sort) (drop (i + 1) es)
clash_next b es i e c lt at is go = ap (clash_from b) (drop_at es i e lt at) ∙ went_on b e (drop (i + 1) es) c is go

-- no more declarations
pub clash_end : (b : Bool) (es : List Emitted) (i : ℕ) → length es ≤ i → clash_from b (drop i es) ≡ None
clash_end b es i h = ap (clash_from b) (drop_end es i h)

pub ruleset clash_steps = (clash_next, clash_end)
