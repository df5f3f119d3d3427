-- The `export {}` statements of a list, one at a time.
use Rattle.std.proofs.Common.{arith, ◌≡◌, ◌∙◌, refl, sym, ap, ap₂, subst, ℕ, suc, ◌+◌, ◌-◌, ◌<◌, ◌≤◌, List, [], ◌∷◌, ◌++◌, length, drop, get_or, slice_get, append_assoc, append-nil, Bool, true, false, not, ◌&&◌, ◌||◌, Option, None, Some}
use Rattle.std.proofs.lemmas.Bool.Decides.{Decides-eqb}
use Rattle.std.specs.Prelude.{⊤, nat_eq}
use Rattle.oxt_certificate.specs.Exports.{HasExports, body, empty_exports, ends_in_export, export_span, is_empty_export, last_is_export, same_span, same_spans}
use Rattle.oxt_certificate.specs.Settings.{SettingsData, has_exports, settings_by}
use Rattle.oxt_names.proofs.Lists.{drop_at, drop_end}
use Rattle.oxt_tree.specs.Doc.{Doc}
use Rattle.oxt_tree.specs.View.{docs_in, part_doc}
use Rattle.oxt_names.specs.declared.ids.Span.{Span}
use Rattle.oxt_tree.specs.declared.tree.Part.{Part}

-- ---- where they stand

pub push_end : (before : List Span) (ps : List Part) (i : ℕ) → length ps ≤ i → before ++ empty_exports (docs_in (drop i ps)) ≡ before
push_end before ps i le = ap (λ qs. before ++ empty_exports (docs_in qs)) (drop_end ps i le) ∙ append-nil before

pub push_next : (before after : List Span) (ps : List Part) (i : ℕ) (p : Part) → i < length ps → p ≡ get_or ps i p → after ≡ before ++ export_span (part_doc p) → before ++ empty_exports (docs_in (drop i ps)) ≡ after ++ empty_exports (docs_in (drop (i + 1) ps))
push_next before after ps i p lt here pushed =
    ap (λ qs. before ++ empty_exports (docs_in qs)) (drop_at ps i p lt here)
    ∙ sym (append_assoc before (export_span (part_doc p)) (empty_exports (docs_in (drop (i + 1) ps))))
    ∙ ap (λ ss. ss ++ empty_exports (docs_in (drop (i + 1) ps))) (sym pushed)

pub ruleset push_steps = (push_next, push_end)

-- ---- the last

abbrev part_or : Part → Option Part → Part
part_or p None = p
part_or p (Some q) = q

abbrev IsThere : Option Part → Type 0
IsThere None = ⊥
IsThere (Some q) = ⊤

last_at : (b : Bool) (p q : Part) (qs : List Part) → Some p ≡ slice_get (q ∷ qs) (length qs) → is_empty_export (part_doc p) ≡ last_is_export b (docs_in (q ∷ qs))
last_at b p q [] e = ap (λ o. is_empty_export (part_doc (part_or p o))) e
last_at b p q (s ∷ qs) e = last_at (is_empty_export (part_doc q)) p s qs e

there_at : (q : Part) (qs : List Part) → IsThere (slice_get (q ∷ qs) (length qs))
there_at q [] = tt
there_at q (s ∷ qs) = there_at s qs

one_less : (q : Part) (qs : List Part) → length (q ∷ qs) - 1 ≡ length qs
one_less q qs = omega arith

pub last_some : (ps : List Part) (p : Part) (r : Bool) → Some p ≡ slice_get ps (length ps - 1) → r ≡ is_empty_export (part_doc p) → r ≡ ends_in_export (docs_in ps)
last_some [] p r e is = absurd (subst IsThere e tt)
last_some (q ∷ qs) p r e is = is ∙ last_at false p q qs (e ∙ ap (slice_get (q ∷ qs)) (one_less q qs))

pub last_none : (ps : List Part) → None ≡ slice_get ps (length ps - 1) → false ≡ ends_in_export (docs_in ps)
last_none [] e = refl
last_none (q ∷ qs) e = absurd (subst IsThere (sym (e ∙ ap (slice_get (q ∷ qs)) (one_less q qs))) (there_at q qs))

pub ruleset last_steps = (last_some, last_none)

-- ---- lists of spans

pub same_end : (xs ys : List Span) (i : ℕ) → length xs ≤ i → length ys ≤ i → same_spans (drop i xs) (drop i ys) ≡ true
same_end xs ys i h k = ap (λ zs. same_spans zs (drop i ys)) (drop_end xs i h) ∙ ap (same_spans []) (drop_end ys i k)

pub same_at : (xs ys : List Span) (i : ℕ) (x y : Span) → i < length xs → x ≡ get_or xs i x → i < length ys → y ≡ get_or ys i y
    → same_spans (drop i xs) (drop i ys) ≡ (same_span x y && same_spans (drop (i + 1) xs) (drop (i + 1) ys))
same_at xs ys i x y h e k f = ap (λ zs. same_spans zs (drop i ys)) (drop_at xs i x h e) ∙ ap (same_spans (x ∷ drop (i + 1) xs)) (drop_at ys i y k f)

pub same_lengths : (xs ys : List Span) → (length xs ≡ length ys → ⊥) → same_spans xs ys ≡ false
same_lengths [] [] h = absurd (h refl)
same_lengths [] (y ∷ ys) h = refl
same_lengths (x ∷ xs) [] h = refl
same_lengths (x ∷ xs) (y ∷ ys) h = step (same_span x y) (same_lengths xs ys (λ e. h (ap (λ n. suc n) e)))
  where
    step : (b : Bool) {c : Bool} → c ≡ false → (b && c) ≡ false
    step true e = e
    step false e = refl

pub ruleset same_steps = (same_at, same_end, same_lengths)

both : (b c : Bool) → (b && c) ≡ true → (b ≡ true) × (c ≡ true)
both true c e = (refl, e)
both false c e = cc

abbrev span : ℕ → ℕ → Span
span s e = record { start = s; end = e }

span_same : (a b : Span) → same_span a b ≡ true → a ≡ b
span_same a b e =
    let parts = both (nat_eq a.start b.start) (nat_eq a.end b.end) e in
    let start : a.start ≡ b.start = (Decides-eqb a.start b.start).0 parts.0 in
    let end : a.end ≡ b.end = (Decides-eqb a.end b.end).0 parts.1 in
    ap₂ span start end

spans_same : (xs ys : List Span) → same_spans xs ys ≡ true → xs ≡ ys
spans_same [] [] e = refl
spans_same [] (y ∷ ys) e = cc
spans_same (x ∷ xs) [] e = cc
spans_same (x ∷ xs) (y ∷ ys) e =
    let parts = both (same_span x y) (same_spans xs ys) e in
    let head = span_same x y parts.0 in
    let rest = spans_same xs ys parts.1 in
    cc

implied : (a b : Bool) → (not a || b) ≡ true → a ≡ true → b ≡ true
implied true b h e = h
implied false b h e = cc

-- What the test of the settings says of these statements.
pub exports_stand : (is_due undecorated : Bool) (source output : Doc) → has_exports (settings_by is_due undecorated source) (body output) ≡ true → HasExports is_due source output
exports_stand is_due undecorated source output h =
    let x : SettingsData = settings_by is_due undecorated source in
    let parts = both (same_spans (empty_exports (body output)) x.exports) (not x.export_due || ends_in_export (body output)) h in
    record {
      same = spans_same (empty_exports (body output)) x.exports parts.0;
      last = implied x.export_due (ends_in_export (body output)) parts.1;
    }
