-- Blocks of enums and names, one after the other.
use Rattle.std.proofs.Common.{◌≡◌, ◌∙◌, refl, sym, ap, ℕ, ◌+◌, ◌<◌, ◌≤◌, List, [], ◌∷◌, length, drop, get_or, Bool, true, false, cond, if◌then◌else◌, nat_eq, Option, None, Some, add-one, drop-cons, arith}
use Rattle.std.proofs.Math.Path.{fun_ext}
use Rattle.std.specs.Map.{lookup}
use Rattle.std.specs.Option.{option_or}
use Rattle.oxt_metadata.specs.Annotations.{annotated, annotations_by}
use Rattle.oxt_metadata.specs.Events.{events}
use Rattle.oxt_metadata.specs.Latest.{Blocks, noted, shape_in, shaped, shapes_at, with_block, with_shape}
use Rattle.oxt_metadata.specs.declared.events.Event.{Event}
use Rattle.oxt_metadata.specs.declared.events.Event.TheVariants as event
use Rattle.oxt_metadata.specs.declared.shape.Shape.{Shape}
use Rattle.oxt_metadata.specs.declared.shapes.EnumShapes.{EnumShapes}
use Rattle.oxt_scoping.specs.Scoped.{Scoped}
use Rattle.oxt_names.proofs.Lists.{drop_end}
use Rattle.oxt_tree.specs.Doc.{Doc}

-- ---- a table with one more entry

same_test : (k n : ℕ) → nat_eq k n ≡ nat_eq n k
same_test k n = grind arith

pub put_shape : (old new : List (ℕ × Shape)) (k : ℕ) (p : Shape) → ((n : ℕ) → lookup (nat_eq n) new ≡ cond (nat_eq k n) (Some p) (lookup (nat_eq n) old)) → shapes_at new ≡ with_block k p (shapes_at old)
put_shape old new k p put = fun_ext (λ n. put n ∙ ap (λ b. cond b (Some p) (lookup (nat_eq n) old)) (same_test k n))

-- ---- one event after the other

-- what is left of the events and what was noted of the names before them
abbrev pub left_and_noted : Blocks → (ℕ → Option Shape) → List Event → ℕ → Option Shape
left_and_noted latest shapes es n = option_or (shaped latest es n) (shapes n)

named : (left o : Option Shape) (shapes : ℕ → Option Shape) (i n : ℕ) → option_or (option_or left (if nat_eq n i then o else None)) (shapes n) ≡ option_or left (with_shape i o shapes n)
named (Some p) o shapes i n = refl
named None None shapes i n = by (nat_eq n i)
  where
    by : (b : Bool) → option_or (if b then None else None) (shapes n) ≡ shapes n
    by true = refl
    by false = refl
named None (Some p) shapes i n = by (nat_eq n i)
  where
    by : (b : Bool) → option_or (if b then Some p else None) (shapes n) ≡ (if b then Some p else shapes n)
    by true = refl
    by false = refl

-- one event more is noted
noted_one : (latest : Blocks) (shapes : ℕ → Option Shape) (e : Event) (es : List Event) (n : ℕ)
    → left_and_noted latest shapes (e ∷ es) n ≡ left_and_noted (noted e (record { latest = latest; shapes = shapes })).latest (noted e (record { latest = latest; shapes = shapes })).shapes es n
noted_one latest shapes (event.Block y p) es n = refl
noted_one latest shapes (event.Name i y) es n = named (shaped latest es n) (latest y.0) shapes i.0 n

abbrev pub IsNoted : List Event → List (ℕ × Shape) → List (ℕ × Shape) → List Event → Type 0
IsNoted all latest shapes left = (n : ℕ) → shaped (λ _. None) all n ≡ left_and_noted (shapes_at latest) (shapes_at shapes) left n

no_shape : (o : Option Shape) → o ≡ option_or o None
no_shape (Some p) = refl
no_shape None = refl

pub none_noted : (all : List Event) (latest shapes : List (ℕ × Shape)) → latest ≡ [] → shapes ≡ [] → IsNoted all latest shapes all
none_noted all latest shapes no_block no_name n =
    no_shape (shaped (λ _. None) all n) ∙ sym (ap (λ l. left_and_noted (shapes_at l) (shapes_at shapes) all n) no_block ∙ ap (λ s. left_and_noted (shapes_at []) (shapes_at s) all n) no_name)

pub one_event : (all events : List Event) (i : ℕ) (other : Event) (latest shapes latest' shapes' : List (ℕ × Shape)) → i < length events
    → shapes_at latest' ≡ (noted (get_or events i other) (record { latest = shapes_at latest; shapes = shapes_at shapes })).latest
    → shapes_at shapes' ≡ (noted (get_or events i other) (record { latest = shapes_at latest; shapes = shapes_at shapes })).shapes
    → IsNoted all latest shapes (drop i events) → IsNoted all latest' shapes' (drop (i + 1) events)
one_event all events i other latest shapes latest' shapes' within blocks names so_far n =
    let e = get_or events i other in
    let here : drop i events ≡ e ∷ drop (i + 1) events = rw add-one (drop-cons events i other within) in
    so_far n ∙ ap (λ es. left_and_noted (shapes_at latest) (shapes_at shapes) es n) here
    ∙ noted_one (shapes_at latest) (shapes_at shapes) e (drop (i + 1) events) n
    ∙ ap (λ l. left_and_noted l (noted e (record { latest = shapes_at latest; shapes = shapes_at shapes })).shapes (drop (i + 1) events) n) (sym blocks)
    ∙ ap (λ s. left_and_noted (shapes_at latest') s (drop (i + 1) events) n) (sym names)

pub no_event : (all events : List Event) (i : ℕ) (latest shapes : List (ℕ × Shape)) → length events ≤ i → IsNoted all latest shapes (drop i events) → (n : ℕ) → lookup (nat_eq n) shapes ≡ shaped (λ _. None) all n
no_event all events i latest shapes past so_far n =
    sym (so_far n ∙ ap (λ es. left_and_noted (shapes_at latest) (shapes_at shapes) es n) (drop_end events i past))

pub ruleset steps = (none_noted, one_event, no_event)

-- ---- what types are read by

pub sights_same : (s : Scoped) (t : EnumShapes) (strict : Bool) (d : Doc) → ((n : ℕ) → shape_in t n ≡ shaped (λ _. None) (events s d) n)
    → annotated (record { table = s; shape = shape_in t; is_strict = strict }) d ≡ annotations_by s strict d
sights_same s t strict d same = ap (λ (f : ℕ → Option Shape). annotated (record { table = s; shape = f; is_strict = strict }) d) (fun_ext same)
