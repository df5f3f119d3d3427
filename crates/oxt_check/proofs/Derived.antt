-- What one search for forms finds is what a search for their kinds finds, and one for blocks.
use Rattle.std.proofs.Common.{◌≡◌, ◌∙◌, refl, sym, ap, ℕ, ◌+◌, ◌<◌, ◌≤◌, List, [], ◌∷◌, ◌++◌, map, length, drop, get_or, append_assoc, append-nil, Bool, true, false, ◌||◌, cond, Option, None, Some, true≢false}
use Rattle.std.proofs.lemmas.List.{map-append}
use Rattle.std.specs.Prelude.{codes}
use Rattle.oxt_check.specs.Occurring.{blocks_among, form_at, forms_of, is_form, listed_form, listed_forms, occurring}
use Rattle.oxt_check.specs.declared.survey.Form.{Form}
use Rattle.oxt_check.proofs.Absences.{block_kind_is_form}
use Rattle.oxt_enum_checks.specs.Blocks.{block_with, blocks_of, is_block_kind, own_block}
use Rattle.oxt_enum_checks.specs.declared.blocks.Block.{Block}
use Rattle.oxt_grammar.specs.declared.kind.Kind.{Kind}
use Rattle.oxt_names.proofs.Lists.{drop_at, drop_end}
use Rattle.oxt_search.specs.All.{all_among, all_in, given}
use Rattle.oxt_search.specs.Sought.{Sought}
use Rattle.oxt_tree.specs.declared.inside.Inside.TheVariants as inside
use Rattle.oxt_tree.specs.Doc.{Doc, nil, flag, number, text, list, node, Docs, no_docs, doc}
use Rattle.oxt_tree.specs.Fields.{named}

-- a search that looks at each node alike
abbrev alike : {A : Type 0} → (Kind → ℕ → Docs → Option A) → Sought (Unit {0}) A
alike g =
    record {
      at = λ u k i ds. g k i ds;
      inside = λ u k i ds. inside.Alike u;
      in_field = λ u k r. Some u;
    }

module _ {A : Type 0} (g : Kind → ℕ → Docs → Option A) (f : List Form → List A) (none : f [] ≡ []) (both : (xs ys : List Form) → f (xs ++ ys) ≡ f xs ++ f ys) (each : (k : Kind) (i : ℕ) (ds : Docs) → f (given (listed_form k i ds)) ≡ given (g k i ds)) where
  mutual
    derived_in : (d : Doc) → f (all_in listed_forms d tt) ≡ all_in (alike g) d tt
    derived_in nil = none
    derived_in (flag b) = none
    derived_in (number n) = none
    derived_in (text t) = none
    derived_in (list ds) = derived_among ds
    derived_in (node k i b e ds) =
        both (given (listed_form k i ds)) (all_among listed_forms ds tt)
        ∙ ap (λ xs. xs ++ f (all_among listed_forms ds tt)) (each k i ds) ∙ ap (λ xs. given (g k i ds) ++ xs) (derived_among ds)

    derived_among : (ds : Docs) → f (all_among listed_forms ds tt) ≡ all_among (alike g) ds tt
    derived_among no_docs = none
    derived_among (doc d ds) =
        both (all_in listed_forms d tt) (all_among listed_forms ds tt)
        ∙ ap (λ xs. xs ++ f (all_among listed_forms ds tt)) (derived_in d) ∙ ap (λ xs. all_in (alike g) d tt ++ xs) (derived_among ds)

-- ---- kinds

abbrev kinds_of : List Form → List Kind
kinds_of fs = map (λ f. f.kind) fs

kind_each : (k : Kind) (i : ℕ) (ds : Docs) → kinds_of (given (listed_form k i ds)) ≡ given (form_at k)
kind_each k i ds = by (is_form k)
  where
    by : (b : Bool) → kinds_of (given (cond b (Some (record { kind = k; block = own_block k i ds })) None)) ≡ given (cond b (Some k) None)
    by true = refl
    by false = refl

pub kinds_are : (d : Doc) → kinds_of (forms_of d) ≡ occurring d
kinds_are d = derived_in (λ k i ds. form_at k) kinds_of refl (λ xs ys. map-append (λ f. f.kind) xs ys) kind_each d

-- ---- blocks

blocks_both : (xs ys : List Form) → blocks_among (xs ++ ys) ≡ blocks_among xs ++ blocks_among ys
blocks_both [] ys = refl
blocks_both (x ∷ xs) ys = ap (λ bs. given x.block ++ bs) (blocks_both xs ys) ∙ sym (append_assoc (given x.block) (blocks_among xs) (blocks_among ys))

block_each : (k : Kind) (i : ℕ) (ds : Docs) → blocks_among (given (listed_form k i ds)) ≡ given (own_block k i ds)
block_each k i ds = by (is_form k) (is_block_kind k) refl refl
  where
    by : (b c : Bool) → is_form k ≡ b → is_block_kind k ≡ c → blocks_among (given (cond b (Some (record { kind = k; block = own_block k i ds })) None)) ≡ given (own_block k i ds)
    by true c e h = append-nil (given (own_block k i ds))
    by false true e h = absurd (true≢false (sym (block_kind_is_form k h) ∙ e))
    by false false e h = sym (ap (λ x. given (cond x (block_with i (named (codes "id") k ds)) None)) h)

pub blocks_are : (d : Doc) → blocks_among (forms_of d) ≡ blocks_of d
blocks_are d = derived_in own_block blocks_among refl blocks_both block_each d

-- ---- one form after another

pub kind_next : (before after : List Kind) (fs : List Form) (i : ℕ) (f : Form) → i < length fs → f ≡ get_or fs i f → after ≡ before ++ f.kind ∷ [] → before ++ kinds_of (drop i fs) ≡ after ++ kinds_of (drop (i + 1) fs)
kind_next before after fs i f within at pushed =
    ap (λ xs. before ++ kinds_of xs) (drop_at fs i f within at) ∙ sym (append_assoc before (f.kind ∷ []) (kinds_of (drop (i + 1) fs)))
    ∙ ap (λ xs. xs ++ kinds_of (drop (i + 1) fs)) (sym pushed)

pub kind_last : (before : List Kind) (fs : List Form) (i : ℕ) → length fs ≤ i → before ++ kinds_of (drop i fs) ≡ before
kind_last before fs i past = ap (λ xs. before ++ kinds_of xs) (drop_end fs i past) ∙ append-nil before

pub ruleset kind_steps = (kind_next, kind_last)

pub block_next : (before after : List Block) (fs : List Form) (i : ℕ) (f : Form) → i < length fs → f ≡ get_or fs i f → after ≡ before ++ given f.block → before ++ blocks_among (drop i fs) ≡ after ++ blocks_among (drop (i + 1) fs)
block_next before after fs i f within at pushed =
    ap (λ xs. before ++ blocks_among xs) (drop_at fs i f within at) ∙ sym (append_assoc before (given f.block) (blocks_among (drop (i + 1) fs)))
    ∙ ap (λ xs. xs ++ blocks_among (drop (i + 1) fs)) (sym pushed)

pub block_last : (before : List Block) (fs : List Form) (i : ℕ) → length fs ≤ i → before ++ blocks_among (drop i fs) ≡ before
block_last before fs i past = ap (λ xs. before ++ blocks_among xs) (drop_end fs i past) ∙ append-nil before

pub ruleset block_steps = (block_next, block_last)
