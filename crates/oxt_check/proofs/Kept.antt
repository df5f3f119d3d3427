-- Where no wrapper is kept, plain beside them is plain.
use Rattle.std.proofs.Common.{ℕ, ◌≡◌, refl, ap, ◌∙◌, List, [], ◌∷◌, Bool, true, false, not, ◌&&◌, cond}
use Rattle.oxt_grammar.specs.Field.{Field}
use Rattle.oxt_grammar.specs.Kinds.{is_typescript_kind}
use Rattle.oxt_grammar.specs.Rows.{row_of}
use Rattle.oxt_grammar.specs.declared.holds.Holds.{Holds}
use Rattle.oxt_check.specs.Beside.{all_plain_beside, below_plain_beside, first_plain_beside, is_plain_beside}
use Rattle.oxt_check.specs.Laws.{PlainBesideNothing}
use Rattle.oxt_check.specs.Targets.{held_by, is_wrapped_target}
use Rattle.oxt_tree.specs.Doc.{Doc, nil, flag, number, text, list, node, Docs, no_docs, doc}
use Rattle.oxt_valid.specs.Plain.{all_plain, fields_plain, is_plain}
use Rattle.std.specs.Prelude.{None}

both : (a : Bool) {p q : Bool} → p ≡ q → (a && p) ≡ (a && q)
both a e = ap (λ b. a && b) e

pair : {a b c d : Bool} → a ≡ b → c ≡ d → (a && c) ≡ (b && d)
pair {a = a} {d = d} e f = both a f ∙ ap (λ x. x && d) e

-- the node is no wrapper that is kept
passes_none : (w k a : Bool) {b c : Bool} → k ≡ false → b ≡ c → cond (w && k) a b ≡ c
passes_none true k a {b = b} e f = ap (λ x. cond x a b) e ∙ f
passes_none false k a e f = f

mutual
  nothing_kept : (d : Doc) (h : Holds) (ks : ℕ → Bool) → ((n : ℕ) → ks n ≡ false) → is_plain_beside d h ks ≡ is_plain d
  nothing_kept nil h ks none = refl
  nothing_kept (flag b) h ks none = refl
  nothing_kept (number n) h ks none = refl
  nothing_kept (text t) h ks none = refl
  nothing_kept (list ds) h ks none = none_kept ds h ks none
  nothing_kept (node k i b e ds) h ks none =
      passes_none (is_wrapped_target h (node k i b e ds)) (ks i) (first_plain_beside ds (row_of k) ks) (none i)
      (ap (λ b. not (is_typescript_kind k) && (fields_plain (row_of k) ds && b)) (none_below ds (row_of k) ks none))

  none_kept : (ds : Docs) (h : Holds) (ks : ℕ → Bool) → ((n : ℕ) → ks n ≡ false) → all_plain_beside ds h ks ≡ all_plain ds
  none_kept no_docs h ks none = refl
  none_kept (doc d ds) h ks none = pair (nothing_kept d h ks none) (none_kept ds h ks none)

  none_below : (ds : Docs) (rs : List Field) (ks : ℕ → Bool) → ((n : ℕ) → ks n ≡ false) → below_plain_beside ds rs ks ≡ all_plain ds
  none_below no_docs rs ks none = refl
  none_below (doc d ds) [] ks none = pair (nothing_kept d (held_by None) ks none) (none_below ds [] ks none)
  none_below (doc d ds) (r ∷ rs) ks none = pair (nothing_kept d r.holds ks none) (none_below ds rs ks none)

pub plain_beside_nothing : PlainBesideNothing
plain_beside_nothing d h ks none = nothing_kept d h ks none
