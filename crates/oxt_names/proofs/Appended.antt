-- Lines appended one after another.
use Rattle.std.proofs.Common.{◌≡◌, ℕ, zero, suc, ◌+◌, ◌<◌, ◌≤◌, List, [], ◌∷◌, ◌++◌, length, get_or, drop, refl, ap, sym, ◌∙◌, add-one, append_assoc, arith}
use Rattle.oxt_names.specs.Line.{line_of, lines_of}
use Rattle.oxt_names.specs.declared.diagnostic.OxcDiagnostic.{OxcDiagnostic}

line_next : (ds : List OxcDiagnostic) (i : ℕ) (d : OxcDiagnostic) → i < length ds → d ≡ get_or ds i d → lines_of (drop i ds) ≡ line_of d.kind d.span ++ lines_of (drop (suc i) ds)
line_next [] i d lt here = absurd (omega arith)
line_next (d' ∷ ds) zero d lt here = ap (λ (x : OxcDiagnostic). line_of x.kind x.span ++ lines_of ds) (sym here)
line_next (d' ∷ ds) (suc i) d lt here = line_next ds i d (omega arith) here

-- one more line
pub one_more : (before after all : List ℕ) (ds : List OxcDiagnostic) (i : ℕ) (d : OxcDiagnostic) → i < length ds → d ≡ get_or ds i d → all ≡ before ++ lines_of (drop i ds) → after ≡ before ++ line_of d.kind d.span → all ≡ after ++ lines_of (drop (i + 1) ds)
one_more before after all ds i d lt here so made =
    so
    ∙ (ap (λ ls. before ++ ls) (line_next ds i d lt here)
    ∙ (sym (append_assoc before (line_of d.kind d.span) (lines_of (drop (suc i) ds)))
    ∙ (ap (λ t. t ++ lines_of (drop (suc i) ds)) (sym made)
    ∙ ap (λ n. after ++ lines_of (drop n ds)) (sym (add-one i)))))

-- no more lines
pub no_more : (ds : List OxcDiagnostic) (i : ℕ) → length ds ≤ i → lines_of (drop i ds) ≡ []
no_more [] zero le = refl
no_more [] (suc i) le = refl
no_more (d ∷ ds) zero le = absurd (omega arith)
no_more (d ∷ ds) (suc i) le = no_more ds i (omega arith)
