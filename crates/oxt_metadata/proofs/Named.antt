-- The symbols, the names and the types of annotations, one annotation after the other.
use Rattle.std.proofs.Common.{◌≡◌, ◌∙◌, sym, ap, ℕ, ◌+◌, ◌<◌, ◌≤◌, List, [], ◌∷◌, ◌++◌, length, drop, get_or, append_assoc, append-nil}
use Rattle.std.proofs.lemmas.List.{map-append}
use Rattle.oxt_metadata.specs.Symbols.{named_by, named_in, numbers_in, written_by, written_in, types_in as types_of}
use Rattle.oxt_metadata.specs.declared.annotations.Annotation.{Annotation}
use Rattle.oxt_names.specs.declared.ids.SymbolId.{SymbolId}
use Rattle.oxt_options.specs.Lists.{pairs_in, types_in}
use Rattle.oxt_options.specs.declared.metadata.MetadataType.{MetadataType}
use Rattle.oxt_scoping.specs.Scoped.{Scoped}
use Rattle.oxt_names.proofs.Lists.{drop_at, drop_end}
use Rattle.oxt_names.specs.declared.ids.NodeId.{NodeId}

-- ---- symbols

pub one_symbol : (old new : List SymbolId) (y : SymbolId) → new ≡ old ++ y ∷ [] → numbers_in new ≡ numbers_in old ++ y.0 ∷ []
one_symbol old new y is = ap numbers_in is ∙ map-append (λ z. z.0) old (y ∷ [])

pub no_symbol : (old : List SymbolId) → numbers_in old ≡ numbers_in old ++ []
no_symbol old = sym (append-nil (numbers_in old))

pub ruleset one_named = (one_symbol, no_symbol)

pub named_next : (whole before after : List ℕ) (s : Scoped) (xs : List Annotation) (i : ℕ) (x : Annotation) → i < length xs → x ≡ get_or xs i x → after ≡ before ++ named_by s x.written
    → whole ≡ before ++ named_in s (drop i xs) → whole ≡ after ++ named_in s (drop (i + 1) xs)
named_next whole before after s xs i x within at is so_far =
    so_far ∙ ap (λ ys. before ++ named_in s ys) (drop_at xs i x within at)
    ∙ sym (append_assoc before (named_by s x.written) (named_in s (drop (i + 1) xs)))
    ∙ ap (λ v. v ++ named_in s (drop (i + 1) xs)) (sym is)

pub named_end : (whole before : List ℕ) (s : Scoped) (xs : List Annotation) (i : ℕ) → length xs ≤ i → whole ≡ before ++ named_in s (drop i xs) → before ≡ whole
named_end whole before s xs i past so_far = sym (so_far ∙ ap (λ ys. before ++ named_in s ys) (drop_end xs i past) ∙ append-nil before)

pub ruleset steps = (named_next, named_end)

-- ---- names

pub one_name : (old new : List (NodeId × NodeId)) (p : NodeId × NodeId) → new ≡ old ++ p ∷ [] → pairs_in new ≡ pairs_in old ++ (p.0.0, p.1.0) ∷ []
one_name old new p is = ap pairs_in is ∙ map-append (λ q. (q.0.0, q.1.0)) old (p ∷ [])

pub no_name : (old : List (NodeId × NodeId)) → pairs_in old ≡ pairs_in old ++ []
no_name old = sym (append-nil (pairs_in old))

pub ruleset one_written = (one_name, no_name)

pub written_next : (whole before after : List (ℕ × ℕ)) (xs : List Annotation) (i : ℕ) (x : Annotation) → i < length xs → x ≡ get_or xs i x → after ≡ before ++ written_by x.class x.written
    → whole ≡ before ++ written_in (drop i xs) → whole ≡ after ++ written_in (drop (i + 1) xs)
written_next whole before after xs i x within at is so_far =
    so_far ∙ ap (λ ys. before ++ written_in ys) (drop_at xs i x within at)
    ∙ sym (append_assoc before (written_by x.class x.written) (written_in (drop (i + 1) xs)))
    ∙ ap (λ v. v ++ written_in (drop (i + 1) xs)) (sym is)

pub written_end : (whole before : List (ℕ × ℕ)) (xs : List Annotation) (i : ℕ) → length xs ≤ i → whole ≡ before ++ written_in (drop i xs) → before ≡ whole
written_end whole before xs i past so_far = sym (so_far ∙ ap (λ ys. before ++ written_in ys) (drop_end xs i past) ∙ append-nil before)

pub ruleset written_steps = (written_next, written_end)

-- ---- types

pub one_type : (old new : List (NodeId × MetadataType)) (p : NodeId × MetadataType) → new ≡ old ++ p ∷ [] → types_in new ≡ types_in old ++ (p.0.0, p.1) ∷ []
one_type old new p is = ap types_in is ∙ map-append (λ q. (q.0.0, q.1)) old (p ∷ [])

pub types_next : (whole before after : List (ℕ × MetadataType)) (xs : List Annotation) (i : ℕ) (x : Annotation) → i < length xs → x ≡ get_or xs i x → after ≡ before ++ (x.node.0, x.written) ∷ []
    → whole ≡ before ++ types_of (drop i xs) → whole ≡ after ++ types_of (drop (i + 1) xs)
types_next whole before after xs i x within at is so_far =
    so_far ∙ ap (λ ys. before ++ types_of ys) (drop_at xs i x within at)
    ∙ sym (append_assoc before ((x.node.0, x.written) ∷ []) (types_of (drop (i + 1) xs)))
    ∙ ap (λ v. v ++ types_of (drop (i + 1) xs)) (sym is)

pub types_end : (whole before : List (ℕ × MetadataType)) (xs : List Annotation) (i : ℕ) → length xs ≤ i → whole ≡ before ++ types_of (drop i xs) → before ≡ whole
types_end whole before xs i past so_far = sym (so_far ∙ ap (λ ys. before ++ types_of ys) (drop_end xs i past) ∙ append-nil before)

pub ruleset types_steps = (types_next, types_end)
