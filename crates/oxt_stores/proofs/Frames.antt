-- The last of the frames, changed or taken away.
use Rattle.std.proofs.Common.{◌≡◌, ℕ, zero, suc, ◌∙◌, ◌+◌, ◌-◌, ◌<◌, List, [], ◌∷◌, ◌++◌, map, length, get_or, slice_set, None, Some, Option, OnErr, ap, arith, refl}
use Rattle.std.proofs.lemmas.List.{length-map}
use Rattle.std.specs.Prelude.{Result, Ok, Err}
use Rattle.oxt_tree.specs.Doc.{Doc}
use Rattle.oxt_stores.specs.Frame.{declaration, frame, statement_of, top_frame, with_let, with_var}
use Rattle.oxt_stores.specs.Insertion.{docs}
use Rattle.oxt_stores.specs.Ready.{IsReady, blank_statement}
use Rattle.oxt_stores.specs.declared.declarations.Declarators.{Declarators}
use Rattle.oxt_stores.specs.declared.make.Blank.{Blank}

-- a fact that follows where a call fails
pub on_err : {T E : Type 0} {P Q : Type 0} (r : Result T E) → (P → Q) → OnErr r P → OnErr r Q
on_err (Ok x) f p = p
on_err (Err e) f p = f p

pub var_last : (fs : List Declarators) (k : ℕ) (old new : Declarators) (d : Doc) → k + 1 ≡ length fs → old ≡ get_or fs k old → docs new.vars.items ≡ docs old.vars.items ++ d ∷ [] → docs new.lets.items ≡ docs old.lets.items → map frame (slice_set fs k new) ≡ with_var d (map frame fs)
var_last [] k old new d last here vars lets = absurd (omega arith)
var_last (f ∷ []) zero old new d last here vars lets = cc
var_last (f ∷ []) (suc k) old new d last here vars lets = absurd (omega arith)
var_last (f ∷ g ∷ fs) zero old new d last here vars lets = absurd (omega arith)
var_last (f ∷ g ∷ fs) (suc k) old new d last here vars lets = ap (λ xs. frame f ∷ xs) (var_last (g ∷ fs) k old new d (omega arith) here vars lets)

pub let_last : (fs : List Declarators) (k : ℕ) (old new : Declarators) (d : Doc) → k + 1 ≡ length fs → old ≡ get_or fs k old → docs new.vars.items ≡ docs old.vars.items → docs new.lets.items ≡ docs old.lets.items ++ d ∷ [] → map frame (slice_set fs k new) ≡ with_let d (map frame fs)
let_last [] k old new d last here vars lets = absurd (omega arith)
let_last (f ∷ []) zero old new d last here vars lets = cc
let_last (f ∷ []) (suc k) old new d last here vars lets = absurd (omega arith)
let_last (f ∷ g ∷ fs) zero old new d last here vars lets = absurd (omega arith)
let_last (f ∷ g ∷ fs) (suc k) old new d last here vars lets = ap (λ xs. frame f ∷ xs) (let_last (g ∷ fs) k old new d (omega arith) here vars lets)

pub last_kept : (fs : List Declarators) (k : ℕ) (old new : Declarators) → k + 1 ≡ length fs → old ≡ get_or fs k old → docs new.vars.items ≡ docs old.vars.items → docs new.lets.items ≡ docs old.lets.items → map frame (slice_set fs k new) ≡ map frame fs
last_kept [] k old new last here vars lets = absurd (omega arith)
last_kept (f ∷ []) zero old new last here vars lets = cc
last_kept (f ∷ []) (suc k) old new last here vars lets = absurd (omega arith)
last_kept (f ∷ g ∷ fs) zero old new last here vars lets = absurd (omega arith)
last_kept (f ∷ g ∷ fs) (suc k) old new last here vars lets = ap (λ xs. frame f ∷ xs) (last_kept (g ∷ fs) k old new (omega arith) here vars lets)

top_pushed : (fs : List Declarators) (d : Declarators) → top_frame (map frame (fs ++ d ∷ [])) ≡ frame d
top_pushed [] d = refl
top_pushed (f ∷ []) d = refl
top_pushed (f ∷ g ∷ fs) d = top_pushed (g ∷ fs) d

-- the frame that is taken away
pub top_taken : (all fs : List Declarators) (d : Declarators) → all ≡ fs ++ d ∷ [] → top_frame (map frame all) ≡ frame d
top_taken all fs d split = ap (λ xs. top_frame (map frame xs)) split ∙ top_pushed fs d

-- the statement that was made ready
pub ready_statement : (n : ℕ) (word : List ℕ) (ds : List Doc) (b : Option Blank) → IsReady n ds b → blank_statement b word ds ≡ statement_of n word ds
ready_statement n word [] b none = ap (λ o. blank_statement o word []) none
ready_statement n word (d ∷ ds) None ready = absurd ready
ready_statement n word (d ∷ ds) (Some b) ready = ap (λ m. Some (declaration m word (d ∷ ds))) ready.0

-- the index of the last frame
pub last_index : (fs : List Declarators) (n : ℕ) → n ≡ length fs → 0 < length (map frame fs) → n - 1 + 1 ≡ length fs
last_index fs n len some =
    let same : length (map frame fs) ≡ length fs = length-map fs frame in
    omega arith
