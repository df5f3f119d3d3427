-- Why a reader gives up.
use Rattle.std.specs.Prelude.{◌≡◌, List, ℕ, Result, Ok, Err, ⊤, string_bytes}
use Rattle.oxt_json.specs.Answer.{Answer}
use Rattle.oxt_valid.specs.Pointer.{at_key}
use Rattle.oxt_json.specs.declared.misread.Misread.{Misread}
use Rattle.oxt_json.specs.declared.misread.Misread.TheVariants.{OutOfMemory, At}

-- memory ran out, or the place is this one
abbrev pub IsAt : List ℕ → Misread → Type 0
IsAt place OutOfMemory = ⊤
IsAt place (At text) = string_bytes text ≡ place

-- memory ran out, or the reading is wrong at the place
abbrev pub IsCause : {A : Type 0} → Result A (List ℕ) → Misread → Type 0
IsCause answer OutOfMemory = ⊤
IsCause answer (At text) = answer ≡ Err (string_bytes text)

-- what was read and the next number are those of the reading, or the cause is its fault; want of memory is free
abbrev pub Gives : {A T : Type 0} → (T → A) → Result T Misread → ℕ → Answer A → Type 0
Gives view (Ok x) next answer = answer ≡ Ok (view x, next)
Gives view (Err misread) next answer = IsCause answer misread

-- memory ran out, or the outer place is the key and then the inner place
abbrev pub IsBelow : List ℕ → Misread → Misread → Type 0
IsBelow key inner OutOfMemory = ⊤
IsBelow key OutOfMemory (At text) = ⊥
IsBelow key (At rest) (At text) = string_bytes text ≡ at_key key (string_bytes rest)
