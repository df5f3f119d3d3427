-- What a run answers, and what that says of the words, the source and the sinks.
use Rattle.std.specs.Prelude.{◌≡◌, ◌≤◌, ℕ, Bool, true, false, not, ◌==◌, List, [], ◌∷◌, ◌++◌, length, map, Option, None, Some, is_some, codes, ⊤}
use Rattle.std.specs.Io.KnownBytes.{Appends}
use Rattle.oxt_names.specs.Line.{lines_of}
use Rattle.oxt_names.specs.declared.diagnostic.OxcDiagnostic.{OxcDiagnostic}
use Rattle.oxt_flags.specs.Flags.{parsed}
use Rattle.oxt_io.specs.Counts.{Rose}
use Rattle.oxt_io.specs.Passed.{GaveAll, GavePast, AppendsPrefix}
use Rattle.oxt_options.specs.Options.{TransformData}
use Rattle.oxt_transform.specs.Lowering.{Lowers}
use Rattle.oxt_transform.specs.Faults.{refusal_in, IsReasonFor}
use Rattle.oxt_transform.specs.Refusals.{Refusal, uncertified, Refuses, Accepts, line_of}
use Rattle.oxt_io.specs.declared.outcome.InputFault.{InputFault}
use Rattle.oxt_io.specs.declared.outcome.InputFault.TheVariants as input
use Rattle.oxt_check.specs.declared.fault.Fault.{Fault}
use Rattle.oxt_transform.specs.declared.program.Outcome.{Outcome}
use Rattle.oxt_transform.specs.declared.program.Stop.{Stop}
use Rattle.oxt_transform.specs.declared.program.Stop.TheVariants as stop
use Rattle.oxt_names.specs.Names.{name_bytes}
use Rattle.oxt_names.specs.declared.name.Name.{Name}
use Rattle.oxt_transform.specs.declared.program.Outcome.TheVariants.{Done, Diagnosed, Refused, Usage, ReadFault, WriteFault, Memory, TooLong}

-- the most bytes that a source may hold
abbrev pub limit : ℕ
limit = 16777216

-- the line that says how the program is called
abbrev pub usage_line : List ℕ
usage_line = codes "usage: oxt [flags] < tree.json\n"

-- the options that the words say; none where they are not taken
abbrev pub options_in : List Name → Option TransformData
options_in words = parsed (map name_bytes words)

-- the exit status
abbrev pub status_of : Outcome → ℕ
status_of Done = 0
status_of Diagnosed = 1
status_of (Refused f) = 2
status_of Usage = 3
status_of ReadFault = 4
status_of WriteFault = 5
status_of Memory = 6
status_of TooLong = 7

-- ---- a fact for one outcome

abbrev pub OnDone : Outcome → Type 0 → Type 0
OnDone Done P = P
OnDone _ P = ⊤

abbrev pub OnDiagnosed : Outcome → Type 0 → Type 0
OnDiagnosed Diagnosed P = P
OnDiagnosed _ P = ⊤

-- for the outcomes under which a tree goes to standard output
abbrev pub OnAnswer : Outcome → Type 0 → Type 0
OnAnswer Done P = P
OnAnswer Diagnosed P = P
OnAnswer _ P = ⊤

abbrev pub IfRefused : Outcome → (Fault → Type 0) → Type 0
IfRefused (Refused f) P = P f
IfRefused _ P = ⊤

abbrev pub OnUsage : Outcome → Type 0 → Type 0
OnUsage Usage P = P
OnUsage _ P = ⊤

abbrev pub OnReadFault : Outcome → Type 0 → Type 0
OnReadFault ReadFault P = P
OnReadFault _ P = ⊤

abbrev pub OnWriteFault : Outcome → Type 0 → Type 0
OnWriteFault WriteFault P = P
OnWriteFault _ P = ⊤

abbrev pub OnTooLong : Outcome → Type 0 → Type 0
OnTooLong TooLong P = P
OnTooLong _ P = ⊤

-- for the outcomes under which nothing goes to standard output
abbrev pub OnNoAnswer : Outcome → Type 0 → Type 0
OnNoAnswer Done P = ⊤
OnNoAnswer Diagnosed P = ⊤
OnNoAnswer WriteFault P = ⊤
OnNoAnswer _ P = P

-- for the outcomes under which nothing goes to standard error
abbrev pub OnNoMessage : Outcome → Type 0 → Type 0
OnNoMessage (Refused f) P = ⊤
OnNoMessage Usage P = ⊤
OnNoMessage WriteFault P = ⊤
OnNoMessage _ P = P

-- for the outcomes that tell that the words were taken
abbrev pub UnlessUsage : Outcome → Type 0 → Type 0
UnlessUsage Usage P = ⊤
UnlessUsage WriteFault P = ⊤
UnlessUsage Memory P = ⊤
UnlessUsage _ P = P

-- the lowered tree failed its test
abbrev pub is_uncertified : Option Refusal → Bool
is_uncertified (Some (uncertified difference)) = true
is_uncertified r = false

-- the tree was lowered, or was not certified, or memory ran out
abbrev pub IsAnswerUncertifiedOrMemory : Outcome → Type 0
IsAnswerUncertifiedOrMemory Done = ⊤
IsAnswerUncertifiedOrMemory Diagnosed = ⊤
IsAnswerUncertifiedOrMemory (Refused f) = is_uncertified (refusal_in f) ≡ true
IsAnswerUncertifiedOrMemory Memory = ⊤
IsAnswerUncertifiedOrMemory _ = ⊥

abbrev pub OnMemory : Outcome → Type 0 → Type 0
OnMemory Memory P = P
OnMemory _ P = ⊤

abbrev pub IsUsageOrWriteFault : Outcome → Type 0
IsUsageOrWriteFault Usage = ⊤
IsUsageOrWriteFault WriteFault = ⊤
IsUsageOrWriteFault _ = ⊥

abbrev pub IsAnswerOrWriteFault : Outcome → Type 0
IsAnswerOrWriteFault Done = ⊤
IsAnswerOrWriteFault Diagnosed = ⊤
IsAnswerOrWriteFault WriteFault = ⊤
IsAnswerOrWriteFault _ = ⊥

abbrev pub IsRefusedMemoryOrWriteFault : Outcome → Type 0
IsRefusedMemoryOrWriteFault (Refused f) = ⊤
IsRefusedMemoryOrWriteFault Memory = ⊤
IsRefusedMemoryOrWriteFault WriteFault = ⊤
IsRefusedMemoryOrWriteFault _ = ⊥

-- how a run ends whose source was not read to its end
abbrev pub input_outcome : InputFault → Outcome
input_outcome input.Memory = Memory
input_outcome input.Fault = ReadFault
input_outcome input.TooLong = TooLong

-- ---- the facts

-- there are diagnostics
abbrev pub is_any : List OxcDiagnostic → Bool
is_any ds = not (length ds == 0)

-- a text with a line feed, and a line for each diagnostic
abbrev pub answer_of : List ℕ → List OxcDiagnostic → List ℕ
answer_of text ds = (text ++ 10 ∷ []) ++ lines_of ds

-- The bytes were lowered under these options to a text, which stands here with a line feed and the lines of
-- the diagnostics, if there are any.
pub record LowersToLines (options : TransformData) (bytes lines : List ℕ) (some_told : Bool) : Type 0 where
  pub told : List OxcDiagnostic
  pub text : List ℕ
  pub lowered : Lowers options bytes told text
  pub some : is_any told ≡ some_told
  pub ended : lines ≡ answer_of text told

-- All that the source held was lowered under the options of the words, to these lines.
pub record LoweredFrom (words : List Name) (some_told : Bool) (lines : List ℕ) (left left' : Option (List ℕ)) : Type 0 where
  pub options : TransformData
  pub given : options_in words ≡ Some options
  pub bytes : List ℕ
  pub read : GaveAll left left' bytes
  pub within : length bytes ≤ limit
  pub lowered : LowersToLines options bytes lines some_told

-- All that the source held is not lowered under the options of the words, for that reason.
pub record HinderedFrom (words : List Name) (reason : Option Refusal) (left left' : Option (List ℕ)) : Type 0 where
  pub options : TransformData
  pub given : options_in words ≡ Some options
  pub bytes : List ℕ
  pub read : GaveAll left left' bytes
  pub within : length bytes ≤ limit
  pub cause : IsReasonFor reason options bytes

-- the source was not read to its end by that cause
abbrev pub IsCauseOf : InputFault → Option (List ℕ) → Option (List ℕ) → ℕ → ℕ → Type 0
IsCauseOf input.Memory left left' faults faults' = ⊤
IsCauseOf input.Fault left left' faults faults' = Rose faults faults'
IsCauseOf input.TooLong left left' faults faults' = GavePast left left' limit

-- there is nothing to write for that cause
abbrev pub StopsFor : Stop → List Name → Option (List ℕ) → Option (List ℕ) → ℕ → ℕ → Type 0
StopsFor (stop.Refused f) words left left' faults faults' = HinderedFrom words (refusal_in f) left left'
StopsFor stop.Usage words left left' faults faults' = options_in words ≡ None
StopsFor (stop.Input f) words left left' faults faults' = (is_some (options_in words) ≡ true) × IsCauseOf f left left' faults faults'
StopsFor stop.Memory words left left' faults faults' = ⊤

-- The fault handed on is the one that came, and err took its line.
pub record Reported (came named : Option Refusal) (taken taken' : Option (List ℕ)) : Type 0 where
  pub refusal : Refusal
  pub same : came ≡ named
  pub is : named ≡ Some refusal
  pub wrote : Appends taken taken' (line_of refusal)

-- All that the source held spells a tree that was lowered under the options of the words, and out took its text with a
-- line feed, and a line for each diagnostic, if there are any.
pub record Answered (words : List Name) (some_told : Bool) (left left' taken taken' : Option (List ℕ)) : Type 0 where
  pub options : TransformData
  pub given : options_in words ≡ Some options
  pub bytes : List ℕ
  pub told : List OxcDiagnostic
  pub text : List ℕ
  pub read : GaveAll left left' bytes
  pub within : length bytes ≤ limit
  pub lowered : Lowers options bytes told text
  pub some : is_any told ≡ some_told
  pub wrote : Appends taken taken' (answer_of text told)

-- All that the source held is refused for this reason under the options of the words, and err took its line.
pub record RefusedFor (words : List Name) (reason : Option Refusal) (left left' taken taken' : Option (List ℕ)) : Type 0 where
  pub options : TransformData
  pub given : options_in words ≡ Some options
  pub bytes : List ℕ
  pub refusal : Refusal
  pub read : GaveAll left left' bytes
  pub within : length bytes ≤ limit
  pub named : reason ≡ Some refusal
  pub cause : Refuses refusal options bytes
  pub wrote : Appends taken taken' (line_of refusal)

-- A sink failed, having taken a prefix of what it was to take.
pub record CutOff (faults faults' : ℕ) (taken taken' : Option (List ℕ)) (text : List ℕ) : Type 0 where
  pub rose : Rose faults faults'
  pub prefix : AppendsPrefix taken taken' text

-- Err took a prefix of the line for the fault that came.
pub record ReportCut (came : Option Refusal) (taken taken' : Option (List ℕ)) : Type 0 where
  pub refusal : Refusal
  pub is : came ≡ Some refusal
  pub prefix : AppendsPrefix taken taken' (line_of refusal)

-- Out failed within the text of the plain tree and the lines behind it; err was left alone.
pub record AnswerCut (words : List Name) (left left' taken taken' message message' : Option (List ℕ)) : Type 0 where
  pub options : TransformData
  pub given : options_in words ≡ Some options
  pub bytes : List ℕ
  pub told : List OxcDiagnostic
  pub text : List ℕ
  pub read : GaveAll left left' bytes
  pub within : length bytes ≤ limit
  pub lowered : Lowers options bytes told text
  pub prefix : AppendsPrefix taken taken' (answer_of text told)
  pub quiet : message' ≡ message

-- Err failed within the line for a refusal; out was left alone.
pub record RefusalCut (words : List Name) (left left' taken taken' message message' : Option (List ℕ)) : Type 0 where
  pub options : TransformData
  pub given : options_in words ≡ Some options
  pub bytes : List ℕ
  pub refusal : Refusal
  pub read : GaveAll left left' bytes
  pub within : length bytes ≤ limit
  pub cause : Refuses refusal options bytes
  pub prefix : AppendsPrefix message message' (line_of refusal)
  pub quiet : taken' ≡ taken

-- Err failed within the usage line; out was left alone.
pub record UsageCut (taken taken' message message' : Option (List ℕ)) : Type 0 where
  pub prefix : AppendsPrefix message message' usage_line
  pub quiet : taken' ≡ taken

-- The words are taken, the source tells its bytes, which are few enough and spell a tree without faults, and nothing
-- failed.
pub record NothingStands (words : List Name) (left : Option (List ℕ)) (read read' wrote wrote' told told' : ℕ) : Type 0 where
  pub options : TransformData
  pub given : options_in words ≡ Some options
  pub bytes : List ℕ
  pub holds : left ≡ Some bytes
  pub within : length bytes ≤ limit
  pub accepted : Accepts options bytes
  pub read_well : Rose read read' → ⊥
  pub wrote_well : Rose wrote wrote' → ⊥
  pub told_well : Rose told told' → ⊥
