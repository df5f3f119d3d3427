-- What a run that has nothing to write to the first sink says of what was read and written.
use Rattle.std.proofs.Common.{◌≡◌, ◌⊎◌, inl, inr, ℕ, List, true, Option, Some, refl, ap, ◌∙◌, subst}
use Rattle.std.specs.Prelude.{is_some}
use Rattle.oxt_options.specs.Options.{TransformData}
use Rattle.oxt_transform.specs.Faults.{refusal_in, IsReasonFor}
use Rattle.oxt_transform.specs.Refusals.{Refusal}
use Rattle.oxt_transform.specs.Outcomes.{HinderedFrom, IfRefused, OnWriteFault, RefusalCut, RefusedFor, ReportCut, Reported, StopsFor, UnlessUsage, options_in}
use Rattle.oxt_check.specs.declared.fault.Fault.{Fault}
use Rattle.oxt_transform.specs.declared.program.Outcome.{Outcome}
use Rattle.oxt_transform.specs.declared.program.Stop.{Stop}
use Rattle.oxt_transform.specs.declared.program.Stop.TheVariants as stop
use Rattle.oxt_transform.specs.declared.program.Outcome.TheVariants.{Done, Diagnosed, Refused, Usage, ReadFault, WriteFault, Memory, TooLong}
use Rattle.oxt_names.specs.declared.name.Name.{Name}

-- what was not lowered for a refusal was read, and is refused
pub from_stop : (s : Stop) (f : Fault) (words : List Name) (left left' : Option (List ℕ)) (faults faults' : ℕ)
    → s ≡ stop.Refused f
    → StopsFor s words left left' faults faults'
    → HinderedFrom words (refusal_in f) left left'
from_stop s f words left left' faults faults' is stops = subst (λ s. StopsFor s words left left' faults faults') is stops

-- the words were taken, however the run ended
pub words_taken : (o : Outcome) (words : List Name) (options : TransformData) → options_in words ≡ Some options → UnlessUsage o (is_some (options_in words) ≡ true)
words_taken Done words options given = ap is_some given
words_taken Diagnosed words options given = ap is_some given
words_taken (Refused f) words options given = ap is_some given
words_taken Usage words options given = tt
words_taken ReadFault words options given = ap is_some given
words_taken WriteFault words options given = tt
words_taken Memory words options given = tt
words_taken TooLong words options given = ap is_some given

-- where the line of a reason was written, the bytes are refused for it
pub refused : (o : Outcome) (came : Option Refusal) (words : List Name) (left left' taken taken' : Option (List ℕ))
    → HinderedFrom words came left left'
    → IfRefused o (λ f. Reported came (refusal_in f) taken taken')
    → IfRefused o (λ f. RefusedFor words (refusal_in f) left left' taken taken')
refused (Refused f) came words left left' taken taken' from reported = record {
  options = from.options;
  given = from.given;
  bytes = from.bytes;
  refusal = reported.refusal;
  read = from.read;
  within = from.within;
  named = reported.is;
  cause = subst (λ (r : Option Refusal). IsReasonFor r from.options from.bytes) (reported.same ∙ reported.is) from.cause;
  wrote = reported.wrote;
}
refused Done came words left left' taken taken' from reported = tt
refused Diagnosed came words left left' taken taken' from reported = tt
refused Usage came words left left' taken taken' from reported = tt
refused ReadFault came words left left' taken taken' from reported = tt
refused WriteFault came words left left' taken taken' from reported = tt
refused Memory came words left left' taken taken' from reported = tt
refused TooLong came words left left' taken taken' from reported = tt

-- where err failed, it had taken a prefix of that line
pub refusal_cut : (o : Outcome) (came : Option Refusal) (words : List Name) (left left' taken message message' : Option (List ℕ)) (A U : Type 0)
    → HinderedFrom words came left left'
    → OnWriteFault o (ReportCut came message message')
    → OnWriteFault o (A ⊎ (RefusalCut words left left' taken taken message message' ⊎ U))
refusal_cut WriteFault came words left left' taken message message' A U from cut = inr (inl (record {
  options = from.options;
  given = from.given;
  bytes = from.bytes;
  refusal = cut.refusal;
  read = from.read;
  within = from.within;
  cause = subst (λ (r : Option Refusal). IsReasonFor r from.options from.bytes) cut.is from.cause;
  prefix = cut.prefix;
  quiet = refl;
}))
refusal_cut Done came words left left' taken message message' A U from cut = tt
refusal_cut Diagnosed came words left left' taken message message' A U from cut = tt
refusal_cut (Refused f) came words left left' taken message message' A U from cut = tt
refusal_cut Usage came words left left' taken message message' A U from cut = tt
refusal_cut ReadFault came words left left' taken message message' A U from cut = tt
refusal_cut Memory came words left left' taken message message' A U from cut = tt
refusal_cut TooLong came words left left' taken message message' A U from cut = tt
