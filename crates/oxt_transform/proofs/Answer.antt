-- What a run that ends well says of what was read and written.
use Rattle.std.proofs.Common.{◌≡◌, ◌≤◌, ℕ, List, length, Bool, true, false, Option, Some, ◌∙◌, sym, subst}
use Rattle.std.specs.Io.KnownBytes.{Appends}
use Rattle.oxt_io.specs.Passed.{GaveAll}
use Rattle.oxt_options.specs.Options.{TransformData}
use Rattle.oxt_transform.specs.Outcomes.{Answered, LowersToLines, OnAnswer, OnDiagnosed, OnDone, limit, options_in}
use Rattle.oxt_transform.specs.declared.program.Outcome.{Outcome}
use Rattle.oxt_transform.specs.declared.program.Outcome.TheVariants.{Done, Diagnosed, Refused, Usage, ReadFault, WriteFault, Memory, TooLong}
use Rattle.oxt_names.specs.declared.name.Name.{Name}

-- Where out took all of the text, it took the answer.
answered : (words : List Name) (options : TransformData) (bytes : List ℕ) (some_told wanted : Bool) (lines text : List ℕ) (left left' taken taken' : Option (List ℕ))
    → options_in words ≡ Some options
    → GaveAll left left' bytes
    → length bytes ≤ limit
    → LowersToLines options bytes lines some_told
    → text ≡ lines
    → some_told ≡ wanted
    → Appends taken taken' text
    → Answered words wanted left left' taken taken'
answered words options bytes some_told wanted lines text left left' taken taken' given read within lowers same is wrote = record {
  options = options;
  given = given;
  bytes = bytes;
  told = lowers.told;
  text = lowers.text;
  read = read;
  within = within;
  lowered = lowers.lowered;
  some = lowers.some ∙ is;
  wrote = subst (λ t. Appends taken taken' t) (same ∙ lowers.ended) wrote;
}

-- Where nothing is told, the answer says so.
pub done : (o : Outcome) (words : List Name) (options : TransformData) (bytes : List ℕ) (some_told any_told : Bool) (lines text : List ℕ) (left left' taken taken' : Option (List ℕ))
    → options_in words ≡ Some options
    → GaveAll left left' bytes
    → length bytes ≤ limit
    → LowersToLines options bytes lines some_told
    → text ≡ lines
    → any_told ≡ some_told
    → OnDone o (any_told ≡ false)
    → OnAnswer o (Appends taken taken' text)
    → OnDone o (Answered words false left left' taken taken')
done Done words options bytes some_told any_told lines text left left' taken taken' given read within lowers same same_told is wrote =
    answered words options bytes some_told false lines text left left' taken taken' given read within lowers same (sym same_told ∙ is) wrote
done Diagnosed words options bytes some_told any_told lines text left left' taken taken' given read within lowers same same_told is wrote = tt
done (Refused f) words options bytes some_told any_told lines text left left' taken taken' given read within lowers same same_told is wrote = tt
done Usage words options bytes some_told any_told lines text left left' taken taken' given read within lowers same same_told is wrote = tt
done ReadFault words options bytes some_told any_told lines text left left' taken taken' given read within lowers same same_told is wrote = tt
done WriteFault words options bytes some_told any_told lines text left left' taken taken' given read within lowers same same_told is wrote = tt
done Memory words options bytes some_told any_told lines text left left' taken taken' given read within lowers same same_told is wrote = tt
done TooLong words options bytes some_told any_told lines text left left' taken taken' given read within lowers same same_told is wrote = tt

-- Where something is told, the answer says so.
pub diagnosed : (o : Outcome) (words : List Name) (options : TransformData) (bytes : List ℕ) (some_told any_told : Bool) (lines text : List ℕ) (left left' taken taken' : Option (List ℕ))
    → options_in words ≡ Some options
    → GaveAll left left' bytes
    → length bytes ≤ limit
    → LowersToLines options bytes lines some_told
    → text ≡ lines
    → any_told ≡ some_told
    → OnDiagnosed o (any_told ≡ true)
    → OnAnswer o (Appends taken taken' text)
    → OnDiagnosed o (Answered words true left left' taken taken')
diagnosed Diagnosed words options bytes some_told any_told lines text left left' taken taken' given read within lowers same same_told is wrote =
    answered words options bytes some_told true lines text left left' taken taken' given read within lowers same (sym same_told ∙ is) wrote
diagnosed Done words options bytes some_told any_told lines text left left' taken taken' given read within lowers same same_told is wrote = tt
diagnosed (Refused f) words options bytes some_told any_told lines text left left' taken taken' given read within lowers same same_told is wrote = tt
diagnosed Usage words options bytes some_told any_told lines text left left' taken taken' given read within lowers same same_told is wrote = tt
diagnosed ReadFault words options bytes some_told any_told lines text left left' taken taken' given read within lowers same same_told is wrote = tt
diagnosed WriteFault words options bytes some_told any_told lines text left left' taken taken' given read within lowers same same_told is wrote = tt
diagnosed Memory words options bytes some_told any_told lines text left left' taken taken' given read within lowers same same_told is wrote = tt
diagnosed TooLong words options bytes some_told any_told lines text left left' taken taken' given read within lowers same same_told is wrote = tt
