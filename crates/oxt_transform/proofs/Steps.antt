-- What each step of the work says of the bytes.
use Rattle.std.proofs.Common.{◌≡◌, ◌≤◌, ◌⊎◌, inl, ℕ, List, length, Bool, true, false, Option, None, Some, refl, ap, ◌∙◌, sym, subst}
use Rattle.std.specs.Prelude.{if◌then◌else◌, not, ◌&&◌, option_map}
use Rattle.std.proofs.Math.Path.{fun_ext}
use Rattle.std.specs.Option.{option_or}
use Rattle.oxt_faults.specs.Captured.{Capture}
use Rattle.oxt_check.specs.Captures.{first_capture}
use Rattle.oxt_check.specs.Misplacements.{first_misplacement}
use Rattle.oxt_enum_checks.specs.Wide.{wide}
use Rattle.oxt_enum_checks.specs.declared.wide.WideMember.{WideMember}
use Rattle.oxt_check.specs.Diagnostics.{diagnostics}
use Rattle.oxt_check.specs.Faults.{IsFaultOf, captured_refusal, facts_of, misplaced_refusal, rules_by, wide_refusal}
use Rattle.oxt_names.specs.declared.diagnostic.OxcDiagnostic.{OxcDiagnostic}
use Rattle.oxt_io.specs.Counts.{Rose}
use Rattle.oxt_io.specs.Passed.{AppendsPrefix, GaveAll}
use Rattle.oxt_json.specs.Spelling.{no_value, wrong, tree, reading}
use Rattle.oxt_json.specs.Spelled.{data_of, text_of}
use Rattle.oxt_json.specs.Laws.{TextTellsTrees}
use Rattle.oxt_faults.specs.Misplaced.{Misplacement}
use Rattle.oxt_fields.specs.Rules.{Rules}
use Rattle.oxt_tree.specs.Syntax.{is_definition_file}
use Rattle.oxt_options.specs.Options.{TransformData}
use Rattle.oxt_options.specs.Facts.{Answers, Facts, is_in}
use Rattle.oxt_told.specs.Source.{Asked, asked_of}
use Rattle.oxt_resolve.specs.declared.resolve.TreeNames.{TreeNames}
use Rattle.oxt_resolve.specs.Groups.{groups_of}
use Rattle.oxt_resolve.specs.Resolved.{resolved}
use Rattle.oxt_scoping.specs.Scoped.{Scoped}
use Rattle.oxt_grammar.specs.declared.category.Category.TheVariants as category
use Rattle.oxt_grammar.specs.declared.holds.Holds.TheVariants as holds
use Rattle.oxt_check.proofs.Kept.{plain_beside_nothing}
use Rattle.oxt_check.specs.Targets.{is_listed, targets}
use Rattle.oxt_certificate.proofs.Spans.{exports_stand}
use Rattle.oxt_transform.proofs.Told.{no_targets}
use Rattle.oxt_certificate.specs.Expected.{ExpectedData, asked_by, expected_by, expected_of, fault_of, is_due, keeps, listed_in, names_of}
use Rattle.oxt_certificate.specs.Exports.{body}
use Rattle.oxt_transform.specs.Faults.{refusal_in, IsReasonFor}
use Rattle.oxt_transform.specs.Lowering.{IsTextOfOne, Lowers, Passes, ReturnsPlain, tells_of_wrapper}
use Rattle.oxt_transform.specs.Outcomes.{AnswerCut, CutOff, IfRefused, IsAnswerUncertifiedOrMemory, IsRefusedMemoryOrWriteFault, LowersToLines, NothingStands, OnWriteFault, Reported, is_uncertified, limit, options_in}
use Rattle.oxt_rewrite.specs.Plain.{ComesBack, as_javascript, is_left_alone, is_plain_source}
use Rattle.oxt_transform.specs.Refusals.{Accepts, Difference, Hinders, IsHindrance, IsFailure, Judges, Refusal, Refuses, captured_name, is_plain_output, json, misplaced_node, shape, uncertified, wide_member}
use Rattle.oxt_certificate.specs.Settings.{SettingsData, differs, has_exports, has_language, is_decorated, is_script, wrong_setting}
use Rattle.oxt_certificate.specs.Decorators.{has_decorator}
use Rattle.oxt_transform.specs.declared.program.Outcome.{Outcome}
use Rattle.oxt_transform.specs.declared.program.Outcome.TheVariants.{Done, Diagnosed, Refused, Usage, ReadFault, WriteFault, Memory, TooLong}
use Rattle.oxt_tree.specs.Doc.{Doc}
use Rattle.oxt_names.specs.declared.name.Name.{Name}
use Rattle.oxt_valid.specs.Plain.{is_plain}
use Rattle.oxt_valid.specs.Valid.{is_tree}
use Rattle.serde_json.specs.Written.{IsInOrder}

same_source : (bytes : List ℕ) (a b : Doc) (m n : ℕ) → reading bytes ≡ tree a m → reading bytes ≡ tree b n → a ≡ b
same_source bytes a b m n p q = let e : tree a m ≡ tree b n = sym p ∙ q in cc

nothing_read : (bytes : List ℕ) (a : Doc) (m : ℕ) → reading bytes ≡ tree a m → reading bytes ≡ no_value → ⊥
nothing_read bytes a m p q = let e : tree a m ≡ no_value = sym p ∙ q in cc

wrongly_read : (bytes place : List ℕ) (a : Doc) (m : ℕ) → reading bytes ≡ tree a m → reading bytes ≡ wrong place → ⊥
wrongly_read bytes place a m p q = let e : tree a m ≡ wrong place = sym p ∙ q in cc

fault_and_none : (o : Option Refusal) (r : Refusal) → o ≡ Some r → o ≡ None → ⊥
fault_and_none o r p q = let e : Some r ≡ None = sym p ∙ q in cc

faults_differ : (r : Refusal) (o : TransformData) (bytes : List ℕ) (source : Doc) (next : ℕ) → reading bytes ≡ tree source next → fault_of o source ≡ Some r → Accepts o bytes → ⊥
faults_differ r o bytes source next read fault k =
    let same = same_source bytes source k.source next k.next read k.spelled in
    fault_and_none (fault_of o k.source) r (sym (ap (fault_of o) same) ∙ fault) k.faultless

-- Bytes that are accepted are refused at most as not certified.
pub only_uncertified : (r : Refusal) (o : TransformData) (bytes : List ℕ) → Refuses r o bytes → Accepts o bytes → is_uncertified (Some r) ≡ true
only_uncertified json o bytes h k = absurd (nothing_read bytes k.source k.next k.spelled h)
only_uncertified (shape place) o bytes h k = absurd (wrongly_read bytes place k.source k.next k.spelled h)
only_uncertified (misplaced_node m place) o bytes h k = absurd (faults_differ (misplaced_node m place) o bytes h.source h.next h.spelled h.cause k)
only_uncertified (wide_member span) o bytes h k = absurd (faults_differ (wide_member span) o bytes h.source h.next h.spelled h.cause k)
only_uncertified (captured_name name place) o bytes h k = absurd (faults_differ (captured_name name place) o bytes h.source h.next h.spelled h.cause k)
only_uncertified (uncertified d) o bytes h k = refl

same_bytes : (left left' : Option (List ℕ)) (bytes held : List ℕ) → GaveAll left left' bytes → left ≡ Some held → bytes ≡ held
same_bytes None left' bytes held all e = cc
same_bytes (Some had) left' bytes held all e = let f : had ≡ bytes = all.0 in cc

same_options : (o : Option TransformData) (a b : TransformData) → o ≡ Some a → o ≡ Some b → a ≡ b
same_options o a b p q = let e : Some a ≡ Some b = sym p ∙ q in cc

-- Where nothing stands in the way, no refusal but that of a tree that is not certified can come, and so
-- the run ends well, or so, or for want of memory.
pub completes : (o : Outcome) (came : Option Refusal) (options : TransformData) (words : List Name) (left left' taken taken' : Option (List ℕ)) (read read' wrote wrote' told told' : ℕ) (bytes : List ℕ)
    → IsRefusedMemoryOrWriteFault o
    → IfRefused o (λ f. Reported came (refusal_in f) taken taken')
    → OnWriteFault o (Rose told told')
    → IsReasonFor came options bytes
    → options_in words ≡ Some options
    → GaveAll left left' bytes
    → NothingStands words left read read' wrote wrote' told told'
    → IsAnswerUncertifiedOrMemory o
completes (Refused f) came options words left left' taken taken' read read' wrote wrote' told told' bytes only reported rose reason given all stands =
    ap is_uncertified reported.is
    ∙ only_uncertified reported.refusal options bytes (subst (λ (r : Option Refusal). IsReasonFor r options bytes) (reported.same ∙ reported.is) reason) (subst (λ o. Accepts o bytes) (same_options (options_in words) stands.options options stands.given given) (subst (Accepts stands.options) (sym (same_bytes left left' bytes stands.bytes all stands.holds)) stands.accepted))
completes Memory came options words left left' taken taken' read read' wrote wrote' told told' bytes only reported rose reason given all stands = tt
completes WriteFault came options words left left' taken taken' read read' wrote wrote' told told' bytes only reported rose reason given all stands = absurd (stands.told_well rose)
completes Done came options words left left' taken taken' read read' wrote wrote' told told' bytes only reported rose reason given all stands = tt
completes Diagnosed came options words left left' taken taken' read read' wrote wrote' told told' bytes only reported rose reason given all stands = tt
completes Usage came options words left left' taken taken' read read' wrote wrote' told told' bytes only reported rose reason given all stands = absurd only
completes ReadFault came options words left left' taken taken' read read' wrote wrote' told told' bytes only reported rose reason given all stands = absurd only
completes TooLong came options words left left' taken taken' read read' wrote wrote' told told' bytes only reported rose reason given all stands = absurd only

-- ---- what a sink took that failed

-- Where out failed, it had taken a prefix of the answer.
pub answer_cut : (o : Outcome) (words : List Name) (options : TransformData) (bytes : List ℕ) (some_told : Bool) (lines text : List ℕ) (left left' taken taken' message : Option (List ℕ)) (faults faults' : ℕ) (P : Type 0)
    → options_in words ≡ Some options
    → GaveAll left left' bytes
    → length bytes ≤ limit
    → LowersToLines options bytes lines some_told
    → text ≡ lines
    → OnWriteFault o (CutOff faults faults' taken taken' text)
    → OnWriteFault o (AnswerCut words left left' taken taken' message message ⊎ P)
answer_cut WriteFault words options bytes some_told lines text left left' taken taken' message faults faults' P given read within lowers same cut =
    inl (record {
      options = options;
      given = given;
      bytes = bytes;
      told = lowers.told;
      text = lowers.text;
      read = read;
      within = within;
      lowered = lowers.lowered;
      prefix = subst (λ t. AppendsPrefix taken taken' t) (same ∙ lowers.ended) cut.prefix;
      quiet = refl;
    })
answer_cut Done words options bytes some_told lines text left left' taken taken' message faults faults' P given read within lowers same cut = tt
answer_cut Diagnosed words options bytes some_told lines text left left' taken taken' message faults faults' P given read within lowers same cut = tt
answer_cut (Refused f) words options bytes some_told lines text left left' taken taken' message faults faults' P given read within lowers same cut = tt
answer_cut Usage words options bytes some_told lines text left left' taken taken' message faults faults' P given read within lowers same cut = tt
answer_cut ReadFault words options bytes some_told lines text left left' taken taken' message faults faults' P given read within lowers same cut = tt
answer_cut Memory words options bytes some_told lines text left left' taken taken' message faults faults' P given read within lowers same cut = tt
answer_cut TooLong words options bytes some_told lines text left left' taken taken' message faults faults' P given read within lowers same cut = tt

-- ---- what the test of an output says of its source

-- the plan says of each node what the source's lists say
asked_same : (known listed : Facts) → Answers known listed → asked_of known ≡ listed_in listed
asked_same known listed a =
    let kept = fun_ext a.kept in
    let first = fun_ext a.first in
    let dropped = fun_ext a.dropped in
    let inlined = fun_ext a.inlined in
    let never = fun_ext a.never_written in
    let alias = fun_ext a.aliases in
    let metadata = fun_ext a.metadata in
    let written = fun_ext a.written in
    cc

module _ (o : TransformData) (source : Doc) (known : Facts) (s : Scoped) (table : s ≡ resolved o.decorator.legacy source) (a : Answers known (facts_of s source o)) where
  -- what is expected of the output, by the tables that the program made
  expected_same : (ns : TreeNames) → ns.groups ≡ groups_of o.decorator.legacy source → ns.taken ≡ names_of source → expected_by s ns.groups ns.taken (asked_of known) o source ≡ expected_of o source
  expected_same ns groups taken =
      ap (λ (p : Asked). expected_by s ns.groups ns.taken p o source) (asked_same known (facts_of s source o) a)
      ∙ ap (λ t. expected_by t ns.groups ns.taken (asked_by t o source) o source) table
      ∙ ap (λ h. expected_by (resolved o.decorator.legacy source) h ns.taken (asked_by (resolved o.decorator.legacy source) o source) o source) groups
      ∙ ap (λ h. expected_by (resolved o.decorator.legacy source) (groups_of o.decorator.legacy source) h (asked_by (resolved o.decorator.legacy source) o source) o source) taken

  -- what the writer of the source is told, so
  pub told_same : diagnostics (is_in known.kept) o source ≡ diagnostics (keeps o source) o source
  told_same = ap (λ (p : Asked). diagnostics p.kept o source) (asked_same known (facts_of s source o) a ∙ ap (λ t. asked_by t o source) table)

module _ (o : TransformData) (source output : Doc) (known : Facts) (s : Scoped) (ns : TreeNames) (table : s ≡ resolved o.decorator.legacy source) (groups : ns.groups ≡ groups_of o.decorator.legacy source) (taken : ns.taken ≡ names_of source) (a : Answers known (facts_of s source o))
    (faultless : fault_of o source ≡ None) where
  abbrev x : ExpectedData
  x = expected_by s ns.groups ns.taken (asked_of known) o source

  judged_source : (d : Option Difference) → Judges x output d → Judges (expected_of o source) output d
  judged_source d judged = subst (λ y. Judges y output d) (expected_same o source known s table a ns groups taken) judged

  pub passed : Judges x output None → Passes o source output
  passed judged = record { faultless = faultless; judged = judged_source None judged }

  failed_so : (d : Difference) → Judges x output (Some d) → Hinders (uncertified d) o source
  failed_so d judged = record { output = output; faultless = faultless; judged = judged_source (Some d) judged }

  pub failed : (came : Option Refusal) → IsFailure came x output → IsHindrance came o source
  failed None judged = tt
  failed (Some json) judged = absurd judged
  failed (Some (shape place)) judged = absurd judged
  failed (Some (misplaced_node m place)) judged = absurd judged
  failed (Some (wide_member span)) judged = absurd judged
  failed (Some (captured_name name place)) judged = absurd judged
  failed (Some (uncertified d)) judged = failed_so d judged

-- ---- a fault of a source is a place, a constant or a name

false_true : false ≡ true → ⊥
false_true e = cc

abbrev is_of_source : Refusal → Bool
is_of_source json = false
is_of_source (shape place) = false
is_of_source (misplaced_node m place) = true
is_of_source (wide_member span) = true
is_of_source (captured_name name place) = true
is_of_source (uncertified d) = false

abbrev fits_source : Option Refusal → Bool
fits_source None = true
fits_source (Some r) = is_of_source r

fits : (b : Bool) (m : Option Misplacement) (w : Option WideMember) (c : Option Capture) (d : Doc)
    → fits_source (if b then None else option_or (option_map (misplaced_refusal d) m) (option_or (option_map wide_refusal w) (option_map (captured_refusal d) c))) ≡ true
fits true m w c d = refl
fits false (Some x) w c d = refl
fits false None (Some x) c d = refl
fits false None None (Some x) d = refl
fits false None None None d = refl

-- the rules by which the fields of a source are lowered
abbrev rules_in : TransformData → Doc → Rules
rules_in o source = rules_by (facts_of (resolved o.decorator.legacy source) source o) o

source_fits : (o : TransformData) (source : Doc) (r : Refusal) → fault_of o source ≡ Some r → is_of_source r ≡ true
source_fits o source r h = sym (ap fits_source h) ∙ fits (is_definition_file source) (first_misplacement (resolved o.decorator.legacy source) (rules_in o source) source) (wide (rules_in o source).legacy (resolved o.decorator.legacy source) source) (first_capture (resolved o.decorator.legacy source) (rules_in o source) (is_in (facts_of (resolved o.decorator.legacy source) source o).kept) source) source

-- a fault of the source
pub fault_hinders : (came : Option Refusal) (o : TransformData) (source : Doc) → IsFaultOf came (resolved o.decorator.legacy source) source o → IsHindrance came o source
fault_hinders came o source h = hinders came h
  where
    named : (r : Refusal) → fault_of o source ≡ Some r → Hinders r o source
    named json h = absurd (false_true (source_fits o source json h))
    named (shape place) h = absurd (false_true (source_fits o source (shape place) h))
    named (misplaced_node m place) h = h
    named (wide_member span) h = h
    named (captured_name name place) h = h
    named (uncertified d) h = absurd (false_true (source_fits o source (uncertified d) h))

    hinders : (came : Option Refusal) → IsFaultOf came (resolved o.decorator.legacy source) source o → IsHindrance came o source
    hinders None h = tt
    hinders (Some r) h = named r h

-- ---- where nothing is told

-- plain beside no wrappers is plain
plain_then : (ks : ℕ → Bool) (o : TransformData) (source output : Doc) → is_plain_output (targets o.decorator.legacy source) output ≡ true → tells_of_wrapper (diagnostics ks o source) ≡ false → is_plain output ≡ true
plain_then ks o source output h none =
    sym (plain_beside_nothing output (holds.Node category.Program) (is_listed (targets o.decorator.legacy source)) (λ n. ap (λ ts. is_listed ts n) (no_targets ks o source none))) ∙ h

-- ---- the settings

last_setting : (a b c : Bool) (x y z : List ℕ) → (if a then Some x else if not b then Some y else if c then None else Some z) ≡ None → c ≡ true
last_setting true b c x y z h = cc
last_setting false true true x y z h = refl
last_setting false true false x y z h = cc
last_setting false false c x y z h = cc

both_last : (s : SettingsData) (output : Doc) → wrong_setting s output ≡ None → (has_exports s (body output) && not (is_decorated s output)) ≡ true
both_last s output h = last_setting (differs s.script (is_script output)) (has_language s.definitions output) (has_exports s (body output) && not (is_decorated s output)) _ _ _ h

first_of_both : (a b : Bool) → (a && b) ≡ true → a ≡ true
first_of_both true b h = refl
first_of_both false b h = cc

second_of_both : (a b c : Bool) → (a && not (b && c)) ≡ true → b ≡ true → c ≡ false
second_of_both true true false h e = refl
second_of_both true true true h e = cc
second_of_both true false c h e = cc
second_of_both false b c h e = cc

right_exports : (s : SettingsData) (output : Doc) → wrong_setting s output ≡ None → has_exports s (body output) ≡ true
right_exports s output h = first_of_both _ _ (both_last s output h)

undecorated_where : (s : SettingsData) (output : Doc) → wrong_setting s output ≡ None → s.undecorated ≡ true → has_decorator output ≡ false
undecorated_where s output h = second_of_both (has_exports s (body output)) s.undecorated (has_decorator output) (both_last s output h)

-- ---- the text

pub only_of : TextTellsTrees → (text : List ℕ) (d : Doc) → IsInOrder text (data_of d) → is_tree d ≡ true → IsTextOfOne text d
only_of law text d order valid other fits other_order =
    law text other d (record { fits_the_grammar = fits }) (record { fits_the_grammar = valid }) other_order order

-- ---- what the bytes say

module _ (options : TransformData) (bytes : List ℕ) (source : Doc) (next : ℕ) (read : reading bytes ≡ tree source next) where
  pub passes_lowers : (told : List OxcDiagnostic) (text : List ℕ) (output : Doc) → Passes options source output → told ≡ diagnostics (keeps options source) options source → text ≡ text_of output → (is_tree output ≡ true → IsTextOfOne text output) → Lowers options bytes told text
  passes_lowers told text output p all_told written only =
      record {
        source = source;
        next = next;
        output = output;
        spelled = read;
        all_told = all_told;
        valid = p.judged.0.0;
        plain_beside = p.judged.0.1;
        plain = λ none. plain_then (keeps options source) options source output p.judged.0.1 (sym (ap tells_of_wrapper all_told) ∙ none);
        settings = p.judged.0.2;
        undecorated = undecorated_where (expected_of options source).settings output p.judged.0.2;
        exports = exports_stand (is_due options source) options.decorator.legacy source output (right_exports (expected_of options source).settings output p.judged.0.2);
        bound_once = p.judged.1.0;
        same_word = sym p.judged.1.1;
        written = written;
        only = only p.judged.0.0;
      }

  pub passes_accepts : (output : Doc) → Passes options source output → Accepts options bytes
  passes_accepts output p = record { source = source; next = next; spelled = read; faultless = p.faultless }

  hindered : (r : Refusal) → Hinders r options source → Refuses r options bytes
  hindered json h = absurd h
  hindered (shape place) h = absurd h
  hindered (misplaced_node m place) h = record { source = source; next = next; spelled = read; cause = h }
  hindered (wide_member span) h = record { source = source; next = next; spelled = read; cause = h }
  hindered (captured_name name place) h = record { source = source; next = next; spelled = read; cause = h }
  hindered (uncertified d) h = record { source = source; next = next; spelled = read; cause = h }

  pub hindrance_refuses : (came : Option Refusal) → IsHindrance came options source → IsReasonFor came options bytes
  hindrance_refuses None h = tt
  hindrance_refuses (Some r) h = hindered r h

  -- a plain source is returned
  pub returns_plain : (text : List ℕ) (output : Doc) → ComesBack options source output → text ≡ text_of output → ReturnsPlain options bytes text
  returns_plain text output back written given n given_read leaves plain =
      let same : source ≡ given = same_source bytes source given next n read given_read in
      let alone : is_left_alone options source ≡ true = ap (λ b. b && is_plain_source source) leaves ∙ (ap is_plain_source same ∙ plain) in
      written ∙ ap text_of (back alone ∙ ap as_javascript same)
