-- The rules of fields by a plan are those by the lists of which it was made.
use Rattle.std.proofs.Common.{ℕ, ◌≡◌, ap, ◌∙◌, sym, subst, List, [], IfOk, Result, Ok, Err}
use Rattle.std.proofs.Math.Path.{fun_ext}
use Rattle.oxt_check.specs.Faults.{code_fault, facts_by, fault_by, listed_by, rules_by, with_aliases}
use Rattle.oxt_enum_checks.specs.First.{first_blocks}
use Rattle.oxt_fields.specs.Aliases.{alias_uses}
use Rattle.oxt_fields.specs.Rules.{rules_in}
use Rattle.oxt_fields.specs.Written.{never_written}
use Rattle.oxt_dropped.specs.DroppedEnums.{dropped}
use Rattle.oxt_inline.specs.Inlined.{inlined}
use Rattle.oxt_metadata.specs.Symbols.{types_in, written_in}
use Rattle.oxt_metadata.specs.Whole.{Written}
use Rattle.oxt_names.specs.Constant.{Constant}
use Rattle.oxt_options.specs.Facts.{Answers, Facts, alias_at, constant_at, is_in, last_alias}
use Rattle.oxt_options.specs.Metadata.{type_at}
use Rattle.oxt_options.specs.declared.metadata.MetadataType.{MetadataType}
use Rattle.oxt_options.specs.Options.{TransformData}
use Rattle.oxt_scoping.specs.Scoped.{Scoped}
use Rattle.oxt_tree.specs.Doc.{Doc}

rules_same : (known listed : Facts) (o : TransformData) → Answers known listed → rules_in o known ≡ rules_by listed o
rules_same known listed o a =
    let never = fun_ext a.never_written in
    let inlined = fun_ext a.inlined in
    let aliases = fun_ext a.aliases in
    let types = fun_ext a.metadata in
    let names = fun_ext a.written in
    cc

-- what knows the aliases too says what its lists say
pub with_known : (known listed all : Facts) (s : Scoped) (d : Doc) (o : TransformData) → Answers known listed → all ≡ record known { aliases = all.aliases }
    → ((n : ℕ) → alias_at all.aliases n ≡ last_alias (alias_uses s (rules_in o known) d) n)
    → Answers all (with_aliases s d o listed)
with_known known listed all s d o a others put =
    let kept : all.kept ≡ known.kept = ap (λ f. f.kept) others in
    let first : all.first ≡ known.first = ap (λ f. f.first) others in
    let dropped : all.dropped ≡ known.dropped = ap (λ f. f.dropped) others in
    let inlined : all.inlined ≡ known.inlined = ap (λ f. f.inlined) others in
    let never : all.never_written ≡ known.never_written = ap (λ f. f.never_written) others in
    let types : all.metadata ≡ known.metadata = ap (λ f. f.metadata) others in
    let names : all.written ≡ known.written = ap (λ f. f.written) others in
    record {
      kept = λ n. ap (λ l. is_in l n) kept ∙ a.kept n;
      first = λ n. ap (λ l. is_in l n) first ∙ a.first n;
      dropped = λ n. ap (λ l. is_in l n) dropped ∙ a.dropped n;
      inlined = λ n. ap (λ l. constant_at l n) inlined ∙ a.inlined n;
      never_written = λ n. ap (λ l. is_in l n) never ∙ a.never_written n;
      aliases = λ n. put n ∙ ap (λ r. last_alias (alias_uses s r d) n) (rules_same known listed o a);
      metadata = λ n. ap (λ l. type_at l n) types ∙ a.metadata n;
      written = λ n. ap (λ l. alias_at l n) names ∙ a.written n;
    }

-- what is at fault in the code of a tree, by its plan, is what is at fault by the lists
pub fault_of_plan : (known : Facts) (m : Written) (list ks : List ℕ) (s : Scoped) (d : Doc) (o : TransformData) → Answers known (facts_by m list s d o) → list ≡ ks → code_fault s (rules_in o known) (is_in list) d ≡ fault_by (facts_by m ks s d o) s d o
fault_of_plan known m list ks s d o a same =
    ap (λ r. code_fault s r (is_in list) d) (rules_same known (facts_by m list s d o) o a)
    ∙ ap (λ ks. fault_by (facts_by m ks s d o) s d o) same

-- what is the plan says what the plan says
pub as_planned : {E : Type 0} (r : Result Facts E) (known list : Facts) → Answers known list → IfOk r (λ p. p ≡ known) → IfOk r (λ p. Answers p list)
as_planned (Ok p) known list a same = subst (λ q. Answers q list) (sym same) a
as_planned (Err e) known list a same = tt

-- lists that say so of each part say what is known
pub listed_same : (kept first dropped_ : List ℕ) (inlined_ : List (ℕ × Constant)) (never : List ℕ) (aliases : List (ℕ × ℕ)) (types : List (ℕ × MetadataType)) (names : List (ℕ × ℕ))
    → (named : List ℕ) (m : Written) (ks : List ℕ) (s : Scoped) (d : Doc) (o : TransformData)
    → kept ≡ ks → first ≡ first_blocks s d → dropped_ ≡ dropped s (is_in ks) (is_in named) d o.typescript o.decorator.legacy → named ≡ m.named
    → inlined_ ≡ inlined s (is_in ks) d o.typescript → never ≡ never_written s d → aliases ≡ [] → types ≡ types_in m.annotations → names ≡ written_in m.annotations
    → record { kept = kept; first = first; dropped = dropped_; inlined = inlined_; never_written = never; aliases = aliases; metadata = types; written = names } ≡ listed_by m ks s d o
listed_same kept first dropped_ inlined_ never aliases types names named m ks s d o hk hf hd hn hi hw ha ht hm =
    let all : dropped_ ≡ dropped s (is_in ks) (is_in m.named) d o.typescript o.decorator.legacy = hd ∙ ap (λ (n : List ℕ). dropped s (is_in ks) (is_in n) d o.typescript o.decorator.legacy) hn in
    cc
