-- Where no diagnostic tells of a wrapper around a target, no such wrapper stays.
use Rattle.std.proofs.Common.{◌≡◌, ◌∙◌, refl, sym, ap, ℕ, List, [], ◌∷◌, ◌++◌, Bool, true, false, not, ◌||◌, if◌then◌else◌, filter, true≢false}
use Rattle.std.specs.List.{slice_get}
use Rattle.oxt_check.specs.Diagnostics.{diagnostics, is_of_namespaces, namespaces_first, told_among, told_below, told_first, told_if, told_in, told_of_module, told_of_namespace, wrapper_stays}
use Rattle.oxt_check.specs.Seats.{seat_inside}
use Rattle.oxt_check.specs.Targets.{held_by, is_wrapped_target, targets, targets_among, targets_below, targets_first, targets_in}
use Rattle.oxt_check.specs.declared.seat.Seat.{Seat}
use Rattle.oxt_check.specs.declared.seat.Seat.TheVariants as seat
use Rattle.oxt_grammar.specs.Field.{Field}
use Rattle.oxt_grammar.specs.Rows.{row_of}
use Rattle.oxt_grammar.specs.declared.category.Category.TheVariants as category
use Rattle.oxt_grammar.specs.declared.holds.Holds.{Holds}
use Rattle.oxt_grammar.specs.declared.holds.Holds.TheVariants as holds
use Rattle.oxt_options.specs.Options.{TransformData}
use Rattle.oxt_transform.specs.Lowering.{is_of_wrapper, tells_of_wrapper}
use Rattle.oxt_tree.specs.Doc.{Doc, nil, flag, number, text, list, node, Docs, no_docs, doc}
use Rattle.oxt_tree.specs.Syntax.{is_definition_file}
use Rattle.oxt_names.specs.declared.diagnostic.DiagnosticKind.{DiagnosticKind}
use Rattle.oxt_names.specs.declared.diagnostic.DiagnosticKind.TheVariants as diagnostic
use Rattle.oxt_names.specs.declared.diagnostic.OxcDiagnostic.{OxcDiagnostic}
use Rattle.oxt_declares.specs.Dropped.{is_dropped_by, keeps_decorators}

first_false : (b c : Bool) → (b || c) ≡ false → b ≡ false
first_false true c e = e
first_false false c e = refl

second_false : (b c : Bool) → (b || c) ≡ false → c ≡ false
second_false true c e = absurd (true≢false e)
second_false false c e = e

-- none of two lists tells of a wrapper
none_first : (ts us : List OxcDiagnostic) → tells_of_wrapper (ts ++ us) ≡ false → tells_of_wrapper ts ≡ false
none_first [] us e = refl
none_first (t ∷ ts) us e =
    ap (λ b. b || tells_of_wrapper ts) (first_false (is_of_wrapper t.kind) (tells_of_wrapper (ts ++ us)) e)
    ∙ none_first ts us (second_false (is_of_wrapper t.kind) (tells_of_wrapper (ts ++ us)) e)

none_second : (ts us : List OxcDiagnostic) → tells_of_wrapper (ts ++ us) ≡ false → tells_of_wrapper us ≡ false
none_second [] us e = e
none_second (t ∷ ts) us e = none_second ts us (second_false (is_of_wrapper t.kind) (tells_of_wrapper (ts ++ us)) e)

-- what is told of namespaces is nothing of wrappers
apart : (k : DiagnosticKind) → is_of_namespaces k ≡ true → is_of_wrapper k ≡ false
apart diagnostic.AssignmentTarget e = absurd (true≢false (sym e))
apart k e = refl

kept_one : (n w : Bool) (t : OxcDiagnostic) (ts : List OxcDiagnostic) (rest : Bool) → (n ≡ true → w ≡ false) → is_of_wrapper t.kind ≡ w → (tells_of_wrapper ts ≡ false → rest ≡ false)
    → tells_of_wrapper (if not n then t ∷ ts else ts) ≡ false → (w || rest) ≡ false
kept_one true w t ts rest p q r e = ap (λ b. b || rest) (p refl) ∙ r e
kept_one false w t ts rest p q r e =
    ap (λ b. b || rest) (sym q ∙ first_false (is_of_wrapper t.kind) (tells_of_wrapper ts) e)
    ∙ r (second_false (is_of_wrapper t.kind) (tells_of_wrapper ts) e)

none_among : (ts : List OxcDiagnostic) → tells_of_wrapper (filter (λ t. not (is_of_namespaces t.kind)) ts) ≡ false → tells_of_wrapper ts ≡ false
none_among [] e = refl
none_among (t ∷ ts) e =
    kept_one (is_of_namespaces t.kind) (is_of_wrapper t.kind) t (filter (λ u. not (is_of_namespaces u.kind)) ts) (tells_of_wrapper ts) (apart t.kind) refl (none_among ts) e

none_at_all : (ts : List OxcDiagnostic) → tells_of_wrapper (namespaces_first ts) ≡ false → tells_of_wrapper ts ≡ false
none_at_all ts e = none_among ts (none_second (filter (λ t. is_of_namespaces t.kind) ts) (filter (λ t. not (is_of_namespaces t.kind)) ts) e)

-- of a node, that is erased or not, whose decorators outlive it or not, that is such a wrapper or not
none_of_node : (c l w : Bool) (ts us vs : List OxcDiagnostic) (i : ℕ) (is js : List ℕ) → (tells_of_wrapper us ≡ false → is ≡ [])
    → (tells_of_wrapper vs ≡ false → js ≡ [])
    → tells_of_wrapper (if c then (if l then vs else []) else (ts ++ told_if w wrapper_stays) ++ us) ≡ false
    → (if c then (if l then js else []) else (if w then i ∷ [] else []) ++ is) ≡ []
none_of_node true true w ts us vs i is js below first e = first e
none_of_node true false w ts us vs i is js below first e = refl
none_of_node false l true ts us vs i is js below first e = absurd (true≢false (none_second ts (wrapper_stays ∷ []) (none_first (ts ++ wrapper_stays ∷ []) us e)))
none_of_node false l false ts us vs i is js below first e = below (none_second (ts ++ []) us e)

module _ (ks : ℕ → Bool) (o : TransformData) where
  mutual
    none_in : (d : Doc) (s : Seat) (h : Holds) → tells_of_wrapper (told_in d ks o s h) ≡ false → targets_in o.decorator.legacy d h ≡ []
    none_in nil s h e = refl
    none_in (flag b) s h e = refl
    none_in (number n) s h e = refl
    none_in (text t) s h e = refl
    none_in (list ds) s h e = none_in_each ds s h e
    none_in (node k i b e ds) s h f =
        none_of_node (is_dropped_by k ds) (keeps_decorators o.decorator.legacy k ds) (is_wrapped_target h (node k i b e ds)) (told_of_module ks o k i b e ds)
        (told_below ds ks o (seat_inside s k ds) (row_of k)) (told_first ds ks o (seat_inside s k ds) (row_of k)) i
        (targets_below o.decorator.legacy ds (row_of k)) (targets_first o.decorator.legacy ds (row_of k))
        (none_below ds (seat_inside s k ds) (row_of k)) (none_of_first ds (seat_inside s k ds) (row_of k)) (none_second (told_of_namespace o s k b e ds) _ f)

    none_in_each : (ds : Docs) (s : Seat) (h : Holds) → tells_of_wrapper (told_among ds ks o s h) ≡ false → targets_among o.decorator.legacy ds h ≡ []
    none_in_each no_docs s h e = refl
    none_in_each (doc d ds) s h e =
        ap (λ is. is ++ targets_among o.decorator.legacy ds h) (none_in d s h (none_first (told_in d ks o s h) (told_among ds ks o s h) e))
        ∙ none_in_each ds s h (none_second (told_in d ks o s h) (told_among ds ks o s h) e)

    none_below : (ds : Docs) (s : Seat) (rs : List Field) → tells_of_wrapper (told_below ds ks o s rs) ≡ false → targets_below o.decorator.legacy ds rs ≡ []
    none_below no_docs s rs e = refl
    none_below (doc d ds) s [] e = refl
    none_below (doc d ds) s (r ∷ rs) e =
        ap (λ is. is ++ targets_below o.decorator.legacy ds rs) (none_in d s r.holds (none_first (told_in d ks o s r.holds) (told_below ds ks o s rs) e))
        ∙ none_below ds s rs (none_second (told_in d ks o s r.holds) (told_below ds ks o s rs) e)

    none_of_first : (ds : Docs) (s : Seat) (rs : List Field) → tells_of_wrapper (told_first ds ks o s rs) ≡ false → targets_first o.decorator.legacy ds rs ≡ []
    none_of_first no_docs s rs e = refl
    none_of_first (doc d ds) s rs e = none_in d s (held_by (slice_get rs 0)) e

  of_program : (c : Bool) (d : Doc) → tells_of_wrapper (if c then [] else namespaces_first (told_in d ks o seat.Elsewhere (holds.Node category.Program))) ≡ false → (if c then [] else targets_in o.decorator.legacy d (holds.Node category.Program)) ≡ []
  of_program true d e = refl
  of_program false d e = none_in d seat.Elsewhere (holds.Node category.Program) (none_at_all (told_in d ks o seat.Elsewhere (holds.Node category.Program)) e)

  pub no_targets : (d : Doc) → tells_of_wrapper (diagnostics ks o d) ≡ false → targets o.decorator.legacy d ≡ []
  no_targets d e = of_program (is_definition_file d) d e
