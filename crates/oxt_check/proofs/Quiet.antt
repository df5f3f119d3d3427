-- Of a name that holds no nodes nothing is told.
use Rattle.std.proofs.Common.{◌≡◌, ◌∙◌, refl, sym, ap, subst, ℕ, List, [], ◌∷◌, ◌++◌, append-nil, Bool, true, false, ◌||◌, true≢false}
use Rattle.std.specs.Prelude.{not, ◌&&◌, cond, codes}
use Rattle.std.proofs.lemmas.Slice.Eq.{bytes_eq-Decides}
use Rattle.oxt_check.proofs.Formless.{neither}
use Rattle.oxt_check.specs.Diagnostics.{is_changing, is_declared, is_kept_require, is_named_module, is_top_module, told_below, told_if, told_in, told_of_code, told_of_namespace}
use Rattle.oxt_check.specs.Quiet.{has_nodes, is_name, is_quiet}
use Rattle.oxt_check.specs.Seats.{seat_inside}
use Rattle.oxt_check.specs.declared.seat.Seat.{Seat}
use Rattle.oxt_check.specs.declared.seat.Seat.TheVariants as seat
use Rattle.oxt_declares.specs.Dropped.{is_droppable, is_dropped_by, is_namespace_of_types}
use Rattle.oxt_grammar.proofs.OneKind.{one_kind}
use Rattle.oxt_grammar.specs.Categories.{kinds_in}
use Rattle.oxt_grammar.specs.Field.{Field}
use Rattle.oxt_grammar.specs.Kinds.{name_of}
use Rattle.oxt_grammar.specs.Places.{kind_in, same_kind}
use Rattle.oxt_grammar.specs.Rows.{row_of}
use Rattle.oxt_grammar.specs.declared.category.Category.TheVariants as category
use Rattle.oxt_grammar.specs.declared.holds.Holds.{Holds}
use Rattle.oxt_grammar.specs.declared.kind.Kind.{Kind}
use Rattle.oxt_grammar.specs.declared.kind.Kind.TheVariants as kind
use Rattle.oxt_names.specs.declared.diagnostic.OxcDiagnostic.{OxcDiagnostic}
use Rattle.oxt_options.specs.Options.{TransformData}
use Rattle.oxt_search.proofs.Nothing.{both_none}
use Rattle.oxt_search.specs.Sought.{holds_nodes}
use Rattle.oxt_tree.specs.Doc.{Doc, nil, flag, number, text, list, node, Docs, no_docs, doc}
use Rattle.oxt_tree.specs.Fields.{is_in, is_kind, named}
use Rattle.oxt_tree.specs.Inner.{inner_expression}
use Rattle.oxt_tree.specs.Syntax.{is_erased, is_type_only}

-- ---- where no nodes stand

told_bare : (d : Doc) (ks : ℕ → Bool) (o : TransformData) (s : Seat) (h : Holds) → holds_nodes d ≡ false → told_in d ks o s h ≡ []
told_bare nil ks o s h e = refl
told_bare (flag b) ks o s h e = refl
told_bare (number n) ks o s h e = refl
told_bare (text t) ks o s h e = refl
told_bare (list ds) ks o s h e = absurd (true≢false e)
told_bare (node k i b e' ds) ks o s h e = absurd (true≢false e)

below_bare : (ds : Docs) (ks : ℕ → Bool) (o : TransformData) (s : Seat) (rs : List Field) → has_nodes ds ≡ false → told_below ds ks o s rs ≡ []
below_bare no_docs ks o s rs e = refl
below_bare (doc d ds) ks o s [] e = refl
below_bare (doc d ds) ks o s (r ∷ rs) e =
    let two = neither (holds_nodes d) (has_nodes ds) e in
    both_none (told_in d ks o s r.holds) (told_below ds ks o s rs) (told_bare d ks o s r.holds two.0) (below_bare ds ks o s rs two.1)

-- ---- kinds

-- nodes of the kind are neither told of nor erased as a whole
record IsSilent (k : Kind) : Type 0 where
  external : same_kind k kind.TSExternalModuleDeclaration ≡ false
  space : same_kind k kind.TSNamespaceDeclaration ≡ false
  global : same_kind k kind.TSGlobalDeclaration ≡ false
  declarator : same_kind k kind.VariableDeclarator ≡ false
  imported : same_kind k kind.TSImportEqualsDeclaration ≡ false
  exported : same_kind k kind.TSExportAssignment ≡ false
  wrapper : kind_in category.Wrapper k ≡ false
  droppable : is_droppable k ≡ false

-- as those of another kind of its name
silent_as : (j k : Kind) → same_kind j k ≡ true → IsSilent k → IsSilent j
silent_as j k same i = subst IsSilent (sym (one_kind j k ((bytes_eq-Decides (name_of j) (name_of k)).0 same))) i

silent_reference : IsSilent kind.IdentifierReference
unfolding kinds_in
silent_reference = record { external = refl; space = refl; global = refl; declarator = refl; imported = refl; exported = refl; wrapper = refl; droppable = refl }

silent_name : IsSilent kind.IdentifierName
unfolding kinds_in
silent_name = record { external = refl; space = refl; global = refl; declarator = refl; imported = refl; exported = refl; wrapper = refl; droppable = refl }

silent_binding : IsSilent kind.BindingIdentifier
unfolding kinds_in
silent_binding = record { external = refl; space = refl; global = refl; declarator = refl; imported = refl; exported = refl; wrapper = refl; droppable = refl }

one_of_three : {A : Type 0} (a b c : Bool) → (a ≡ true → A) → (b ≡ true → A) → (c ≡ true → A) → (a || (b || c)) ≡ true → A
one_of_three true b c f g h e = f refl
one_of_three false true c f g h e = g refl
one_of_three false false c f g h e = h e

silent_names : (k : Kind) → is_name k ≡ true → IsSilent k
silent_names k h =
    one_of_three (same_kind k kind.IdentifierReference) (same_kind k kind.IdentifierName) (same_kind k kind.BindingIdentifier)
    (λ e. silent_as k kind.IdentifierReference e silent_reference)
    (λ e. silent_as k kind.IdentifierName e silent_name)
    (λ e. silent_as k kind.BindingIdentifier e silent_binding)
    h

-- ---- of a node of such a kind itself

no_space : (k : Kind) → IsSilent k → is_named_module k ≡ false
no_space k q = ap (λ b. b || same_kind k kind.TSNamespaceDeclaration) q.external ∙ q.space

no_top : (s : Seat) (k : Kind) (ds : Docs) → IsSilent k → is_top_module s k ds ≡ false
no_top seat.Top k ds q = ap (λ b. b || same_kind k kind.TSGlobalDeclaration) (no_space k q) ∙ q.global
no_top seat.ExportedTop k ds q = ap (λ b. b && not (is_declared k ds)) (no_space k q)
no_top seat.Item k ds q = refl
no_top seat.ExportedItem k ds q = refl
no_top seat.Body k ds q = refl
no_top seat.Declarator k ds q = refl
no_top seat.Elsewhere k ds q = refl

no_change : (s : Seat) (k : Kind) → IsSilent k → is_changing s k ≡ false
no_change seat.Top k q = refl
no_change seat.ExportedTop k q = refl
no_change seat.Item k q = refl
no_change seat.ExportedItem k q = refl
no_change seat.Body k q = refl
no_change seat.Declarator k q = q.declarator
no_change seat.Elsewhere k q = refl

no_second : (a b : Bool) → b ≡ false → (a && b) ≡ false
no_second true b h = h
no_second false b h = refl

untold : (b : Bool) (t : OxcDiagnostic) → b ≡ false → told_if b t ≡ []
untold b t h = ap (λ c. told_if c t) h

nothing_of_namespace : (o : TransformData) (s : Seat) (k : Kind) (b e : ℕ) (ds : Docs) → IsSilent k → told_of_namespace o s k b e ds ≡ []
nothing_of_namespace o s k b e ds q =
    both_none _ _ (untold _ _ (no_second _ _ (no_top s k ds q)))
    (both_none _ _ (untold _ _ (no_second _ _ (ap (λ c. c && not (is_declared k ds)) q.external)))
    (untold _ _ (no_change s k q)))

no_require : (ks : ℕ → Bool) (k : Kind) (i : ℕ) (ds : Docs) → IsSilent k → is_kept_require ks k i ds ≡ false
no_require ks k i ds q = ap (λ b. ((b && not (is_type_only k ds)) && is_kind kind.TSExternalModuleReference (named (codes "moduleReference") k ds)) && ks i) q.imported

nothing_of_code : (ks : ℕ → Bool) (o : TransformData) (h : Holds) (k : Kind) (i b e : ℕ) (ds : Docs) → IsSilent k → told_of_code ks o h k i b e ds ≡ []
nothing_of_code ks o h k i b e ds q =
    both_none _ _
    (both_none _ _ (untold _ _ (no_second _ _ (no_require ks k i ds q))) (untold _ _ (no_second _ _ q.exported)))
    (untold _ _ (no_second _ _ (ap (λ c. c && not (is_in category.SimpleAssignmentTarget (inner_expression (node k i b e ds)))) q.wrapper)))

-- a node of such a kind is no erased code
kept_whole : (k : Kind) (ds : Docs) (xs ys : List OxcDiagnostic) → IsSilent k → cond (is_dropped_by k ds) xs ys ≡ ys
kept_whole k ds xs ys q = ap (λ c. cond (c && (is_erased k ds || is_namespace_of_types k ds)) xs ys) q.droppable

nothing_in : (k : Kind) (i b e : ℕ) (ds : Docs) (ks : ℕ → Bool) (o : TransformData) (s : Seat) (h : Holds) → IsSilent k → has_nodes ds ≡ false → told_in (node k i b e ds) ks o s h ≡ []
nothing_in k i b e ds ks o s h q none =
    both_none _ _ (nothing_of_namespace o s k b e ds q)
    (kept_whole k ds _ _ q
    ∙ both_none _ _ (nothing_of_code ks o h k i b e ds q) (below_bare ds ks o (seat_inside s k ds) (row_of k) none))

both_hold : (a b : Bool) → (a && not b) ≡ true → (a ≡ true) × (b ≡ false)
both_hold true true h = absurd (true≢false (sym h))
both_hold true false h = (refl, refl)
both_hold false b h = absurd (true≢false (sym h))

-- behind what was told before
pub nothing_told : (before : List OxcDiagnostic) (k : Kind) (i b e : ℕ) (ds : Docs) (ks : ℕ → Bool) (o : TransformData) (s : Seat) (h : Holds) → is_quiet k ds ≡ true → before ≡ before ++ told_in (node k i b e ds) ks o s h
nothing_told before k i b e ds ks o s h q =
    let two = both_hold (is_name k) (has_nodes ds) q in
    sym (ap (λ xs. before ++ xs) (nothing_in k i b e ds ks o s h (silent_names k two.0) two.1) ∙ append-nil before)
