-- What the writer of a source is told.
use Rattle.std.specs.Prelude.{ℕ, List, [], ◌∷◌, ◌++◌, Bool, true, false, not, ◌&&◌, ◌||◌, if◌then◌else◌, filter, None, Some, codes}
use Rattle.std.specs.List.{slice_get}
use Rattle.oxt_check.specs.Seats.{is_item, seat_inside}
use Rattle.oxt_check.specs.Targets.{held_by, is_wrapped_target}
use Rattle.oxt_check.specs.declared.seat.Seat.{Seat}
use Rattle.oxt_check.specs.declared.seat.Seat.TheVariants as seat
use Rattle.oxt_grammar.specs.Field.{Field}
use Rattle.oxt_grammar.specs.Places.{same_kind}
use Rattle.oxt_grammar.specs.Rows.{row_of}
use Rattle.oxt_grammar.specs.declared.category.Category.TheVariants as category
use Rattle.oxt_grammar.specs.declared.holds.Holds.{Holds}
use Rattle.oxt_grammar.specs.declared.holds.Holds.TheVariants as holds
use Rattle.oxt_grammar.specs.declared.kind.Kind.{Kind}
use Rattle.oxt_grammar.specs.declared.kind.Kind.TheVariants as kind
use Rattle.oxt_declares.specs.Imports.{is_required}
use Rattle.oxt_options.specs.Options.{TransformData}
use Rattle.oxt_options.specs.declared.options.Module.{Module}
use Rattle.oxt_options.specs.declared.options.Module.TheVariants as «module»
use Rattle.oxt_tree.specs.Doc.{Doc, nil, flag, number, text, list, node, Docs, no_docs, doc}
use Rattle.oxt_tree.specs.Fields.{is_set, named}
use Rattle.oxt_tree.specs.Syntax.{is_definition_file}
use Rattle.oxt_names.specs.declared.diagnostic.DiagnosticKind.{DiagnosticKind}
use Rattle.oxt_names.specs.declared.diagnostic.DiagnosticKind.TheVariants as diagnostic
use Rattle.oxt_names.specs.declared.diagnostic.OxcDiagnostic.{OxcDiagnostic}
use Rattle.oxt_declares.specs.Dropped.{is_dropped_by, keeps_decorators}

-- a diagnostic of that kind from there to there
abbrev pub found_at : DiagnosticKind → ℕ → ℕ → OxcDiagnostic
found_at k b e = record { kind = k; span = Some (record { start = b; end = e }) }

-- syntax of types stays around a target; no place is given
abbrev pub wrapper_stays : OxcDiagnostic
wrapper_stays = record { kind = diagnostic.AssignmentTarget; span = None }

-- it, where that is so
abbrev pub told_if : Bool → OxcDiagnostic → List OxcDiagnostic
told_if c t = if c then t ∷ [] else []

-- ---- namespaces

-- it says that it is a mere declaration
abbrev pub is_declared : Kind → Docs → Bool
is_declared k ds = is_set (named (codes "declare") k ds)

-- an external module or a namespace
abbrev pub is_named_module : Kind → Bool
is_named_module k = same_kind k kind.TSExternalModuleDeclaration || same_kind k kind.TSNamespaceDeclaration

-- an external module, a namespace or a global declaration at the top level; an exported one only without `declare`
abbrev pub is_top_module : Seat → Kind → Docs → Bool
is_top_module seat.Top k ds = is_named_module k || same_kind k kind.TSGlobalDeclaration
is_top_module seat.ExportedTop k ds = is_named_module k && not (is_declared k ds)
is_top_module s k ds = false

-- an external module without `declare` at the top level or directly in a namespace that emits code, exported or not
abbrev pub is_nested_module : Seat → Kind → Docs → Bool
is_nested_module s k ds = is_item s && (same_kind k kind.TSExternalModuleDeclaration && not (is_declared k ds))

-- a declarator of variables that a namespace exports and that may change
abbrev pub is_changing : Seat → Kind → Bool
is_changing seat.Declarator k = same_kind k kind.VariableDeclarator
is_changing s k = false

-- what is told of a node in its seat for the sake of namespaces
abbrev pub told_of_namespace : TransformData → Seat → Kind → ℕ → ℕ → Docs → List OxcDiagnostic
told_of_namespace o s k b e ds =
    told_if (not o.typescript.allow_namespaces && is_top_module s k ds) (found_at diagnostic.NamespaceNotSupported b e)
    ++ (told_if (is_nested_module s k ds) (found_at diagnostic.AmbientModuleNested b e)
    ++ told_if (is_changing s k) (found_at diagnostic.NamespaceExportingNonConst b e))

-- ---- what else stands outside erased code

abbrev pub is_esm : Module → Bool
is_esm «module».Esm = true
is_esm m = false

-- the output is an ECMAScript module
abbrev pub is_to_esm : TransformData → Bool
is_to_esm o = is_esm o.«module»

-- a declaration `import a = require("m")` that is kept
abbrev pub is_kept_require : (ℕ → Bool) → Kind → ℕ → Docs → Bool
is_kept_require ks k i ds = is_required k ds && ks i

-- what is told of forms that ECMAScript modules have not
abbrev pub told_of_module : (ℕ → Bool) → TransformData → Kind → ℕ → ℕ → ℕ → Docs → List OxcDiagnostic
told_of_module ks o k i b e ds =
    told_if (is_to_esm o && is_kept_require ks k i ds) (found_at diagnostic.ImportEqualsInEsm b e)
    ++ told_if (is_to_esm o && same_kind k kind.TSExportAssignment) (found_at diagnostic.ExportAssignmentInEsm b e)

-- what is told of a node that is no erased code and stands where a field holds `h`
abbrev pub told_of_code : (ℕ → Bool) → TransformData → Holds → Kind → ℕ → ℕ → ℕ → Docs → List OxcDiagnostic
told_of_code ks o h k i b e ds =
    told_of_module ks o k i b e ds ++ told_if (is_wrapped_target h (node k i b e ds)) wrapper_stays

-- ---- all that is told

-- What is told of a document in which that is kept, in that seat and where a field holds `h`: of a node before those in
-- it. Of what is erased as a whole only the node itself is looked at, and only for the sake of namespaces; and what is told
-- of the decorators, the first field, of a field that is only declared, where these have their older meaning.
abbrev mutual
  pub told_in : Doc → (ℕ → Bool) → TransformData → Seat → Holds → List OxcDiagnostic
  told_in nil ks o s h = []
  told_in (flag b) ks o s h = []
  told_in (number n) ks o s h = []
  told_in (text t) ks o s h = []
  told_in (list ds) ks o s h = told_among ds ks o s h
  told_in (node k i b e ds) ks o s h =
      told_of_namespace o s k b e ds
      ++ (if is_dropped_by k ds then
      (if keeps_decorators o.decorator.legacy k ds then told_first ds ks o (seat_inside s k ds) (row_of k) else [])
      else told_of_code ks o h k i b e ds ++ told_below ds ks o (seat_inside s k ds) (row_of k))

  -- of the elements of a list
  pub told_among : Docs → (ℕ → Bool) → TransformData → Seat → Holds → List OxcDiagnostic
  told_among no_docs ks o s h = []
  told_among (doc d ds) ks o s h = told_in d ks o s h ++ told_among ds ks o s h

  -- of the fields of a node with these rows
  pub told_below : Docs → (ℕ → Bool) → TransformData → Seat → List Field → List OxcDiagnostic
  told_below no_docs ks o s rs = []
  told_below (doc d ds) ks o s [] = []
  told_below (doc d ds) ks o s (r ∷ rs) = told_in d ks o s r.holds ++ told_below ds ks o s rs

  -- of the first of them alone
  pub told_first : Docs → (ℕ → Bool) → TransformData → Seat → List Field → List OxcDiagnostic
  told_first no_docs ks o s rs = []
  told_first (doc d ds) ks o s rs = told_in d ks o s (held_by (slice_get rs 0))

-- diagnostics of the kind are told for the sake of namespaces
abbrev pub is_of_namespaces : DiagnosticKind → Bool
is_of_namespaces diagnostic.NamespaceNotSupported = true
is_of_namespaces diagnostic.AmbientModuleNested = true
is_of_namespaces diagnostic.NamespaceExportingNonConst = true
is_of_namespaces k = false

-- what is told for the sake of namespaces, and then the rest
abbrev pub namespaces_first : List OxcDiagnostic → List OxcDiagnostic
namespaces_first ts = filter (λ t. is_of_namespaces t.kind) ts ++ filter (λ t. not (is_of_namespaces t.kind)) ts

-- The diagnostics of a source in which that is kept: those of namespaces in the order of the text, and then the others so.
-- A file of definitions has none.
abbrev pub diagnostics : (ℕ → Bool) → TransformData → Doc → List OxcDiagnostic
diagnostics ks o d =
    if is_definition_file d then []
    else namespaces_first (told_in d ks o seat.Elsewhere (holds.Node category.Program))
