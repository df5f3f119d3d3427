-- One field of a node alone.
use Rattle.std.proofs.Common.{arith, ℕ, zero, suc, length, ◌≤◌, ◌≡◌, refl, sym, ap, ◌∙◌, List, [], ◌∷◌, ◌++◌, map, Bool, true, false, cond, slice_get, Option, None, append-nil}
use Rattle.std.specs.List.{position_from}
use Rattle.std.specs.Prelude.{codes}
use Rattle.std.specs.Str.{bytes_eq}
use Rattle.oxt_enum_checks.specs.Shadows.{Shadow, all_at, all_shadows}
use Rattle.oxt_grammar.specs.Field.{Field, row_view}
use Rattle.oxt_grammar.specs.Keys.{key_of}
use Rattle.oxt_grammar.specs.Places.{same_field}
use Rattle.oxt_grammar.specs.declared.field.Field.{Field as FieldName}
use Rattle.oxt_grammar.specs.declared.field.Field.TheVariants as field
use Rattle.oxt_grammar.specs.declared.holds.Row.{Row}
use Rattle.oxt_names.specs.declared.ids.SymbolId.{SymbolId}
use Rattle.oxt_scoping.specs.Scoped.{Scoped}
use Rattle.oxt_tree.proofs.Places.{at_name_position, doc_at, position_from_map}
use Rattle.oxt_tree.specs.Doc.{Docs, no_docs, doc}
use Rattle.oxt_tree.specs.Fields.{at_name}
use Rattle.oxt_tree.specs.View.{doc_of_part, docs_in}
use Rattle.oxt_tree.specs.declared.tree.Part.{Part}

-- what the field of a name has is what the document has that it holds
at_is : (g : Bool) (s : Scoped) (ds : Docs) (rs : List Field) (name : List ℕ) (a : Option SymbolId) → all_shadows g s (at_name name rs ds) a ≡ all_at g s ds rs name a
at_is g s no_docs [] name a = refl
at_is g s no_docs (r ∷ rs) name a = refl
at_is g s (doc d ds) [] name a = refl
at_is g s (doc d ds) (r ∷ rs) name a = by (bytes_eq r.name name) (at_is g s ds rs name a)
  where
    by : (b : Bool) → all_shadows g s (at_name name rs ds) a ≡ all_at g s ds rs name a
        → all_shadows g s (cond b d (at_name name rs ds)) a ≡ cond b (all_shadows g s d a) (all_at g s ds rs name a)
    by true rest = refl
    by false rest = rest

-- the same by its place among the rows
pub place_is : (g : Bool) (s : Scoped) (a : Option SymbolId) (rs : List Row) (ps : List Part) (f : FieldName) (o : Option ℕ) → o ≡ position_from (λ row. same_field row.field f) 0 rs
    → all_shadows g s (doc_at ps o) a ≡ all_at g s (docs_in ps) (map row_view rs) (key_of f) a
place_is g s a rs ps f o place =
    ap (λ x. all_shadows g s (doc_at ps x) a) (place ∙ sym (position_from_map (λ r. bytes_eq r.name (key_of f)) row_view 0 rs))
    ∙ ap (λ d. all_shadows g s d a) (sym (at_name_position (key_of f) (map row_view rs) ps))
    ∙ at_is g s (docs_in ps) (map row_view rs) (key_of f) a

-- the decorators have no place
pub alone_done : (before : List Shadow) (g : Bool) (s : Scoped) (a : Option SymbolId) (rs : List Row) (ps : List Part) → None ≡ position_from (λ row. same_field row.field field.Decorators) 0 rs
    → before ≡ before ++ all_at g s (docs_in ps) (map row_view rs) (codes "decorators") a
alone_done before g s a rs ps place = sym (append-nil before) ∙ ap (λ xs. before ++ xs) (place_is g s a rs ps field.Decorators None place)

none_beyond : (ps : List Part) (i : ℕ) → length ps ≤ i → None ≡ slice_get ps i
none_beyond [] i le = refl
none_beyond (p ∷ ps) zero le = absurd (omega arith)
none_beyond (p ∷ ps) (suc i) le = none_beyond ps i (omega arith)

-- no part stands at a place
pub nothing_there : (before : List Shadow) (g : Bool) (s : Scoped) (a : Option SymbolId) (ps : List Part) (i : ℕ) → length ps ≤ i → before ≡ before ++ all_shadows g s (doc_of_part (slice_get ps i)) a
nothing_there before g s a ps i le = sym (append-nil before) ∙ ap (λ o. before ++ all_shadows g s (doc_of_part o) a) (none_beyond ps i le)
