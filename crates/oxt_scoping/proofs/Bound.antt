-- The table of a scope's bindings, as contracts see it.
use Rattle.std.proofs.Common.{◌≡◌, refl, ap, ◌∙◌, ℕ, List, [], ◌∷◌, Bool, true, false, cond, filter, Option, Some, String, string_bytes, Ordering, Less, Equal, Greater, is_eq, nat_cmp}
use Rattle.std.proofs.lemmas.Map.Text.{is_eq-slice_cmp}
use Rattle.std.specs.BTreeMap.{insert_entry}
use Rattle.std.specs.Cmp.Lexicographic.{slice_cmp}
use Rattle.std.specs.Map.{lookup, remove_entry}
use Rattle.std.specs.Str.{bytes_eq}
use Rattle.std.specs.Ordering.{match_ordering}
use Rattle.std.specs.String.{string_cmp}
use Rattle.std.specs.declared.alloc.Global.{Global}
use Rattle.oxt_names.specs.declared.flags.ScopeFlags.{ScopeFlags}
use Rattle.oxt_names.specs.declared.ids.ScopeId.{ScopeId}
use Rattle.oxt_names.specs.declared.ids.SymbolId.{SymbolId}
use Rattle.oxt_scoping.specs.Entries.{Bindings, ScopeData, bind, bound_to, spelled, unbind}

abbrev pub Entry : Type 0
Entry = String Global × SymbolId

pub bound_inserted : (es : List Entry) (k : String Global) (v : SymbolId) → spelled (insert_entry string_cmp es k v) ≡ bind (string_bytes k) v (spelled es)
bound_inserted [] k v = refl
bound_inserted (e ∷ es) k v = by (slice_cmp nat_cmp (string_bytes k) (string_bytes e.0)) (bound_inserted es k v)
  where
    by : (o : Ordering) → spelled (insert_entry string_cmp es k v) ≡ bind (string_bytes k) v (spelled es)
        → spelled (match_ordering o ((k, v) ∷ e ∷ es) ((e.0, v) ∷ es) (e ∷ insert_entry string_cmp es k v))
        ≡ match_ordering o ((string_bytes k, v) ∷ (string_bytes e.0, e.1) ∷ spelled es) ((string_bytes e.0, v) ∷ spelled es) ((string_bytes e.0, e.1) ∷ bind (string_bytes k) v (spelled es))
    by Less rest = refl
    by Equal rest = refl
    by Greater rest = ap (λ bs. (string_bytes e.0, e.1) ∷ bs) rest

-- a spelling is found where it compares as equal
text_test : (t : List ℕ) → ◌≡◌ {A = String Global → Bool} (λ k. is_eq (slice_cmp nat_cmp t (string_bytes k))) (λ k. bytes_eq t (string_bytes k))
text_test t = λ j k. is_eq-slice_cmp t (string_bytes k) j

found : (t : List ℕ) (es : List Entry) → lookup (λ k. bytes_eq t (string_bytes k)) es ≡ bound_to t (spelled es)
found t [] = refl
found t (e ∷ es) = ap (λ (o : Option SymbolId). cond (bytes_eq t (string_bytes e.0)) (Some e.1) o) (found t es)

pub bound_found : (t : List ℕ) (es : List Entry) → lookup (λ k. is_eq (slice_cmp nat_cmp t (string_bytes k))) es ≡ bound_to t (spelled es)
bound_found t es = ap (λ test. lookup test es) (text_test t) ∙ found t es

removed : (t : List ℕ) (es : List Entry) → spelled (remove_entry (λ k. bytes_eq t (string_bytes k)) es) ≡ unbind t (spelled es)
removed t [] = refl
removed t (e ∷ es) = by (bytes_eq t (string_bytes e.0)) (removed t es)
  where
    by : (b : Bool) → spelled (remove_entry (λ k. bytes_eq t (string_bytes k)) es) ≡ unbind t (spelled es)
        → spelled (cond b es (e ∷ remove_entry (λ k. bytes_eq t (string_bytes k)) es)) ≡ cond b (spelled es) ((string_bytes e.0, e.1) ∷ unbind t (spelled es))
    by true rest = refl
    by false rest = ap (λ bs. (string_bytes e.0, e.1) ∷ bs) rest

pub bound_removed : (t : List ℕ) (es : List Entry) → spelled (remove_entry (λ k. is_eq (slice_cmp nat_cmp t (string_bytes k))) es) ≡ unbind t (spelled es)
bound_removed t es = ap (λ test. spelled (remove_entry test es)) (text_test t) ∙ removed t es

pub bound_kept : (p : SymbolId → Bool) (es : List Entry) → spelled (filter (λ e. p e.1) es) ≡ filter (λ b. p b.1) (spelled es)
bound_kept p [] = refl
bound_kept p (e ∷ es) = by (p e.1) (bound_kept p es)
  where
    by : (b : Bool) → spelled (filter (λ e. p e.1) es) ≡ filter (λ b. p b.1) (spelled es)
        → spelled (cond b (e ∷ filter (λ e. p e.1) es) (filter (λ e. p e.1) es)) ≡ cond b ((string_bytes e.0, e.1) ∷ filter (λ b. p b.1) (spelled es)) (filter (λ b. p b.1) (spelled es))
    by true rest = ap (λ bs. (string_bytes e.0, e.1) ∷ bs) rest
    by false rest = rest

abbrev changed : (Bindings → Bindings) → ScopeData → ScopeData
changed f s = record { parent = s.parent; flags = s.flags; bindings = f s.bindings }

abbrev put : Option ScopeId → ScopeFlags → Bindings → ScopeData
put p g bs = record { parent = p; flags = g; bindings = bs }

-- a scope whose bindings are changed
pub rebound : (f : Bindings → Bindings) (p : Option ScopeId) (g : ScopeFlags) (bs cs : Bindings) (v : ScopeData) → put p g bs ≡ v → cs ≡ f bs → put p g cs ≡ changed f v
rebound f p g bs cs v is e = ap (put p g) e ∙ ap (changed f) is
