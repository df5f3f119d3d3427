-- Blocks of namespaces, and the names that they export.
use Rattle.std.proofs.Common.{◌≡◌, ◌∙◌, refl, sym, ap, ℕ, ◌+◌, ◌<◌, ◌≤◌, List, [], ◌∷◌, ◌++◌, Bool, length, get_or, drop, append_assoc, append-nil, Option, None, Some, option_map}
use Rattle.std.specs.Prelude.{slice_get}
use Rattle.std.specs.BTreeMap.{insert_entry}
use Rattle.std.specs.Ordering.{nat_cmp}
use Rattle.oxt_facts.specs.Told.{Names, Namespace, Tellings, names_view, space}
use Rattle.oxt_facts.specs.declared.told.ToldName.{ToldName}
use Rattle.oxt_names.specs.declared.ids.SymbolId.{SymbolId}
use Rattle.oxt_scoping.specs.Entries.{SymbolData}
use Rattle.oxt_scoping.specs.Meant.{declared_symbol, symbol_in}
use Rattle.oxt_scoping.specs.Scoped.{Scoped}
use Rattle.oxt_told.proofs.Loops.{all_told-append}
use Rattle.oxt_told.specs.Namespaces.{declarator_told, declarators_told, declared_names, named_told, node_names, namespace_of, with_groups}
use Rattle.oxt_told.specs.Source.{all_told}
use Rattle.oxt_told.specs.Symbols.{group_of}
use Rattle.oxt_told.specs.declared.seat.Seat.{Seat}
use Rattle.oxt_names.proofs.Lists.{drop_at, drop_end}
use Rattle.oxt_tree.specs.Bound.{Bound, bound_view, bound_views}
use Rattle.oxt_tree.specs.declared.bound.BoundName.{BoundName}
use Rattle.oxt_tree.specs.Fields.{field_of}
use Rattle.oxt_names.specs.Names.{name_bytes}
use Rattle.oxt_tree.specs.View.{docs_in, part_doc}
use Rattle.oxt_tree.specs.declared.tree.Part.{Part}
use Rattle.std.specs.Prelude.{codes}

-- ---- a block whose symbol is there

namespace_is : (fs : ℕ → Bool) (q : Seat) (i : ℕ) (o : Option SymbolData) (x : Namespace) → option_map (λ y. namespace_of fs q i y) o ≡ Some x → named_told fs q i o ≡ (i, space x) ∷ []
namespace_is fs q i None x h = cc
namespace_is fs q i (Some y) x h = let e : namespace_of fs q i y ≡ x = cc in ap (λ (z : Namespace). (i, space z) ∷ []) e

pub namespace_found : (s : Scoped) (fs : ℕ → Bool) (q : Seat) (i : ℕ) (o : Option SymbolId) (e : Option SymbolData) (y : SymbolId) (x : Namespace) (ts new : Tellings) → Some y ≡ o → symbol_in s.symbols o ≡ e
    → option_map (λ y. namespace_of fs q i y) (slice_get s.symbols y.0) ≡ Some x → new ≡ insert_entry nat_cmp ts i (space x) → new ≡ all_told ts (named_told fs q i e)
namespace_found s fs q i o e y x ts new found is h put =
    put ∙ ap (all_told ts) (sym (namespace_is fs q i (slice_get s.symbols y.0) x h))
    ∙ ap (λ r. all_told ts (named_told fs q i r)) (ap (symbol_in s.symbols) found ∙ is)

pub no_namespace : (s : Scoped) (fs : ℕ → Bool) (q : Seat) (i : ℕ) (o : Option SymbolId) (e : Option SymbolData) (ts : Tellings) → None ≡ o → symbol_in s.symbols o ≡ e → ts ≡ all_told ts (named_told fs q i e)
no_namespace s fs q i o e ts none is = ap (λ r. all_told ts (named_told fs q i r)) (ap (symbol_in s.symbols) none ∙ is)

-- ---- names that declarators bind

pub names_appended : (old more new : List BoundName) (bs : List Bound) → new ≡ old ++ more → bound_views more ≡ bs → bound_views new ≡ bound_views old ++ bs
names_appended old more new bs is found = ap bound_views is ∙ both old more ∙ ap (λ x. bound_views old ++ x) found
  where
    both : (xs ys : List BoundName) → bound_views (xs ++ ys) ≡ bound_views xs ++ bound_views ys
    both [] ys = refl
    both (x ∷ xs) ys = ap (λ r. bound_view x ∷ r) (both xs ys)

pub declared_more : (whole : List Bound) (ps : List Part) (i : ℕ) (p : Part) (old new : List BoundName) → i < length ps → p ≡ get_or ps i p → bound_views new ≡ bound_views old ++ node_names (field_of (codes "id") (part_doc p))
    → whole ≡ bound_views old ++ declared_names (docs_in (drop i ps)) → whole ≡ bound_views new ++ declared_names (docs_in (drop (i + 1) ps))
declared_more whole ps i p old new within at is so_far =
    so_far ∙ ap (λ qs. bound_views old ++ declared_names (docs_in qs)) (drop_at ps i p within at)
    ∙ sym (append_assoc (bound_views old) (node_names (field_of (codes "id") (part_doc p))) (declared_names (docs_in (drop (i + 1) ps))))
    ∙ ap (λ v. v ++ declared_names (docs_in (drop (i + 1) ps))) (sym is)

pub declared_done : (whole : List Bound) (ps : List Part) (i : ℕ) (old : List BoundName) → length ps ≤ i → whole ≡ bound_views old ++ declared_names (docs_in (drop i ps)) → bound_views old ≡ whole
declared_done whole ps i old past so_far = sym (so_far ∙ ap (λ qs. bound_views old ++ declared_names (docs_in qs)) (drop_end ps i past) ∙ append-nil (bound_views old))

-- ---- their groups

pub one_appended : (old new : List ToldName) (n : ToldName) (t : List ℕ) (g : Option ℕ) → new ≡ old ++ n ∷ [] → name_bytes n.name ≡ t → n.group ≡ g → names_view new ≡ names_view old ++ (t, g) ∷ []
one_appended old new n t g is named grouped = ap names_view is ∙ both old (n ∷ []) ∙ ap (λ x. names_view old ++ (x, n.group) ∷ []) named ∙ ap (λ x. names_view old ++ (t, x) ∷ []) grouped
  where
    both : (xs ys : List ToldName) → names_view (xs ++ ys) ≡ names_view xs ++ names_view ys
    both [] ys = refl
    both (x ∷ xs) ys = ap (λ r. (name_bytes x.name, x.group) ∷ r) (both xs ys)

pub group_more : (s : Scoped) (whole : Names) (bs : List BoundName) (i : ℕ) (b : BoundName) (old new : List ToldName) → i < length bs → b ≡ get_or bs i b
    → names_view new ≡ names_view old ++ (name_bytes b.name, group_of (declared_symbol s b.node.0)) ∷ []
    → whole ≡ names_view old ++ with_groups s (bound_views (drop i bs)) → whole ≡ names_view new ++ with_groups s (bound_views (drop (i + 1) bs))
group_more s whole bs i b old new within at is so_far =
    so_far ∙ ap (λ cs. names_view old ++ with_groups s (bound_views cs)) (drop_at bs i b within at)
    ∙ sym (append_assoc (names_view old) ((name_bytes b.name, group_of (declared_symbol s b.node.0)) ∷ []) (with_groups s (bound_views (drop (i + 1) bs))))
    ∙ ap (λ v. v ++ with_groups s (bound_views (drop (i + 1) bs))) (sym is)

pub group_done : (s : Scoped) (whole : Names) (bs : List BoundName) (i : ℕ) (old : List ToldName) → length bs ≤ i → whole ≡ names_view old ++ with_groups s (bound_views (drop i bs)) → names_view old ≡ whole
group_done s whole bs i old past so_far = sym (so_far ∙ ap (λ cs. names_view old ++ with_groups s (bound_views cs)) (drop_end bs i past) ∙ append-nil (names_view old))

-- ---- declarators

pub declarator_more : (t : ℕ) (ts new : Tellings) (ps : List Part) (i : ℕ) (p : Part) → i < length ps → p ≡ get_or ps i p
    → new ≡ all_told ts (declarator_told t (part_doc p))
    → all_told ts (declarators_told t (docs_in (drop i ps))) ≡ all_told new (declarators_told t (docs_in (drop (i + 1) ps)))
declarator_more t ts new ps i p lt here told =
    ap (λ qs. all_told ts (declarators_told t (docs_in qs))) (drop_at ps i p lt here)
    ∙ all_told-append ts (declarator_told t (part_doc p)) (declarators_told t (docs_in (drop (i + 1) ps)))
    ∙ ap (λ x. all_told x (declarators_told t (docs_in (drop (i + 1) ps)))) (sym told)

pub declarator_done : (t : ℕ) (ts : Tellings) (ps : List Part) (i : ℕ) → length ps ≤ i → all_told ts (declarators_told t (docs_in (drop i ps))) ≡ ts
declarator_done t ts ps i le = ap (λ qs. all_told ts (declarators_told t (docs_in qs))) (drop_end ps i le)

pub ruleset declarator_steps = (declarator_more, declarator_done)
