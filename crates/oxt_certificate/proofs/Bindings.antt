-- The made names of a tree, one at a time.
use denote.Ref.{Bor}
use Rattle.std.proofs.Common.{arith, subst, Bool, true, false, ◌&&◌, if◌then◌else◌, Option, None, Some, ◌≡◌, ◌∙◌, sym, ap, ℕ, ◌+◌, ◌<◌, ◌≤◌, List, [], ◌∷◌, ◌++◌, length, drop, get_or, append_assoc, append-nil}
use Rattle.std.proofs.lemmas.Cmp.{nat_list_eq_equiv}
use Rattle.std.proofs.lemmas.List.{map-append}
use Rattle.std.proofs.lemmas.Map.Text.{hash_map_updates_str}
use Rattle.oxt_certificate.specs.Bound.{MadeAt, binding_of, bound_again, each_made, made_names, same_node, stray}
use Rattle.oxt_certificate.specs.BoundViews.{IsTableOf, made_view, made_views, node_at, node_in}
use Rattle.oxt_certificate.specs.declared.bound.Bindings.{Bindings}
use Rattle.oxt_certificate.specs.declared.bound.MadeName.{MadeName as Made}
use Rattle.std.specs.HashMap.{HashMap, Updates}
use Rattle.std.specs.Prelude.{is_some, option_map}
use Rattle.std.specs.Str.{bytes_eq}
use Rattle.oxt_facts.specs.Facts.{Known}
use Rattle.oxt_facts.specs.Owners.{Owners, owner_in}
use Rattle.oxt_names.proofs.Lists.{drop_at, drop_end}
use Rattle.oxt_tree.specs.View.{docs_in, part_doc}
use Rattle.oxt_tree.specs.declared.tree.Part.{Part}

pub made_end : (f : Known) (before : List MadeAt) (ps : List Part) (i : ℕ) → length ps ≤ i → before ++ each_made f (docs_in (drop i ps)) ≡ before
made_end f before ps i h = ap (λ qs. before ++ each_made f (docs_in qs)) (drop_end ps i h) ∙ append-nil before

pub made_next : (f : Known) (before after : List MadeAt) (ps : List Part) (i : ℕ) (p : Part) → i < length ps → p ≡ get_or ps i p → after ≡ before ++ made_names f (part_doc p)
    → before ++ each_made f (docs_in (drop i ps)) ≡ after ++ each_made f (docs_in (drop (i + 1) ps))
made_next f before after ps i p h e pushed =
    ap (λ qs. before ++ each_made f (docs_in qs)) (drop_at ps i p h e)
    ∙ sym (append_assoc before (made_names f (part_doc p)) (each_made f (docs_in (drop (i + 1) ps))))
    ∙ ap (λ ms. ms ++ each_made f (docs_in (drop (i + 1) ps))) (sym pushed)

pub ruleset made_steps = (made_next, made_end)

pub one_more : (old new : List Made) (m : Made) → new ≡ old ++ m ∷ [] → made_views new ≡ made_views old ++ made_view m ∷ []
one_more old new m is = ap made_views is ∙ map-append made_view old (m ∷ [])

-- ---- the table

abbrev same_names : Bor (List ℕ) → Bor (List ℕ) → Bool
same_names x y = bytes_eq x.now y.now

-- what is found once a binding is put
pub node_put : {S : Type 0} (t : List ℕ) (k : Bor (List ℕ)) (v : ℕ) (old new : HashMap (Bor (List ℕ)) ℕ S) → Updates same_names old new k (Some v) → node_at t new.entries ≡ (if bytes_eq t k.now then Some v else node_at t old.entries)
node_put t k v old new put =
    hash_map_updates_str k.now old new (Some v) put t
    ∙ ap (λ b. if b then Some v else node_at t old.entries) (nat_list_eq_equiv.symm k.now t)

abbrev names_of : Option (Bor (List ℕ)) → Option (List ℕ)
names_of o = option_map (λ t. t.now) o

-- a name in front of others: one that is bound, and one that is used
pub put_bound : (m : Made) (old new : Bindings) (ns : List MadeAt) → m.is_binding ≡ true
    → ((t : List ℕ) → node_in new t ≡ (if bytes_eq t m.name.now then Some m.node.0 else node_in old t))
    → names_of new.again ≡ (if is_some (node_in old m.name.now) then Some m.name.now else names_of old.again)
    → IsTableOf ns old → IsTableOf (made_view m ∷ ns) new
put_bound m old new ns b nodes again h =
    record {
      nodes = λ t. nodes t ∙ (ap (λ o. if bytes_eq t m.name.now then Some m.node.0 else o) (h.nodes t) ∙ ap (λ x. if x && bytes_eq t m.name.now then Some m.node.0 else binding_of ns t) (sym b));
      again = again ∙ (ap (λ o. if is_some o then Some m.name.now else names_of old.again) (h.nodes m.name.now) ∙ (ap (λ o. if is_some (binding_of ns m.name.now) then Some m.name.now else o) h.again ∙ ap (λ x. if x && is_some (binding_of ns m.name.now) then Some m.name.now else bound_again ns) (sym b)));
    }

pub put_used : (m : Made) (b : Bindings) (ns : List MadeAt) → m.is_binding ≡ false → IsTableOf ns b → IsTableOf (made_view m ∷ ns) b
put_used m b ns used h =
    record {
      nodes = λ t. h.nodes t ∙ ap (λ x. if x && bytes_eq t m.name.now then Some m.node.0 else binding_of ns t) (sym used);
      again = h.again ∙ ap (λ x. if x && is_some (binding_of ns m.name.now) then Some m.name.now else bound_again ns) (sym used);
    }

pub ruleset put_steps = (put_bound, put_used)

-- ---- the loops

-- the table of the names from that place on
pub front : (ms : List Made) (i : ℕ) (m : Made) (new : Bindings) → i < length ms → m ≡ get_or ms i m → IsTableOf (made_view m ∷ made_views (drop (i + 1) ms)) new → IsTableOf (made_views (drop i ms)) new
front ms i m new h e is = subst (λ ns. IsTableOf (made_views ns) new) (sym (drop_at ms i m h e)) is

pub none_yet : (ms : List Made) (b : Bindings) → IsTableOf [] b → IsTableOf (made_views (drop (length ms) ms)) b
none_yet ms b is = subst (λ ns. IsTableOf (made_views ns) b) (sym (drop_end ms (length ms) (omega arith))) is

pub ruleset table_steps = (front, none_yet)

pub no_stray : (os : Owners) (all : List MadeAt) (ms : List Made) (i : ℕ) → length ms ≤ i → stray os all (made_views (drop i ms)) ≡ None
no_stray os all ms i h = ap (λ ns. stray os all (made_views ns)) (drop_end ms i h)

next_stray : (b c : Bool) (o p : Option (List ℕ)) → b ≡ c → (if b then o else p) ≡ (if c then o else p)
next_stray b c o p e = ap (λ x. if x then o else p) e

pub stray_at : (os : Owners) (all : List MadeAt) (b : Bindings) (ms : List Made) (i : ℕ) (m : Made) → IsTableOf all b → i < length ms → m ≡ get_or ms i m
    → stray os all (made_views (drop i ms)) ≡ (if same_node (owner_in os m.node.0) (node_in b m.name.now) then stray os all (made_views (drop (i + 1) ms)) else Some m.name.now)
stray_at os all b ms i m is h e =
    ap (λ ns. stray os all (made_views ns)) (drop_at ms i m h e)
    ∙ ap (λ o. if same_node (owner_in os m.node.0) o then stray os all (made_views (drop (i + 1) ms)) else Some m.name.now) (sym (is.nodes m.name.now))

pub ruleset stray_steps = (stray_at, no_stray)
