-- The first nodes that declare spellings, in the table.
use Rattle.std.proofs.Common.{◌≡◌, ◌∙◌, refl, sym, ap, ℕ, List, Bool, true, false, ◌&&◌, cond, Option, None, Some, true≢false}
use Rattle.std.proofs.lemmas.Bool.{eqb-true}
use Rattle.std.specs.Cmp.Lexicographic.{bytes_decides}
use Rattle.std.specs.Prelude.{◌==◌}
use Rattle.std.specs.Str.{bytes_eq}
use Rattle.std.specs.Map.{lookup, AreApart, IsKeyTest, KeepsOthers}
use Rattle.oxt_declares.specs.Declarations.{Declared}
use Rattle.oxt_resolve.specs.Groups.{First, Key, is_there, node_at, noted}
use Rattle.oxt_scopes.specs.Scopes.{or_else}

both_of : (b c : Bool) → (b && c) ≡ true → (b ≡ true) × (c ≡ true)
both_of true c h = (refl, h)
both_of false c h = absurd (true≢false (sym h))

abbrev pub same_keys : Key → Key → Bool
same_keys x y = (x.0 == y.0) && bytes_eq x.1.now y.1.now

-- what another test finds stays
others : (k : Key) (es new : List (Key × ℕ)) → KeepsOthers same_keys (same_keys k) es new → (other : Key → Bool) → IsKeyTest same_keys other → AreApart (same_keys k) other → lookup other new ≡ lookup other es
unfolding KeepsOthers
others k es new h = h

-- what stands there once a node is put
pub key_put : (n : ℕ) (t : List ℕ) (k : Key) (v : ℕ) (es new : List (Key × ℕ)) → lookup (same_keys k) new ≡ Some v → KeepsOthers same_keys (same_keys k) es new
    → node_at n t new ≡ cond (is_there n t k.0 k.1.now) (Some v) (node_at n t es)
key_put n t k v es new put stay = by (is_there n t k.0 k.1.now) refl
  where
    test : Key → Bool
    test x = is_there n t x.0 x.1.now

    one : (x y : Key) → test x ≡ true → test y ≡ same_keys x y
    one x y h =
        let both = both_of (n == x.0) (bytes_eq t x.1.now) h in
        let number = eqb-true n x.0 both.0 in
        let name = (bytes_decides t x.1.now).0 both.1 in
        λ j. is_there (number j) (name j) y.0 y.1.now

    apart : test k ≡ false → (x : Key) → same_keys k x ≡ true → test x ≡ false
    apart other x h =
        let both = both_of (k.0 == x.0) (bytes_eq k.1.now x.1.now) h in
        let number = sym (eqb-true k.0 x.0 both.0) in
        let name = sym ((bytes_decides k.1.now x.1.now).0 both.1) in
        (λ j. is_there n t (number j) (name j)) ∙ other

    by : (b : Bool) → test k ≡ b → lookup test new ≡ cond b (Some v) (lookup test es)
    by true e = ap (λ f. lookup f new) (λ j x. one k x e j) ∙ put
    by false e = others k es new stay test one (apart e)

-- the same spelling in the same scope
there : (f : First) (n : ℕ) (t : List ℕ) (m : ℕ) (u : List ℕ) → is_there n t m u ≡ true → f n t ≡ f m u
there f n t m u h =
    let both = both_of (n == m) (bytes_eq t u) h in
    let number = eqb-true n m both.0 in
    let name = (bytes_decides t u).0 both.1 in
    λ j. f (number j) (name j)

chosen : (b : Bool) (o : Option ℕ) (x : ℕ) → (b ≡ true → o ≡ None) → cond b (Some x) o ≡ or_else o (cond b (Some x) None)
chosen true o x h = sym (ap (λ p. or_else p (Some x)) (h refl))
chosen false None x h = refl
chosen false (Some y) x h = refl

kept : (b : Bool) (o : Option ℕ) (x y : ℕ) → (b ≡ true → o ≡ Some y) → o ≡ or_else o (cond b (Some x) None)
kept true o x y h = h refl ∙ sym (ap (λ p. or_else p (Some x)) (h refl))
kept false None x y h = refl
kept false (Some z) x y h = refl

-- a declaration is noted where none of its spelling was
pub noted_new : (old new : First) (m : ℕ) (d : Declared) → old m d.name ≡ None → ((n : ℕ) (t : List ℕ) → new n t ≡ cond (is_there n t m d.name) (Some d.node) (old n t)) → new ≡ noted m old d
noted_new old new m d none put = λ j n t. (put n t ∙ chosen (is_there n t m d.name) (old n t) d.node (λ h. there old n t m d.name h ∙ none)) j

-- and is not where one was
pub noted_before : (old : First) (m : ℕ) (d : Declared) (x : ℕ) → old m d.name ≡ Some x → old ≡ noted m old d
noted_before old m d x is = λ j n t. kept (is_there n t m d.name) (old n t) d.node x (λ h. there old n t m d.name h ∙ is) j

pub ruleset note_steps = (noted_new, noted_before)
