-- What is said of a symbol or a reference is said of the one that is found.
use Rattle.std.proofs.Common.{◌≡◌, ◌∙◌, refl, sym, ap, ℕ, List, ◌∷◌, false, Option, None, Some, option_map, is_some}
use Rattle.std.specs.Prelude.{slice_get, ◌==◌}
use Rattle.std.specs.BTreeMap.{insert_entry}
use Rattle.std.specs.Ordering.{nat_cmp}
use Rattle.oxt_facts.specs.Told.{Tellings, block, member, bare}
use Rattle.oxt_scoping.specs.Entries.{SymbolData}
use Rattle.oxt_scoping.specs.Meant.{symbol_in}
use Rattle.oxt_scoping.specs.Scoped.{Scoped}
use Rattle.oxt_scoping.specs.declared.entry.Reference.{Reference}
use Rattle.oxt_names.specs.Constant.{Constant}
use Rattle.oxt_names.specs.declared.ids.ReferenceId.{ReferenceId}
use Rattle.oxt_names.specs.declared.ids.ScopeId.{ScopeId}
use Rattle.oxt_names.specs.declared.ids.SymbolId.{SymbolId}
use Rattle.oxt_told.specs.Source.{Around, Asked, all_told, ambient_told, around, bare_at, bares, block_told, members_bares, members_told, name_in, symbol_bares, symbol_told, value_of}
use Rattle.oxt_constant.specs.Reversed.{is_reversed}
use Rattle.oxt_told.specs.Syntax.{is_pure}
use Rattle.oxt_tree.specs.Doc.{Doc, Docs}

-- the name of the symbol that was found
name_is : (o : Option SymbolData) (t : List ℕ) → option_map (λ y. y.name) o ≡ Some t → Some t ≡ name_in o
name_is None t h = cc
name_is (Some y) t h = cc

pub name_found : (ys : List SymbolData) (o : Option SymbolId) (i : SymbolId) (t : List ℕ) → Some i ≡ o → option_map (λ y. y.name) (slice_get ys i.0) ≡ Some t → Some t ≡ name_in (symbol_in ys o)
name_found ys o i t found is = name_is (slice_get ys i.0) t is ∙ ap (λ p. name_in (symbol_in ys p)) found

-- what is told of a member whose symbol is there
symbol_is : (s : Scoped) (a : Around) (p : Option (List ℕ)) (n : ℕ) (d : Doc) (o : Option SymbolData) (t : List ℕ) (c : Option Constant) (rs : List ReferenceId)
    → option_map (λ y. y.name) o ≡ Some t → option_map (λ y. y.value) o ≡ Some c → option_map (λ y. y.references) o ≡ Some rs
    → symbol_told s a p n d o ≡ (n, member (record { owner = a.name; block = a.block; name = t; value = value_of c p d; is_reversed = is_reversed c d })) ∷ bares s a rs
symbol_is s a p n d None t c rs name value references = cc
symbol_is s a p n d (Some y) t c rs name value references = cc

pub symbol_found : (s : Scoped) (a : Around) (p : Option (List ℕ)) (n : ℕ) (d : Doc) (i : ℕ) (t : List ℕ) (c : Option Constant) (rs : List ReferenceId) (ts mid new : Tellings)
    → option_map (λ y. y.name) (slice_get s.symbols i) ≡ Some t → option_map (λ y. y.value) (slice_get s.symbols i) ≡ Some c → option_map (λ y. y.references) (slice_get s.symbols i) ≡ Some rs
    → mid ≡ insert_entry nat_cmp ts n (member (record { owner = a.name; block = a.block; name = t; value = value_of c p d; is_reversed = is_reversed c d }))
    → new ≡ all_told mid (bares s a rs)
    → new ≡ all_told ts (symbol_told s a p n d (slice_get s.symbols i))
symbol_found s a p n d i t c rs ts mid new name value references put rest =
    rest ∙ ap (λ x. all_told x (bares s a rs)) put
    ∙ sym (ap (all_told ts) (symbol_is s a p n d (slice_get s.symbols i) t c rs name value references))

-- nothing is told where the node declares nothing
pub nothing_declared : (s : Scoped) (a : Around) (p : Option (List ℕ)) (n : ℕ) (d : Doc) (o : Option SymbolId) (ts : Tellings) → None ≡ o → ts ≡ all_told ts (symbol_told s a p n d (symbol_in s.symbols o))
nothing_declared s a p n d o ts none = ap (λ q. all_told ts (symbol_told s a p n d (symbol_in s.symbols q))) none

-- what is told of the bare names of a member whose symbol is there
bares_are : (s : Scoped) (a : Around) (o : Option SymbolData) (rs : List ReferenceId) → option_map (λ y. y.references) o ≡ Some rs → symbol_bares s a o ≡ bares s a rs
bares_are s a None rs references = cc
bares_are s a (Some y) rs references = cc

pub bares_found : (s : Scoped) (a : Around) (o : Option SymbolId) (i : SymbolId) (rs : List ReferenceId) (ts new : Tellings) → Some i ≡ o → option_map (λ y. y.references) (slice_get s.symbols i.0) ≡ Some rs
    → new ≡ all_told ts (bares s a rs) → new ≡ all_told ts (symbol_bares s a (symbol_in s.symbols o))
bares_found s a o i rs ts new found references told =
    told ∙ ap (all_told ts) (sym (bares_are s a (slice_get s.symbols i.0) rs references))
    ∙ ap (λ q. all_told ts (symbol_bares s a (symbol_in s.symbols q))) found

pub no_bares : (s : Scoped) (a : Around) (o : Option SymbolId) (ts : Tellings) → None ≡ o → ts ≡ all_told ts (symbol_bares s a (symbol_in s.symbols o))
no_bares s a o ts none = ap (λ q. all_told ts (symbol_bares s a (symbol_in s.symbols q))) none

-- ---- blocks, whose symbols are there

ambient_is : (s : Scoped) (i : ℕ) (ms : Docs) (o : Option SymbolData) (a : Around) → option_map (λ y. around y i) o ≡ Some a → ambient_told s i ms o ≡ members_bares s a ms
ambient_is s i ms None a h = cc
ambient_is s i ms (Some y) a h = cc

pub ambient_found : (s : Scoped) (i : ℕ) (ms : Docs) (o : Option SymbolId) (e : Option SymbolData) (y : SymbolId) (a : Around) (ts new : Tellings) → Some y ≡ o → symbol_in s.symbols o ≡ e
    → option_map (λ y. around y i) (slice_get s.symbols y.0) ≡ Some a → new ≡ all_told ts (members_bares s a ms) → new ≡ all_told ts (ambient_told s i ms e)
ambient_found s i ms o e y a ts new found is h told =
    told ∙ ap (all_told ts) (sym (ambient_is s i ms (slice_get s.symbols y.0) a h))
    ∙ ap (λ q. all_told ts (ambient_told s i ms q)) (ap (symbol_in s.symbols) found ∙ is)

pub no_ambient : (s : Scoped) (i : ℕ) (ms : Docs) (o : Option SymbolId) (e : Option SymbolData) (ts : Tellings) → None ≡ o → symbol_in s.symbols o ≡ e → ts ≡ all_told ts (ambient_told s i ms e)
no_ambient s i ms o e ts none is = ap (λ q. all_told ts (ambient_told s i ms q)) (ap (symbol_in s.symbols) none ∙ is)

block_is : (s : Scoped) (p : Asked) (i : ℕ) (ms : Docs) (o : Option SymbolData) (a : Around) (x : ScopeId)
    → option_map (λ y. around y i) o ≡ Some a → option_map (λ y. y.scope) o ≡ Some x
    → block_told s p i ms o ≡ (i, block (record { name = a.name; group = a.group; node = i; is_first = p.first i; is_top = x.0 == 0; is_pure = is_pure ms })) ∷ members_told s a None ms
block_is s p i ms None a x h scope = cc
block_is s p i ms (Some y) a x h scope =
    let e : around y i ≡ a = cc in
    let f : y.scope ≡ x = cc in
    ap (λ (b : Around). (i, block (record { name = b.name; group = b.group; node = i; is_first = p.first i; is_top = y.scope.0 == 0; is_pure = is_pure ms })) ∷ members_told s b None ms) e
    ∙ ap (λ (z : ScopeId). (i, block (record { name = a.name; group = a.group; node = i; is_first = p.first i; is_top = z.0 == 0; is_pure = is_pure ms })) ∷ members_told s a None ms) f

-- the number of the block around members
block_number : (o : Option SymbolData) (i : ℕ) (a : Around) → option_map (λ y. around y i) o ≡ Some a → a.block ≡ i
block_number None i a h = cc
block_number (Some y) i a h = let e : around y i ≡ a = (cc) in ap (λ (b : Around). b.block) (sym e)

pub block_found : (s : Scoped) (p : Asked) (i : ℕ) (ms : Docs) (o : Option SymbolId) (e : Option SymbolData) (y : SymbolId) (a : Around) (x : ScopeId) (ts mid new : Tellings) → Some y ≡ o → symbol_in s.symbols o ≡ e
    → option_map (λ y. around y i) (slice_get s.symbols y.0) ≡ Some a → option_map (λ y. y.scope) (slice_get s.symbols y.0) ≡ Some x
    → mid ≡ insert_entry nat_cmp ts a.block (block (record { name = a.name; group = a.group; node = a.block; is_first = p.first i; is_top = x.0 == 0; is_pure = is_pure ms }))
    → new ≡ all_told mid (members_told s a None ms) → new ≡ all_told ts (block_told s p i ms e)
block_found s p i ms o e y a x ts mid new found is h scope put told =
    told
    ∙ ap (λ v. all_told v (members_told s a None ms)) (put ∙ ap (λ n. insert_entry nat_cmp ts n (block (record { name = a.name; group = a.group; node = n; is_first = p.first i; is_top = x.0 == 0; is_pure = is_pure ms }))) (block_number (slice_get s.symbols y.0) i a h))
    ∙ ap (all_told ts) (sym (block_is s p i ms (slice_get s.symbols y.0) a x h scope))
    ∙ ap (λ q. all_told ts (block_told s p i ms q)) (ap (symbol_in s.symbols) found ∙ is)

pub no_block : (s : Scoped) (p : Asked) (i : ℕ) (ms : Docs) (o : Option SymbolId) (e : Option SymbolData) (ts : Tellings) → None ≡ o → symbol_in s.symbols o ≡ e → ts ≡ all_told ts (block_told s p i ms e)
no_block s p i ms o e ts none is = ap (λ q. all_told ts (block_told s p i ms q)) (ap (symbol_in s.symbols) none ∙ is)

-- what is told of a reference that was not deleted, and of one that was
pub bare_found : (a : Around) (o : Option Reference) (r : Reference) (ts new : Tellings) → o ≡ Some r → new ≡ insert_entry nat_cmp ts r.node.0 (bare a.name a.group) → new ≡ all_told ts (bare_at a o)
bare_found a o r ts new is put = put ∙ ap (λ p. all_told ts (bare_at a p)) (sym is)

pub bare_gone : (a : Around) (o : Option Reference) (ts : Tellings) → is_some o ≡ false → ts ≡ all_told ts (bare_at a o)
bare_gone a None ts h = refl
bare_gone a (Some r) ts h = cc
