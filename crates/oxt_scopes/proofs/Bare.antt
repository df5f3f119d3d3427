-- What holds no nodes has no scopes and no names.
use Rattle.std.proofs.Common.{◌≡◌, refl, sym, ap, ◌∙◌, ℕ, List, [], ◌++◌, Bool, true, false, Option, None, Some, append-nil}
use Rattle.oxt_search.specs.Sought.{holds_nodes}
use Rattle.oxt_scopes.specs.Nestings.{Opened, read_scopes, scopes}
use Rattle.oxt_scopes.specs.Owners.{Owned, owners, read_so}
use Rattle.oxt_scopes.specs.Scopes.{Level}
use Rattle.oxt_scopes.specs.declared.standing.Standing.{Standing}
use Rattle.oxt_scopes.specs.declared.way.Way.{Way}
use Rattle.oxt_tree.specs.Doc.{Doc, nil, flag, number, text, list, node}

no_scopes_in : (d : Doc) (w : Way) (s : Standing) (ns : List ℕ) → holds_nodes d ≡ false → scopes d w s ns ≡ []
no_scopes_in nil w s ns h = refl
no_scopes_in (flag b) w s ns h = refl
no_scopes_in (number n) w s ns h = refl
no_scopes_in (text t) w s ns h = refl
no_scopes_in (list ds) w s ns h = absurd (cc)
no_scopes_in (node k i b e ds) w s ns h = absurd (cc)

no_scopes_read : (o : Option Way) (d : Doc) (s : Standing) (ns : List ℕ) → holds_nodes d ≡ false → read_scopes o (scopes d) s ns ≡ []
no_scopes_read None d s ns h = refl
no_scopes_read (Some w) d s ns h = no_scopes_in d w s ns h

no_owners_in : (d : Doc) (w : Way) (ls : List Level) → holds_nodes d ≡ false → owners d w ls ≡ []
no_owners_in nil w ls h = refl
no_owners_in (flag b) w ls h = refl
no_owners_in (number n) w ls h = refl
no_owners_in (text t) w ls h = refl
no_owners_in (list ds) w ls h = absurd (cc)
no_owners_in (node k i b e ds) w ls h = absurd (cc)

no_owners_read : (o : Option Way) (d : Doc) (ls : List Level) → holds_nodes d ≡ false → read_so o (owners d) ls ≡ []
no_owners_read None d ls h = refl
no_owners_read (Some w) d ls h = no_owners_in d w ls h

-- behind the scopes that there are
pub scopes_nothing : (before : List Opened) (o : Option Way) (d : Doc) (s : Standing) (ns : List ℕ) → holds_nodes d ≡ false → before ≡ before ++ read_scopes o (scopes d) s ns
scopes_nothing before o d s ns h = sym (append-nil before) ∙ ap (λ xs. before ++ xs) (sym (no_scopes_read o d s ns h))

-- behind the names that there are
pub owners_nothing : (before : List Owned) (o : Option Way) (d : Doc) (ls : List Level) → holds_nodes d ≡ false → before ≡ before ++ read_so o (owners d) ls
owners_nothing before o d ls h = sym (append-nil before) ∙ ap (λ xs. before ++ xs) (sym (no_owners_read o d ls h))

pub ruleset nothing_in = (scopes_nothing, owners_nothing)
