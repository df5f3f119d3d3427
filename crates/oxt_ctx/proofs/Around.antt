-- The scopes that the nodes around open.
use Rattle.std.proofs.Common.{ℕ, ◌≡◌, ◌<◌, List, [], ◌∷◌, length, Option, None, Some, sym, subst, IfSome}
use Rattle.std.specs.Option.{option_or}
use Rattle.oxt_scoping.specs.Scoped.{Each, Scoped}
use Rattle.oxt_names.specs.declared.ids.ScopeId.{ScopeId}
use Rattle.oxt_ctx.specs.Context.{OpensOneOf, IsScoped, innermost_scope}
use Rattle.oxt_ctx.specs.declared.ancestor.AncestorRecord.{AncestorRecord}

-- a scope that is found is one of so many
or_live : (n : ℕ) (own further : Option ScopeId) → IfSome own (λ x. x.0 < n) → IfSome further (λ x. x.0 < n) → IfSome (option_or own further) (λ x. x.0 < n)
or_live n None further h live = live
or_live n (Some x) further h live = h

pub innermost_live : (n : ℕ) (rs : List AncestorRecord) → Each (OpensOneOf n) rs → IfSome (innermost_scope rs) (λ x. x.0 < n)
innermost_live n [] each = tt
innermost_live n (a ∷ rs) each = or_live n a.scope (innermost_scope rs) each.0 (innermost_live n rs each.1)

pub found_live : (n : ℕ) (rs : List AncestorRecord) (x : ScopeId) → innermost_scope rs ≡ Some x → Each (OpensOneOf n) rs → x.0 < n
found_live n rs x found each = subst (λ (o : Option ScopeId). IfSome o (λ y. y.0 < n)) found (innermost_live n rs each)

-- they are scopes of a table with as many scopes
pub still_scoped : (s t : Scoped) (rs : List AncestorRecord) → length t.scopes ≡ length s.scopes → IsScoped s rs → IsScoped t rs
still_scoped s t rs same scoped = subst (λ n. Each (OpensOneOf n) rs) (sym same) scoped
