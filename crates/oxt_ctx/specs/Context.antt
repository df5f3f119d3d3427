-- The context of a walk as contracts see it.
use Rattle.std.specs.Prelude.{ℕ, List, [], ◌∷◌, length, ◌<◌, Option, None, IfSome, unwrap_or}
use Rattle.std.specs.Option.{option_or}
use Rattle.oxt_names.specs.declared.diagnostic.OxcDiagnostic.{OxcDiagnostic}
use Rattle.oxt_options.specs.declared.state.TransformState.{TransformState}
use Rattle.oxt_options.specs.Facts.{Facts}
use Rattle.oxt_scoping.specs.Scoped.{Each, Scoped}
use Rattle.oxt_stores.specs.declared.declarations.VarDeclarationsStore.{VarDeclarationsStore}
use Rattle.oxt_injector.specs.declared.injector.StatementInjectorStore.{StatementInjectorStore}
use Rattle.oxt_names.specs.declared.ids.ScopeId.{ScopeId}
use Rattle.oxt_names.specs.declared.ids.NodeIds.{NodeIds}
use Rattle.oxt_ctx.specs.declared.ancestor.AncestorRecord.{AncestorRecord}

-- The table of names, the next number, the statements that wait to stand beside others, the declarators of the lists that are open, the plan, what is known of the run,
-- the diagnostics so far, and the nodes around, the innermost first.
pub record Context : Type 0 where
  pub scoping : Scoped
  pub ids : NodeIds
  pub injector : StatementInjectorStore
  pub declarations : VarDeclarationsStore
  pub plan : Facts
  pub state : TransformState
  pub diagnostics : List OxcDiagnostic
  pub ancestors : List AncestorRecord

-- the scope of the innermost node that opens one
abbrev pub innermost_scope : List AncestorRecord → Option ScopeId
innermost_scope [] = None
innermost_scope (a ∷ rs) = option_or a.scope (innermost_scope rs)

-- the scope of the program
abbrev pub program_scope : ScopeId
program_scope = record { 0 = 0 }

-- the innermost scope around; that of the program where no node around opens one
abbrev pub current_scope : List AncestorRecord → ScopeId
current_scope rs = unwrap_or (innermost_scope rs) program_scope

-- the scope that the node opens, if any, is one of so many
abbrev pub OpensOneOf : ℕ → AncestorRecord → Type 0
OpensOneOf n a = IfSome a.scope (λ x. x.0 < n)

-- the scopes that the nodes around open are scopes of the table
abbrev pub IsScoped : Scoped → List AncestorRecord → Type 0
IsScoped s rs = Each (OpensOneOf (length s.scopes)) rs
