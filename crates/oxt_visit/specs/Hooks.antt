-- Which nodes a walk calls hooks for.
use Rattle.std.specs.Prelude.{Bool, false}
use Rattle.oxt_grammar.specs.Places.{same_kind}
use Rattle.oxt_grammar.specs.declared.category.Category.{Category}
use Rattle.oxt_grammar.specs.declared.kind.Kind.{Kind}
use Rattle.oxt_grammar.specs.declared.kind.Kind.TheVariants as kind
use Rattle.oxt_tree.specs.Doc.{Doc, node}
use Rattle.oxt_visit.specs.Place.{is_expression_kind}
use Rattle.oxt_visit.specs.Scope.{opens_scope}

-- those that are visited, by their place and kind, and those whose scopes are entered, by their kind
pub record Hooks : Type 0 where
  pub visits : Category → Kind → Bool
  pub enters : Kind → Bool

-- Expressions are visited, and scopes entered.
abbrev pub expressions_and_scopes : Hooks
expressions_and_scopes = record { visits = is_expression_kind; enters = opens_scope }

-- Expressions alone are visited.
abbrev pub expressions : Hooks
expressions = record { visits = is_expression_kind; enters = λ k. false }

-- Names that are used are visited alone, wherever they stand.
abbrev pub used_names : Hooks
used_names = record { visits = λ p k. same_kind k kind.IdentifierReference; enters = λ k. false }

-- The document is visited there.
abbrev pub is_visited : Hooks → Category → Doc → Bool
is_visited h p (node k i b e ds) = h.visits p k
is_visited h p d = false
