-- The made names of the program, as contracts see them.
use denote.Ref.{Bor}
use Rattle.std.specs.Prelude.{◌≡◌, ℕ, List, Option, map, option_map}
use Rattle.std.specs.Map.{lookup}
use Rattle.std.specs.Str.{bytes_eq}
use Rattle.oxt_certificate.specs.Bound.{MadeAt, binding_of, bound_again}
use Rattle.oxt_certificate.specs.declared.bound.Bindings.{Bindings}
use Rattle.oxt_certificate.specs.declared.bound.MadeName.{MadeName as Made}

abbrev pub made_view : Made → MadeAt
made_view n = record { node = n.node.0; name = n.name.now; is_binding = n.is_binding }

abbrev pub made_views : List Made → List MadeAt
made_views ns = map made_view ns

-- the number that a table has for the spelling
abbrev pub node_at : List ℕ → List (Bor (List ℕ) × ℕ) → Option ℕ
node_at t es = lookup (λ k. bytes_eq t k.now) es

abbrev pub node_in : Bindings → List ℕ → Option ℕ
node_in b t = node_at t b.nodes.entries

-- the table has the first bindings among the names, and the first spelling that two of them have
pub record IsTableOf (ns : List MadeAt) (b : Bindings) : Type 0 where
  pub nodes : (t : List ℕ) → node_in b t ≡ binding_of ns t
  pub again : option_map (λ t. t.now) b.again ≡ bound_again ns
