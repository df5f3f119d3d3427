-- The scopes around a place, as the program keeps them: the innermost last.
use denote.Ref.{Bor}
use Rattle.std.specs.Prelude.{ℕ, List, [], ◌∷◌, Bool, true, false, ◌&&◌, if◌then◌else◌, Option, None, Some, option_map, fold}
use Rattle.std.specs.Map.{lookup}
use Rattle.std.specs.Str.{bytes_eq}
use Rattle.oxt_names.specs.declared.ids.NodeId.{NodeId}
use Rattle.oxt_scopes.specs.Scopes.{Level, beside}
use Rattle.oxt_declares.specs.declared.declaration.Sight.{Sight}
use Rattle.oxt_declares.specs.declared.declaration.Sight.TheVariants as sight
use Rattle.oxt_scopes.specs.declared.scope.Scope.{Scope}
use Rattle.oxt_scopes.specs.declared.scope.Seen.{Seen}

abbrev pub number_at : Option NodeId → Option ℕ
number_at None = None
number_at (Some i) = Some i.0

-- how a spelling is declared
abbrev pub seen_at : List ℕ → List (Bor (List ℕ) × Seen) → Option Seen
seen_at t es = lookup (λ k. bytes_eq t k.now) es

-- a spelling that is declared so is seen so
abbrev pub shows_seen : Sight → Option Seen → Bool
shows_seen s None = false
shows_seen sight.Value (Some v) = v.value
shows_seen sight.Type (Some v) = true
shows_seen sight.TypeParameter (Some v) = v.type_parameter

-- the block of the enum of that name with that member
abbrev pub block_at : List ℕ → List ℕ → List ((Bor (List ℕ) × Bor (List ℕ)) × NodeId) → Option ℕ
block_at e t es = number_at (lookup (λ k. bytes_eq e k.0.now && bytes_eq t k.1.now) es)

abbrev pub name_in : Option (Bor (List ℕ)) → Option (List ℕ)
name_in o = option_map (λ t. t.now) o

-- a scope, as names see it, within these
abbrev pub level_of : Scope → List Level → Level
level_of s ls = record {
  find = λ k t. if shows_seen k (seen_at t s.names.entries) then Some s.number.0 else beside (name_in s.enum_name) ls t;
  block = λ e t. block_at e t s.blocks.entries;
}

-- the innermost first
abbrev pub levels : List Scope → List Level
levels ss = fold (λ ls s. level_of s ls ∷ ls) [] ss

-- their numbers, the innermost first
abbrev pub scope_numbers : List Scope → List ℕ
scope_numbers ss = fold (λ ns s. s.number.0 ∷ ns) [] ss
