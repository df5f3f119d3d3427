-- Tables of constants, as contracts see them.
use denote.Ref.{Bor}
use Rattle.std.specs.Prelude.{ℕ, suc, List, [], ◌∷◌, ◌≡◌, Bool, ◌&&◌, ◌==◌, if◌then◌else◌, Option, None, Some, map, option_map, slice_get}
use Rattle.std.specs.Map.{lookup}
use Rattle.std.specs.Option.{option_and_then}
use Rattle.std.specs.Str.{bytes_eq}
use Rattle.oxt_constant.specs.Evaluated.{Env}
use Rattle.oxt_constant.specs.Following.{Preceding, nothing, member}
use Rattle.oxt_enums.specs.Blocks.{Block, block_view}
use Rattle.oxt_enums.specs.Constants.{Known, flat, first_value, has_number, is_in_body, is_in_enum, told, told_views}
use Rattle.oxt_enums.specs.declared.constants.Evaluated.{Evaluated}
use Rattle.oxt_enums.specs.declared.homes.Homes.{Homes}
use Rattle.oxt_enums.specs.declared.owners.Owners.{Owners}
use Rattle.oxt_enums.specs.declared.tables.Tables.{Tables}
use Rattle.oxt_scopes.specs.Stack.{number_at}
use Rattle.oxt_names.specs.Constant.{Constant, constant_view}
use Rattle.oxt_names.specs.declared.constant.ConstantValue.{ConstantValue}

-- of what a table has for a constant
abbrev pub value_view : Option ConstantValue → Option Constant
value_view v = option_map constant_view v

-- what stands at a number
abbrev pub at_number : {V : Type 0} → ℕ → List (ℕ × V) → Option V
at_number i es = lookup (λ k. i == k) es

abbrev pub Name : Type 0
Name = ℕ × Bor (List ℕ)

-- what stands at a number and a name
abbrev pub at_name : {V : Type 0} → ℕ → List ℕ → List (Name × V) → Option V
at_name n t es = lookup (λ k. n == k.0 && bytes_eq t k.1.now) es

abbrev pub Path : Type 0
Path = ℕ × Bor (List ℕ) × Bor (List ℕ)

-- what stands at a number and two names
abbrev pub at_path : {V : Type 0} → ℕ → List ℕ → List ℕ → List (Path × V) → Option V
at_path n e t es = lookup (λ k. (n == k.0 && bytes_eq e k.1.now) && bytes_eq t k.2.now) es

-- what stands at a place of the list of constants
abbrev pub value_in : Tables → ℕ → Option (Option Constant)
value_in t p = option_map value_view (slice_get t.values.items p)

abbrev pub in_numbers : ℕ → Tables → Option (Option Constant)
in_numbers i t = option_and_then (value_in t) (at_number i t.numbers.entries)

abbrev pub in_bodies : ℕ → List ℕ → Tables → Option (Option Constant)
in_bodies n x t = option_and_then (value_in t) (at_name n x t.bodies.entries)

abbrev pub in_enums : ℕ → List ℕ → List ℕ → Tables → Option (Option Constant)
in_enums n e x t = option_and_then (value_in t) (at_path n e x t.enums.entries)

abbrev pub constant_of : Known → Option Constant
constant_of k = k.value

-- the place of the first of them that passes the test
abbrev pub first_place : (Known → Bool) → List Known → Option ℕ
first_place p [] = None
first_place p (k ∷ ks) = if p k then Some 0 else option_map (λ i. suc i) (first_place p ks)

-- The tables have the constants of these members.
pub record Knows (t : Tables) (ks : List Known) : Type 0 where
  pub values : map value_view t.values.items ≡ map constant_of ks
  pub number_places : (i : ℕ) → at_number i t.numbers.entries ≡ first_place (has_number i) ks
  pub body_places : (n : ℕ) (x : List ℕ) → at_name n x t.bodies.entries ≡ first_place (is_in_body n x) ks
  pub enum_places : (n : ℕ) (e x : List ℕ) → at_path n e x t.enums.entries ≡ first_place (is_in_enum n e x) ks
  pub numbers : (i : ℕ) → in_numbers i t ≡ first_value (has_number i) ks
  pub bodies : (n : ℕ) (x : List ℕ) → in_bodies n x t ≡ first_value (is_in_body n x) ks
  pub enums : (n : ℕ) (e x : List ℕ) → in_enums n e x t ≡ first_value (is_in_enum n e x) ks

-- the owner of the name of that number
abbrev pub owner_at : ℕ → Owners → Option ℕ
owner_at i o = option_and_then number_at (at_number i o.owners.entries)

-- the block whose body has that number
abbrev pub home_at : ℕ → Homes → Option Block
home_at i h = option_map block_view (at_number i h.blocks.entries)

-- what names mean by these tables
abbrev pub table_meanings : Owners → Tables → Env
table_meanings o t = record {
  bare = λ i x. option_and_then (λ n. flat (in_bodies n x t)) (owner_at i o);
  member = λ i e x. option_and_then (λ n. flat (in_enums n e x t)) (owner_at i o);
}

-- what stands in front of a member, by the number of that
abbrev pub preceding_at : Option ℕ → Tables → Preceding
preceding_at None t = nothing
preceding_at (Some i) t = member (flat (in_numbers i t))

-- The list and the tables have the constants of these members.
pub record Tells (c : Evaluated) (ks : List Known) : Type 0 where
  pub list : told_views c.constants.items ≡ map told ks
  pub tables : Knows c.tables ks
