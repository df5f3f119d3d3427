-- The constants of the members of enums, each by those that stand before it.
use Rattle.std.specs.Prelude.{ℕ, List, [], ◌∷◌, ◌++◌, Bool, false, ◌&&◌, ◌==◌, Option, None, Some, option_map, is_some, find, fold, map}
use Rattle.std.specs.Option.{option_and_then}
use Rattle.std.specs.Str.{bytes_eq}
use Rattle.oxt_constant.specs.Evaluated.{Env}
use Rattle.oxt_constant.specs.Following.{Preceding, nothing, member, is_wide, member_constant}
use Rattle.oxt_enums.specs.Blocks.{Block, blocks_in}
use Rattle.oxt_enums.specs.Members.{Found, members_of}
use Rattle.oxt_enums.specs.declared.constants.MemberConstant.{MemberConstant}
use Rattle.oxt_scopes.specs.Owners.{Owned, owners_of}
use Rattle.oxt_scopes.specs.Nestings.{Opened, scopes_of}
use Rattle.oxt_names.specs.Constant.{Constant, constant_view}
use Rattle.oxt_tree.specs.Doc.{Doc}

-- a member, the block in which it stands, its constant, and whether it would be larger than the
-- largest
pub record Known : Type 0 where
  pub member : Found
  pub block : Option Block
  pub value : Option Constant
  pub is_wide : Bool

-- what the name means that has that number: the scope of its group, none where it is free
abbrev pub owner_in : List Owned → ℕ → Option ℕ
owner_in os i = option_and_then (λ (o : Owned). o.owner) (find (λ (o : Owned). i == o.node) os)

-- the block whose body has that number
abbrev pub block_in : List Block → ℕ → Option Block
block_in bs i = find (λ (b : Block). i == b.body) bs

-- what the first of them that passes the test has for a constant
abbrev pub first_value : (Known → Bool) → List Known → Option (Option Constant)
first_value p ks = option_map (λ (k : Known). k.value) (find p ks)

abbrev pub flat : Option (Option Constant) → Option Constant
flat None = None
flat (Some v) = v

abbrev pub has_number : ℕ → Known → Bool
has_number i k = i == k.member.number

-- that is the name
abbrev pub is_named : List ℕ → Option (List ℕ) → Bool
is_named t None = false
is_named t (Some u) = bytes_eq t u

-- a member of that name in the body of that number
abbrev pub is_in_body : ℕ → List ℕ → Known → Bool
is_in_body n t k = n == k.member.spot.block && is_named t k.member.name

-- a block of the enum of that name in the scope of that number
abbrev pub is_block_of : ℕ → List ℕ → Option Block → Bool
is_block_of n e None = false
is_block_of n e (Some b) = n == b.scope && bytes_eq e b.name

-- a constant member of that name of such an enum
abbrev pub is_in_enum : ℕ → List ℕ → List ℕ → Known → Bool
is_in_enum n e t k = is_some k.value && (is_block_of n e k.block && is_named t k.member.name)

-- what names mean behind these members: a bare name the first member of its name in the body that
-- owns it, and the member of an enum the first of its name that is constant
abbrev pub meanings : (ℕ → Option ℕ) → List Known → Env
meanings owner ks = record {
  bare = λ i t. option_and_then (λ n. flat (first_value (is_in_body n t) ks)) (owner i);
  member = λ i e t. option_and_then (λ n. flat (first_value (is_in_enum n e t) ks)) (owner i);
}

-- what stands in front of a member in its block, by the number of that
abbrev pub preceding : Option ℕ → List Known → Preceding
preceding None ks = nothing
preceding (Some i) ks = member (flat (first_value (has_number i) ks))

abbrev pub is_emitted_block : Option Block → Bool
is_emitted_block None = false
is_emitted_block (Some b) = b.is_emitted

-- what is known of a member behind these
abbrev pub known_behind : (ℕ → Option ℕ) → (ℕ → Option Block) → List Known → Found → Known
known_behind owner block ks m = record {
  member = m;
  block = block m.spot.block;
  value = member_constant (meanings owner ks) (preceding m.spot.previous ks) m.initializer;
  is_wide = is_emitted_block (block m.spot.block) && is_wide (preceding m.spot.previous ks) m.initializer;
}

-- the same, behind them
abbrev pub one_more : (ℕ → Option ℕ) → (ℕ → Option Block) → List Known → Found → List Known
one_more owner block ks m = ks ++ known_behind owner block ks m ∷ []

-- what is known of these members, each behind those before it
abbrev pub all_known : (ℕ → Option ℕ) → (ℕ → Option Block) → List Found → List Known
all_known owner block ms = fold (one_more owner block) [] ms

-- what is known of the members of a whole tree, by the owners of its names and its scopes
abbrev pub known_in : List Owned → List Opened → Doc → List Known
known_in os ss d = all_known (owner_in os) (block_in (blocks_in ss)) (members_of d)

-- the same, by its own
abbrev pub known_of : Doc → List Known
known_of d = known_in (owners_of d) (scopes_of false d) d

-- the constant of a member: its number, its span, its constant, and whether it would be larger than
-- the largest
pub record Told : Type 0 where
  pub node : ℕ
  pub start : ℕ
  pub end : ℕ
  pub value : Option Constant
  pub is_wide : Bool

abbrev pub told : Known → Told
told k = record { node = k.member.number; start = k.member.start; end = k.member.end; value = k.value; is_wide = k.is_wide }

-- the constants of the members of a whole tree, in the order of the text
abbrev pub constants : Doc → List Told
constants d = map told (known_of d)

abbrev pub told_view : MemberConstant → Told
told_view m = record { node = m.node.0; start = m.span.start; end = m.span.end; value = option_map constant_view m.value; is_wide = m.is_wide }

abbrev pub told_views : List MemberConstant → List Told
told_views ms = map told_view ms
