-- Tables that are filled from the last to the first.
use Rattle.std.proofs.Common.{◌≡◌, ◌∙◌, refl, sym, ap, ℕ, ◌+◌, ◌<◌, ◌≤◌, List, [], length, drop, get_or, arith, Bool, true, false, cond, Option, Some}
use Rattle.std.specs.Option.{option_and_then}
use Rattle.std.specs.Prelude.{◌==◌, find, option_map}
use Rattle.oxt_enums.specs.Blocks.{Block, block_view, block_views}
use Rattle.oxt_enums.specs.Constants.{block_in, owner_in}
use Rattle.oxt_enums.specs.Tables.{at_number}
use Rattle.oxt_enums.specs.declared.blocks.EnumBlock.{EnumBlock}
use Rattle.oxt_scopes.specs.OwnedViews.{owned_view, owned_views}
use Rattle.oxt_scopes.specs.Owners.{Owned}
use Rattle.oxt_scopes.specs.Stack.{number_at}
use Rattle.oxt_scopes.specs.declared.owners.OwnedName.{OwnedName}
use Rattle.oxt_names.proofs.Lists.{drop_at, drop_end}
use Rattle.oxt_names.specs.declared.ids.NodeId.{NodeId}

abbrev pub OwnerEntry : Type 0
OwnerEntry = ℕ × Option NodeId

-- the owners of the names from a place on
abbrev pub OwnersFrom : ℕ → List OwnedName → List OwnerEntry → Type 0
OwnersFrom i ns es = (q : ℕ) → option_and_then number_at (at_number q es) ≡ owner_in (owned_views (drop i ns)) q

pub owners_none : (ns : List OwnedName) (es : List OwnerEntry) → es ≡ [] → OwnersFrom (length ns) ns es
owners_none ns es empty q = ap (λ xs. option_and_then number_at (at_number q xs)) empty ∙ ap (λ xs. owner_in (owned_views xs) q) (sym (drop_end ns (length ns) (omega arith)))

owner_first : (b : Bool) (n : OwnedName) (rest : Option (Option NodeId)) (others : Option Owned) → option_and_then number_at rest ≡ option_and_then (λ (o : Owned). o.owner) others
    → option_and_then number_at (cond b (Some n.owner) rest) ≡ option_and_then (λ (o : Owned). o.owner) (cond b (Some (owned_view n)) others)
owner_first true n rest others h = refl
owner_first false n rest others h = h

pub owners_more : (ns : List OwnedName) (i j : ℕ) (n : OwnedName) (old new : List OwnerEntry) → i ≡ j + 1 → j < length ns → n ≡ get_or ns j n → ((q : ℕ) → at_number q new ≡ cond (q == n.node.0) (Some n.owner) (at_number q old)) → OwnersFrom i ns old → OwnersFrom j ns new
owners_more ns i j n old new next within at put so_far q =
    ap (option_and_then number_at) (put q)
    ∙ owner_first (q == n.node.0) n (at_number q old) (find (λ (o : Owned). q == o.node) (owned_views (drop (j + 1) ns))) (so_far q ∙ ap (λ k. owner_in (owned_views (drop k ns)) q) next)
    ∙ sym (ap (λ xs. owner_in (owned_views xs) q) (drop_at ns j n within at))

pub owners_all : (ns : List OwnedName) (i : ℕ) (es : List OwnerEntry) → i ≤ 0 → OwnersFrom i ns es → (q : ℕ) → option_and_then number_at (at_number q es) ≡ owner_in (owned_views ns) q
owners_all ns i es past so_far q = let at : i ≡ 0 = omega arith in so_far q ∙ ap (λ n. owner_in (owned_views (drop n ns)) q) at

abbrev pub BlockEntry : Type 0
BlockEntry = ℕ × EnumBlock

-- the blocks from a place on
abbrev pub BlocksFrom : ℕ → List EnumBlock → List BlockEntry → Type 0
BlocksFrom i bs es = (q : ℕ) → option_map block_view (at_number q es) ≡ block_in (block_views (drop i bs)) q

pub blocks_none : (bs : List EnumBlock) (es : List BlockEntry) → es ≡ [] → BlocksFrom (length bs) bs es
blocks_none bs es empty q = ap (λ xs. option_map block_view (at_number q xs)) empty ∙ ap (λ xs. block_in (block_views xs) q) (sym (drop_end bs (length bs) (omega arith)))

block_first : (b : Bool) (n : EnumBlock) (rest : Option EnumBlock) (others : Option Block) → option_map block_view rest ≡ others → option_map block_view (cond b (Some n) rest) ≡ cond b (Some (block_view n)) others
block_first true n rest others h = refl
block_first false n rest others h = h

pub blocks_more : (bs : List EnumBlock) (i j : ℕ) (b : EnumBlock) (old new : List BlockEntry) → i ≡ j + 1 → j < length bs → b ≡ get_or bs j b → ((q : ℕ) → at_number q new ≡ cond (q == b.body.0) (Some b) (at_number q old)) → BlocksFrom i bs old → BlocksFrom j bs new
blocks_more bs i j b old new next within at put so_far q =
    ap (option_map block_view) (put q)
    ∙ block_first (q == b.body.0) b (at_number q old) (block_in (block_views (drop (j + 1) bs)) q) (so_far q ∙ ap (λ k. block_in (block_views (drop k bs)) q) next)
    ∙ sym (ap (λ xs. block_in (block_views xs) q) (drop_at bs j b within at))

pub blocks_all : (bs : List EnumBlock) (i : ℕ) (es : List BlockEntry) → i ≤ 0 → BlocksFrom i bs es → (q : ℕ) → option_map block_view (at_number q es) ≡ block_in (block_views bs) q
blocks_all bs i es past so_far q = let at : i ≡ 0 = omega arith in so_far q ∙ ap (λ n. block_in (block_views (drop n bs)) q) at

pub ruleset owner_steps = (owners_none, owners_more, owners_all)

pub ruleset block_steps = (blocks_none, blocks_more, blocks_all)
