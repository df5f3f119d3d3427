-- Enums, a block at a time.
use Rattle.std.proofs.Common.{◌≡◌, ◌∙◌, refl, sym, ap, subst, ℕ, zero, suc, ◌+◌, ◌<◌, ◌≤◌, List, [], ◌∷◌, ◌++◌, map, take, length, get_or, append-nil, Bool, true, false, ◌&&◌, cond, Option, Some}
use Rattle.std.proofs.lemmas.List.{map-append, take_all, take_more}
use Rattle.std.proofs.lemmas.List.Elements.{filter-append}
use Rattle.std.specs.Map.{lookup}
use Rattle.std.specs.Prelude.{◌==◌, if◌then◌else◌, filter, option_map}
use Rattle.std.specs.Str.{bytes_eq}
use Rattle.oxt_enums.proofs.Firsts.{Puts as Comes, name_found, name_look, same_names}
use Rattle.oxt_enums.specs.Blocks.{Block, block_view, block_views}
use Rattle.oxt_enums.specs.Groups.{Entries, Enum, Puts, body_of, enum_in, enum_of, enum_view, extended, is_block_of, named_at, number_of}
use Rattle.oxt_enums.specs.Tables.{Name, at_name}
use Rattle.oxt_enums.specs.declared.blocks.EnumBlock.{EnumBlock}
use Rattle.oxt_enums.specs.declared.groups.Group.{Group}
use Rattle.oxt_names.specs.declared.ids.NodeId.{NodeId}

pub one_more : (old new : List NodeId) (i : NodeId) → new ≡ old ++ i ∷ [] → map number_of new ≡ map number_of old ++ i.0 ∷ []
one_more old new i is = ap (map number_of) is ∙ map-append number_of old (i ∷ [])

-- an enum with a block more at its end
enum_more : (bs : List Block) (b : Block) → enum_of (bs ++ b ∷ []) ≡ Some (extended (enum_of bs) b)
enum_more [] b = refl
enum_more (c ∷ bs) b = ap (λ ns. Some (record { is_const = c.is_const; bodies = c.body ∷ ns })) (map-append body_of bs (b ∷ []))

abbrev with_block : Bool → Option Enum → Block → Option Enum
with_block c e b = if c then Some (extended e b) else e

filtered_more : (c : Bool) (bs : List Block) (b : Block) → enum_of (bs ++ (if c then b ∷ [] else [])) ≡ with_block c (enum_of bs) b
filtered_more true bs b = enum_more bs b
filtered_more false bs b = ap enum_of (append-nil bs)

in_more : (bs : List Block) (b : Block) (n : ℕ) (t : List ℕ) → enum_in (bs ++ b ∷ []) n t ≡ with_block (is_block_of n t b) (enum_in bs n t) b
in_more bs b n t = ap enum_of (filter-append (is_block_of n t) bs (b ∷ [])) ∙ filtered_more (is_block_of n t b) (filter (is_block_of n t) bs) b

two_puts : (c : Bool) (g e : Group) (old at_key : Option Group) (b : Block) → (c ≡ true → old ≡ at_key) → enum_view g ≡ extended (option_map enum_view at_key) b
    → option_map enum_view (cond c (Some g) (cond c (Some e) old)) ≡ with_block c (option_map enum_view old) b
two_puts true g e old at_key b h is = ap (λ x. Some x) (is ∙ ap (λ o. extended (option_map enum_view o) b) (sym (h refl)))
two_puts false g e old at_key b h is = refl

pub block_put : (k : Name) (g e : Group) (b : EnumBlock) (before : Option Group) (old mid new : Entries) → k ≡ (b.scope.0, b.name) → before ≡ lookup (same_names k) old → Comes same_names k e old mid → Comes same_names k g mid new
    → enum_view g ≡ extended (option_map enum_view before) (block_view b) → Puts b old new
block_put k g e b before old mid new key had first second is = record {
  put = λ n t. subst (λ (x : Name). named_at n t new ≡ (if n == x.0 && bytes_eq t x.1.now then Some (extended (named_at n t old) (block_view b)) else named_at n t old)) key
      (ap (option_map enum_view) (name_look k g n t mid new second ∙ ap (cond (n == k.0 && bytes_eq t k.1.now) (Some g)) (name_look k e n t old mid first))
      ∙ two_puts (n == k.0 && bytes_eq t k.1.now) g e (at_name n t old) before (block_view b) (λ h. name_found k g n t old h ∙ sym had) is);
}

-- the enums of the blocks in front of a place
abbrev pub GroupsTo : ℕ → List EnumBlock → Entries → Type 0
GroupsTo i bs es = (n : ℕ) (t : List ℕ) → named_at n t es ≡ enum_in (block_views (take i bs)) n t

pub groups_none : (bs : List EnumBlock) (es : Entries) → es ≡ [] → GroupsTo 0 bs es
groups_none bs es empty n t = ap (named_at n t) empty

pub groups_next : (bs : List EnumBlock) (old new : Entries) (i : ℕ) (b : EnumBlock) → i < length bs → b ≡ get_or bs i b → GroupsTo i bs old → Puts b old new → GroupsTo (i + 1) bs new
groups_next bs old new i b within at so_far puts n t =
    puts.put n t ∙ ap (λ e. with_block (is_block_of n t (block_view b)) e (block_view b)) (so_far n t)
    ∙ sym (ap (λ xs. enum_in xs n t) front ∙ in_more (block_views (take i bs)) (block_view b) n t)
  where
    front : block_views (take (i + 1) bs) ≡ block_views (take i bs) ++ block_view b ∷ []
    front = ap block_views (take_more bs i b within ∙ ap (λ x. take i bs ++ x ∷ []) (sym at)) ∙ map-append block_view (take i bs) (b ∷ [])

pub groups_end : (bs : List EnumBlock) (es : Entries) (i : ℕ) → length bs ≤ i → GroupsTo i bs es → (n : ℕ) (t : List ℕ) → named_at n t es ≡ enum_in (block_views bs) n t
groups_end bs es i past so_far n t = so_far n t ∙ ap (λ xs. enum_in (block_views xs) n t) (take_all i bs past)

pub ruleset steps = (groups_none, groups_next, groups_end)

-- what stands at a place stands there whatever is taken where nothing does
pub same_get : {A : Type 0} (xs : List A) (i : ℕ) (d : A) → get_or xs i d ≡ get_or xs i (get_or xs i d)
same_get [] i d = refl
same_get (x ∷ xs) zero d = refl
same_get (x ∷ xs) (suc i) d = same_get xs i d
