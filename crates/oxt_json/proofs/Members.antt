-- How the member at a key reads.
use Rattle.std.proofs.Common.{◌≡◌, ℕ, List, Option, Some, None, Ordering, Less, Equal, Greater, nat_cmp, option_map, refl, sym, ap, ◌∙◌}
use Rattle.std.specs.Cmp.Lexicographic.{slice_cmp}
use Rattle.std.specs.Ordering.{match_ordering}
use Rattle.serde_json.specs.Data.{Data, object, Members, no_members, member}
use Rattle.serde_json.specs.Find.{get_member}
use Rattle.oxt_grammar.specs.Keys.{key_of}
use Rattle.oxt_grammar.specs.Field.{row_view}
use Rattle.oxt_grammar.specs.Places.{narrow, category_of}
use Rattle.oxt_grammar.specs.declared.category.Category.{Category}
use Rattle.oxt_grammar.specs.declared.context.Setting.{Setting}
use Rattle.oxt_grammar.specs.declared.holds.Holds.{Holds}
use Rattle.oxt_grammar.specs.declared.holds.Holds.TheVariants as holds
use Rattle.oxt_grammar.specs.declared.holds.Row.{Row}
use Rattle.oxt_tree.specs.Doc.{Doc}
use Rattle.oxt_json.specs.Answer.{Answer, allowed}
use Rattle.oxt_json.specs.Reading.{read_as, member_as, missing_doc, field_as}

map-match_ordering : (o : Ordering) (a b c : Option Data) → option_map read_as (match_ordering o a b c) ≡ match_ordering o (option_map read_as a) (option_map read_as b) (option_map read_as c)
map-match_ordering Less a b c = refl
map-match_ordering Equal a b c = refl
map-match_ordering Greater a b c = refl

-- it reads as what is found there
member_as-get_member : (ms : Members) (name : List ℕ) → member_as ms name ≡ option_map read_as (get_member name ms)
member_as-get_member no_members name = refl
member_as-get_member (member key d ms) name =
    ap (λ r. match_ordering (slice_cmp nat_cmp name key) r (Some (read_as d)) r) (member_as-get_member ms name)
    ∙ sym (map-match_ordering (slice_cmp nat_cmp name key) _ _ _)

-- a field that is there reads as what stands in it
pub found_as : (r : Row) (ms : Members) (s inner : Setting) (n : ℕ) (d : Data) (h : Holds) → Some d ≡ get_member (key_of r.field) ms → h ≡ narrow s r.holds
    → field_as (row_view r) (member_as ms (key_of r.field)) s inner n ≡ read_as d inner h n
found_as r ms s inner n d h is narrowed = rw (member_as-get_member ms (key_of r.field), ← is, narrowed)

-- a field that is not there
pub absent_as : (r : Row) (ms : Members) (s inner : Setting) (n : ℕ) → None ≡ get_member (key_of r.field) ms
    → field_as (row_view r) (member_as ms (key_of r.field)) s inner n ≡ allowed (missing_doc (row_view r)) n
absent_as r ms s inner n is = rw (member_as-get_member ms (key_of r.field), ← is)

-- an object at a place that holds nodes
pub object_as : (d : Data) (ms : Members) (s : Setting) (h : Holds) (c : Category) (n : ℕ) (x : Answer Doc) → d ≡ object ms → category_of h ≡ Some c → read_as (object ms) s (holds.Node c) n ≡ x
    → read_as d s h n ≡ x
object_as d ms s h c n x is held read = rw (is, held) read
