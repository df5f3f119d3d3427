-- Bytes, their JSON value and the tree.
use Rattle.std.proofs.Common.{◌≡◌, ℕ, List, [], ◌∷◌, Bool, true, false, ◌&&◌, Option, Some, None, Ok, unwrap_or, cond, option_map, option_and_then, is_some, refl, sym, ap, ◌∙◌}
use Rattle.std.proofs.lemmas.Str.{is_utf8-from_IsUtf8, IsUtf8-from_is_utf8}
use Rattle.std.specs.Str.{IsUtf8, is_utf8}
use Rattle.json.specs.Json as json
use Rattle.json.specs.Lex.{tokens}
use Rattle.json.specs.Token.{Token}
use Rattle.serde_json.specs.Data.{Num, Data, number, array, object, Items, item, Members, no_members, put}
use Rattle.serde_json.specs.Read.{read, of_json, of_items, of_members, number_of}
use Rattle.oxt_tree.specs.Doc.{Doc}
use Rattle.oxt_names.specs.Names.{name_bytes}
use Rattle.oxt_json.specs.Data.{data_of, items_data, put_in, in_range, items_in_range, members_in_range}
use Rattle.oxt_json.specs.Faults.{IfShape, Shows}
use Rattle.oxt_json.specs.Misreads.{IsCause}
use Rattle.oxt_json.specs.Reading.{tree_of}
use Rattle.oxt_json.specs.Spelling.{reading, value_of, no_value, wrong, tree, answered, value_reading}
use Rattle.oxt_json.specs.declared.misread.Misread.{Misread}
use Rattle.oxt_json.specs.declared.misread.Misread.TheVariants as misread
use Rattle.oxt_json.specs.declared.read.ReadFault.{ReadFault}
use Rattle.oxt_json.specs.declared.read.ReadFault.TheVariants.{OutOfMemory, Json, Shape}

-- ---- the library's reading

number_at : (o : Option Num) (other : Num) → option_map number o ≡ cond (is_some o) (Some (number (unwrap_or o other))) None
number_at None other = refl
number_at (Some x) other = refl

mapped_at : {A B : Type 0} (f : A → B) (b : Bool) (x : A) → option_map f (cond b (Some x) None) ≡ cond b (Some (f x)) None
mapped_at f true x = refl
mapped_at f false x = refl

item_at : (b c : Bool) (d : Data) (ds : Items) → option_and_then (λ e. option_map (item e) (cond c (Some ds) None)) (cond b (Some d) None) ≡ cond (b && c) (Some (item d ds)) None
item_at true true d ds = refl
item_at true false d ds = refl
item_at false c d ds = refl

member_at : (b c : Bool) (f : Data → Option Members) (d : Data) (ms : Members) → f d ≡ cond c (Some ms) None → option_and_then f (cond b (Some d) None) ≡ cond (b && c) (Some ms) None
member_at true c f d ms is = is
member_at false c f d ms is = refl

-- it gives the data where every number is in range
mutual
  of_json-is : (j : json.Json) → of_json j ≡ cond (in_range j) (Some (data_of j)) None
  of_json-is json.null = refl
  of_json-is (json.boolean b) = refl
  of_json-is (json.number s) = number_at (number_of s) _
  of_json-is (json.string s) = refl
  of_json-is (json.array js) = ap (option_map array) (of_items-is js) ∙ mapped_at array (items_in_range js) (items_data js)
  of_json-is (json.object ms) = ap (option_map object) (of_members-is ms no_members) ∙ mapped_at object (members_in_range ms) (put_in ms no_members)

  of_items-is : (js : json.Items) → of_items js ≡ cond (items_in_range js) (Some (items_data js)) None
  of_items-is json.no_items = refl
  of_items-is (json.item j js) =
      ap (λ o. option_and_then (λ e. option_map (item e) o) (of_json j)) (of_items-is js)
      ∙ ap (option_and_then (λ e. option_map (item e) (cond (items_in_range js) (Some (items_data js)) None))) (of_json-is j)
      ∙ item_at (in_range j) (items_in_range js) (data_of j) (items_data js)

  of_members-is : (ms : json.Members) (found : Members) → of_members ms found ≡ cond (members_in_range ms) (Some (put_in ms found)) None
  of_members-is json.no_members found = refl
  of_members-is (json.member k j ms) found =
      ap (option_and_then (λ d. of_members ms (put k d found))) (of_json-is j)
      ∙ member_at (in_range j) (members_in_range ms) (λ d. of_members ms (put k d found)) (data_of j) (put_in ms (put k (data_of j) found)) (of_members-is ms (put k (data_of j) found))

-- ---- the value

value_read : (bytes : List ℕ) (o : Option Data) → IsUtf8 bytes → read bytes ≡ o → value_of bytes ≡ o
unfolding value_of
value_read bytes o utf8 is = rw (is_utf8-from_IsUtf8 bytes utf8) is

pub value_some : (bytes : List ℕ) (j : json.Json) → IsUtf8 bytes → json.value 127 (tokens bytes) ≡ Some (j, []) → in_range j ≡ true → value_of bytes ≡ Some (data_of j)
value_some bytes j utf8 is inside = value_read bytes _ utf8 (rw is (of_json-is j ∙ rw inside refl))

-- a number is out of range
pub value_outside : (bytes : List ℕ) (j : json.Json) → IsUtf8 bytes → json.value 127 (tokens bytes) ≡ Some (j, []) → in_range j ≡ false → value_of bytes ≡ None
value_outside bytes j utf8 is outside = value_read bytes _ utf8 (rw is (of_json-is j ∙ rw outside refl))

-- something follows
pub value_more : (bytes : List ℕ) (j : json.Json) (t : Token) (ts : List Token) → IsUtf8 bytes → json.value 127 (tokens bytes) ≡ Some (j, t ∷ ts) → value_of bytes ≡ None
value_more bytes j t ts utf8 is = value_read bytes _ utf8 (rw is refl)

pub value_none : (bytes : List ℕ) → IsUtf8 bytes → json.value 127 (tokens bytes) ≡ None → value_of bytes ≡ None
value_none bytes utf8 is = value_read bytes _ utf8 (rw is refl)

value_not_at : (bytes : List ℕ) (b : Bool) → is_utf8 bytes ≡ b → (IsUtf8 bytes → ⊥) → cond b (read bytes) None ≡ None
value_not_at bytes true is none = absurd (none (IsUtf8-from_is_utf8 bytes is))
value_not_at bytes false is none = refl

pub value_not_utf8 : (bytes : List ℕ) → (IsUtf8 bytes → ⊥) → value_of bytes ≡ None
unfolding value_of
value_not_utf8 bytes none = value_not_at bytes (is_utf8 bytes) refl none

pub reading_tree : (bytes : List ℕ) (d : Data) (x : Doc) (n : ℕ) → value_of bytes ≡ Some d → tree_of d ≡ Ok (x, n) → reading bytes ≡ tree x n
reading_tree bytes d x n is read = ap value_reading is ∙ ap answered read

pub reading_none : (bytes : List ℕ) → value_of bytes ≡ None → reading bytes ≡ no_value
reading_none bytes is = ap value_reading is

pub reading_wrong : (bytes : List ℕ) (d : Data) (m : Misread) (f : ReadFault) → value_of bytes ≡ Some d → IsCause (tree_of d) m → Shows m f
    → IfShape (λ place. reading bytes ≡ wrong (name_bytes place)) f
reading_wrong bytes d m OutOfMemory is cause shows = tt
reading_wrong bytes d m Json is cause shows = tt
reading_wrong bytes d misread.OutOfMemory (Shape place) is cause shows = absurd shows
reading_wrong bytes d (misread.At text) (Shape place) is cause shows = ap value_reading is ∙ ap answered cause ∙ ap wrong (sym shows)
