-- The data that JSON stands for. The library's reading gives it only where every number is in range; here a number that is not stands for one that no place holds.
use Rattle.std.specs.Prelude.{ℕ, List, Bool, true, ◌&&◌, negsuc, is_some, unwrap_or}
use Rattle.json.specs.Json as json
use Rattle.serde_json.specs.Data.{Num, negative, Data, null, boolean, number, string, array, object, Items, no_items, item, Members, no_members, put}
use Rattle.serde_json.specs.Read.{number_of}

abbrev pub num : List ℕ → Num
num s = unwrap_or (number_of s) (negative (negsuc 0))

abbrev mutual
  pub data_of : json.Json → Data
  data_of json.null = null
  data_of (json.boolean b) = boolean b
  data_of (json.number s) = number (num s)
  data_of (json.string s) = string s
  data_of (json.array js) = array (items_data js)
  data_of (json.object ms) = object (put_in ms no_members)

  pub items_data : json.Items → Items
  items_data json.no_items = no_items
  items_data (json.item j js) = item (data_of j) (items_data js)

  -- the members are put in one after another, so the last value of a key stays
  pub put_in : json.Members → Members → Members
  put_in json.no_members found = found
  put_in (json.member k j ms) found = put_in ms (put k (data_of j) found)

abbrev pub members_data : json.Members → Members
members_data ms = put_in ms no_members

-- every number is in range
abbrev mutual
  pub in_range : json.Json → Bool
  in_range json.null = true
  in_range (json.boolean b) = true
  in_range (json.number s) = is_some (number_of s)
  in_range (json.string s) = true
  in_range (json.array js) = items_in_range js
  in_range (json.object ms) = members_in_range ms

  pub items_in_range : json.Items → Bool
  items_in_range json.no_items = true
  items_in_range (json.item j js) = in_range j && items_in_range js

  pub members_in_range : json.Members → Bool
  members_in_range json.no_members = true
  members_in_range (json.member k j ms) = in_range j && members_in_range ms
