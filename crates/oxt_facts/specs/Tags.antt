-- Tags: what an item of a made name is spelled by, its spelling at first, then a number.
use Rattle.std.specs.Prelude.{ℕ, List, [], ◌∷◌, ◌++◌, Bool, true, false, if◌then◌else◌, Option, None, Some}
use Rattle.std.specs.List.{list_any, position_or_len}
use Rattle.std.specs.Str.{bytes_eq}
use Rattle.oxt_tree.specs.Doc.{number}
use Rattle.oxt_tree.specs.Fields.{text_in}
use Rattle.oxt_facts.specs.Entry.{Entry}
use Rattle.oxt_facts.specs.declared.item.ItemKind.{ItemKind}
use Rattle.oxt_facts.specs.declared.item.ItemKind.TheVariants as item

-- the items that stand for a made name
abbrev pub is_tagged : ItemKind → Bool
is_tagged item.Made = true
is_tagged item.PrivateMade = true
is_tagged item.Keep = true
is_tagged item.BindMade = true
is_tagged item.InMade = true
is_tagged m = false

-- the made name that an item stands for
abbrev pub tag_in : Entry → Option (List ℕ)
tag_in e = if is_tagged e.kind then text_in e.spelling else None

-- the tags that were met, and that one
abbrev pub noted : List (List ℕ) → Option (List ℕ) → List (List ℕ)
noted ts None = ts
noted ts (Some t) = if list_any (bytes_eq t) ts then ts else ts ++ t ∷ []

-- an item with its tag as the number of those that were met before it first
abbrev pub with_number : List (List ℕ) → Entry → Option (List ℕ) → Entry
with_number ts e None = e
with_number ts e (Some t) = record e { spelling = number (position_or_len (bytes_eq t) ts) }

-- items with their tags numbered by their first occurrence, behind those that were met
abbrev pub numbered : List (List ℕ) → List Entry → List Entry
numbered ts [] = []
numbered ts (e ∷ es) = with_number ts e (tag_in e) ∷ numbered (noted ts (tag_in e)) es
