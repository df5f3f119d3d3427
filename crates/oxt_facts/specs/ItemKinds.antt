-- The names of the kinds of items.
use Rattle.std.specs.Prelude.{ℕ, List, codes}
use Rattle.oxt_facts.specs.declared.item.ItemKind.{ItemKind}
use Rattle.oxt_facts.specs.declared.item.ItemKind.TheVariants as item

-- how an item's kind is named where a word is shown
abbrev pub item_kind_name : ItemKind → List ℕ
item_kind_name item.Hash = codes "Hash"
item_kind_name item.Dir = codes "Dir"
item_kind_name item.Open = codes "Open"
item_kind_name item.Close = codes "Close"
item_kind_name item.Nil = codes "Nil"
item_kind_name item.Str = codes "Str"
item_kind_name item.Num = codes "Num"
item_kind_name item.Private = codes "Private"
item_kind_name item.PrivateMade = codes "PrivateMade"
item_kind_name item.New = codes "New"
item_kind_name item.This = codes "This"
item_kind_name item.Name = codes "Name"
item_kind_name item.Made = codes "Made"
item_kind_name item.Keep = codes "Keep"
item_kind_name item.Get = codes "Get"
item_kind_name item.Put = codes "Put"
item_kind_name item.Eval = codes "Eval"
item_kind_name item.Set = codes "Set"
item_kind_name item.Bind = codes "Bind"
item_kind_name item.BindMade = codes "BindMade"
item_kind_name item.In = codes "In"
item_kind_name item.InMade = codes "InMade"
item_kind_name item.Out = codes "Out"
item_kind_name item.Found = codes "Found"
item_kind_name item.FoundMade = codes "FoundMade"
item_kind_name item.FoundMadeOn = codes "FoundMadeOn"
item_kind_name item.Field = codes "Field"
item_kind_name item.Define = codes "Define"
item_kind_name item.Key = codes "Key"
item_kind_name item.Body = codes "Body"
item_kind_name item.PassOn = codes "PassOn"
