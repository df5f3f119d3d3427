-- The tokens that are written for data.
use Rattle.std.specs.Prelude.{ℕ, List, [], ◌∷◌, Option, None, Some}
use Rattle.json.specs.Token.{Token}
use Rattle.json.specs.Tree.{json_tokens, items_tokens, members_tokens}
use Rattle.serde_json.specs.Data.{Data, Items, Members}
use Rattle.serde_json.specs.Written.{outline, items_outline, members_outline}

-- those of a value
abbrev pub tokens_of : Data → List Token
tokens_of d = json_tokens (outline d)

-- those of the items of an array that are left, and of its end
abbrev pub item_tokens : Items → List Token
item_tokens ds = items_tokens (items_outline ds)

-- those of the members of an object that are left, and of its end
abbrev pub member_tokens : Members → List Token
member_tokens ms = members_tokens (members_outline ms)

-- those of one member, where it is there
abbrev pub one_member : List ℕ → Option Data → List Token
one_member key None = []
one_member key (Some d) = Token.key key ∷ tokens_of d
