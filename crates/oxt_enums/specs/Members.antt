-- The members of the enums of a document, in the order of the text.
use Rattle.std.specs.Prelude.{ℕ, List, [], ◌∷◌, ◌++◌, if◌then◌else◌, Option, None, Some, option_map, map, codes}
use Rattle.oxt_declares.specs.Declares.{member_name}
use Rattle.oxt_enums.specs.declared.members.Member.{Member}
use Rattle.oxt_enums.specs.declared.members.Place.{Place}
use Rattle.oxt_scopes.specs.Stack.{number_at}
use Rattle.oxt_grammar.specs.Places.{same_kind}
use Rattle.oxt_grammar.specs.declared.kind.Kind.{Kind}
use Rattle.oxt_grammar.specs.declared.kind.Kind.TheVariants as kind
use Rattle.oxt_tree.specs.Doc.{Doc, nil, flag, number, text, list, node, Docs, no_docs, doc}
use Rattle.oxt_tree.specs.Fields.{named}
use Rattle.oxt_tree.specs.View.{docs_in}

-- where a node stands: the number of the body of an enum around it, and that of the member in front
-- of it in that body
pub record Spot : Type 0 where
  pub block : ℕ
  pub previous : Option ℕ

-- a member of an enum: its number, its span, where it stands, its name, and its initializer
pub record Found : Type 0 where
  pub number : ℕ
  pub start : ℕ
  pub end : ℕ
  pub spot : Spot
  pub name : Option (List ℕ)
  pub initializer : Doc

-- where the fields of a node stand: in the body of an enum at its front
abbrev pub within : Kind → ℕ → Spot → Spot
within k i s = if same_kind k kind.TSEnumBody then record { block = i; previous = None } else s

-- where what follows a document stands
abbrev pub behind : Doc → Spot → Spot
behind (node k i b e ds) s = if same_kind k kind.TSEnumMember then record s { previous = Some i } else s
behind d s = s

abbrev pub member_at : Kind → ℕ → ℕ → ℕ → Docs → Spot → Found
member_at k i b e ds s = record { number = i; start = b; end = e; spot = s; name = member_name (named (codes "id") k ds); initializer = named (codes "initializer") k ds }

-- the node, if it is a member
abbrev pub own_member : Kind → ℕ → ℕ → ℕ → Docs → Spot → List Found
own_member k i b e ds s = if same_kind k kind.TSEnumMember then member_at k i b e ds s ∷ [] else []

-- the members in a document that stands there
abbrev mutual
  pub members : Doc → Spot → List Found
  members nil s = []
  members (flag b) s = []
  members (number n) s = []
  members (text t) s = []
  members (list ds) s = each_members ds s
  members (node k i b e ds) s = own_member k i b e ds s ++ each_members ds (within k i s)

  -- of one after the other
  pub each_members : Docs → Spot → List Found
  each_members no_docs s = []
  each_members (doc d ds) s = members d s ++ each_members ds (behind d s)

-- outside all enums
abbrev pub outside : Spot
outside = record { block = 0; previous = None }

-- the members of a whole tree
abbrev pub members_of : Doc → List Found
members_of d = members d outside

-- Places and members of the program, as contracts see them.
abbrev pub spot_view : Place → Spot
spot_view p = record { block = p.block.0; previous = number_at p.previous }

abbrev pub found_view : Member → Found
found_view m = record {
  number = m.node.now.id.0;
  start = m.node.now.span.start;
  end = m.node.now.span.end;
  spot = spot_view m.place;
  name = option_map (λ t. t.now) m.name;
  initializer = named (codes "initializer") m.node.now.kind (docs_in m.node.now.parts.items);
}

abbrev pub found_views : List Member → List Found
found_views ms = map found_view ms
