-- The blocks of enums and namespaces of a document.
use Rattle.std.specs.Prelude.{ℕ, List, Bool, ◌||◌, if◌then◌else◌, Option, None, Some, codes}
use Rattle.oxt_enum_checks.specs.declared.blocks.Block.{Block}
use Rattle.oxt_search.specs.All.{all_in}
use Rattle.oxt_search.specs.Sought.{Sought as Search}
use Rattle.oxt_tree.specs.declared.inside.Inside.TheVariants as inside
use Rattle.oxt_grammar.specs.Places.{same_kind}
use Rattle.oxt_grammar.specs.declared.kind.Kind.{Kind}
use Rattle.oxt_grammar.specs.declared.kind.Kind.TheVariants as kind
use Rattle.oxt_tree.specs.Doc.{Doc, node, Docs}
use Rattle.oxt_tree.specs.Fields.{named}

-- the kinds of blocks
abbrev pub is_block_kind : Kind → Bool
is_block_kind k = same_kind k kind.TSEnumDeclaration || same_kind k kind.TSNamespaceDeclaration

-- the block of that number and with that name, if that is a node
abbrev pub block_with : ℕ → Doc → Option Block
block_with i (node k n b e ds) = Some (record { node = record { 0 = i }; name = record { 0 = n } })
block_with i d = None

-- the node, if it is a block
abbrev pub own_block : Kind → ℕ → Docs → Option Block
own_block k i ds = if is_block_kind k then block_with i (named (codes "id") k ds) else None

-- each block
abbrev pub blocks : Search (Unit {0}) Block
blocks =
    record {
      at = λ u k i ds. own_block k i ds;
      inside = λ u k i ds. inside.Alike u;
      in_field = λ u k r. Some u;
    }

-- those of a document, in the order of the text
abbrev pub blocks_of : Doc → List Block
blocks_of d = all_in blocks d tt
