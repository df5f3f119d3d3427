-- Static blocks that are made.
use Rattle.std.specs.Prelude.{ℕ, unwrap_or}
use Rattle.oxt_grammar.specs.declared.kind.Kind.TheVariants as kind
use Rattle.oxt_names.specs.declared.flags.ScopeFlags.{ScopeFlags}
use Rattle.oxt_names.specs.declared.ids.ScopeId.{ScopeId}
use Rattle.oxt_scoping.specs.Scoped.{at_node}
use Rattle.oxt_tree.specs.Doc.{Doc, list, Docs, no_docs, doc}
use Rattle.oxt_names.specs.declared.ids.NodeId.{NodeId}
use Rattle.oxt_ctx.specs.Context.{Context, current_scope}
use Rattle.oxt_ctx.specs.Functions.{with_function}
use Rattle.oxt_ctx.specs.Nodes.{made}

-- a static block of these statements
abbrev pub static_block : ℕ → Docs → Doc
static_block n ss = made kind.StaticBlock n (doc (list ss) no_docs)

-- a static block, which is always strict
abbrev pub block_flags : ScopeFlags
block_flags = record { 0 = 136 }

-- the scope of the class of that number; the current one where it opens none
abbrev pub class_scope : NodeId → Context → ScopeId
class_scope n c = unwrap_or (at_node n c.scoping.opened) (current_scope c.ancestors)

-- the context in which the next number opens the scope of a static block in that class
abbrev pub with_block : NodeId → Context → Context
with_block n c = with_function block_flags (class_scope n c) c
