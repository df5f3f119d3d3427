-- What stands inside wrappers and parentheses.
use Rattle.std.proofs.Common.{ℕ, ◌≡◌, refl, sym, ap, ◌∙◌, List, [], ◌∷◌, true, cond, get_or, ◌<◌, length, arith}
use Rattle.oxt_grammar.specs.Places.{kind_in}
use Rattle.oxt_grammar.specs.declared.category.Category.TheVariants as category
use Rattle.oxt_grammar.specs.declared.kind.Kind.{Kind}
use Rattle.oxt_tree.specs.Doc.{Doc, Docs, node, no_docs, doc}
use Rattle.oxt_tree.specs.Inner.{inner_or, inner_expression}
use Rattle.oxt_tree.specs.View.{node_doc, docs_in, part_doc}
use Rattle.oxt_tree.specs.declared.tree.Node.{Node}
use Rattle.oxt_tree.specs.declared.tree.Part.{Part}

-- The inside of a node does not depend on what is around it.
inner_or_alone : (k : Kind) (i b e : ℕ) (ds : Docs) (outer other : Doc) → inner_or (node k i b e ds) outer ≡ inner_or (node k i b e ds) other
inner_or_alone k i b e no_docs outer other = refl
inner_or_alone k i b e (doc d ds) outer other = refl

-- The inside of a wrapper is that of its first field.
pub unwrapped : (n x : Node) (q : Part) (r : Doc) → r ≡ inner_expression (node_doc x) → q ≡ get_or n.parts.items 0 q → part_doc q ≡ node_doc x → 0 < length n.parts.items → kind_in category.Transparent n.kind ≡ true → r ≡ inner_expression (node_doc n)
unwrapped n x q r inner first is_node some wrapper = from_parts n.parts.items some first
  where
    from_parts : (ps : List Part) → 0 < length ps → q ≡ get_or ps 0 q → r ≡ inner_expression (node n.kind n.id.0 n.span.start n.span.end (docs_in ps))
    from_parts [] none at = absurd (omega arith)
    from_parts (p ∷ ps) some at =
        let whole : Doc = node n.kind n.id.0 n.span.start n.span.end (docs_in (p ∷ ps)) in
        inner
        ∙ inner_or_alone x.kind x.id.0 x.span.start x.span.end (docs_in x.parts.items) (node_doc x) whole
        ∙ ap (λ d. inner_or d whole) (sym is_node)
        ∙ ap (λ (u : Part). inner_or (part_doc u) whole) at
        ∙ sym (ap (λ c. cond c (inner_or (part_doc p) whole) whole) wrapper)
