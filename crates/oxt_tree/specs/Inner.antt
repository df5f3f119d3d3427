-- What stands inside wrappers and parentheses.
use Rattle.std.specs.Prelude.{Bool, true, false, ◌&&◌, if◌then◌else◌}
use Rattle.oxt_grammar.specs.Places.{kind_in}
use Rattle.oxt_grammar.specs.declared.category.Category.TheVariants as category
use Rattle.oxt_grammar.specs.declared.kind.Kind.{Kind}
use Rattle.oxt_tree.specs.Doc.{Doc, nil, flag, number, text, list, node, Docs, no_docs, doc}

-- the innermost node, by way of first fields; `outer` where there is no node
abbrev pub inner_or : Doc → Doc → Doc
inner_or nil outer = outer
inner_or (flag b) outer = outer
inner_or (number n) outer = outer
inner_or (text t) outer = outer
inner_or (list ds) outer = outer
inner_or (node k i b e no_docs) outer = node k i b e no_docs
inner_or (node k i b e (doc d ds)) outer =
    if kind_in category.Transparent k then inner_or d (node k i b e (doc d ds))
    else node k i b e (doc d ds)

-- the expression inside the wrappers and parentheses, whose first field it is
abbrev pub inner_expression : Doc → Doc
inner_expression d = inner_or d d

-- what stands inside wrappers and parentheses, whose first field it is; null where one of them has
-- no field
abbrev pub seen : Doc → Doc
seen nil = nil
seen (flag b) = flag b
seen (number n) = number n
seen (text t) = text t
seen (list ds) = list ds
seen (node k i b e no_docs) = node k i b e no_docs
seen (node k i b e (doc d ds)) =
    if kind_in category.Transparent k then seen d
    else node k i b e (doc d ds)

abbrev pub begins_with_node : Docs → Bool
begins_with_node no_docs = false
begins_with_node (doc nil ds) = false
begins_with_node (doc (flag b) ds) = false
begins_with_node (doc (number n) ds) = false
begins_with_node (doc (text t) ds) = false
begins_with_node (doc (list cs) ds) = false
begins_with_node (doc (node k i b e cs) ds) = true

-- a wrapper or parentheses around a node
abbrev pub holds_inner : Kind → Docs → Bool
holds_inner k ds = begins_with_node ds && kind_in category.Transparent k
