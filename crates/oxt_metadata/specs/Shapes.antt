-- What the values of the members of an enum have in common, as they are written.
use Rattle.std.specs.Prelude.{Bool, true, false, if◌then◌else◌, codes}
use Rattle.oxt_grammar.specs.declared.kind.Kind.{Kind}
use Rattle.oxt_grammar.specs.declared.kind.Kind.TheVariants as kind
use Rattle.oxt_metadata.specs.declared.shape.Shape.{Shape}
use Rattle.oxt_metadata.specs.declared.shape.Shape.TheVariants as shape
use Rattle.oxt_options.specs.declared.metadata.GlobalName.{GlobalName}
use Rattle.oxt_options.specs.declared.metadata.GlobalName.TheVariants as global_name
use Rattle.oxt_tree.specs.Doc.{Doc, nil, flag, number, text, list, node, Docs, no_docs, doc}
use Rattle.oxt_tree.specs.Fields.{elements, field_of}

-- expressions of that kind: texts, numbers, or neither
abbrev pub shape_by : Kind → Shape
shape_by kind.StringLiteral = shape.Texts
shape_by kind.TemplateLiteral = shape.Texts
shape_by kind.NumericLiteral = shape.Numbers
shape_by kind.UnaryExpression = shape.Numbers
shape_by k = shape.Mixed

-- a value that is written so: a number where nothing is
abbrev pub written_shape : Doc → Shape
written_shape nil = shape.Numbers
written_shape (flag b) = shape.Numbers
written_shape (number n) = shape.Numbers
written_shape (text t) = shape.Numbers
written_shape (list ds) = shape.Numbers
written_shape (node k i b e ds) = shape_by k

-- the value of a member
abbrev pub member_shape : Doc → Shape
member_shape d = written_shape (field_of (codes "initializer") d)

-- both are texts, or both are numbers
abbrev pub same_shape : Shape → Shape → Bool
same_shape shape.Texts shape.Texts = true
same_shape shape.Numbers shape.Numbers = true
same_shape p q = false

-- what the values of members have in common with one more
abbrev pub joined_shape : Shape → Shape → Shape
joined_shape shape.Undecided q = q
joined_shape shape.Mixed q = shape.Mixed
joined_shape shape.Texts q = if same_shape shape.Texts q then shape.Texts else shape.Mixed
joined_shape shape.Numbers q = if same_shape shape.Numbers q then shape.Numbers else shape.Mixed

-- what these members have in common with those that have that shape
abbrev pub shape_from : Shape → Docs → Shape
shape_from p no_docs = p
shape_from p (doc d ds) = shape_from (joined_shape p (member_shape d)) ds

-- The shape of a block of an enum.
abbrev pub shape_of : Doc → Shape
shape_of d = shape_from shape.Undecided (elements (field_of (codes "members") (field_of (codes "body") d)))

-- what metadata writes for an enum of the shape
abbrev pub shape_name : Shape → GlobalName
shape_name shape.Texts = global_name.String
shape_name shape.Numbers = global_name.Number
shape_name p = global_name.Object
