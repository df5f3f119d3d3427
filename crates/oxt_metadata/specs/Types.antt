-- What metadata writes for types.
use Rattle.std.specs.Prelude.{ℕ, List, [], ◌∷◌, Bool, not, ◌&&◌, ◌||◌, if◌then◌else◌, Option, None, Some, is_some, codes}
use Rattle.std.specs.Str.{bytes_eq}
use Rattle.oxt_grammar.specs.Field.{Field}
use Rattle.oxt_grammar.specs.Rows.{row_of}
use Rattle.oxt_grammar.specs.declared.kind.Kind.{Kind}
use Rattle.oxt_grammar.specs.declared.kind.Kind.TheVariants as kind
use Rattle.oxt_metadata.specs.DottedNames.{root}
use Rattle.oxt_metadata.specs.Forms.{form_of}
use Rattle.oxt_metadata.specs.Joins.{joined_type, object, with_member}
use Rattle.oxt_metadata.specs.Meant.{is_type_alone}
use Rattle.oxt_metadata.specs.Shapes.{shape_name}
use Rattle.oxt_metadata.specs.Sights.{Seeing}
use Rattle.oxt_metadata.specs.declared.form.Form.{Form}
use Rattle.oxt_metadata.specs.declared.form.Form.TheVariants as form
use Rattle.oxt_metadata.specs.declared.form.Join.{Join}
use Rattle.oxt_metadata.specs.declared.form.Join.TheVariants as join
use Rattle.oxt_metadata.specs.declared.join.Joined.{Joined}
use Rattle.oxt_metadata.specs.declared.join.Joined.TheVariants as joined
use Rattle.oxt_metadata.specs.declared.shape.Shape.{Shape}
use Rattle.oxt_options.specs.declared.metadata.GlobalName.TheVariants as global_name
use Rattle.oxt_options.specs.declared.metadata.MetadataType.{MetadataType}
use Rattle.oxt_options.specs.declared.metadata.MetadataType.TheVariants as metadata_type
use Rattle.oxt_tree.specs.Doc.{Doc, nil, flag, number, text, list, node, Docs, no_docs, doc}
use Rattle.oxt_tree.specs.Fields.{is_kind, is_text, field_of, named}
use Rattle.oxt_tree.specs.View.{docs_in}
use Rattle.oxt_tree.specs.declared.tree.Node.{Node}
use Rattle.oxt_scoping.specs.Meant.{meant}

-- ---- names

-- the number of a node
abbrev pub number_in : Doc → ℕ
number_in (node k i b e ds) = i
number_in d = 0

-- The value that a name has, if it is there: `Object` where its first name is `this` or means nothing but types.
abbrev pub dotted_type : Seeing → Doc → Doc → MetadataType
dotted_type s d r =
    if is_kind kind.ThisExpression r || is_type_alone s.table (number_in r) then object
    else metadata_type.Reference (record { 0 = number_in d }) (record { 0 = number_in r })

-- the free name `ReadonlyArray`
abbrev pub is_readonly_array : Seeing → Doc → Bool
is_readonly_array s d =
    not (is_some (meant s.table (number_in d))) && is_text (codes "ReadonlyArray") (field_of (codes "name") d)

-- a single name: an enum by its shape, where a block of it stands before the name, and `Array` for the free `ReadonlyArray`
abbrev pub single_by : Seeing → Option Shape → Doc → MetadataType
single_by s None d = if is_readonly_array s d then metadata_type.Global global_name.Array else dotted_type s d d
single_by s (Some p) d = metadata_type.Global (shape_name p)

abbrev pub single_type : Seeing → Doc → MetadataType
single_type s d = single_by s (s.shape (number_in d)) d

abbrev pub named_type : Seeing → Doc → MetadataType
named_type s d = if is_kind kind.IdentifierReference d then single_type s d else dotted_type s d (root d)

-- a type that is named so
abbrev pub reference_type : Seeing → Doc → MetadataType
reference_type s nil = object
reference_type s (flag b) = object
reference_type s (number n) = object
reference_type s (text t) = object
reference_type s (list ds) = object
reference_type s (node k i b e ds) = named_type s (node k i b e ds)

-- ---- types

-- the type in a field, and what the members in a field make of what was joined before them
abbrev pub OneType : Type 0
OneType = List ℕ → MetadataType

abbrev pub OneJoin : Type 0
OneJoin = List ℕ → Join → Joined → Joined

-- a type of that form, by what stands in its fields
abbrev pub form_type : Seeing → Form → Kind → Docs → OneType → OneJoin → MetadataType
form_type s (form.Written t) k ds c j = t
form_type s form.Passed k ds c j = c (codes "typeAnnotation")
form_type s (form.Joined u) k ds c j = joined_type (j (codes "types") u joined.Nothing)
form_type s form.Conditional k ds c j =
    joined_type (j (codes "falseType") join.Union (j (codes "trueType") join.Union joined.Nothing))
form_type s form.Reference k ds c j = reference_type s (named (codes "typeName") k ds)

-- What metadata writes for a type, or for that of an annotation.
abbrev mutual
  pub type_of : Seeing → Doc → MetadataType
  type_of s nil = object
  type_of s (flag b) = object
  type_of s (number n) = object
  type_of s (text t) = object
  type_of s (list ds) = object
  type_of s (node k i b e ds) = form_type s (form_of k ds) k ds (field_type s ds (row_of k)) (field_joined s ds (row_of k))

  -- for the field of that name
  pub field_type : Seeing → Docs → List Field → List ℕ → MetadataType
  field_type s no_docs rs name = object
  field_type s (doc d ds) [] name = object
  field_type s (doc d ds) (r ∷ rs) name = if bytes_eq r.name name then type_of s d else field_type s ds rs name

  -- what a member, or a list of such, makes of what was joined before
  pub joined_in : Seeing → Doc → Join → Joined → Joined
  joined_in s nil j p = p
  joined_in s (flag b) j p = p
  joined_in s (number n) j p = p
  joined_in s (text t) j p = p
  joined_in s (list ds) j p = joined_among s ds j p
  joined_in s (node k i b e ds) j p =
      with_member s.is_strict j p (node k i b e ds)
      (form_type s (form_of k ds) k ds (field_type s ds (row_of k)) (field_joined s ds (row_of k)))

  pub joined_among : Seeing → Docs → Join → Joined → Joined
  joined_among s no_docs j p = p
  joined_among s (doc d ds) j p = joined_among s ds j (joined_in s d j p)

  -- the same of the field of that name
  pub field_joined : Seeing → Docs → List Field → List ℕ → Join → Joined → Joined
  field_joined s no_docs rs name j p = p
  field_joined s (doc d ds) [] name j p = p
  field_joined s (doc d ds) (r ∷ rs) name j p = if bytes_eq r.name name then joined_in s d j p else field_joined s ds rs name j p

-- for the field of that name of a node
abbrev pub type_at : Seeing → Node → List ℕ → MetadataType
type_at s n name = field_type s (docs_in n.parts.items) (row_of n.kind) name

abbrev pub joined_at : Seeing → Join → Node → List ℕ → Joined → Joined
joined_at s j n name p = field_joined s (docs_in n.parts.items) (row_of n.kind) name j p
