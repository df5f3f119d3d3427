-- What the members of a union or an intersection are written as together.
use Rattle.std.specs.Prelude.{Bool, true, false, if◌then◌else◌}
use Rattle.std.specs.Str.{bytes_eq}
use Rattle.oxt_grammar.specs.Places.{same_kind}
use Rattle.oxt_grammar.specs.declared.kind.Kind.{Kind}
use Rattle.oxt_grammar.specs.declared.kind.Kind.TheVariants as kind
use Rattle.oxt_metadata.specs.declared.form.Join.{Join}
use Rattle.oxt_metadata.specs.declared.form.Join.TheVariants as join
use Rattle.oxt_metadata.specs.declared.join.Effect.{Effect}
use Rattle.oxt_metadata.specs.declared.join.Effect.TheVariants as effect
use Rattle.oxt_metadata.specs.declared.join.Joined.{Joined}
use Rattle.oxt_metadata.specs.declared.join.Joined.TheVariants as joined
use Rattle.oxt_options.specs.Metadata.{text_of_global}
use Rattle.oxt_options.specs.declared.metadata.GlobalName.{GlobalName}
use Rattle.oxt_options.specs.declared.metadata.GlobalName.TheVariants as global_name
use Rattle.oxt_options.specs.declared.metadata.MetadataType.{MetadataType}
use Rattle.oxt_options.specs.declared.metadata.MetadataType.TheVariants as metadata_type
use Rattle.oxt_tree.specs.Doc.{Doc, nil, flag, number, text, list, node, Docs, no_docs, doc}

abbrev pub object : MetadataType
object = metadata_type.Global global_name.Object

-- both are one name
abbrev pub same_name : GlobalName → GlobalName → Bool
same_name g h = bytes_eq (text_of_global g) (text_of_global h)

-- both are written alike; two names of the source are not
abbrev pub same_type : MetadataType → MetadataType → Bool
same_type metadata_type.Undefined metadata_type.Undefined = true
same_type (metadata_type.Global g) (metadata_type.Global h) = same_name g h
same_type t u = false

-- ---- members

-- the member without the parentheses around it; `outer` where there is no node
abbrev mutual
  pub bare_or : Doc → Doc → Doc
  bare_or nil outer = outer
  bare_or (flag b) outer = outer
  bare_or (number n) outer = outer
  bare_or (text t) outer = outer
  bare_or (list ds) outer = outer
  bare_or (node k i b e ds) outer =
      if same_kind k kind.TSParenthesizedType then first_bare ds (node k i b e ds) else node k i b e ds

  -- the same of the first of them
  pub first_bare : Docs → Doc → Doc
  first_bare no_docs outer = outer
  first_bare (doc d ds) outer = bare_or d outer

abbrev pub bare : Doc → Doc
bare d = bare_or d d

-- it counts where that is so
abbrev pub counted : Bool → Effect
counted b = if b then effect.Counts else effect.Passed

-- `never` is passed over in a union, and so are null and undefined where they do not count. `unknown`, `any` and what is named
-- end it with `Object`.
abbrev pub union_effect : Bool → Kind → Effect
union_effect strict kind.TSNeverKeyword = effect.Passed
union_effect strict kind.TSNullKeyword = counted strict
union_effect strict kind.TSUndefinedKeyword = counted strict
union_effect strict kind.TSUnknownKeyword = effect.Ends object
union_effect strict kind.TSAnyKeyword = effect.Ends object
union_effect strict kind.TSTypeReference = effect.Ends object
union_effect strict k = effect.Counts

-- `never` ends an intersection with `void 0`, and `unknown` is passed over. `any` and what is named end it with `Object`.
abbrev pub intersection_effect : Kind → Effect
intersection_effect kind.TSNeverKeyword = effect.Ends metadata_type.Undefined
intersection_effect kind.TSUnknownKeyword = effect.Passed
intersection_effect kind.TSAnyKeyword = effect.Ends object
intersection_effect kind.TSTypeReference = effect.Ends object
intersection_effect k = effect.Counts

-- what a member of that kind does to the whole type; the flag says whether null and undefined count
abbrev pub effect_of : Bool → Join → Kind → Effect
effect_of strict join.Union k = union_effect strict k
effect_of strict join.Intersection k = intersection_effect k

-- the same of a member; what is no node does nothing
abbrev pub member_effect : Bool → Join → Doc → Effect
member_effect strict j nil = effect.Passed
member_effect strict j (flag b) = effect.Passed
member_effect strict j (number n) = effect.Passed
member_effect strict j (text t) = effect.Passed
member_effect strict j (list ds) = effect.Passed
member_effect strict j (node k i b e ds) = effect_of strict j k

-- ---- all of them

-- a member that is written so, by itself: `Object` ends the whole type
abbrev pub alone : MetadataType → Joined
alone t = if same_type t object then joined.Closed t else joined.Alike t

-- with one more that counts: one that is written otherwise than those before ends the whole type with `Object`
abbrev pub with_type : Joined → MetadataType → Joined
with_type (joined.Alike u) t = if same_type u t then alone t else joined.Closed object
with_type p t = alone t

abbrev pub with_effect : Joined → Effect → MetadataType → Joined
with_effect p effect.Passed t = p
with_effect p (effect.Ends w) t = joined.Closed w
with_effect p effect.Counts t = with_type p t

-- with one more member, which is written so by itself
abbrev pub with_member : Bool → Join → Joined → Doc → MetadataType → Joined
with_member strict j (joined.Closed w) d t = joined.Closed w
with_member strict j p d t = with_effect p (member_effect strict j (bare d)) t

-- The whole type: with no member that counts it is `void 0`.
abbrev pub joined_type : Joined → MetadataType
joined_type joined.Nothing = metadata_type.Undefined
joined_type (joined.Alike t) = t
joined_type (joined.Closed t) = t
