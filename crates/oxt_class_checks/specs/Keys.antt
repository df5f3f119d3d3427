-- Keys of elements that are read as the alias of a decorated class.
use Rattle.std.specs.Prelude.{ℕ, Bool, false, ◌||◌, if◌then◌else◌, is_some, codes}
use Rattle.oxt_fields.specs.Rules.{Rules}
use Rattle.oxt_grammar.specs.Places.{kind_in, same_kind}
use Rattle.oxt_grammar.specs.declared.category.Category.TheVariants as category
use Rattle.oxt_grammar.specs.declared.kind.Kind.{Kind}
use Rattle.oxt_grammar.specs.declared.kind.Kind.TheVariants as kind
use Rattle.oxt_tree.specs.Doc.{Doc, nil, flag, number, text, list, node, Docs, no_docs, doc}
use Rattle.oxt_tree.specs.Fields.{named}

-- wrappers, parentheses and sequences, of which a part is the key
abbrev pub holds_key : Kind → Bool
holds_key k = kind_in category.Transparent k || same_kind k kind.SequenceExpression

-- the first, where nothing comes after
abbrev pub if_last : Docs → Bool → Bool → Bool
if_last no_docs last rest = last
if_last (doc d ds) last rest = rest

-- A key is a name that is read as an alias, inside wrappers and parentheses and as the last of a sequence.
abbrev mutual
  pub is_alias : Rules → Doc → Bool
  is_alias r nil = false
  is_alias r (flag b) = false
  is_alias r (number n) = false
  is_alias r (text t) = false
  is_alias r (list ds) = last_is_alias r ds
  is_alias r (node k i b e ds) = if holds_key k then first_is_alias r ds else is_some (r.alias i)

  pub first_is_alias : Rules → Docs → Bool
  first_is_alias r no_docs = false
  first_is_alias r (doc d ds) = is_alias r d

  pub last_is_alias : Rules → Docs → Bool
  last_is_alias r no_docs = false
  last_is_alias r (doc d ds) = if_last ds (is_alias r d) (last_is_alias r ds)

-- the key of an element is such a name
abbrev pub has_alias_key : Rules → Kind → Docs → Bool
has_alias_key r k ds = is_alias r (named (codes "key") k ds)
