-- What may stand at a place.
use Rattle.std.specs.Prelude.{ℕ, List, Bool, true, false, nat_le, Option, None, Some, is_some, find}
use Rattle.std.specs.Str.{bytes_eq}
use Rattle.oxt_grammar.specs.Keys.{key_of}
use Rattle.oxt_grammar.specs.Kinds.{name_of}
use Rattle.oxt_grammar.specs.Categories.{kinds_in}
use Rattle.oxt_grammar.specs.declared.field.Field.{Field}
use Rattle.oxt_grammar.specs.declared.kind.Kind.{Kind}
use Rattle.oxt_grammar.specs.declared.category.Category.{Category}
use Rattle.oxt_grammar.specs.declared.word.Words.{Words}
use Rattle.oxt_grammar.specs.declared.holds.Holds.{Holds}
use Rattle.oxt_grammar.specs.declared.holds.Holds.TheVariants.{Text, TextOrNull, Flag, WholeOrNull, Word, WordOrNull, Node, NodeOrNull, Narrowed, List as ListOf, ListOfNullable, ListOrNull}
use Rattle.oxt_grammar.specs.declared.context.Setting.{Setting}
use Rattle.oxt_grammar.specs.declared.context.Setting.TheVariants.{Elsewhere, NamedExport, DefaultExport}

-- the kind of a category that has a name
abbrev pub kind_named : List ℕ → Category → Option Kind
kind_named name c = find (λ k. bytes_eq (name_of k) name) (kinds_in c)

-- the kind is one of the category's
abbrev pub kind_in : Category → Kind → Bool
kind_in c k = is_some (kind_named (name_of k) c)

-- a node of the first category, and below a named export of the second
abbrev pub narrowed : Setting → Category → Category → Category
narrowed NamedExport wide exported = exported
narrowed DefaultExport wide exported = wide
narrowed Elsewhere wide exported = wide

-- what a field holds where its node stands in a setting
abbrev pub narrow : Setting → Holds → Holds
narrow s (Narrowed wide exported) = Node (narrowed s wide exported)
narrow s h = h

-- two fields are one
abbrev pub same_field : Field → Field → Bool
same_field f g = bytes_eq (key_of f) (key_of g)

-- two kinds are one
abbrev pub same_kind : Kind → Kind → Bool
same_kind j k = bytes_eq (name_of j) (name_of k)

-- what an element of a list holds, where a field holds a list
abbrev pub element_of : Holds → Option Holds
element_of (ListOf c) = Some (Node c)
element_of (ListOrNull c) = Some (Node c)
element_of (ListOfNullable c) = Some (NodeOrNull c)
element_of h = None

-- null may stand there
abbrev pub allows_null : Holds → Bool
allows_null TextOrNull = true
allows_null WholeOrNull = true
allows_null (WordOrNull ws) = true
allows_null (NodeOrNull c) = true
allows_null (ListOrNull c) = true
allows_null h = false

-- a flag may stand there
abbrev pub allows_flag : Holds → Bool
allows_flag Flag = true
allows_flag h = false

-- a text of any content may stand there
abbrev pub allows_any_text : Holds → Bool
allows_any_text Text = true
allows_any_text TextOrNull = true
allows_any_text h = false

-- the words of which one may stand there
abbrev pub words_of : Holds → Option Words
words_of (Word ws) = Some ws
words_of (WordOrNull ws) = Some ws
words_of h = None

-- the whole number may stand there
abbrev pub allows_number : Holds → ℕ → Bool
allows_number WholeOrNull n = nat_le n 9007199254740991
allows_number h n = false

-- the category of which a node may stand there
abbrev pub category_of : Holds → Option Category
category_of (Node c) = Some c
category_of (NodeOrNull c) = Some c
category_of h = None
