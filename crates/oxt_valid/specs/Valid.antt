-- Which documents are trees of the grammar.
use Rattle.std.specs.Prelude.{ℕ, ◌≡◌, ◌^◌, List, [], ◌∷◌, Bool, true, false, ◌&&◌, ◌||◌, nat_lt, Option, None, Some, is_none}
use Rattle.std.specs.Str.{bytes_eq}
use Rattle.std.specs.List.{list_any}
use Rattle.oxt_grammar.specs.Context.{setting_of}
use Rattle.oxt_grammar.specs.Field.{Field}
use Rattle.oxt_grammar.specs.Places.{kind_in, narrow, element_of, allows_null, allows_flag, allows_any_text, words_of, allows_number, category_of}
use Rattle.oxt_grammar.specs.Rows.{row_of}
use Rattle.oxt_grammar.specs.Words.{text_of, words_in}
use Rattle.oxt_grammar.specs.declared.category.Category.{Category}
use Rattle.oxt_grammar.specs.declared.category.Category.TheVariants as category
use Rattle.oxt_grammar.specs.declared.context.Setting.{Setting}
use Rattle.oxt_grammar.specs.declared.context.Setting.TheVariants.{Elsewhere}
use Rattle.oxt_grammar.specs.declared.holds.Holds.{Holds}
use Rattle.oxt_grammar.specs.declared.holds.Holds.TheVariants as holds
use Rattle.oxt_grammar.specs.declared.kind.Kind.{Kind}
use Rattle.oxt_grammar.specs.declared.word.Words.{Words}
use Rattle.oxt_valid.specs.Condition.{fault}
use Rattle.oxt_tree.specs.Doc.{Doc, nil, flag, number, text, list, node, Docs, no_docs, doc}

abbrev pub is_among : Option Words → List ℕ → Bool
is_among None t = false
is_among (Some ws) t = list_any (λ w. bytes_eq (text_of w) t) (words_in ws)

-- a text may stand where a field holds this
abbrev pub allows_text : Holds → List ℕ → Bool
allows_text h t = allows_any_text h || is_among (words_of h) t

abbrev pub is_kind_of : Option Category → Kind → Bool
is_kind_of None k = false
is_kind_of (Some c) k = kind_in c k

abbrev pub for_elements : Option Holds → (Holds → Bool) → Bool
for_elements None fits = false
for_elements (Some h) fits = fits h

-- The document may stand where a field holds `h`, in a node that stands in `s`.
abbrev mutual
  pub fits : Doc → Setting → Holds → Bool
  fits nil s h = allows_null h
  fits (flag b) s h = allows_flag h
  fits (number n) s h = allows_number h n
  fits (text t) s h = allows_text h t
  fits (list ds) s h = for_elements (element_of h) (all_fit ds s)
  fits (node k i b e ds) s h =
      is_kind_of (category_of h) k
      && ((nat_lt b (2 ^ 32) && nat_lt e (2 ^ 32))
      && (fields_fit ds s (setting_of k) (row_of k) && is_none (fault s k ds)))

  -- each document fits the field of its row
  pub fields_fit : Docs → Setting → Setting → List Field → Bool
  fields_fit no_docs s inner [] = true
  fields_fit no_docs s inner (r ∷ rs) = false
  fields_fit (doc d ds) s inner [] = false
  fields_fit (doc d ds) s inner (r ∷ rs) =
      fits d inner (narrow s r.holds) && fields_fit ds s inner rs

  -- each document fits
  pub all_fit : Docs → Setting → Holds → Bool
  all_fit no_docs s h = true
  all_fit (doc d ds) s h = fits d s h && all_fit ds s h

-- a whole tree of the grammar
abbrev pub is_tree : Doc → Bool
is_tree d = fits d Elsewhere (holds.Node category.Program)

pub record IsValid (d : Doc) : Type 0 where
  pub fits_the_grammar : is_tree d ≡ true
