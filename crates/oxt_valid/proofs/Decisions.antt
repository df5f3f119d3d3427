-- No place is found exactly where the test holds.
use Rattle.std.proofs.Common.{ℕ, ◌+◌, ◌^◌, ◌≡◌, refl, sym, ap, ◌∙◌, List, [], ◌∷◌, Bool, true, false, not, ◌&&◌, ◌||◌, nat_lt, cond, Option, None, Some, is_none, codes}
use Rattle.std.specs.Fmt.{decimal}
use Rattle.oxt_grammar.specs.Context.{setting_of}
use Rattle.oxt_grammar.specs.Field.{Field}
use Rattle.oxt_grammar.specs.Places.{narrow, category_of, element_of, kind_in, allows_null, allows_flag, allows_number}
use Rattle.oxt_grammar.specs.Rows.{row_of}
use Rattle.oxt_grammar.specs.declared.category.Category.{Category}
use Rattle.oxt_grammar.specs.declared.category.Category.TheVariants as category
use Rattle.oxt_grammar.specs.declared.context.Setting.{Setting}
use Rattle.oxt_grammar.specs.declared.context.Setting.TheVariants.{Elsewhere}
use Rattle.oxt_grammar.specs.declared.holds.Holds.{Holds}
use Rattle.oxt_grammar.specs.declared.holds.Holds.TheVariants as holds
use Rattle.oxt_grammar.specs.declared.kind.Kind.{Kind}
use Rattle.oxt_tree.specs.Doc.{Doc, nil, flag, number, text, list, node, Docs, no_docs, doc}
use Rattle.oxt_valid.specs.Condition.{fault}
use Rattle.oxt_valid.specs.Misfit.{below, condition_misfit, first_misfit, head_misfit, list_misfit, misfit, misfit_in_each, misfit_in_fields, or_else, unless}
use Rattle.oxt_valid.specs.Valid.{allows_text, all_fit, fields_fit, fits, for_elements, is_kind_of, is_tree}

none_unless : (b : Bool) → is_none (unless b) ≡ b
none_unless true = refl
none_unless false = refl

-- a place seen from further out
pub none_below : (name : List ℕ) (o : Option (List ℕ)) → is_none (below name o) ≡ is_none o
none_below name None = refl
none_below name (Some place) = refl

-- neither place is there
pub none_of_both : (o p : Option (List ℕ)) (a b : Bool) → is_none o ≡ a → is_none p ≡ b → is_none (or_else o p) ≡ (a && b)
none_of_both None p a b e f = f ∙ ap (λ c. c && b) e
none_of_both (Some place) p a b e f = ap (λ c. c && b) e

none_in_condition : (o : Option (List ℕ)) → is_none (condition_misfit o) ≡ is_none o
none_in_condition None = refl
none_in_condition (Some name) = refl

-- The head of a node is right where its kind is allowed and its offsets are in range.
none_in_head : (c : Option Category) (k : Kind) (b e : ℕ) → is_none (head_misfit c k b e) ≡ (is_kind_of c k && (nat_lt b (2 ^ 32) && nat_lt e (2 ^ 32)))
none_in_head None k b e = refl
none_in_head (Some c) k b e = step (kind_in c k) (nat_lt b (2 ^ 32)) (nat_lt e (2 ^ 32))
  where
    step : (p q r : Bool) → is_none (or_else (below (codes "type") (unless p)) (or_else (below (codes "start") (unless q)) (below (codes "end") (unless r)))) ≡ (p && (q && r))
    step false q r = refl
    step true false r = refl
    step true true false = refl
    step true true true = refl

in_list : (o : Option Holds) (place : Holds → Option (List ℕ)) (test : Holds → Bool) → ((h : Holds) → is_none (place h) ≡ test h) → is_none (list_misfit o place) ≡ for_elements o test
in_list None place test each = refl
in_list (Some h) place test each = each h

and_assoc : (a b c : Bool) → ((a && b) && c) ≡ (a && (b && c))
and_assoc true b c = refl
and_assoc false b c = refl

mutual
  pub misfit_decides : (d : Doc) (s : Setting) (h : Holds) → is_none (misfit d s h) ≡ fits d s h
  misfit_decides nil s h = none_unless (allows_null h)
  misfit_decides (flag b) s h = none_unless (allows_flag h)
  misfit_decides (number n) s h = none_unless (allows_number h n)
  misfit_decides (text t) s h = none_unless (allows_text h t)
  misfit_decides (list ds) s h = in_list (element_of h) (misfit_in_each ds s 0) (all_fit ds s) (λ g. each_decides ds s 0 g)
  misfit_decides (node k i b e ds) s h =
      none_of_both (head_misfit (category_of h) k b e) _ _ _ (none_in_head (category_of h) k b e)
      (none_of_both (misfit_in_fields ds s (setting_of k) (row_of k)) _ _ _ (fields_decide ds s (setting_of k) (row_of k)) (none_in_condition (fault s k ds)))
      ∙ and_assoc (is_kind_of (category_of h) k) (nat_lt b (2 ^ 32) && nat_lt e (2 ^ 32)) (fields_fit ds s (setting_of k) (row_of k) && is_none (fault s k ds))

  fields_decide : (ds : Docs) (s inner : Setting) (rs : List Field) → is_none (misfit_in_fields ds s inner rs) ≡ fields_fit ds s inner rs
  fields_decide no_docs s inner [] = refl
  fields_decide no_docs s inner (r ∷ rs) = refl
  fields_decide (doc d ds) s inner [] = refl
  fields_decide (doc d ds) s inner (r ∷ rs) =
      none_of_both (below r.name (misfit d inner (narrow s r.holds))) _ _ _ (none_below r.name (misfit d inner (narrow s r.holds)) ∙ misfit_decides d inner (narrow s r.holds)) (fields_decide ds s inner rs)

  each_decides : (ds : Docs) (s : Setting) (i : ℕ) (h : Holds) → is_none (misfit_in_each ds s i h) ≡ all_fit ds s h
  each_decides no_docs s i h = refl
  each_decides (doc d ds) s i h =
      none_of_both (below (decimal i) (misfit d s h)) _ _ _ (none_below (decimal i) (misfit d s h) ∙ misfit_decides d s h) (each_decides ds s (i + 1) h)

-- a place was found, or none
pub some_misfit : (d : Doc) (s : Setting) (h : Holds) (place : List ℕ) → Some place ≡ misfit d s h → false ≡ fits d s h
some_misfit d s h place e = ap is_none e ∙ misfit_decides d s h

pub no_misfit : (d : Doc) (s : Setting) (h : Holds) → None ≡ misfit d s h → true ≡ fits d s h
no_misfit d s h e = ap is_none e ∙ misfit_decides d s h

-- the same of whole trees
pub no_tree : (d : Doc) (place : List ℕ) → first_misfit d ≡ Some place → is_tree d ≡ false
no_tree d place e = sym (some_misfit d Elsewhere (holds.Node category.Program) place (sym e))
