-- Documents are a set: that two of them are the same has one proof.
use denote.Enum.Bare.{tag_one}
use denote.Enum.Declared.{tag_of}
use mathlib.Core.Bool.{Bool-set}
use mathlib.Core.HLevel.{collapsible→set}
use mathlib.Core.List.{is_set}
use native.Mathlib.Nat.{ℕ_set}
use Rattle.std.specs.Prelude.{◌≡◌, ℕ, List, Bool}
use Rattle.std.proofs.Common.{sym, ◌∙◌, ap, refl}
use Rattle.oxt_grammar.specs.contracts.kind.Kind.{the_type}
use Rattle.oxt_grammar.specs.declared.kind.Kind.{Kind}
use Rattle.oxt_tree.specs.Doc.{Doc, nil, flag, number, text, list, node, Docs, no_docs, doc}

-- kinds are the same in one way, since their tags are
kind_set : IsSet Kind
kind_set =
    collapsible→set
    (λ j k p. tag_one the_type tt j k (ap (tag_of the_type) p))
    (λ j k p q. ap (tag_one the_type tt j k) (ℕ_set (tag_of the_type j) (tag_of the_type k) (ap (tag_of the_type) p) (ap (tag_of the_type) q)))

-- one copy for documents and several of them together
data Copy : Type 0 where
  copy_nil : Copy
  copy_flag : Bool → Copy
  copy_number : ℕ → Copy
  copy_text : List ℕ → Copy
  copy_list : Copy → Copy
  copy_node : Kind → ℕ → ℕ → ℕ → Copy → Copy
  copy_none : Copy
  copy_more : Copy → Copy → Copy
  deriving IsSet as Copy_set

-- the copy of a document, and that of several
abbrev mutual
  to_copy : Doc → Copy
  to_copy nil = copy_nil
  to_copy (flag b) = copy_flag b
  to_copy (number n) = copy_number n
  to_copy (text t) = copy_text t
  to_copy (list ds) = copy_list (to_copies ds)
  to_copy (node k i b e ds) = copy_node k i b e (to_copies ds)

  to_copies : Docs → Copy
  to_copies no_docs = copy_none
  to_copies (doc d ds) = copy_more (to_copy d) (to_copies ds)

-- the document, and the documents, that the copy is one of
abbrev back : Copy → Doc × Docs
back copy_nil = (nil, no_docs)
back (copy_flag b) = (flag b, no_docs)
back (copy_number n) = (number n, no_docs)
back (copy_text t) = (text t, no_docs)
back (copy_list c) = (list (back c).1, no_docs)
back (copy_node k i b e c) = (node k i b e (back c).1, no_docs)
back copy_none = (nil, no_docs)
back (copy_more c cs) = (nil, doc (back c).0 (back cs).1)

-- the document alone
abbrev from_copy : Copy → Doc
from_copy c = (back c).0

-- no copy loses anything
abbrev mutual
  from_to : (d : Doc) → from_copy (to_copy d) ≡ d
  from_to nil = refl
  from_to (flag b) = refl
  from_to (number n) = refl
  from_to (text t) = refl
  from_to (list ds) = ap list (all_from_to ds)
  from_to (node k i b e ds) = ap (node k i b e) (all_from_to ds)

  all_from_to : (ds : Docs) → (back (to_copies ds)).1 ≡ ds
  all_from_to no_docs = refl
  all_from_to (doc d ds) = λ i. doc (from_to d i) (all_from_to ds i)

-- documents are the same in one way
pub doc_set : IsSet Doc
doc_set =
    collapsible→set
    (λ d e p. sym (from_to d) ∙ ap from_copy (ap to_copy p) ∙ from_to e)
    (λ d e p q. ap (λ (r : to_copy d ≡ to_copy e). sym (from_to d) ∙ ap from_copy r ∙ from_to e) (Copy_set Bool-set ℕ_set (is_set ℕ_set) kind_set (to_copy d) (to_copy e) (ap to_copy p) (ap to_copy q)))

-- so are lists of them, and this may be a fact of a struct
pub doc_lists_prop : {ds es : List Doc} → IsProp (ds ≡ es)
doc_lists_prop {ds = ds} {es = es} = is_set doc_set ds es
