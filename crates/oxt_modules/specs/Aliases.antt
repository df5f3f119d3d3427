-- Which declarations `import a = ..` a program has, and the names of those that are not kept.
use Rattle.std.specs.Prelude.{ℕ, List, [], ◌∷◌, ◌++◌, Bool, false, not, ◌&&◌, if◌then◌else◌, Option, None, Some, codes}
use Rattle.oxt_grammar.specs.Places.{same_kind}
use Rattle.oxt_grammar.specs.declared.kind.Kind.{Kind}
use Rattle.oxt_grammar.specs.declared.kind.Kind.TheVariants as kind
use Rattle.oxt_declares.specs.Imports.{is_alias}
use Rattle.oxt_modules.specs.declared.alias.Alias.{Alias}
use Rattle.oxt_search.specs.All.{all_in}
use Rattle.oxt_search.specs.Sought.{Sought}
use Rattle.oxt_tree.specs.declared.inside.Inside.TheVariants as inside
use Rattle.oxt_tree.specs.Doc.{Doc, node, Docs}
use Rattle.oxt_tree.specs.Fields.{named}

-- the declaration of that number and of that name; the flag says whether it is exported
abbrev pub alias_named : Bool → ℕ → Doc → Option Alias
alias_named x i (node k n b e ds) = Some (record { node = record { 0 = i }; name = record { 0 = n }; is_exported = x })
alias_named x i d = None

-- the node, if it is such a declaration
abbrev pub alias_at : Bool → Kind → ℕ → Docs → Option Alias
alias_at x k i ds = if is_alias k ds then alias_named x i (named (codes "id") k ds) else None

-- each such declaration; the state says whether an export stands around it
abbrev pub alias_search : Sought Bool Alias
alias_search =
    record {
      at = alias_at;
      inside = λ x k i ds. inside.Alike (same_kind k kind.ExportDeclaration);
      in_field = λ x k r. Some x;
    }

-- those of a tree, in the order of the text
abbrev pub aliases : Doc → List Alias
aliases d = all_in alias_search d false

-- the number of the name of a declaration that is not kept
abbrev pub left_out_name : (ℕ → Bool) → Alias → List ℕ
left_out_name ks a = if not (ks a.node.0) then a.name.0 ∷ [] else []

abbrev pub left_out_names : (ℕ → Bool) → List Alias → List ℕ
left_out_names ks [] = []
left_out_names ks (a ∷ xs) = left_out_name ks a ++ left_out_names ks xs

-- the names of those of a tree that are not kept
abbrev pub left_out : (ℕ → Bool) → Doc → List ℕ
left_out ks d = left_out_names ks (aliases d)
