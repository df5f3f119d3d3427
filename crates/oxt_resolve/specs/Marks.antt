-- What nodes say of the scopes of functions, namespaces and the program besides their kinds.
use Rattle.std.specs.Prelude.{ℕ, List, [], ◌∷◌, ◌++◌, map, Bool, true, false, ◌||◌, if◌then◌else◌, Option, None, Some, codes}
use Rattle.std.specs.List.{list_any}
use Rattle.oxt_grammar.specs.Places.{same_kind}
use Rattle.oxt_grammar.specs.declared.kind.Kind.{Kind}
use Rattle.oxt_grammar.specs.declared.kind.Kind.TheVariants as kind
use Rattle.oxt_tree.specs.Doc.{Doc, nil, flag, number, text, list, node, Docs, no_docs, doc}
use Rattle.oxt_tree.specs.Fields.{docs_list, elements, field_of, is_text, named}
use Rattle.oxt_declares.specs.RoleOf.{role_of}
use Rattle.oxt_declares.specs.declared.role.Role.{Role}
use Rattle.oxt_declares.specs.declared.role.Role.TheVariants as role
use Rattle.oxt_names.specs.declared.flags.ScopeFlags.{ScopeFlags}
use Rattle.oxt_resolve.specs.Flags.{both, scope_flag}
use Rattle.oxt_resolve.specs.Gathered.{at_number, gathered, or_this}
use Rattle.oxt_resolve.specs.declared.marks.Mark.{Mark as Marked}
use Rattle.oxt_resolve.specs.declared.marks.Marks.{Marks}

-- the scope of the node of that number has those flags besides
pub record Mark : Type 0 where
  pub node : ℕ
  pub flags : ScopeFlags

abbrev pub is_use_strict : Doc → Bool
is_use_strict d = is_text (codes "use strict") (field_of (codes "value") d)

-- `use strict` stands among the directives
abbrev pub has_use_strict : Doc → Bool
has_use_strict d = list_any is_use_strict (docs_list (elements d))

-- Modules are strict, and so is what says so itself, or whose body does.
abbrev pub says_strict : Role → Kind → Docs → Bool
says_strict role.Program k ds = is_text (codes "module") (named (codes "sourceType") k ds) || has_use_strict (named (codes "directives") k ds)
says_strict role.Function k ds = has_use_strict (field_of (codes "directives") (named (codes "body") k ds))
says_strict role.FunctionExpression k ds = has_use_strict (field_of (codes "directives") (named (codes "body") k ds))
says_strict role.Arrow k ds = has_use_strict (field_of (codes "directives") (named (codes "body") k ds))
says_strict role.Namespace k ds = has_use_strict (field_of (codes "directives") (named (codes "body") k ds))
says_strict role.Module k ds = has_use_strict (field_of (codes "directives") (named (codes "body") k ds))
says_strict r k ds = false

abbrev pub strict_mark : Bool → ℕ → List Mark
strict_mark b i = if b then record { node = i; flags = scope_flag 8 } ∷ [] else []

-- the flags of the function of a constructor, a getter or a setter, by the word that says which
abbrev pub accessor_flags : Doc → Option ScopeFlags
accessor_flags d =
    if is_text (codes "constructor") d then Some (scope_flag 16)
    else if is_text (codes "get") d then Some (scope_flag 32)
    else if is_text (codes "set") d then Some (scope_flag 64)
    else None

-- the node has those flags, if there are any
abbrev pub mark_of : Doc → Option ScopeFlags → List Mark
mark_of (node k i b e ds) (Some f) = record { node = i; flags = f } ∷ []
mark_of d o = []

abbrev pub accessor_mark : Kind → Docs → List Mark
accessor_mark k ds = mark_of (named (codes "value") k ds) (accessor_flags (named (codes "kind") k ds))

-- methods of classes and properties of objects have functions
abbrev pub has_function : Role → Kind → Bool
has_function role.Method k = true
has_function r k = same_kind k kind.ObjectProperty

abbrev pub own_marks : Kind → ℕ → Docs → List Mark
own_marks k i ds = strict_mark (says_strict (role_of k) k ds) i ++ (if has_function (role_of k) k then accessor_mark k ds else [])

-- the marks in a document
abbrev mutual
  pub marks : Doc → List Mark
  marks nil = []
  marks (flag b) = []
  marks (number n) = []
  marks (text t) = []
  marks (list ds) = each_marks ds
  marks (node k i b e ds) = own_marks k i ds ++ each_marks ds

  pub each_marks : Docs → List Mark
  each_marks no_docs = []
  each_marks (doc d ds) = marks d ++ each_marks ds

-- the flags that marks give the scope of the node of that number, all together
abbrev pub marked : List Mark → ℕ → ScopeFlags
marked ms = gathered (λ (m : Mark). m.node) (λ f (m : Mark). both f m.flags) (scope_flag 0) ms

abbrev pub marks_of : Doc → ℕ → ScopeFlags
marks_of d = marked (marks d)

-- Marks of the program, as contracts see them.
abbrev pub mark_view : Marked → Mark
mark_view m = record { node = m.node.0; flags = m.flags }

abbrev pub mark_views : List Marked → List Mark
mark_views ms = map mark_view ms

abbrev pub flags_in : Marks → ℕ → ScopeFlags
flags_in m n = or_this (scope_flag 0) (at_number n m.flags.entries)
