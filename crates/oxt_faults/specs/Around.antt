-- What the fields of a class have to know of it.
use Rattle.std.specs.Prelude.{ℕ, Bool, false, ◌||◌, if◌then◌else◌, Option, None, Some, codes}
use Rattle.oxt_faults.specs.declared.around.ClassAround.{ClassAround}
use Rattle.oxt_faults.specs.declared.around.ClassScopes.{ClassScopes}
use Rattle.oxt_fields.specs.Classes.{constructor_in}
use Rattle.oxt_fields.specs.Fates.{hoists_private}
use Rattle.oxt_grammar.specs.Places.{same_kind}
use Rattle.oxt_grammar.specs.declared.kind.Kind.{Kind}
use Rattle.oxt_grammar.specs.declared.kind.Kind.TheVariants as kind
use Rattle.oxt_names.specs.declared.ids.ScopeId.{ScopeId}
use Rattle.oxt_scoping.specs.Scoped.{Scoped, at_node}
use Rattle.oxt_tree.specs.Doc.{Doc, nil, flag, number, text, list, node, Docs}
use Rattle.oxt_tree.specs.Fields.{elements, field_of, named}

abbrev pub is_class : Kind → Bool
is_class k = same_kind k kind.ClassDeclaration || same_kind k kind.ClassExpression

-- the elements of a class with these fields
abbrev pub elements_in : Kind → Docs → Docs
elements_in k ds = elements (field_of (codes "body") (named (codes "body") k ds))

-- the scope that a node opens
abbrev pub scope_opened : Scoped → Doc → Option ScopeId
scope_opened s nil = None
scope_opened s (flag b) = None
scope_opened s (number n) = None
scope_opened s (text t) = None
scope_opened s (list ds) = None
scope_opened s (node k i b e ds) = at_node (record { 0 = i }) s.opened

-- the scope of the function of a constructor
abbrev pub constructor_scope : Scoped → Option Doc → Option ScopeId
constructor_scope s None = None
constructor_scope s (Some d) = scope_opened s (field_of (codes "value") d)

-- both scopes, where there are both
abbrev pub both_scopes : Option ScopeId → Option ScopeId → Option ClassScopes
both_scopes None o = None
both_scopes (Some i) None = None
both_scopes (Some i) (Some j) = Some (record { own = i; constructor = j })

-- of a class with that number and these elements: whether private instance fields move too, its own scope, and that of its
-- constructor
abbrev pub class_with : Scoped → ℕ → Docs → ClassAround
class_with s i es =
    record {
      hoists = hoists_private es;
      scopes = both_scopes (at_node (record { 0 = i }) s.opened) (constructor_scope s (constructor_in es));
    }

-- what is known inside a node, where that is known around it
abbrev pub class_around : Scoped → ClassAround → Kind → ℕ → Docs → ClassAround
class_around s a k i ds = if is_class k then class_with s i (elements_in k ds) else a

-- outside of classes
abbrev pub no_class : ClassAround
no_class = record { hoists = false; scopes = None }
