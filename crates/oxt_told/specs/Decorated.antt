-- What is told of classes that are decorated, whose elements are, or that take a made name.
use Rattle.std.specs.Prelude.{ℕ, [], ◌∷◌, Bool, false, not, ◌&&◌, ◌||◌, ◌==◌, if◌then◌else◌, Option, None, Some, is_some, codes}
use Rattle.oxt_declares.specs.Calls.{calls_any, is_decorated}
use Rattle.oxt_fields.specs.PrivateIn.{holds_private_in}
use Rattle.oxt_fields.specs.Statics.{has_static_accessor, has_static_part}
use Rattle.oxt_facts.specs.Told.{Decorating, Described, Tellings, Use, decorated, default_class, titled, undescribed}
use Rattle.oxt_fields.specs.Classes.{elements_of}
use Rattle.oxt_fields.specs.Rules.{Rules}
use Rattle.oxt_grammar.specs.declared.kind.Kind.TheVariants as kind
use Rattle.oxt_scoping.specs.Scoped.{Scoped}
use Rattle.oxt_search.specs.First.{first_in}
use Rattle.oxt_search.specs.Sought.{Sought}
use Rattle.oxt_tree.specs.declared.inside.Inside.TheVariants as inside
use Rattle.oxt_told.specs.Metadata.{class_described}
use Rattle.oxt_told.specs.Tags.{alias_part, class_use, inner_part, is_nameless, own_use, tag_at, tag_for}
use Rattle.oxt_told.specs.declared.lowering.Lowering.{Lowering}
use Rattle.oxt_tree.specs.Doc.{Doc, nil, flag, number, text, list, node, Docs}
use Rattle.oxt_tree.specs.Fields.{field_of, is_kind}
use Rattle.oxt_declares.specs.Dropped.{is_dropped}

-- ---- what decorators make of a class

-- that number
abbrev pub is_number : ℕ → Option ℕ → Bool
is_number i None = false
is_number i (Some n) = n == i

-- each node that is read as the alias of the class of that number
abbrev pub alias_uses : Rules → ℕ → Sought (Unit {0}) ℕ
alias_uses r c =
    record {
      at = λ u k i ds. if is_number c (r.alias i) then Some i else None;
      inside = λ u k i ds. inside.Alike u;
      in_field = λ u k f. Some u;
    }

-- one of the names in the class's body is so
abbrev pub is_used_in : Sought (Unit {0}) ℕ → Doc → Bool
is_used_in q nil = false
is_used_in q (flag b) = false
is_used_in q (number n) = false
is_used_in q (text t) = false
is_used_in q (list ds) = false
is_used_in q (node k i b e ds) = is_some (first_in q (node k i b e ds) tt)

-- A decorated class has an alias where its name is used so in its body, or a static accessor keeps its value on the class.
abbrev pub has_alias : Rules → ℕ → Doc → Bool
has_alias r i d =
    is_decorated d && (has_static_accessor (elements_of d) || is_used_in (alias_uses r i) (field_of (codes "body") d))

-- elements of the class give calls, and these are its last static part: a decorator asks there for a private name
abbrev pub calls_inside : Doc → Bool
calls_inside d = calls_any (elements_of d) && holds_private_in d

-- the alias of a class with these elements, if it has one, is kept in front of its static parts
abbrev pub has_front : Bool → Docs → Bool
has_front b es = b && has_static_part es

-- nothing
abbrev pub no_lowering : Lowering
no_lowering =
    record {
      is_decorated = false;
      has_calls = false;
      is_inside = false;
      has_alias = false;
      has_front = false;
      has_storage = false;
    }

-- of the declaration of a class of that number, where decorators are called
abbrev pub declaration_lowering : Rules → ℕ → Doc → Lowering
declaration_lowering r i d =
    record {
      is_decorated = is_decorated d;
      has_calls = calls_any (elements_of d);
      is_inside = calls_inside d;
      has_alias = has_alias r i d;
      has_front = has_front (has_alias r i d) (elements_of d);
      has_storage = has_static_accessor (elements_of d);
    }

-- of the expression of a class, whose decorators are not called
abbrev pub expression_lowering : Doc → Lowering
expression_lowering d = record no_lowering { has_storage = has_static_accessor (elements_of d) }

-- of a class of that number
abbrev pub lowering_of : Rules → ℕ → Doc → Lowering
lowering_of r i d =
    if not r.legacy || is_dropped d then no_lowering
    else if is_kind kind.ClassDeclaration d then declaration_lowering r i d
    else expression_lowering d

-- ---- the class itself

-- its name is an alias's in its body, and that is kept where the class is declared
abbrev pub keeps_alias : Lowering → Bool
keeps_alias w = w.has_alias && not w.has_front

-- a nameless class takes a made name for itself, since a static accessor keeps its value on the class
abbrev pub takes_name : Lowering → Doc → Bool
takes_name w d = w.has_storage && is_nameless d

-- the same, and it is decorated
abbrev pub takes_inner : Lowering → Doc → Bool
takes_inner w d = w.is_decorated && takes_name w d

-- its elements are called behind it
abbrev pub has_calls_behind : Lowering → Bool
has_calls_behind w = w.has_calls && not w.is_inside

-- the metadata in its own call, if it is decorated itself
abbrev pub own_metadata : Rules → Lowering → Doc → Described
own_metadata r w d = if w.is_decorated then class_described r d else undescribed

-- the declaration of a class of that number with that name
abbrev pub decorating_of : Rules → Lowering → ℕ → Doc → Option Use → Decorating
decorating_of r w i d name =
    record {
      is_decorated = w.is_decorated;
      number = i;
      name = name;
      inner = tag_for inner_part (takes_inner w d) (Some i);
      alias = tag_for alias_part w.has_alias (Some i);
      keeps_alias = keeps_alias w;
      has_calls = has_calls_behind w;
      metadata = own_metadata r w d;
    }

-- something is called behind the declaration of a class, or it takes a made name
abbrev pub is_lowered : Lowering → Doc → Bool
is_lowered w d = w.is_decorated || (w.has_calls || takes_name w d)

-- the declaration of a class, if something is called behind it or it takes a made name
abbrev pub declaration_told : Scoped → Rules → Lowering → ℕ → Doc → Tellings
declaration_told s r w i d =
    if is_lowered w d
    then (i, decorated (decorating_of r w i d (own_use s w i d))) ∷ []
    else []

-- the expression of a class, if it takes a made name
abbrev pub expression_told : Lowering → ℕ → Doc → Tellings
expression_told w i d = if takes_name w d then (i, titled (tag_at i inner_part)) ∷ [] else []

-- the class itself
abbrev pub class_itself_told : Scoped → Rules → Lowering → ℕ → Doc → Tellings
class_itself_told s r w i d = if is_kind kind.ClassDeclaration d then declaration_told s r w i d else expression_told w i d

-- ---- default exports

-- a class is called behind its declaration: it is decorated, or its elements are called there
abbrev pub is_called_behind : Lowering → Bool
is_called_behind w = w.is_decorated || has_calls_behind w

-- the default export of that number of such a class, which goes by that name
abbrev pub export_named : ℕ → Bool → Option Use → Tellings
export_named i b None = []
export_named i b (Some u) = (i, default_class b u) ∷ []

abbrev pub class_exported : Scoped → Lowering → ℕ → ℕ → Doc → Tellings
class_exported s w i c d = if is_called_behind w then export_named i w.is_decorated (class_use s None c d) else []

-- the default export of that number of that declaration, if that is of such a class
abbrev pub default_told : Scoped → Rules → ℕ → Doc → Tellings
default_told s r i nil = []
default_told s r i (flag b) = []
default_told s r i (number n) = []
default_told s r i (text t) = []
default_told s r i (list ds) = []
default_told s r i (node k c b e ds) = class_exported s (lowering_of r c (node k c b e ds)) i c (node k c b e ds)
