-- Calls of `super` in constructors.
use Rattle.std.specs.Prelude.{ℕ, Bool, false, not, ◌&&◌, nat_eq, if◌then◌else◌, Option, None, Some, is_some, codes}
use Rattle.oxt_class_checks.specs.Nodes.{some_node}
use Rattle.oxt_faults.specs.Reaches.{reach_of}
use Rattle.oxt_faults.specs.Silent.{is_silent, silent_inside}
use Rattle.oxt_faults.specs.declared.reach.Reach.{Reach}
use Rattle.oxt_faults.specs.declared.reach.Reach.TheVariants as reach
use Rattle.oxt_fields.specs.Classes.{is_super_call, statements_of}
use Rattle.oxt_search.specs.First.{first_among, first_in}
use Rattle.oxt_search.specs.Sought.{Sought}
use Rattle.oxt_tree.specs.declared.inside.Inside.TheVariants as inside
use Rattle.oxt_grammar.specs.Places.{same_kind}
use Rattle.oxt_grammar.specs.declared.kind.Kind.{Kind}
use Rattle.oxt_grammar.specs.declared.kind.Kind.TheVariants as kind
use Rattle.oxt_tree.specs.Doc.{Doc, nil, flag, number, text, list, node, Docs}
use Rattle.oxt_tree.specs.Fields.{field_of, named}
use Rattle.oxt_names.specs.declared.ids.NodeId.{NodeId}

abbrev pub number_of : NodeId → ℕ
number_of i = i.0

-- ---- a call that is a statement by itself

-- the number of the document, if it is a call of `super`
abbrev pub call_number : Doc → Option ℕ
call_number nil = None
call_number (flag b) = None
call_number (number n) = None
call_number (text t) = None
call_number (list ds) = None
call_number (node k i b e ds) = if is_super_call (node k i b e ds) then Some i else None

-- the call, if a node of that kind and with those fields is a statement that is nothing else
abbrev pub bare_call : Kind → Docs → Option ℕ
bare_call k ds =
    if same_kind k kind.ExpressionStatement then call_number (named (codes "expression") k ds) else None

-- such statements themselves, and nothing in them
abbrev pub bare_calls : Sought (Unit {0}) ℕ
bare_calls =
    record {
      at = λ u k i ds. bare_call k ds;
      inside = λ u k i ds. inside.Skipped;
      in_field = λ u k r. None;
    }

-- the first call that is one of the statements by itself
abbrev pub first_call : Docs → Option ℕ
first_call ds = first_among bare_calls ds tt

-- ---- calls beside that one

abbrev pub other_call : ℕ → Kind → ℕ → Docs → Option ℕ
other_call c k i ds = if is_super_call (some_node k ds) && not (nat_eq i c) then Some i else None

-- each call of another number that stands at the level, as words do that would mean something else elsewhere; the flag says
-- whether decorators have their older meaning
abbrev pub other_calls : Bool → ℕ → Sought Reach ℕ
other_calls l c =
    record {
      at = λ r k i ds. if is_silent r k ds then None else other_call c k i ds;
      inside = λ r k i ds. if is_silent r k ds then silent_inside l r k ds reach.Level else inside.ByField r;
      in_field = λ s k r. Some (reach_of s k r);
    }

abbrev pub has_other : Bool → ℕ → Doc → Bool
has_other l c d = is_some (first_in (other_calls l c) d reach.Level)

-- of a function: that call, and no other in its parameters and its body
abbrev pub is_alone : Bool → Doc → Option ℕ → Bool
is_alone l f None = false
is_alone l f (Some c) =
    not (has_other l c (field_of (codes "params") f)) && not (has_other l c (field_of (codes "body") f))

-- A constructor calls `super` once, and the call is a statement of its body by itself; the flag says whether decorators are
-- lowered.
abbrev pub calls_once : Bool → Doc → Bool
calls_once l m = is_alone l (field_of (codes "value") m) (first_call (statements_of m))
