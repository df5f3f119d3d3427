-- Calls of a visitor's hooks.
use Rattle.std.specs.Prelude.{◌≡◌, ℕ, List, [], ◌∷◌, ◌++◌, if◌then◌else◌}
use Rattle.oxt_grammar.specs.declared.kind.Kind.{Kind}
use Rattle.oxt_tree.specs.Doc.{Doc}
use Rattle.oxt_visit.specs.Hooks.{Hooks}

-- a node was visited, as the hook found it and as it left it; the scope of the node with that number was entered;
-- a scope was left
pub data Call : Type 0 where
  visited : Doc → Doc → Call
  entered : ℕ → Call
  left : Call

-- the calls at the parts of a node, between those of its scope where that is entered
abbrev pub in_scope : Hooks → Kind → ℕ → List Call → List Call
in_scope h k n calls = if h.enters k then entered n ∷ (calls ++ left ∷ []) else calls

-- what a log gets of the calls, one after the other
abbrev pub traces : (Call → List Call) → List Call → List Call
traces trace [] = []
traces trace (c ∷ cs) = trace c ++ traces trace cs

-- There are calls that are owed, and the log has grown by what it gets of them.
pub record HasCalled (trace : Call → List Call) (before after : List Call) (Owed : List Call → Type 0) : Type 0 where
  pub calls : List Call
  pub owed : Owed calls
  pub grown : after ≡ before ++ traces trace calls

-- Where the premise holds, the log has grown by what it gets of these calls.
pub record HasLogged (Premise : Type 0) (trace : Call → List Call) (before after calls : List Call) : Type 0 where
  pub grown : Premise → after ≡ before ++ traces trace calls

-- what is noted of the calls, one after the other
abbrev pub noted : {A : Type 0} → (A → Call → A) → A → List Call → A
noted note a [] = a
noted note a (c ∷ cs) = noted note (note a c) cs
