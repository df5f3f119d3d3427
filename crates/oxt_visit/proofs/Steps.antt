-- Walks of single nodes, fields and parts.
use Rattle.std.proofs.Common.{◌≡◌, List, [], ◌∷◌, ◌++◌, Bool, true, false, cond, subst, arith, ℕ, Option, Some, None, Vec, Global}
use Rattle.oxt_grammar.specs.Rows.{row_of}
use Rattle.oxt_grammar.specs.declared.category.Category.{Category}
use Rattle.oxt_grammar.specs.declared.kind.Kind.{Kind}
use Rattle.oxt_tree.specs.Doc.{Doc, nil, flag, number, text, list, node, Docs}
use Rattle.oxt_tree.specs.View.{part_doc}
use Rattle.oxt_tree.specs.declared.tree.Node.{Node}
use Rattle.oxt_tree.specs.declared.tree.Part
use Rattle.oxt_tree.specs.declared.tree.Part.{Part, the_lemmas}
use Rattle.oxt_visit.specs.Calls.{Call, visited, entered, left, HasCalled}
use Rattle.oxt_visit.specs.Hooks.{Hooks, is_visited}
use Rattle.oxt_visit.specs.Walks.{Walks, WalksElements, WalksField, WalksFields, WalksInside, nothing, a_flag, a_number, a_text, a_list, a_visit, another, inside, nodes, no_nodes}
use Rattle.oxt_visit.proofs.Called.{called_after, called_between, called_for, called_none}

-- a node whose scope is entered
pub scope_called : (trace : Call → List Call) (h : Hooks) (Leaves : Doc → Doc → Type 0) (a b c d : List Call) (k : Kind) (i s e : ℕ) (ds es : Docs) → h.enters k ≡ true → b ≡ a ++ trace (entered i) → HasCalled trace b c (λ cs. WalksFields h Leaves (row_of k) ds cs es) → d ≡ c ++ trace left → HasCalled trace a d (λ cs. WalksInside h Leaves (node k i s e ds) cs (node k i s e es))
scope_called trace h Leaves a b c d k i s e ds es opens =
    called_between trace a b c d (entered i) left (λ cs. WalksFields h Leaves (row_of k) ds cs es) (λ cs. WalksInside h Leaves (node k i s e ds) cs (node k i s e es))
    (λ cs walk. subst (λ o. WalksInside h Leaves (node k i s e ds) (cond o (entered i ∷ (cs ++ left ∷ [])) cs) (node k i s e es)) opens (inside k i s e ds es cs walk))

-- a node whose scope is not entered
pub fields_called : (trace : Call → List Call) (h : Hooks) (Leaves : Doc → Doc → Type 0) (a b : List Call) (k : Kind) (i s e : ℕ) (ds es : Docs) → h.enters k ≡ false → HasCalled trace a b (λ cs. WalksFields h Leaves (row_of k) ds cs es) → HasCalled trace a b (λ cs. WalksInside h Leaves (node k i s e ds) cs (node k i s e es))
fields_called trace h Leaves a b k i s e ds es opens =
    called_for trace a b (λ cs. WalksFields h Leaves (row_of k) ds cs es) (λ cs. WalksInside h Leaves (node k i s e ds) cs (node k i s e es))
    (λ cs walk. subst (λ o. WalksInside h Leaves (node k i s e ds) (cond o (entered i ∷ (cs ++ left ∷ [])) cs) (node k i s e es)) opens (inside k i s e ds es cs walk))

-- a field that holds nodes
pub field_called : (trace : Call → List Call) (h : Hooks) (Leaves : Doc → Doc → Type 0) (a b : List Call) (held : Option Category) (p : Category) (d e : Doc) → Some p ≡ held → HasCalled trace a b (λ cs. Walks h Leaves p d cs e) → HasCalled trace a b (λ cs. WalksField h Leaves held d cs e)
field_called trace h Leaves a b held p d e there =
    called_for trace a b (λ cs. Walks h Leaves p d cs e) (λ cs. WalksField h Leaves held d cs e)
    (λ cs walk. subst (λ o. WalksField h Leaves o d cs e) there (nodes p d e cs walk))

-- a field that holds none
pub field_passed : (trace : Call → List Call) (h : Hooks) (Leaves : Doc → Doc → Type 0) (a : List Call) (held : Option Category) (d : Doc) → None ≡ held → HasCalled trace a a (λ cs. WalksField h Leaves held d cs d)
field_passed trace h Leaves a held d there =
    called_none trace a (λ cs. WalksField h Leaves held d cs d) (subst (λ o. WalksField h Leaves o d [] d) there (no_nodes d))

-- a node that is visited
pub visit_called : (trace : Call → List Call) (h : Hooks) (Leaves : Doc → Doc → Type 0) (a b c : List Call) (p : Category) (d e f : Doc) → is_visited h p d ≡ true → Leaves d e → b ≡ a ++ trace (visited d e) → HasCalled trace b c (λ cs. WalksInside h Leaves e cs f) → HasCalled trace a c (λ cs. Walks h Leaves p d cs f)
visit_called trace h Leaves a b c p d e f is leaves =
    called_after trace a b c (visited d e) (λ cs. WalksInside h Leaves e cs f) (λ cs. Walks h Leaves p d cs f) (λ cs walk. a_visit p d e f cs is leaves walk)

-- another node
pub other_called : (trace : Call → List Call) (h : Hooks) (Leaves : Doc → Doc → Type 0) (a b : List Call) (p : Category) (d f : Doc) → is_visited h p d ≡ false → HasCalled trace a b (λ cs. WalksInside h Leaves d cs f) → HasCalled trace a b (λ cs. Walks h Leaves p d cs f)
other_called trace h Leaves a b p d f is = called_for trace a b (λ cs. WalksInside h Leaves d cs f) (λ cs. Walks h Leaves p d cs f) (λ cs walk. another p d f cs is walk)

-- a list
pub list_called : (trace : Call → List Call) (h : Hooks) (Leaves : Doc → Doc → Type 0) (a b : List Call) (p : Category) (ds es : Docs) → HasCalled trace a b (λ cs. WalksElements h Leaves p ds cs es) → HasCalled trace a b (λ cs. Walks h Leaves p (list ds) cs (list es))
list_called trace h Leaves a b p ds es = called_for trace a b (λ cs. WalksElements h Leaves p ds cs es) (λ cs. Walks h Leaves p (list ds) cs (list es)) (λ cs walk. a_list p ds es cs walk)

-- the document holds no others
abbrev pub is_leaf : Doc → Bool
is_leaf (list ds) = false
is_leaf (node k i b e ds) = false
is_leaf d = true

leaf_walk : (h : Hooks) (Leaves : Doc → Doc → Type 0) (p : Category) (d : Doc) → is_leaf d ≡ true → Walks h Leaves p d [] d
leaf_walk h Leaves p nil leaf = nothing p
leaf_walk h Leaves p (flag b) leaf = a_flag p b
leaf_walk h Leaves p (number n) leaf = a_number p n
leaf_walk h Leaves p (text t) leaf = a_text p t
leaf_walk h Leaves p (list ds) leaf = absurd (grind (arith, leaf))
leaf_walk h Leaves p (node k i b e ds) leaf = absurd (grind (arith, leaf))

-- what holds no others
pub leaf_called : (trace : Call → List Call) (h : Hooks) (Leaves : Doc → Doc → Type 0) (a : List Call) (p : Category) (d : Doc) → is_leaf d ≡ true → HasCalled trace a a (λ cs. Walks h Leaves p d cs d)
leaf_called trace h Leaves a p d leaf = called_none trace a (λ cs. Walks h Leaves p d cs d) (leaf_walk h Leaves p d leaf)

pub leaf_part : (q : Part) → ((x : Node) → q ≡ Part.Node x → ⊥) → ((x : Vec Part Global) → q ≡ Part.List x → ⊥) → is_leaf (part_doc q) ≡ true
leaf_part q no_node no_list = grind (arith, the_lemmas, no_node, no_list)
