-- Declarators that wait to stand at the top of a list of statements.
use Rattle.std.specs.Prelude.{ℕ, ◌+◌, ◌-◌, List, [], ◌∷◌, ◌++◌, map, length, take, Option, None, Some, codes, false}
use Rattle.oxt_grammar.specs.declared.kind.Kind.TheVariants as kind
use Rattle.oxt_tree.specs.Doc.{Doc, nil, flag, text, list, node, no_docs, doc, docs_of}
use Rattle.oxt_stores.specs.Insertion.{docs}
use Rattle.oxt_stores.specs.declared.declarations.Declarators.{Declarators}
use Rattle.oxt_stores.specs.declared.declarations.VarDeclarationsStore.{VarDeclarationsStore}

-- the declarators of one list of statements: those by `var` and those by `let`
pub record Frame : Type 0 where
  pub vars : List Doc
  pub lets : List Doc

abbrev pub frame : Declarators → Frame
frame d = record { vars = docs d.vars.items; lets = docs d.lets.items }

-- what a store holds, the list that was entered last being last
abbrev pub frames : VarDeclarationsStore → List Frame
frames s = map frame s.stack.items

abbrev pub no_declarators : Frame
no_declarators = record { vars = []; lets = [] }

-- the last of them
abbrev pub top_frame : List Frame → Frame
top_frame [] = no_declarators
top_frame (f ∷ []) = f
top_frame (f ∷ g ∷ fs) = top_frame (g ∷ fs)

-- all but the last
abbrev pub below_top : List Frame → List Frame
below_top fs = take (length fs - 1) fs

-- with one more by `var` in the last of them
abbrev pub with_var : Doc → List Frame → List Frame
with_var d [] = []
with_var d (f ∷ []) = record f { vars = f.vars ++ d ∷ [] } ∷ []
with_var d (f ∷ g ∷ fs) = f ∷ with_var d (g ∷ fs)

-- with one more by `let` in the last of them
abbrev pub with_let : Doc → List Frame → List Frame
with_let d [] = []
with_let d (f ∷ []) = record f { lets = f.lets ++ d ∷ [] } ∷ []
with_let d (f ∷ g ∷ fs) = f ∷ with_let d (g ∷ fs)

-- a name that is bound
abbrev pub binding : ℕ → List ℕ → Doc
binding n name = node kind.BindingIdentifier n 0 0 (doc (text name) no_docs)

abbrev pub or_null : Option Doc → Doc
or_null None = nil
or_null (Some d) = d

-- what is declared, without a type, and what it begins as
abbrev pub declarator : ℕ → Doc → Option Doc → Doc
declarator n pattern init = node kind.VariableDeclarator n 0 0 (doc pattern (doc nil (doc (flag false) (doc (or_null init) no_docs))))

-- the statement of declarators
abbrev pub declaration : ℕ → List ℕ → List Doc → Doc
declaration n word ds = node kind.VariableDeclaration n 0 0 (doc (text word) (doc (list (docs_of ds)) (doc (flag false) no_docs)))

-- the statement of declarators, where there are any
abbrev pub statement_of : ℕ → List ℕ → List Doc → Option Doc
statement_of n word [] = None
statement_of n word (d ∷ ds) = Some (declaration n word (d ∷ ds))

-- how many statements they make
abbrev pub statement_count : List Doc → ℕ
statement_count [] = 0
statement_count (d ∷ ds) = 1

-- how many those of a frame are
abbrev pub statements_made : Frame → ℕ
statements_made f = statement_count f.vars + statement_count f.lets

-- the statement by `var`
abbrev pub var_statement : ℕ → Frame → Option Doc
var_statement n f = statement_of n (codes "var") f.vars

-- the statement by `let`, which is numbered after that by `var`
abbrev pub let_statement : ℕ → Frame → Option Doc
let_statement n f = statement_of (n + statement_count f.vars) (codes "let") f.lets
