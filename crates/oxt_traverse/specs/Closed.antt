-- Lists of statements as the walk leaves them.
use Rattle.std.specs.Prelude.{ℕ, suc, ◌+◌, List, [], ◌∷◌, ◌++◌, take, drop, Bool, if◌then◌else◌, option_to_list}
use Rattle.oxt_stores.specs.Frame.{Frame, let_statement, statements_made, var_statement}
use Rattle.oxt_grammar.specs.declared.kind.Kind.TheVariants as kind
use Rattle.oxt_tree.specs.Doc.{Doc, list, node, no_docs, doc, docs_of}
use Rattle.oxt_tree.specs.Fields.{is_kind}

-- the statements of the declarators of a list, that by `var` before that by `let`, of which the
-- first has that number
abbrev pub declarations : ℕ → Frame → List Doc
declarations n f = option_to_list (var_statement n f) ++ option_to_list (let_statement n f)

-- how many imports the statements begin with
abbrev pub imports : List Doc → ℕ
imports [] = 0
imports (d ∷ ds) = if is_kind kind.ImportDeclaration d then suc (imports ds) else 0

-- the statements in front of the first that is no import
abbrev pub below_imports : List Doc → List Doc → List Doc
below_imports new ds = take (imports ds) ds ++ (new ++ drop (imports ds) ds)

-- the statements at the top of a list, or in the program's body in front of the first that is no
-- import
abbrev pub with_declarations : Bool → List Doc → List Doc → List Doc
with_declarations is_program_body new ds = if is_program_body then below_imports new ds else new ++ ds

-- the statement that returns an expression
abbrev pub returned : ℕ → Doc → Doc
returned n d = node kind.ReturnStatement n 0 0 (doc d no_docs)

-- the body of a function that has these statements
abbrev pub body_of : ℕ → List Doc → Doc
body_of n ds = node kind.FunctionBody n 0 0 (doc (list no_docs) (doc (list (docs_of ds)) no_docs))

-- The expression that an arrow returns, as the walk leaves it: the expression itself, or where there
-- are declarators a body that declares them and returns it. The first number that is free is given.
abbrev pub arrow_body : ℕ → Frame → List Doc → Doc → Doc
arrow_body n f [] d = d
arrow_body n f (new ∷ news) d = body_of (n + statements_made f + 1) ((new ∷ news) ++ returned (n + statements_made f) d ∷ [])
