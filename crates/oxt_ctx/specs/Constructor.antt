-- The constructor that a class gets which has none.
use Rattle.std.specs.Prelude.{ℕ, ◌+◌, List, ◌∷◌, length, Bool, true, false, Some, codes}
use Rattle.oxt_grammar.specs.declared.kind.Kind.TheVariants as kind
use Rattle.oxt_names.specs.declared.flags.ScopeFlags.{ScopeFlags}
use Rattle.oxt_names.specs.declared.ids.ScopeId.{ScopeId}
use Rattle.oxt_names.specs.declared.ids.SymbolId.{SymbolId}
use Rattle.oxt_stores.specs.Frame.{binding}
use Rattle.oxt_tree.specs.Doc.{Doc, nil, list, no_docs, doc}
use Rattle.oxt_ctx.specs.Context.{Context}
use Rattle.oxt_ctx.specs.Made.{reference, with_ids, with_uid, with_use}
use Rattle.oxt_ctx.specs.Functions.{function_body, function_of, in_function, method, reading, with_function}
use Rattle.oxt_ctx.specs.Nodes.{call, made, property_name, statement}

-- `super(...t);`
abbrev pub super_call : ℕ → List ℕ → Doc
super_call n t =
    statement (n + 4) (call (n + 3) (made kind.Super n no_docs) (doc (made kind.SpreadElement (n + 2) (doc (reference (n + 1) t) no_docs)) no_docs))

-- the parameter `...t`
abbrev pub rest_parameter : ℕ → List ℕ → Doc
rest_parameter n t = made kind.FormalParameterRest (n + 1) (doc (binding n t) (doc nil no_docs))

-- the function of that number with that last parameter and those statements
abbrev pub function_with : ℕ → ℕ → Doc → List Doc → Doc
function_with f n rest ss =
    function_of f (made kind.FormalParameters n (doc (list no_docs) (doc rest no_docs)))
    (function_body (n + 1) ss)

-- the constructor with that function
abbrev pub constructor_method : ℕ → Doc → Doc
constructor_method n f = method (n + 1) (codes "constructor") false (property_name n (codes "constructor")) false f

-- the function of that number that passes all that it is given on to `super` first
abbrev pub passing_function : ℕ → ℕ → List ℕ → List Doc → Doc
passing_function f n t ss = function_with f (n + 8) (rest_parameter (n + 6) t) (super_call (n + 1) t ∷ ss)

-- The constructor with those statements. In a derived class it passes all that it is given on to `super`
-- first.
abbrev pub made_constructor : Bool → ℕ → List ℕ → List Doc → Doc
made_constructor false n t ss = constructor_method (n + 3) (function_with n (n + 1) nil ss)
made_constructor true n t ss = constructor_method (n + 11) (passing_function n (n + 1) t ss)

-- a constructor, which is always strict
abbrev pub constructor_flags : ScopeFlags
constructor_flags = record { 0 = 26 }

-- the context in which `super(...t);` was made, whose name means the symbol
abbrev pub with_super_call : SymbolId → Context → Context
with_super_call y c = with_ids 3 (with_use (Some y) reading (with_ids 1 c))

-- the context in which the name of what is passed on stands in the scope, and is used once
abbrev pub with_passing : ScopeId → Context → Context
with_passing x c =
    with_ids 2 (with_super_call (record { 0 = length c.scoping.symbols }) (with_uid (codes "args") x in_function c))

-- The context once that constructor was made in a class of that scope.
abbrev pub constructed : Bool → ScopeId → Context → Context
constructed false x c = with_ids 4 (with_function constructor_flags x c)
constructed true x c = with_ids 4 (with_passing (record { 0 = length c.scoping.scopes }) (with_function constructor_flags x c))
