-- The getter and the setter that read and write a storage.
use Rattle.std.specs.Prelude.{ℕ, ◌+◌, List, [], ◌∷◌, length, Bool, Some, codes}
use Rattle.oxt_names.specs.declared.flags.ScopeFlags.{ScopeFlags}
use Rattle.oxt_names.specs.declared.ids.ScopeId.{ScopeId}
use Rattle.oxt_stores.specs.Frame.{binding}
use Rattle.oxt_tree.specs.Doc.{Doc, Docs, no_docs, doc}
use Rattle.oxt_ctx.specs.Context.{Context}
use Rattle.oxt_ctx.specs.Functions.{function_body, function_of, in_function, method, parameter, parameters, reading, with_function}
use Rattle.oxt_ctx.specs.Made.{reference, with_binding, with_ids, with_use}
use Rattle.oxt_ctx.specs.Nodes.{assignment, returned, statement}

-- how the parameter of a setter is spelled
abbrev pub value_text : List ℕ
value_text = codes "value"

-- that parameter
abbrev pub set_parameter : ℕ → Doc
set_parameter n = parameter (n + 1) (binding n value_text)

-- the function of that number, of these parameters and that statement
abbrev pub accessor_function : ℕ → ℕ → Docs → Doc → Doc
accessor_function f n items body = function_of f (parameters n items) (function_body (n + 1) (body ∷ []))

-- the function of that number that answers the storage
abbrev pub getting_function : ℕ → ℕ → Doc → Doc
getting_function f n storage = accessor_function f (n + 1) no_docs (returned n storage)

-- `storage = value;`
abbrev pub put_statement : ℕ → Doc → Doc → Doc
put_statement n storage value = statement (n + 1) (assignment n storage value)

-- the function of that number and parameter that puts the value into the storage
abbrev pub putting_function : ℕ → ℕ → Doc → Doc → Doc → Doc
putting_function f n taken storage value = accessor_function f (n + 2) (doc taken no_docs) (put_statement n storage value)

-- the function of that number that puts what it is given into the storage
abbrev pub setting_function : ℕ → ℕ → Doc → Doc
setting_function f n storage = putting_function f (n + 4) (set_parameter (n + 1)) storage (reference (n + 3) value_text)

-- `get key() { return storage; }`
abbrev pub getter : ℕ → Bool → Doc → Bool → Doc → Doc
getter n is_static key is_computed storage =
    method (n + 4) (codes "get") is_static key is_computed (getting_function n (n + 1) storage)

-- `set key(value) { storage = value; }`
abbrev pub setter : ℕ → Bool → Doc → Bool → Doc → Doc
setter n is_static key is_computed storage =
    method (n + 9) (codes "set") is_static key is_computed (setting_function n (n + 1) storage)

-- a getter, which is always strict
abbrev pub getter_flags : ScopeFlags
getter_flags = record { 0 = 42 }

-- a setter, which is always strict
abbrev pub setter_flags : ScopeFlags
setter_flags = record { 0 = 74 }

-- the context once a getter was made in a class of that scope
abbrev pub with_getter : ScopeId → Context → Context
with_getter x c = with_ids 4 (with_function getter_flags x c)

-- the context once the parameter of a setter of that scope was made, and a use of it
abbrev pub with_value : ScopeId → Context → Context
with_value x c =
    with_use (Some (record { 0 = length c.scoping.symbols })) reading (with_ids 2 (with_binding value_text x in_function c))

-- the context once a setter was made in a class of that scope
abbrev pub with_setter : ScopeId → Context → Context
with_setter x c = with_ids 5 (with_value (record { 0 = length c.scoping.scopes }) (with_function setter_flags x c))
