-- Functions without a name that are made, and the methods and fields of classes.
use Rattle.std.specs.Prelude.{ℕ, List, length, Bool, false, Option, Some}
use Rattle.oxt_grammar.specs.declared.kind.Kind.TheVariants as kind
use Rattle.oxt_names.specs.declared.flags.ReferenceFlags.{ReferenceFlags}
use Rattle.oxt_names.specs.declared.flags.ScopeFlags.{ScopeFlags}
use Rattle.oxt_names.specs.declared.flags.SymbolFlags.{SymbolFlags}
use Rattle.oxt_names.specs.declared.ids.ScopeId.{ScopeId}
use Rattle.oxt_scoping.specs.Scoped.{new_scope, with_opened_scope}
use Rattle.oxt_stores.specs.Frame.{or_null}
use Rattle.oxt_tree.specs.Doc.{Doc, nil, flag, text, list, Docs, no_docs, doc, docs_of}
use Rattle.oxt_ctx.specs.Context.{Context}
use Rattle.oxt_ctx.specs.Made.{after}
use Rattle.oxt_ctx.specs.Nodes.{made}

-- a use that reads
abbrev pub reading : ReferenceFlags
reading = record { 0 = 1 }

-- a name that a function has
abbrev pub in_function : SymbolFlags
in_function = record { 0 = 1 }

-- the context in which the next number opens the scope of a function in that scope
abbrev pub with_function : ScopeFlags → ScopeId → Context → Context
with_function f x c =
    record c {
      scoping = with_opened_scope (record { 0 = c.ids.next }) (record { 0 = length c.scoping.scopes }) (new_scope (Some x) f) c.scoping;
      ids = after 1 c.ids;
    }

-- the function of that number, without a name
abbrev pub function_of : ℕ → Doc → Doc → Doc
function_of f parameters body =
    made kind.FunctionExpression f (doc nil (doc (flag false) (doc (flag false) (doc (flag false) (doc nil (doc nil
    (doc parameters (doc nil (doc body no_docs)))))))))

-- a body of these statements
abbrev pub function_body : ℕ → List Doc → Doc
function_body n ss = made kind.FunctionBody n (doc (list no_docs) (doc (list (docs_of ss)) no_docs))

-- these parameters, of which none takes the rest
abbrev pub parameters : ℕ → Docs → Doc
parameters n ds = made kind.FormalParameters n (doc (list ds) (doc nil no_docs))

-- the parameter of that pattern
abbrev pub parameter : ℕ → Doc → Doc
parameter n pattern =
    made kind.FormalParameter n (doc (list no_docs) (doc nil (doc (flag false) (doc (flag false) (doc (flag false)
    (doc pattern (doc nil (doc nil no_docs))))))))

-- the method of that sort, key and function
abbrev pub method : ℕ → List ℕ → Bool → Doc → Bool → Doc → Doc
method n sort is_static key is_computed function =
    made kind.MethodDefinition n (doc (list no_docs) (doc key (doc (flag is_computed) (doc (text sort) (doc (flag is_static)
    (doc (flag false) (doc (flag false) (doc nil (doc function no_docs)))))))))

-- the field of that key, which is not computed, and that value, if any
abbrev pub field : ℕ → Doc → Bool → Option Doc → Doc
field n key is_static value =
    made kind.PropertyDefinition n (doc (list no_docs) (doc key (doc (flag false) (doc (flag is_static) (doc (flag false)
    (doc (flag false) (doc (flag false) (doc (flag false) (doc (flag false) (doc nil (doc nil (doc (or_null value) no_docs))))))))))))
