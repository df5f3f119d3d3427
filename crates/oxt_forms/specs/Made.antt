-- Forms that are read by a rule of their own where they have made names.
use Rattle.std.specs.Prelude.{ℕ, List, Bool, true, false, not, ◌&&◌, ◌||◌, if◌then◌else◌, Option, None, Some, is_some, codes}
use Rattle.std.specs.List.{list_any}
use Rattle.oxt_grammar.specs.Places.{same_kind}
use Rattle.oxt_grammar.specs.declared.kind.Kind.{Kind}
use Rattle.oxt_grammar.specs.declared.kind.Kind.TheVariants as kind
use Rattle.oxt_tree.specs.Doc.{Doc, nil, flag, number, text, list, node, Docs, no_docs, doc}
use Rattle.oxt_tree.specs.Fields.{first, named, field_of, elements, docs_list, is_nil, is_set, is_text, is_kind, is_empty_list, text_in}
use Rattle.oxt_tree.specs.Inner.{seen}
use Rattle.oxt_tree.specs.Syntax.{is_mere_declaration}
use Rattle.oxt_facts.specs.Facts.{Known, is_made}
use Rattle.oxt_facts.specs.Told.{Telling, alias, gone, told_of}
use Rattle.oxt_forms.specs.Forms.{within, same_text, is_empty_object, is_name_again, is_choice, is_one}

-- the tag of the made name as which a name is read of which that is told
abbrev pub told_tag : Option Telling → Option (List ℕ)
told_tag (Some (alias t)) = Some t
told_tag t = None

-- the same of a document
abbrev pub alias_of : Known → Doc → Option (List ℕ)
alias_of f (node k i b e ds) = told_tag (told_of f.told i)
alias_of f d = None

-- the use of a made name, or of a name that is read as one
abbrev pub is_made_use : Known → Doc → Bool
is_made_use f d =
    is_kind kind.IdentifierReference d
    && (is_some (alias_of f d) || is_made f (field_of (codes "name") d))

-- the tag, or else the spelling
abbrev pub tag_or : Option (List ℕ) → Doc → Doc
tag_or None d = d
tag_or (Some t) d = text t

-- the tag of the made name in such a use
abbrev pub made_tag : Known → Doc → Doc
made_tag f d = tag_or (alias_of f d) (field_of (codes "name") d)

-- an assignment by `=` to a made name
abbrev pub is_keep : Known → Kind → Docs → Bool
is_keep f k ds =
    is_text (codes "=") (named (codes "operator") k ds) && is_made_use f (within (codes "left") k ds)

-- a made name as a pattern
abbrev pub is_made_binding : Known → Doc → Bool
is_made_binding f d = is_kind kind.BindingIdentifier d && is_made f (field_of (codes "name") d)

-- a made name that is declared without a value
abbrev pub is_silent : Known → Kind → Docs → Bool
is_silent f k ds =
    is_nil (named (codes "init") k ds) && is_made_binding f (named (codes "id") k ds)

abbrev pub is_silent_declarator : Known → Doc → Bool
is_silent_declarator f d =
    is_nil (field_of (codes "init") d) && is_made_binding f (field_of (codes "id") d)

-- declarators, one at least, that all declare made names without a value
abbrev pub are_silent : Known → Doc → Bool
are_silent f d =
    not (is_empty_list d)
    && not (list_any (λ c. not (is_silent_declarator f c)) (docs_list (elements d)))

-- a declaration that is read as nothing
abbrev pub is_silent_declaration : Known → Doc → Bool
is_silent_declaration f d =
    is_kind kind.VariableDeclaration d && are_silent f (field_of (codes "declarations") d)

-- `b.k` or `b["k"]` on a made name
abbrev pub is_base_member : Known → Doc → Bool
is_base_member f d =
    (is_kind kind.StaticMemberExpression d
    || (is_kind kind.ComputedMemberExpression d
    && is_kind kind.StringLiteral (seen (field_of (codes "expression") d))))
    && (not (is_set (field_of (codes "optional") d))
    && is_made_use f (seen (field_of (codes "object") d)))

-- the use `b` in it, and its name
abbrev pub base_object : Doc → Doc
base_object d = seen (field_of (codes "object") d)

abbrev pub base_name : Doc → Doc
base_name d = field_of (codes "name") (base_object d)

-- the text `k` in it
abbrev pub base_key : Doc → Doc
base_key d =
    if is_kind kind.StaticMemberExpression d then field_of (codes "name") (field_of (codes "property") d)
    else field_of (codes "value") (seen (field_of (codes "expression") d))

-- the same member of the same made name twice
abbrev pub is_base_again : Known → Doc → Doc → Bool
is_base_again f c d =
    is_base_member f c
    && (is_base_member f d
    && (same_text (base_name c) (base_name d) && same_text (base_key c) (base_key d)))

-- `m = {}`
abbrev pub makes_base : Known → Doc → Doc → Bool
makes_base f m d =
    is_kind kind.AssignmentExpression d
    && (is_text (codes "=") (field_of (codes "operator") d)
    && (is_base_again f m (seen (field_of (codes "left") d))
    && is_empty_object (seen (field_of (codes "right") d))))

-- `m || (m = {})`
abbrev pub is_base_choice : Known → Doc → Bool
is_base_choice f d =
    is_kind kind.LogicalExpression d
    && (is_text (codes "||") (field_of (codes "operator") d)
    && makes_base f (seen (field_of (codes "left") d)) (seen (field_of (codes "right") d)))

-- `x = m || (m = {})`
abbrev pub makes_on : Known → Doc → Doc → Bool
makes_on f x d =
    is_kind kind.AssignmentExpression d
    && (is_text (codes "=") (field_of (codes "operator") d)
    && (is_name_again x (seen (field_of (codes "left") d))
    && is_base_choice f (seen (field_of (codes "right") d))))

-- `x || (x = m || (m = {}))`
abbrev pub is_found_made_on : Known → Kind → Docs → Bool
is_found_made_on f k ds =
    is_choice f k ds && makes_on f (within (codes "left") k ds) (within (codes "right") k ds)

-- the member `m` in it
abbrev pub base_in : Kind → Docs → Doc
base_in k ds =
    seen (field_of (codes "left") (seen (field_of (codes "right") (within (codes "right") k ds))))

-- `...p` with a made name
abbrev pub is_made_spread : Known → Doc → Bool
is_made_spread f d =
    is_kind kind.SpreadElement d && is_made_use f (field_of (codes "argument") d)

-- `super(...p)` with a made name
abbrev pub is_passing_call : Known → Doc → Bool
is_passing_call f d =
    is_kind kind.CallExpression d
    && (not (is_set (field_of (codes "optional") d))
    && (not (is_set (field_of (codes "pure") d))
    && (is_kind kind.Super (field_of (codes "callee") d)
    && (is_one (elements (field_of (codes "arguments") d))
    && is_made_spread f (first (elements (field_of (codes "arguments") d)))))))

-- that call as a statement
abbrev pub is_passing : Known → Kind → Docs → Bool
is_passing f k ds =
    same_kind k kind.ExpressionStatement && is_passing_call f (named (codes "expression") k ds)

abbrev pub is_passing_statement : Known → Doc → Bool
is_passing_statement f d =
    is_kind kind.ExpressionStatement d && is_passing_call f (field_of (codes "expression") d)

-- the name `p` in it
abbrev pub passed_name : Doc → Doc
passed_name d =
    field_of (codes "name") (field_of (codes "argument")
    (first (elements (field_of (codes "arguments") (field_of (codes "expression") d)))))

-- the name stands in the document, as a binding or as a use
abbrev mutual
  pub mentions : List ℕ → Doc → Bool
  mentions p nil = false
  mentions p (flag b) = false
  mentions p (number n) = false
  mentions p (text t) = false
  mentions p (list ds) = any_mentions p ds
  mentions p (node k i b e ds) =
      ((same_kind k kind.BindingIdentifier || same_kind k kind.IdentifierReference)
      && is_text p (named (codes "name") k ds))
      || any_mentions p ds

  pub any_mentions : List ℕ → Docs → Bool
  any_mentions p no_docs = false
  any_mentions p (doc d ds) = mentions p d || any_mentions p ds

-- no statement passes anything on, or names p
abbrev pub pass_nothing : Known → List ℕ → Docs → Bool
pass_nothing f p ds =
    not (list_any (λ d. is_passing_statement f d || mentions p d) (docs_list ds))

-- The first statement that is not read as nothing is `super(...p)`, and p is named nowhere else.
abbrev pub pass_first : Known → List ℕ → Docs → Bool
pass_first f p no_docs = false
pass_first f p (doc d ds) =
    if is_silent_declaration f d then not (mentions p d) && pass_first f p ds
    else (is_passing_statement f d && is_text p (passed_name d)) && pass_nothing f p ds

-- the same, where p is a text
abbrev pub pass_name : Known → Option (List ℕ) → Docs → Bool
pass_name f None ds = false
pass_name f (Some p) ds = pass_first f p ds

-- the one parameter `...p` of a function
abbrev pub rest_pattern : Doc → Doc
rest_pattern d = field_of (codes "pattern") (field_of (codes "rest") d)

-- A function has the one parameter `...p` with a made name, which it passes on first of all.
abbrev pub passes_on : Known → Kind → Docs → Bool
passes_on f k ds =
    is_empty_list (field_of (codes "items") (named (codes "params") k ds))
    && (is_made_binding f (rest_pattern (named (codes "params") k ds))
    && pass_name f (text_in (field_of (codes "name") (rest_pattern (named (codes "params") k ds))))
    (elements (field_of (codes "statements") (named (codes "body") k ds))))

-- that it does nothing is what is told
abbrev pub tells_gone : Option Telling → Bool
tells_gone (Some gone) = true
tells_gone t = false

-- a node of which that is told
abbrev pub is_told_gone : Known → Doc → Bool
is_told_gone f (node k i b e ds) = tells_gone (told_of f.told i)
is_told_gone f d = false

-- A statement that is neither an expression nor nothing. A block of a namespace is nothing, since one that does something
-- may not stand in a class.
abbrev pub is_loud : Known → Doc → Bool
is_loud f d =
    not (is_kind kind.ExpressionStatement d)
    && (not (is_kind kind.TSNamespaceDeclaration d)
    && (not (is_mere_declaration d) && (not (is_silent_declaration f d) && not (is_told_gone f d))))

-- a static block all of whose statements are expressions or nothing
abbrev pub is_quiet : Known → Kind → Docs → Bool
is_quiet f k ds = not (list_any (is_loud f) (docs_list (elements (named (codes "body") k ds))))
