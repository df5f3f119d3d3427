-- The keys of fields that move.
use Rattle.std.specs.Prelude.{ℕ, ◌+◌, List, Bool, true, false, ◌&&◌, ◌||◌, not, None, codes, if◌then◌else◌}
use Rattle.oxt_grammar.specs.Places.{same_kind}
use Rattle.oxt_grammar.specs.declared.kind.Kind.{Kind}
use Rattle.oxt_grammar.specs.declared.kind.Kind.TheVariants as kind
use Rattle.oxt_options.specs.Facts.{Facts, is_in}
use Rattle.oxt_stores.specs.Frame.{Frame, binding, declarator, with_let}
use Rattle.oxt_tree.specs.Copies.{renumbered}
use Rattle.oxt_tree.specs.Doc.{Doc, node}
use Rattle.oxt_tree.specs.Fields.{field_of, is_kind, text_in}
use Rattle.oxt_ctx.specs.Made.{reference, with_declared}
use Rattle.oxt_ctx.specs.Meant.{or_empty}
use Rattle.oxt_ctx.specs.Nodes.{assignment}

-- a literal
abbrev pub is_literal : Kind → Bool
is_literal k =
    same_kind k kind.BooleanLiteral || (same_kind k kind.NullLiteral || (same_kind k kind.NumericLiteral
    || (same_kind k kind.StringLiteral || (same_kind k kind.BigIntLiteral || same_kind k kind.RegExpLiteral))))

-- a name that the plan knows to be never written
abbrev pub is_steady : Facts → Kind → ℕ → Bool
is_steady f k n = same_kind k kind.IdentifierReference && is_in f.never_written n

-- A key that is kept in a variable where it is needed later: neither a literal nor a name that is never written.
abbrev pub needs_variable : Facts → Kind → ℕ → Bool
needs_variable f k n = not (is_literal k || is_steady f k n)

-- the declarators of the lists that are open, with the name declared by `let` in the innermost
abbrev pub with_let_declared : List ℕ → ℕ → List Frame → List Frame
with_let_declared t n fs = with_let (declarator (n + 1) (binding n t) None) fs

-- ---- keys that stand twice

-- a node that has no place in a source text
abbrev pub unplaced : Doc → Doc
unplaced (node k i b e ds) = node k i 0 0 ds
unplaced d = d

-- a copy of a key: a name that is used once more, or a literal
abbrev pub copied_key : ℕ → Doc → Doc
copied_key n d =
    if is_kind kind.IdentifierReference d then reference n (or_empty (text_in (field_of (codes "name") d)))
    else unplaced (renumbered d n)

-- what stands first: the key that is put into the variable where it needs one, and else the key
abbrev pub first_use : Bool → ℕ → List ℕ → Doc → Doc
first_use true n t key = assignment (n + 4) (reference (n + 3) t) key
first_use false n t key = key

-- what stands behind: the variable that is read where the key needs one, and else a copy of the key
abbrev pub second_use : Bool → ℕ → List ℕ → Doc → Doc
second_use true n t key = reference (n + 5) t
second_use false n t key = copied_key n key

-- the declarators of the lists that are open, with the name declared by `var` in the innermost where there is a variable
abbrev pub with_var_where : Bool → List ℕ → ℕ → List Frame → List Frame
with_var_where true t n fs = with_declared t n None fs
with_var_where false t n fs = fs
