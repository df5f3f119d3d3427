-- The static parts of a class.
use Rattle.std.specs.Prelude.{Bool, not, ◌&&◌, ◌||◌, codes}
use Rattle.std.specs.List.{list_any}
use Rattle.oxt_grammar.specs.declared.kind.Kind.TheVariants as kind
use Rattle.oxt_tree.specs.Doc.{Doc, Docs}
use Rattle.oxt_tree.specs.Fields.{docs_list, field_of, is_kind, is_set}
use Rattle.oxt_declares.specs.Dropped.{is_dropped}

-- an accessor that is static
abbrev pub is_static_accessor : Doc → Bool
is_static_accessor d = is_kind kind.AccessorProperty d && is_set (field_of (codes "static") d)

abbrev pub has_static_accessor : Docs → Bool
has_static_accessor ds = list_any is_static_accessor (docs_list ds)

-- a static field, block or accessor
abbrev pub is_static_kind : Doc → Bool
is_static_kind d =
    is_kind kind.StaticBlock d
    || ((is_kind kind.PropertyDefinition d || is_kind kind.AccessorProperty d) && is_set (field_of (codes "static") d))

-- one that is not erased
abbrev pub is_static_part : Doc → Bool
is_static_part d = not (is_dropped d) && is_static_kind d

-- A class with these elements has a static part of its own: a field, a block or an accessor, outside erased code.
abbrev pub has_static_part : Docs → Bool
has_static_part ds = list_any is_static_part (docs_list ds)
