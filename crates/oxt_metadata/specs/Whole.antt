-- What metadata writes in a program.
use Rattle.std.specs.Prelude.{ℕ, List}
use Rattle.oxt_metadata.specs.Annotations.{annotations}
use Rattle.oxt_metadata.specs.Symbols.{named_in}
use Rattle.oxt_metadata.specs.declared.annotations.Annotation.{Annotation}
use Rattle.oxt_options.specs.declared.options.DecoratorOptions.{DecoratorOptions}
use Rattle.oxt_scoping.specs.Scoped.{Scoped}
use Rattle.oxt_tree.specs.Doc.{Doc}

-- the annotations that are written, and the symbols that these name
pub record Written : Type 0 where
  pub annotations : List Annotation
  pub named : List ℕ

-- these, and what they name
abbrev pub with_named : Scoped → List Annotation → Written
with_named s xs = record { annotations = xs; named = named_in s xs }

-- What metadata writes in a program of that table.
abbrev pub metadata_of : Scoped → DecoratorOptions → Doc → Written
metadata_of s o d = with_named s (annotations s o d)
