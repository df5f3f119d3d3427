-- The type annotations of which metadata tells.
use Rattle.std.specs.Prelude.{ℕ, List, [], Bool, if◌then◌else◌, Option, None, Some}
use Rattle.oxt_grammar.specs.declared.kind.Kind.{Kind}
use Rattle.oxt_metadata.specs.Sights.{Seeing, seeing}
use Rattle.oxt_metadata.specs.Sites.{field_site, inside_site}
use Rattle.oxt_metadata.specs.Types.{type_of}
use Rattle.oxt_metadata.specs.declared.annotations.Annotation.{Annotation}
use Rattle.oxt_metadata.specs.declared.site.Site.{Site}
use Rattle.oxt_metadata.specs.declared.site.Site.TheVariants as site
use Rattle.oxt_options.specs.Metadata.{emits_metadata}
use Rattle.oxt_options.specs.declared.options.DecoratorOptions.{DecoratorOptions}
use Rattle.oxt_scoping.specs.Scoped.{Scoped}
use Rattle.oxt_search.specs.All.{all_in}
use Rattle.oxt_search.specs.Sought.{Sought}
use Rattle.oxt_tree.specs.Doc.{Doc, node, Docs}
use Rattle.oxt_names.specs.declared.ids.NodeId.{NodeId}

-- an annotation of that number, of which the metadata of that class tells
abbrev pub written_at : Seeing → NodeId → Kind → ℕ → Docs → Annotation
written_at s c k i ds = record { node = record { 0 = i }; class = c; written = type_of s (node k i 0 0 ds) }

-- the node, if it is an annotation that is written
abbrev pub annotation_at : Seeing → Site → Kind → ℕ → Docs → Option Annotation
annotation_at s (site.Annotation c) k i ds = Some (written_at s c k i ds)
annotation_at s q k i ds = None

-- each of them; the state says where a node stands
abbrev pub sought : Seeing → Sought Site Annotation
sought s =
    record {
      at = annotation_at s;
      inside = inside_site;
      in_field = λ q k f. field_site q f;
    }

-- those of a tree, as its types are read by that
abbrev pub annotated : Seeing → Doc → List Annotation
annotated s d = all_in (sought s) d site.Code

abbrev pub annotations_by : Scoped → Bool → Doc → List Annotation
annotations_by s strict d = annotated (seeing s strict d) d

-- The annotations of a program of which metadata tells, in the order of the text: those of decorated fields and accessors, of the
-- parameters of decorated methods and of what these return, and of the parameters of the constructors of decorated classes. There
-- are none where no metadata is emitted.
abbrev pub annotations : Scoped → DecoratorOptions → Doc → List Annotation
annotations s o d = if emits_metadata o then annotations_by s o.strict_null_checks d else []
