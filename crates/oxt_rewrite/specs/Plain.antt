-- Programs that are plain JavaScript already, and the options that leave them as they are.
use Rattle.std.specs.Prelude.{◌≡◌, Bool, true, false, not, ◌&&◌, is_none, codes}
use Rattle.std.specs.List.{list_any}
use Rattle.oxt_options.specs.Options.{TransformData}
use Rattle.oxt_options.specs.declared.options.Module.{Module}
use Rattle.oxt_options.specs.declared.options.Module.TheVariants.{CommonJs}
use Rattle.oxt_grammar.specs.declared.kind.Kind.TheVariants as kind
use Rattle.oxt_rewrite.specs.Places.{with_field}
use Rattle.oxt_tree.specs.Doc.{Doc, text}
use Rattle.oxt_tree.specs.Fields.{docs_list, elements, field_of, is_empty_list, is_kind}
use Rattle.oxt_tree.specs.Syntax.{is_definition_file}
use Rattle.oxt_valid.specs.Plain.{is_plain}

abbrev pub is_common_js : Module → Bool
is_common_js CommonJs = true
is_common_js m = false

-- The options change nothing in JavaScript: all imports of values are kept, the module system is not CommonJS, names of
-- modules are not rewritten, decorators are not lowered, and fields are defined, also those without a value.
abbrev pub leaves_javascript : TransformData → Bool
leaves_javascript o =
    o.typescript.only_remove_type_imports
    && (not (is_common_js o.«module»)
    && (is_none o.typescript.rewrite_import_extensions
    && (not o.decorator.legacy
    && (not o.set_public_class_fields
    && (o.typescript.allow_declare_fields && not o.typescript.remove_class_fields_without_initializer)))))

-- an import with an empty list in braces
abbrev pub is_empty_import : Doc → Bool
is_empty_import d = is_kind kind.ImportDeclaration d && is_empty_list (field_of (codes "specifiers") d)

-- one of the statements of the program is such an import
abbrev pub has_empty_import : Doc → Bool
has_empty_import d = list_any is_empty_import (docs_list (elements (field_of (codes "body") d)))

-- A program without TypeScript, which is no file of definitions and has no import with an empty list in braces.
abbrev pub is_plain_source : Doc → Bool
is_plain_source d = not (is_definition_file d) && (is_plain d && not (has_empty_import d))

-- under the options nothing is to be done to the program
abbrev pub is_left_alone : TransformData → Doc → Bool
is_left_alone o source = leaves_javascript o && is_plain_source source

-- the program with JavaScript for its language
abbrev pub as_javascript : Doc → Doc
as_javascript d = with_field (codes "lang") (text (codes "js")) d

-- where nothing is to be done to it, the source is left as it is, but that it says to be JavaScript
abbrev pub ComesBack : TransformData → Doc → Doc → Type 0
ComesBack o source output = is_left_alone o source ≡ true → output ≡ as_javascript source
