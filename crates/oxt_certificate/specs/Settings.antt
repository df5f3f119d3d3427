-- The settings of a program, which are no part of its word.
use Rattle.std.specs.Prelude.{List, ℕ, Bool, true, false, not, ◌&&◌, ◌||◌, if◌then◌else◌, Option, None, Some, codes}
use Rattle.oxt_tree.specs.Syntax.{is_definition_file}
use Rattle.oxt_certificate.specs.Decorators.{has_decorator}
use Rattle.oxt_certificate.specs.Exports.{body, empty_exports, ends_in_export, exports_left, same_spans}
use Rattle.oxt_certificate.specs.declared.settings.Settings.{Settings}
use Rattle.oxt_tree.specs.Doc.{Doc, Docs}
use Rattle.oxt_tree.specs.Fields.{field_of, is_text}
use Rattle.oxt_names.specs.declared.ids.Span.{Span}

-- a script, and no module
abbrev pub is_script : Doc → Bool
is_script d = is_text (codes "script") (field_of (codes "sourceType") d)

-- a program of JavaScript
abbrev pub is_javascript : Doc → Bool
is_javascript d = is_text (codes "js") (field_of (codes "lang") d)

abbrev pub differs : Bool → Bool → Bool
differs true b = not b
differs false b = b

-- the settings that an output is to have: whether its source is a script, whether that is a file of definitions, where
-- the `export {}` statements of its body are to stand, whether one is to be the last statement, and whether no decorator is
-- to be left
pub record SettingsData : Type 0 where
  pub script : Bool
  pub definitions : Bool
  pub exports : List Span
  pub export_due : Bool
  pub undecorated : Bool

abbrev pub settings_view : Settings → SettingsData
settings_view s =
    record {
      script = s.script;
      definitions = s.definitions;
      exports = s.exports.items;
      export_due = s.export_due;
      undecorated = s.undecorated;
    }

-- those of the output of a source, where an `export {}` is due in it or not, and where decorators are lowered or not
abbrev pub settings_by : Bool → Bool → Doc → SettingsData
settings_by is_due undecorated source =
    record {
      script = is_script source;
      definitions = is_definition_file source;
      exports = exports_left is_due source;
      export_due = is_due;
      undecorated = undecorated;
    }

-- a file of definitions where the source is one, and else JavaScript
abbrev pub has_language : Bool → Doc → Bool
has_language definitions output = if definitions then is_definition_file output else is_javascript output

-- the `export {}` statements stand where they are to stand
abbrev pub has_exports : SettingsData → Docs → Bool
has_exports s ds = same_spans (empty_exports ds) s.exports && (not s.export_due || ends_in_export ds)

-- a decorator is left, though none is to be
abbrev pub is_decorated : SettingsData → Doc → Bool
is_decorated s output = s.undecorated && has_decorator output

-- The setting in which a lowered program is wrong: it is a script exactly where its source is one; a file of
-- definitions where its source is one, and else JavaScript; and its body has the `export {}` statements that are due, and
-- no decorator where these are lowered.
abbrev pub wrong_setting : SettingsData → Doc → Option (List ℕ)
wrong_setting s output =
    if differs s.script (is_script output) then Some (codes "/sourceType")
    else if not (has_language s.definitions output) then Some (codes "/lang")
    else if has_exports s (body output) && not (is_decorated s output) then None
    else Some (codes "/body")
