-- The options as contracts see them, and those of a run without flags.
use Rattle.std.specs.Prelude.{ℕ, List, Bool, true, false, Option, None, codes}
use Rattle.oxt_options.specs.declared.options.DecoratorOptions.{DecoratorOptions}
use Rattle.oxt_options.specs.declared.options.Module.{Module}
use Rattle.oxt_options.specs.declared.options.Module.TheVariants.{Preserve}
use Rattle.oxt_options.specs.declared.options.TransformOptions.{TransformOptions}
use Rattle.oxt_options.specs.declared.options.TypeScriptOptions.{TypeScriptOptions}
use Rattle.oxt_options.specs.declared.rewrite.RewriteExtensionsMode.{RewriteExtensionsMode}
use Rattle.oxt_options.specs.declared.state.TransformState.{TransformState}
use Rattle.oxt_names.specs.Names.{name_bytes}

-- how TypeScript is lowered, with names as their texts
pub record TypeScriptData : Type 0 where
  pub jsx_pragma : List ℕ
  pub jsx_pragma_frag : List ℕ
  pub only_remove_type_imports : Bool
  pub allow_namespaces : Bool
  pub allow_declare_fields : Bool
  pub remove_class_fields_without_initializer : Bool
  pub optimize_const_enums : Bool
  pub optimize_enums : Bool
  pub rewrite_import_extensions : Option RewriteExtensionsMode

-- what changes the lowering, so
pub record TransformData : Type 0 where
  pub typescript : TypeScriptData
  pub decorator : DecoratorOptions
  pub «module» : Module
  pub set_public_class_fields : Bool

abbrev pub typescript_view : TypeScriptOptions → TypeScriptData
typescript_view o =
    record {
      jsx_pragma = name_bytes o.jsx_pragma;
      jsx_pragma_frag = name_bytes o.jsx_pragma_frag;
      only_remove_type_imports = o.only_remove_type_imports;
      allow_namespaces = o.allow_namespaces;
      allow_declare_fields = o.allow_declare_fields;
      remove_class_fields_without_initializer = o.remove_class_fields_without_initializer;
      optimize_const_enums = o.optimize_const_enums;
      optimize_enums = o.optimize_enums;
      rewrite_import_extensions = o.rewrite_import_extensions;
    }

abbrev pub transform_view : TransformOptions → TransformData
transform_view o =
    record {
      typescript = typescript_view o.typescript;
      decorator = o.decorator;
      «module» = o.module;
      set_public_class_fields = o.set_public_class_fields;
    }

-- ---- a run without flags

abbrev pub typescript_defaults : TypeScriptData
typescript_defaults =
    record {
      jsx_pragma = codes "React.createElement";
      jsx_pragma_frag = codes "React.Fragment";
      only_remove_type_imports = false;
      allow_namespaces = true;
      allow_declare_fields = true;
      remove_class_fields_without_initializer = false;
      optimize_const_enums = false;
      optimize_enums = false;
      rewrite_import_extensions = None;
    }

abbrev pub decorator_defaults : DecoratorOptions
decorator_defaults = record { legacy = false; emit_decorator_metadata = false; strict_null_checks = true }

abbrev pub transform_defaults : TransformData
transform_defaults =
    record {
      typescript = typescript_defaults;
      decorator = decorator_defaults;
      «module» = Preserve;
      set_public_class_fields = false;
    }

-- ---- what the passes know

-- what they know under the options of a program that is a file of definitions or not; no other pass
-- lowers fields
abbrev pub state_of : TransformOptions → Bool → TransformState
state_of o is_definition =
    record {
      «module» = o.module;
      set_public_class_fields = o.set_public_class_fields;
      definition = is_definition;
      is_class_properties_plugin_enabled = false;
    }
