-- The rules by which fields are lowered.
use Rattle.std.specs.Prelude.{ℕ, Bool, not, ◌||◌, Option}
use Rattle.oxt_fields.specs.declared.rules.FieldRules.{FieldRules}
use Rattle.oxt_names.specs.Constant.{Constant}
use Rattle.oxt_options.specs.Facts.{Facts, alias_at, constant_at, is_in}
use Rattle.oxt_options.specs.Metadata.{emits_metadata, type_at}
use Rattle.oxt_options.specs.Options.{TransformData}
use Rattle.oxt_options.specs.declared.metadata.MetadataType.{MetadataType}

-- whether public fields are set by assignment, whether empty fields are dropped, whether decorators have their older
-- meaning, and whether metadata is emitted for what they decorate; which nodes are names that nothing writes to, the constants of
-- those that are inlined, the decorated classes as whose aliases names are read, what metadata writes for annotations, and the
-- classes whose metadata writes names as values
pub record Rules : Type 0 where
  pub moves : Bool
  pub drops : Bool
  pub legacy : Bool
  pub emits : Bool
  pub never : ℕ → Bool
  pub inlined : ℕ → Option Constant
  pub alias : ℕ → Option ℕ
  pub metadata : ℕ → Option MetadataType
  pub written : ℕ → Option ℕ

-- empty fields are dropped where `declare` alone does not mark them, or where that is asked for
abbrev pub drops_empty : TransformData → Bool
drops_empty o = not o.typescript.allow_declare_fields || o.typescript.remove_class_fields_without_initializer

-- the rules under these options
abbrev pub rules_of : TransformData → (ℕ → Bool) → (ℕ → Option Constant) → (ℕ → Option ℕ) → (ℕ → Option MetadataType) → (ℕ → Option ℕ) → Rules
rules_of o ns cs aliases types names =
    record {
      moves = o.set_public_class_fields;
      drops = drops_empty o;
      legacy = o.decorator.legacy;
      emits = emits_metadata o.decorator;
      never = ns;
      inlined = cs;
      alias = aliases;
      metadata = types;
      written = names;
    }

-- the same by a plan that knows that
abbrev pub rules_in : TransformData → Facts → Rules
rules_in o f = rules_of o (is_in f.never_written) (constant_at f.inlined) (alias_at f.aliases) (type_at f.metadata) (alias_at f.written)

-- the rules as contracts see them
abbrev pub rules_view : FieldRules → Rules
rules_view r =
    record {
      moves = r.moves;
      drops = r.drops_empty;
      legacy = r.legacy;
      emits = r.emits_metadata;
      never = is_in r.plan.now.never_written;
      inlined = constant_at r.plan.now.inlined;
      alias = alias_at r.plan.now.aliases;
      metadata = type_at r.plan.now.metadata;
      written = alias_at r.plan.now.written;
    }
