-- The words of the command line, and the options that they say.
use Rattle.std.specs.Prelude.{ℕ, Bool, true, false, not, List, [], ◌∷◌, ◌++◌, ◌==◌, Option, None, Some, find, codes, if◌then◌else◌, option_and_then, option_map, unwrap_or}
use Rattle.std.specs.List.{list_any}
use Rattle.std.specs.Str.{bytes_eq}
use Rattle.clap.specs.Lexer.{long_of}
use Rattle.oxt_flags.specs.Choices.{chosen_extensions, chosen_module}
use Rattle.oxt_options.specs.Options.{TransformData, decorator_defaults, transform_defaults, typescript_defaults}
use Rattle.oxt_options.specs.declared.options.Module.{Module}
use Rattle.oxt_options.specs.declared.rewrite.RewriteExtensionsMode.{RewriteExtensionsMode}

abbrev pub Text : Type 0
Text = List ℕ

-- ---- the flags

-- a flag: its name without the two hyphens, and whether a value follows it
pub record FlagData : Type 0 where
  pub name : Text
  pub takes_value : Bool

abbrev pub with_value : Text → FlagData
with_value name = record { name = name; takes_value = true }

abbrev pub alone : Text → FlagData
alone name = record { name = name; takes_value = false }

-- all flags
abbrev pub flags : List FlagData
flags =
    alone (codes "emit-decorator-metadata")
    ∷ with_value (codes "jsx-pragma")
    ∷ with_value (codes "jsx-pragma-frag")
    ∷ alone (codes "legacy")
    ∷ with_value (codes "module")
    ∷ alone (codes "no-declare-fields")
    ∷ alone (codes "no-namespaces")
    ∷ alone (codes "no-strict-null-checks")
    ∷ alone (codes "only-remove-type-imports")
    ∷ alone (codes "optimize-const-enums")
    ∷ alone (codes "optimize-enums")
    ∷ alone (codes "remove-empty-fields")
    ∷ with_value (codes "rewrite-extensions")
    ∷ alone (codes "set-public-class-fields")
    ∷ []

-- ---- what the words give

-- a flag that was given, by its name, with its value: that of a flag without one is `true`
abbrev pub Given : Type 0
Given = Text × Text

abbrev pub is_given : Text → List Given → Bool
is_given name gs = list_any (λ g. bytes_eq g.0 name) gs

-- the value with which the flag was given; none where it was not given
abbrev pub value_given : Text → List Given → Option Text
value_given name gs = option_map (λ (g : Given). g.1) (find (λ g. bytes_eq g.0 name) gs)

-- what the next word may be: a flag, the value of the flag of this name, or, after `--`, nothing
pub data Next : Type 0 where
  flag : Next
  value_of : Text → Next
  nothing : Next

-- what was given so far, and what the next word may be
pub record Point : Type 0 where
  pub given : List Given
  pub next : Next

-- the flag is given with this value; none where it was given before
abbrev pub give : Text → Text → List Given → Option Point
give name v gs =
    if is_given name gs then None
    else Some (record { given = gs ++ (name, v) ∷ []; next = flag })

-- a flag that takes a value: it stands after a `=`, or is the next word
abbrev pub valued : Text → Option Text → List Given → Option Point
valued name (Some v) gs = give name v gs
valued name None gs = Some (record { given = gs; next = value_of name })

-- a flag that takes no value, and so no `=`
abbrev pub unvalued : Text → Option Text → List Given → Option Point
unvalued name (Some v) gs = None
unvalued name None gs = give name (codes "true") gs

-- a flag of the table, with what stands after its `=`
abbrev pub flag_read : Option FlagData → Option Text → List Given → Option Point
flag_read None v gs = None
flag_read (Some f) v gs = if f.takes_value then valued f.name v gs else unvalued f.name v gs

-- a word `--name` or `--name=value`, cut at its first `=`; none where it is neither
abbrev pub long_read : List FlagData → Option (Text × Option Text) → List Given → Option Point
long_read fs None gs = None
long_read fs (Some w) gs = flag_read (find (λ f. bytes_eq f.name w.0) fs) w.1 gs

-- the word is `--`
abbrev pub is_end : Text → Bool
is_end word = bytes_eq word (45 ∷ 45 ∷ [])

-- the word may be a value: it has at most one byte, or does not begin with a hyphen (45)
abbrev pub is_value : Text → Bool
is_value (x ∷ y ∷ ys) = not (x == 45)
is_value _ = true

-- the point after one more word; none where the word is not taken
abbrev pub after : List FlagData → Next → List Given → Text → Option Point
after fs flag gs word =
    if is_end word then Some (record { given = gs; next = nothing })
    else long_read fs (long_of word) gs
after fs (value_of name) gs word = if is_value word then give name word gs else None
after fs nothing gs word = None

-- all that was given, where no value is missing at the end
abbrev pub ended : Next → List Given → Option (List Given)
ended (value_of name) gs = None
ended _ gs = Some gs

-- what is given once these words follow; none where they are not taken
unfoldable pub given_from : List FlagData → List Text → Next → List Given → Option (List Given)
given_from fs [] next gs = ended next gs
given_from fs (word ∷ words) next gs =
    option_and_then (λ (p : Point). given_from fs words p.next p.given) (after fs next gs word)

-- what the words after the program's name give; none where they are not taken
abbrev pub given_by : List Text → Option (List Given)
given_by words = given_from flags words flag []

-- ---- the options

-- the options of a run without flags, but for the flags that have a value or are used, and for what
-- was chosen by word
abbrev pub options_by : (Text → Option Text) → (Text → Bool) → Module → Option RewriteExtensionsMode → TransformData
options_by value is_used «module» extensions = record transform_defaults {
  typescript = record typescript_defaults {
    jsx_pragma = unwrap_or (value (codes "jsx-pragma")) typescript_defaults.jsx_pragma;
    jsx_pragma_frag = unwrap_or (value (codes "jsx-pragma-frag")) typescript_defaults.jsx_pragma_frag;
    only_remove_type_imports = is_used (codes "only-remove-type-imports");
    allow_namespaces = not (is_used (codes "no-namespaces"));
    allow_declare_fields = not (is_used (codes "no-declare-fields"));
    remove_class_fields_without_initializer = is_used (codes "remove-empty-fields");
    optimize_const_enums = is_used (codes "optimize-const-enums");
    optimize_enums = is_used (codes "optimize-enums");
    rewrite_import_extensions = extensions;
  };
  decorator = record decorator_defaults {
    legacy = is_used (codes "legacy");
    emit_decorator_metadata = is_used (codes "emit-decorator-metadata");
    strict_null_checks = not (is_used (codes "no-strict-null-checks"));
  };
  «module» = «module»;
  set_public_class_fields = is_used (codes "set-public-class-fields");
}

-- the same with the words themselves; none where one is none of its list
abbrev pub chosen_by : (Text → Option Text) → (Text → Bool) → Option TransformData
chosen_by value is_used =
    option_and_then (λ (m : Module). option_map (options_by value is_used m) (chosen_extensions (value (codes "rewrite-extensions"))))
    (chosen_module (value (codes "module")))

abbrev pub options_with : List Given → Option TransformData
options_with gs = chosen_by (λ name. value_given name gs) (λ name. is_given name gs)

-- the options that the words after the program's name say; none where they are not taken
abbrev pub parsed : List Text → Option TransformData
parsed words = option_and_then options_with (given_by words)
