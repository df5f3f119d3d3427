-- The flags whose value is a word of a list.
use Rattle.std.specs.Prelude.{ℕ, List, [], ◌∷◌, Option, None, Some, codes}
use Rattle.std.specs.Map.{lookup}
use Rattle.std.specs.Str.{bytes_eq}
use Rattle.oxt_options.specs.Options.{transform_defaults, typescript_defaults}
use Rattle.oxt_options.specs.Rewrite.{rewrite_written}
use Rattle.oxt_options.specs.declared.options.Module.{Module}
use Rattle.oxt_options.specs.declared.options.Module.TheVariants.{Preserve, Esm, CommonJs}
use Rattle.oxt_options.specs.declared.rewrite.RewriteExtensionsMode.{RewriteExtensionsMode}

-- each word for a module system with what it stands for
abbrev pub module_words : List (List ℕ × Module)
module_words = (codes "preserve", Preserve) ∷ (codes "esm", Esm) ∷ (codes "commonjs", CommonJs) ∷ []

-- the module system that the word stands for; none where the word is none of the list
abbrev pub module_written : List ℕ → Option Module
module_written t = lookup (bytes_eq t) module_words

-- the module system where the flag has this word, or was not given
abbrev pub chosen_module : Option (List ℕ) → Option Module
chosen_module None = Some transform_defaults.«module»
chosen_module (Some word) = module_written word

-- the same for what becomes of TypeScript's extensions
abbrev pub chosen_extensions : Option (List ℕ) → Option (Option RewriteExtensionsMode)
chosen_extensions None = Some typescript_defaults.rewrite_import_extensions
chosen_extensions (Some word) = rewrite_written word
