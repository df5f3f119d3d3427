-- What becomes of TypeScript's extensions, and the words for it.
use Rattle.std.specs.Prelude.{ℕ, ◌==◌, List, [], ◌∷◌, ◌++◌, Bool, ◌||◌, if◌then◌else◌, Option, None, Some, codes, option_map}
use Rattle.std.specs.List.{list_any}
use Rattle.std.specs.Map.{lookup}
use Rattle.std.specs.Str.{bytes_eq}
use Rattle.oxt_options.specs.declared.rewrite.RewriteExtensionsMode.{RewriteExtensionsMode}
use Rattle.oxt_options.specs.declared.rewrite.RewriteExtensionsMode.TheVariants.{Rewrite, Remove}

-- each word that is taken with what it stands for; none leaves extensions as they are
abbrev pub rewrite_words : List (List ℕ × Option RewriteExtensionsMode)
rewrite_words =
    (codes "true", Some Rewrite)
    ∷ (codes "rewrite", Some Rewrite)
    ∷ (codes "remove", Some Remove)
    ∷ (codes "false", None)
    ∷ []

-- what the word stands for; none where it is not taken
abbrev pub rewrite_written : List ℕ → Option (Option RewriteExtensionsMode)
rewrite_written t = lookup (bytes_eq t) rewrite_words

-- ---- names of modules

-- each extension of TypeScript with that of JavaScript, which has its dot
abbrev pub extensions : List (List ℕ × List ℕ)
extensions =
    (codes "ts", codes ".js")
    ∷ (codes "tsx", codes ".js")
    ∷ (codes "mts", codes ".mjs")
    ∷ (codes "cts", codes ".cjs")
    ∷ []

-- that of JavaScript for one of TypeScript; none where it is another
abbrev pub extension_for : List ℕ → Option (List ℕ)
extension_for t = lookup (bytes_eq t) extensions

-- a slash or a backslash
abbrev pub is_separator : ℕ → Bool
is_separator b = b == 47 || b == 92

-- a byte and the text after it, by the parts of the latter around its last dot
abbrev pub around_from : ℕ → List ℕ → Option (List ℕ × List ℕ) → Option (List ℕ × List ℕ)
around_from b bs None = if b == 46 then Some ([], bs) else None
around_from b bs (Some p) = Some (b ∷ p.0, p.1)

-- the parts of a text before and after its last dot, if it has one
abbrev pub around_dot : List ℕ → Option (List ℕ × List ℕ)
around_dot [] = None
around_dot (b ∷ bs) = around_from b bs (around_dot bs)

-- a text with the extension, or without one
abbrev pub with_extension : RewriteExtensionsMode → List ℕ → List ℕ → List ℕ
with_extension Rewrite stem e = stem ++ e
with_extension Remove stem e = stem

-- the parts of a name around its last dot, put together anew if the latter is an extension of TypeScript
abbrev pub renamed : RewriteExtensionsMode → Option (List ℕ × List ℕ) → Option (List ℕ)
renamed m None = None
renamed m (Some p) = option_map (with_extension m p.0) (extension_for p.1)

-- The name of a module after rewriting, if that changes it: a path with an extension of TypeScript.
abbrev pub rewritten : RewriteExtensionsMode → List ℕ → Option (List ℕ)
rewritten m t = if list_any is_separator t then renamed m (around_dot t) else None
