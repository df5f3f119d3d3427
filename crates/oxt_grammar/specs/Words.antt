-- Written by tools/grammar.py from grammar/grammar.txt.
use Rattle.std.specs.Prelude.{ℕ, List, [], ◌∷◌, codes}
use Rattle.oxt_grammar.specs.declared.word.Word.{Word}
use Rattle.oxt_grammar.specs.declared.word.Word.TheVariants as word
use Rattle.oxt_grammar.specs.declared.word.Words.{Words}
use Rattle.oxt_grammar.specs.declared.word.Words.TheVariants as words

-- the text that a tree's JSON has for a word
abbrev pub text_of : Word → List ℕ
text_of word.Module = codes "module"
text_of word.Script = codes "script"
text_of word.Ts = codes "ts"
text_of word.Js = codes "js"
text_of word.Dts = codes "dts"
text_of word.Var = codes "var"
text_of word.Let = codes "let"
text_of word.Const = codes "const"
text_of word.Using = codes "using"
text_of word.AwaitUsing = codes "await using"
text_of word.Public = codes "public"
text_of word.Protected = codes "protected"
text_of word.Private = codes "private"
text_of word.Method = codes "method"
text_of word.Constructor = codes "constructor"
text_of word.Get = codes "get"
text_of word.Set = codes "set"
text_of word.Init = codes "init"
text_of word.Source = codes "source"
text_of word.Defer = codes "defer"
text_of word.Value = codes "value"
text_of word.Type = codes "type"
text_of word.Namespace = codes "namespace"
text_of word.Increment = codes "++"
text_of word.Decrement = codes "--"
text_of word.Keyof = codes "keyof"
text_of word.Unique = codes "unique"
text_of word.Readonly = codes "readonly"

-- the words of a list
abbrev pub words_in : Words → List Word
words_in words.SourceType = word.Module ∷ word.Script ∷ []
words_in words.Lang = word.Ts ∷ word.Js ∷ word.Dts ∷ []
words_in words.VariableKind = word.Var ∷ word.Let ∷ word.Const ∷ word.Using ∷ word.AwaitUsing ∷ []
words_in words.Accessibility = word.Public ∷ word.Protected ∷ word.Private ∷ []
words_in words.MethodKind = word.Method ∷ word.Constructor ∷ word.Get ∷ word.Set ∷ []
words_in words.PropertyKind = word.Init ∷ word.Get ∷ word.Set ∷ []
words_in words.Phase = word.Source ∷ word.Defer ∷ []
words_in words.TypeOrValue = word.Value ∷ word.Type ∷ []
words_in words.NamespaceKind = word.Namespace ∷ word.Module ∷ []
words_in words.UpdateOperator = word.Increment ∷ word.Decrement ∷ []
words_in words.TypeOperator = word.Keyof ∷ word.Unique ∷ word.Readonly ∷ []
