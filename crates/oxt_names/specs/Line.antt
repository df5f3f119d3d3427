-- The line that is printed for a diagnostic.
use Rattle.std.specs.Prelude.{ℕ, List, [], ◌∷◌, ◌++◌, codes, Option, None, Some}
use Rattle.std.specs.Fmt.{decimal}
use Rattle.oxt_names.specs.declared.ids.Span.{Span}
use Rattle.oxt_names.specs.declared.diagnostic.DiagnosticKind.{DiagnosticKind}
use Rattle.oxt_names.specs.declared.diagnostic.OxcDiagnostic.{OxcDiagnostic}
use Rattle.oxt_names.specs.Texts.{text_of}

-- the text, or a dash where there is none
abbrev pub or_dash : Option (List ℕ) → List ℕ
or_dash None = codes "-"
or_dash (Some t) = t

-- where the span starts and ends, or a dash where there is none
abbrev pub place_of : Option Span → List ℕ
place_of None = codes "-"
place_of (Some s) = decimal s.start ++ codes ".." ++ decimal s.end

-- the code, the place and the message, with a space between them, and a line feed
abbrev pub line_of : DiagnosticKind → Option Span → List ℕ
line_of k s = or_dash (text_of k).code ++ codes " " ++ place_of s ++ codes " " ++ (text_of k).message ++ codes "\n"

-- the lines of diagnostics, one after another
abbrev pub lines_of : List OxcDiagnostic → List ℕ
lines_of [] = []
lines_of (d ∷ ds) = line_of d.kind d.span ++ lines_of ds
