-- What it is to show the word of a source's tree, and why that fails.
use Rattle.std.specs.Prelude.{◌≡◌, ℕ, List, Option, ⊤}
use Rattle.std.specs.Io.KnownBytes.{Appends}
use Rattle.oxt_io.specs.Counts.{Rose}
use Rattle.oxt_io.specs.Passed.{GaveAll, GavePast}
use Rattle.oxt_io.specs.declared.outcome.InputFault.TheVariants as input
use Rattle.oxt_json.specs.Faults.{IfShape, OnJson}
use Rattle.oxt_json.specs.Spelling.{no_value, reading, tree, wrong}
use Rattle.oxt_json.specs.declared.read.ReadFault.{ReadFault}
use Rattle.oxt_tree.specs.Doc.{Doc}
use Rattle.oxt_names.specs.Names.{name_bytes}
use Rattle.oxt_facts.specs.Facts.{of_source}
use Rattle.oxt_word.specs.Word.{word}
use Rattle.oxt_cases.specs.Lines.{lines}
use Rattle.oxt_cases.specs.declared.fault.Fault.{Fault}
use Rattle.oxt_cases.specs.declared.fault.Fault.TheVariants as fault

-- the most bytes that a tree may have
abbrev pub limit : ℕ
limit = 16777216

-- The source's bytes spell a tree, and the sink took the lines of its word.
pub record Shown (left left' taken taken' : Option (List ℕ)) : Type 0 where
  pub bytes : List ℕ
  pub source : Doc
  pub next : ℕ
  pub gave : GaveAll left left' bytes
  pub spelled : reading bytes ≡ tree source next
  pub wrote : Appends taken taken' (lines (word of_source source))

-- The source's bytes spell no tree, and the fault says where.
pub record NoTree (left left' : Option (List ℕ)) (f : ReadFault) : Type 0 where
  pub bytes : List ℕ
  pub gave : GaveAll left left' bytes
  pub no_json : OnJson (reading bytes ≡ no_value) f
  pub misplaced : IfShape (λ place. reading bytes ≡ wrong (name_bytes place)) f

-- the cause of a fault: the source or the sink counted one, or the source gave too much, or its
-- bytes spell no tree
abbrev pub IsCause : (left left' : Option (List ℕ)) (read read' wrote wrote' : ℕ) → Fault → Type 0
IsCause left left' read read' wrote wrote' (fault.Input input.Memory) = ⊤
IsCause left left' read read' wrote wrote' (fault.Input input.Fault) = Rose read read'
IsCause left left' read read' wrote wrote' (fault.Input input.TooLong) = GavePast left left' limit
IsCause left left' read read' wrote wrote' (fault.Tree f) = NoTree left left' f
IsCause left left' read read' wrote wrote' fault.Memory = ⊤
IsCause left left' read read' wrote wrote' fault.Output = Rose wrote wrote'
