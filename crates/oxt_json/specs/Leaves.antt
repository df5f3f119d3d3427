-- What values without nodes in them stand for; none where they are not allowed.
use Rattle.std.specs.Prelude.{ℕ, List, Bool, if◌then◌else◌, Option, None, Some, option_and_then, nat_lt, ◌^◌}
use Rattle.serde_json.specs.Data.{Num, Data}
use Rattle.serde_json.specs.Find.{as_u64, as_number, as_str}
use Rattle.oxt_grammar.specs.Places.{allows_null, allows_flag, allows_number, kind_named}
use Rattle.oxt_grammar.specs.declared.category.Category.{Category}
use Rattle.oxt_grammar.specs.declared.holds.Holds.{Holds}
use Rattle.oxt_grammar.specs.declared.kind.Kind.{Kind}
use Rattle.oxt_tree.specs.Doc as doc
use Rattle.oxt_tree.specs.Doc.{Doc}
use Rattle.oxt_valid.specs.Valid.{allows_text}

abbrev pub null_doc : Holds → Option Doc
null_doc h = if allows_null h then Some doc.nil else None

abbrev pub flag_doc : Holds → Bool → Option Doc
flag_doc h b = if allows_flag h then Some (doc.flag b) else None

-- a whole number; one with a sign, a point or an exponent is none
abbrev pub number_doc : Holds → Num → Option Doc
number_doc h x = option_and_then (λ n. if allows_number h n then Some (doc.number n) else None) (as_u64 x)

abbrev pub text_doc : Holds → List ℕ → Option Doc
text_doc h t = if allows_text h t then Some (doc.text t) else None

-- the kind of the category that is named there
abbrev pub kind_at : Category → Option Data → Option Kind
kind_at c d = option_and_then (λ name. kind_named name c) (option_and_then as_str d)

abbrev pub within_text : ℕ → Option ℕ
within_text n = if nat_lt n (2 ^ 32) then Some n else None

-- an offset into the source text: zero where none is given
abbrev pub offset_at : Option Data → Option ℕ
offset_at None = Some 0
offset_at (Some d) = option_and_then within_text (option_and_then as_u64 (as_number d))
