-- Why a tree is refused, and the line that says so.
use Rattle.std.specs.Prelude.{ℕ, List, ◌++◌, codes, decimal}
use Rattle.oxt_check.specs.declared.fault.Mismatch.{Mismatch}
use Rattle.oxt_check.specs.declared.fault.Mismatch.TheVariants.{Shape, Plain, Setting, Item, Owner, Binding}
use Rattle.oxt_faults.specs.declared.misplaced.MisplacedKind.{MisplacedKind}
use Rattle.oxt_faults.specs.declared.misplaced.MisplacedKind.TheVariants.{Body, Namespace, Merge, Enum, Super, Key, Field, Decorator, Accessor}
use Rattle.oxt_names.specs.Names.{name_bytes}
use Rattle.oxt_names.specs.declared.ids.Span.{Span}

-- how a lowered tree differs from what it has to be: the first place at which it is none of the
-- grammar, the first at which something of TypeScript is left, a setting of the program, the first item
-- at which its word is not that of its source, the first name whose owner is not that of its source, or the
-- first made name that is not declared exactly once
pub data Difference : Type 0 where
  misfit_at : List ℕ → Difference
  typescript_at : List ℕ → Difference
  setting_at : List ℕ → Difference
  item_at : ℕ → Difference
  owner_at : ℕ → Difference
  binding_of : List ℕ → Difference

abbrev pub difference_in : Mismatch → Difference
difference_in (Shape place) = misfit_at (name_bytes place)
difference_in (Plain place) = typescript_at (name_bytes place)
difference_in (Setting place) = setting_at (name_bytes place)
difference_in (Item i) = item_at i
difference_in (Owner i) = owner_at i
difference_in (Binding name) = binding_of (name_bytes name)

-- the bytes are no JSON; the value at a place is wrong; a node is misplaced; the constant of a member that stands there
-- would be too large; a name would be captured; the lowered tree failed its test
pub data Refusal : Type 0 where
  json : Refusal
  shape : List ℕ → Refusal
  misplaced_node : MisplacedKind → List ℕ → Refusal
  wide_member : ℕ × ℕ → Refusal
  captured_name : List ℕ → List ℕ → Refusal
  uncertified : Difference → Refusal

-- a span: where it begins and ends
abbrev pub span_of : Span → ℕ × ℕ
span_of s = (s.start, s.end)

-- how lines name what is misplaced
abbrev pub kind_text : MisplacedKind → List ℕ
kind_text Body = codes "body"
kind_text Namespace = codes "namespace"
kind_text Merge = codes "merge"
kind_text Enum = codes "enum"
kind_text Super = codes "super"
kind_text Key = codes "key"
kind_text Field = codes "field"
kind_text Decorator = codes "decorator"
kind_text Accessor = codes "accessor"

-- the line on standard error
abbrev pub line_of : Refusal → List ℕ
line_of json = codes "json\n"
line_of (shape place) = codes "shape " ++ place ++ codes "\n"
line_of (misplaced_node m place) = codes "misplaced " ++ kind_text m ++ codes " " ++ place ++ codes "\n"
line_of (wide_member span) = codes "wide " ++ decimal span.0 ++ codes ".." ++ decimal span.1 ++ codes "\n"
line_of (captured_name name place) = codes "captured " ++ name ++ codes " " ++ place ++ codes "\n"
line_of (uncertified (misfit_at place)) = codes "uncertified shape " ++ place ++ codes "\n"
line_of (uncertified (typescript_at place)) = codes "uncertified plain " ++ place ++ codes "\n"
line_of (uncertified (setting_at place)) = codes "uncertified setting " ++ place ++ codes "\n"
line_of (uncertified (item_at i)) = codes "uncertified item " ++ decimal i ++ codes "\n"
line_of (uncertified (owner_at i)) = codes "uncertified owner " ++ decimal i ++ codes "\n"
line_of (uncertified (binding_of name)) = codes "uncertified binding " ++ name ++ codes "\n"
