-- The symbols that metadata names.
use Rattle.std.specs.Prelude.{ℕ, List, [], ◌∷◌, ◌++◌, map, Bool, false, nat_eq, Option, None, Some}
use Rattle.std.specs.List.{list_any}
use Rattle.oxt_metadata.specs.declared.annotations.Annotation.{Annotation}
use Rattle.oxt_names.specs.declared.ids.SymbolId.{SymbolId}
use Rattle.oxt_options.specs.declared.metadata.MetadataType.{MetadataType}
use Rattle.oxt_options.specs.declared.metadata.MetadataType.TheVariants as metadata_type
use Rattle.oxt_scoping.specs.Meant.{meant}
use Rattle.oxt_scoping.specs.Scoped.{Scoped}
use Rattle.oxt_names.specs.declared.ids.NodeId.{NodeId}

-- the numbers of symbols
abbrev pub numbers_in : List SymbolId → List ℕ
numbers_in ys = map (λ y. y.0) ys

-- the number is one of the list
abbrev pub is_in : List ℕ → ℕ → Bool
is_in ns n = list_any (nat_eq n) ns

-- the number of the symbol, if there is one
abbrev pub number_of : Option SymbolId → List ℕ
number_of None = []
number_of (Some y) = y.0 ∷ []

-- the symbol that a type names, if it names one
abbrev pub named_by : Scoped → MetadataType → List ℕ
named_by s (metadata_type.Global g) = []
named_by s metadata_type.Undefined = []
named_by s (metadata_type.Reference n r) = number_of (meant s r.0)

-- those that annotations name, in the order of the text
abbrev pub named_in : Scoped → List Annotation → List ℕ
named_in s [] = []
named_in s (x ∷ xs) = named_by s x.written ++ named_in s xs

-- the symbol, if there is one, is one of these
abbrev pub is_named : (ℕ → Bool) → Option SymbolId → Bool
is_named zs None = false
is_named zs (Some y) = zs y.0

-- ---- the names themselves

-- the first name of the dotted name that an annotation writes, with the class
abbrev pub written_by : NodeId → MetadataType → List (ℕ × ℕ)
written_by c (metadata_type.Global g) = []
written_by c metadata_type.Undefined = []
written_by c (metadata_type.Reference n r) = (r.0, c.0) ∷ []

abbrev pub written_in : List Annotation → List (ℕ × ℕ)
written_in [] = []
written_in (x ∷ xs) = written_by x.class x.written ++ written_in xs

-- the annotations with what is written for them
abbrev pub types_in : List Annotation → List (ℕ × MetadataType)
types_in xs = map (λ x. (x.node.0, x.written)) xs
