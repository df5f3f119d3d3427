-- What is known of the nodes of a program, by their numbers.
use Rattle.std.specs.Prelude.{◌≡◌, ℕ, List, [], ◌∷◌, Bool, nat_eq, if◌then◌else◌, Option, None, Some}
use Rattle.std.specs.List.{list_any}
use Rattle.std.specs.Map.{lookup}
use Rattle.std.specs.Option.{option_or}
use Rattle.oxt_names.specs.Constant.{Constant}
use Rattle.oxt_options.specs.Metadata.{last_type, type_at}
use Rattle.oxt_options.specs.declared.metadata.MetadataType.{MetadataType}

-- the specifiers that are kept, the blocks that are first, the blocks that are dropped, the expressions
-- that are inlined with their constants, the references to names that nothing writes to, those that are read as the
-- alias of a decorated class, with the class, the type annotations of which metadata tells, with what it writes for them, and
-- the first names of the dotted names that it writes, with the class whose metadata that is
pub record Facts : Type 0 where
  pub kept : List ℕ
  pub first : List ℕ
  pub dropped : List ℕ
  pub inlined : List (ℕ × Constant)
  pub never_written : List ℕ
  pub aliases : List (ℕ × ℕ)
  pub metadata : List (ℕ × MetadataType)
  pub written : List (ℕ × ℕ)

-- nothing is known
abbrev pub no_facts : Facts
no_facts = record { kept = []; first = []; dropped = []; inlined = []; never_written = []; aliases = []; metadata = []; written = [] }

-- the number is one of the list
abbrev pub is_in : List ℕ → ℕ → Bool
is_in ns n = list_any (nat_eq n) ns

-- the constant that the list has for the number
abbrev pub constant_at : List (ℕ × Constant) → ℕ → Option Constant
constant_at cs n = lookup (nat_eq n) cs

-- the last constant that a list has for the number, where it may have several
abbrev pub last_constant : List (ℕ × Constant) → ℕ → Option Constant
last_constant [] n = None
last_constant (c ∷ cs) n = option_or (last_constant cs n) (if nat_eq c.0 n then Some c.1 else None)

-- the class that the list has for the number
abbrev pub alias_at : List (ℕ × ℕ) → ℕ → Option ℕ
alias_at cs n = lookup (nat_eq n) cs

-- the last class that a list has for the number, where it may have several
abbrev pub last_alias : List (ℕ × ℕ) → ℕ → Option ℕ
last_alias [] n = None
last_alias (c ∷ cs) n = option_or (last_alias cs n) (if nat_eq c.0 n then Some c.1 else None)

-- of each node the one knows what the other has in its lists
pub record Answers (known listed : Facts) : Type 0 where
  pub kept : (n : ℕ) → is_in known.kept n ≡ is_in listed.kept n
  pub first : (n : ℕ) → is_in known.first n ≡ is_in listed.first n
  pub dropped : (n : ℕ) → is_in known.dropped n ≡ is_in listed.dropped n
  pub inlined : (n : ℕ) → constant_at known.inlined n ≡ last_constant listed.inlined n
  pub never_written : (n : ℕ) → is_in known.never_written n ≡ is_in listed.never_written n
  pub aliases : (n : ℕ) → alias_at known.aliases n ≡ last_alias listed.aliases n
  pub metadata : (n : ℕ) → type_at known.metadata n ≡ last_type listed.metadata n
  pub written : (n : ℕ) → alias_at known.written n ≡ last_alias listed.written n

-- ---- how the program makes a plan of its lists

-- the one has the lists of nodes of the other
pub record SameNodes (known before : Facts) : Type 0 where
  pub kept : known.kept ≡ before.kept
  pub first : known.first ≡ before.first
  pub dropped : known.dropped ≡ before.dropped
  pub never_written : known.never_written ≡ before.never_written

-- of each node its tables have what the other has in its lists
pub record HasTables (known listed : Facts) : Type 0 where
  pub inlined : (n : ℕ) → constant_at known.inlined n ≡ last_constant listed.inlined n
  pub aliases : (n : ℕ) → alias_at known.aliases n ≡ last_alias listed.aliases n
  pub metadata : (n : ℕ) → type_at known.metadata n ≡ last_type listed.metadata n
  pub written : (n : ℕ) → alias_at known.written n ≡ last_alias listed.written n
