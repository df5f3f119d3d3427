-- What waits in a store, by the number of the statement for which it waits.
use Rattle.std.specs.Prelude.{ℕ, List, [], Bool, if◌then◌else◌, Option, None, Some, option_map, unwrap_or}
use Rattle.std.specs.BTreeMap.{get}
use Rattle.std.specs.Ordering.{is_eq, nat_cmp}
use Rattle.oxt_injector.specs.declared.injector.StatementInjectorStore.{StatementInjectorStore}
use Rattle.oxt_stores.specs.Insertion.{Entry, entries, followed}

-- what a store holds
abbrev pub pending : StatementInjectorStore → ℕ → Option (List Entry)
pending s n = option_map entries (get nat_cmp s.insertions n)

-- the list at a number
abbrev pub waiting : (ℕ → Option (List Entry)) → ℕ → List Entry
waiting p n = unwrap_or (p n) []

abbrev pub same_number : ℕ → ℕ → Bool
same_number m n = is_eq (nat_cmp m n)

-- with that list at one number, and all else as it was
abbrev pub with_list : (ℕ → Option (List Entry)) → ℕ → List Entry → ℕ → Option (List Entry)
with_list p m es n = if same_number m n then Some es else p n

-- with nothing at one number
abbrev pub without_list : (ℕ → Option (List Entry)) → ℕ → ℕ → Option (List Entry)
without_list p m n = if same_number m n then None else p n

-- with the list at the first number behind that at the second
abbrev pub behind : (ℕ → Option (List Entry)) → Option (List Entry) → ℕ → ℕ → ℕ → Option (List Entry)
behind p None m n = p
behind p (Some es) m n = without_list (with_list p n (followed (waiting p n) es)) m

-- The list at the first number behind that at the second, and nothing at the first; as it is where
-- there is none, or both are the same.
abbrev pub moved : (ℕ → Option (List Entry)) → ℕ → ℕ → ℕ → Option (List Entry)
moved p m n = if same_number m n then p else behind p (p m) m n
