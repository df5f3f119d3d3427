-- What a table is once a part of it, which was lent, is given back.
use Rattle.std.specs.Prelude.{ℕ}
use Rattle.std.specs.Borrow.{Lends, MutBor, Fml}
use Rattle.oxt_names.specs.declared.flags.ScopeFlags.{ScopeFlags}
use Rattle.oxt_names.specs.declared.flags.SymbolFlags.{SymbolFlags}
use Rattle.oxt_names.specs.contracts.flags.ScopeFlags.{the_row as scope_flags_row}
use Rattle.oxt_names.specs.contracts.flags.SymbolFlags.{the_row as symbol_flags_row}
use Rattle.oxt_scoping.specs.Entries.{ScopeData, SymbolData}
use Rattle.oxt_scoping.specs.Scoped.{Scoped, with_reference_at, with_scope_flags, with_symbol_flags}
use Rattle.oxt_scoping.specs.declared.entry.Reference.{Reference}
use Rattle.oxt_scoping.specs.contracts.entry.Reference.{the_row as reference_row}
use Rattle.oxt_scoping.specs.contracts.entry.ScopeEntry.{the_row as scope_row}
use Rattle.oxt_scoping.specs.contracts.entry.SymbolEntry.{the_row as symbol_row}
use Rattle.oxt_scoping.specs.contracts.scoping.Scoping.{the_row as scoping_row}

-- the scope ends with the last flags behind the reference
abbrev pub LendsOwnScopeFlags : MutBor ScopeData → MutBor ScopeFlags → Fml
LendsOwnScopeFlags x r = Lends scope_row scope_flags_row x r (λ f. record x.now { flags = f })

-- the same of a symbol
abbrev pub LendsOwnSymbolFlags : MutBor SymbolData → MutBor SymbolFlags → Fml
LendsOwnSymbolFlags y r = Lends symbol_row symbol_flags_row y r (λ f. record y.now { flags = f })

-- the table ends with them as the flags of the scope at that place
abbrev pub LendsScopeFlags : MutBor Scoped → ℕ → MutBor ScopeFlags → Fml
LendsScopeFlags s i r = Lends scoping_row scope_flags_row s r (λ f. record s.now { scopes = with_scope_flags i f s.now.scopes })

-- the same of the symbol at that place
abbrev pub LendsSymbolFlags : MutBor Scoped → ℕ → MutBor SymbolFlags → Fml
LendsSymbolFlags s i r = Lends scoping_row symbol_flags_row s r (λ f. record s.now { symbols = with_symbol_flags i f s.now.symbols })

-- the table ends with the last reference behind it at that place
abbrev pub LendsReference : MutBor Scoped → ℕ → MutBor Reference → Fml
LendsReference s i r = Lends scoping_row reference_row s r (λ q. record s.now { references = with_reference_at i q s.now.references })
