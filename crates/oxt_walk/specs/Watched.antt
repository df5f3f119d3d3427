-- Where a walk is watched.
use Rattle.std.specs.Prelude.{◌≡◌, ℕ, Bool, true, None}
use Rattle.oxt_ctx.specs.Context.{Context}
use Rattle.oxt_ctx.specs.Level.{waits}

-- The pass watches, and nothing waits beside statements.
pub record IsWatched (watches : Bool) (c : Context) : Type 0 where
  pub watching : watches ≡ true
  pub idle : (n : ℕ) → waits c n ≡ None
