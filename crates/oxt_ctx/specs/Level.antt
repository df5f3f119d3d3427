-- What a hook finds and what it leaves.
use Rattle.std.specs.Prelude.{◌≡◌, ◌<◌, ℕ, List, length, Bool, true, false, Option}
use Rattle.oxt_ctx.specs.Context.{Context}
use Rattle.oxt_stores.specs.Frame.{Frame, frames}
use Rattle.oxt_stores.specs.Insertion.{Entry}
use Rattle.oxt_injector.specs.Pending.{pending}
use Rattle.oxt_ctx.specs.declared.hook.Hook.{Hook}
use Rattle.oxt_ctx.specs.declared.hook.Hook.TheVariants as hook
use Rattle.oxt_tree.specs.Doc.{Doc}

-- the declarators of the lists that are open
abbrev pub declared : Context → List Frame
declared c = frames c.declarations

-- what waits beside the statement with that number
abbrev pub waits : Context → ℕ → Option (List Entry)
waits c n = pending c.injector n

-- a list of declarators is open
abbrev pub IsOpen : Context → Type 0
IsOpen c = 0 < length (declared c)

-- the hook is run inside a list of statements: all are but those of the program
abbrev pub is_inside : Hook → Bool
is_inside hook.EnterProgram = false
is_inside hook.ExitProgram = false
is_inside h = true

-- a list of declarators is open, but at the hooks of the program
abbrev pub IsOpenAt : Hook → Context → Type 0
IsOpenAt h c = is_inside h ≡ true → IsOpen c

-- The records of the nodes around are as they were, and as many lists of declarators are open.
pub record IsLevel (before after : Context) : Type 0 where
  pub records : after.ancestors ≡ before.ancestors
  pub open_lists : length (declared after) ≡ length (declared before)

-- Where the premise holds, the document is left as it was, and nothing is put aside: neither beside statements
-- nor among the declarators of the lists that are open.
pub record IsUntouched (Premise : Type 0) (old new : Doc) (before after : Context) : Type 0 where
  pub document : Premise → new ≡ old
  pub waiting : Premise → (n : ℕ) → waits after n ≡ waits before n
  pub declarators : Premise → declared after ≡ declared before
