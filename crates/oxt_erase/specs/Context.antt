-- What the passes change of a context.
use Rattle.oxt_ctx.specs.Context.{Context}

-- the first context but for the table of names and the next number, which are those of the second
abbrev pub but_table_of : Context → Context → Context
but_table_of old new = record old { scoping = new.scoping; ids = new.ids }
