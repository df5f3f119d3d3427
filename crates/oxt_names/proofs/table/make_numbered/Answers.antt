-- The first free number behind the base, and what the two insertions leave.
use Rattle.std.proofs.Common.{sym, ◌∙◌, true≢false, string_bytes}
use Rattle.oxt_names.specs.Names.{name_bytes}
use Rattle.oxt_names.proofs.Candidates.{base_stays, first_numbered, one_more, tried_again}
use Rattle.oxt_names.proofs.Tables.{on_err}
use Rattle.oxt_names.specs.Tried.{FirstFree, spellings}
use Rattle.oxt_names.proofs.table.make_numbered.Goals as goal

pub put-requires-2-clause-behind : goal.put-requires-2-clause-behind
put-requires-2-clause-behind c =
    let first : FirstFree (spellings c.args.table.now.entries) (string_bytes c.args.base) c.args.from c.in_ok-free.free.number (string_bytes c.in_ok-free.free.text) = rw c.as_str.ensures.value at c.in_ok-free.ensures in
    tried_again (spellings c.args.table.now.entries) (spellings c.put.new.table.entries) (string_bytes c.args.base) (string_bytes c.in_ok-free.free.text) c.args.from c.in_ok-free.free.number
    c.in_ok-put.ensures.names c.requires.taken c.requires.behind first

pub returns-in_err-put-2-clause-kept : goal.returns-in_err-put-2-clause-kept
returns-in_err-put-2-clause-kept c =
    on_err c.from_residual-in_err-put-2.result
    (absurd (true≢false (sym (base_stays (spellings c.args.table.now.entries) (spellings c.put.new.table.entries) (string_bytes c.args.base) (string_bytes c.in_ok-free.free.text) c.in_ok-put.ensures.names c.requires.taken) ∙ c.in_err-put-2.ensures.absent)))

pub returns-clause-first : goal.returns-clause-first
returns-clause-first c =
    let first : FirstFree (spellings c.args.table.now.entries) (string_bytes c.args.base) c.args.from c.in_ok-free.free.number (string_bytes c.in_ok-free.free.text) = rw c.as_str.ensures.value at c.in_ok-free.ensures in
    first_numbered (spellings c.args.table.now.entries) (string_bytes c.args.base) (string_bytes c.in_ok-free.free.text) (name_bytes c.in_ok-name.name) c.args.from c.in_ok-free.free.number
    (c.in_ok-name.ensures ∙ c.as_str-2.ensures.value) c.requires.taken c.requires.behind first

pub returns-clause-names : goal.returns-clause-names
returns-clause-names c =
    one_more (spellings c.args.table.now.entries) (spellings c.put.new.table.entries) (spellings c.put-2.new.table.entries) (string_bytes c.args.base) (string_bytes c.in_ok-free.free.text) (name_bytes c.in_ok-name.name)
    (c.in_ok-name.ensures ∙ c.as_str-2.ensures.value) c.in_ok-put.ensures.names c.in_ok-put-2.ensures.names c.requires.taken
