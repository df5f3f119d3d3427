-- An insertion adds the name, and keeps what was tried behind the others.
use Rattle.std.proofs.Common.{◌∙◌, ap, is_some, string_bytes}
use Rattle.oxt_names.proofs.Tables.{absent, inserted, on_err}
use Rattle.oxt_names.proofs.table.put.Goals as goal

pub returns-clause-names : goal.returns-clause-names
returns-clause-names c =
    (inserted c.args.table.now.entries c.insert.new.self.entries c.args.text c.args.next c.in_ok-insert.ensures.entries
    (λ h. c.in_ok-insert.ensures.keys_stay (ap is_some c.in_ok-insert.ensures.old ∙ h)) c.requires.tried c.requires.behind).names

pub returns-clause-tried : goal.returns-clause-tried
returns-clause-tried c =
    (inserted c.args.table.now.entries c.insert.new.self.entries c.args.text c.args.next c.in_ok-insert.ensures.entries
    (λ h. c.in_ok-insert.ensures.keys_stay (ap is_some c.in_ok-insert.ensures.old ∙ h)) c.requires.tried c.requires.behind).tried

pub returns-in_err-insert-clause-absent : goal.returns-in_err-insert-clause-absent
returns-in_err-insert-clause-absent c = on_err c.from_residual.result (absent c.args.table.now.entries (string_bytes c.args.text) c.in_err-insert.ensures.absent)
