-- The part at the place of the field's row.
use Rattle.std.proofs.Common.{◌∙◌, sym, Some, None}
use Rattle.oxt_grammar.specs.Keys.{key_of}
use Rattle.oxt_tree.proofs.Places.{named_at}
use Rattle.oxt_tree.proofs.tree.Node.field.Goals as goal

pub returns-in-None : goal.returns-in-None
returns-in-None c = named_at (key_of c.args.field) c.args.self.now.kind c.rows.result.now c.args.self.now.parts.items None c.rows.ensures (sym c.in-None.is ∙ c.place_of.ensures)

pub returns-in-Some : goal.returns-in-Some
returns-in-Some c = c.at.ensures ∙ named_at (key_of c.args.field) c.args.self.now.kind c.rows.result.now c.args.self.now.parts.items (Some c.in-Some.place) c.rows.ensures (sym c.in-Some.is ∙ c.place_of.ensures)
