-- The name is declared so besides.
use Rattle.std.proofs.Common.{◌∙◌, ap, ◌||◌}
use Rattle.oxt_scopes.proofs.Tables.{name_added}
use Rattle.oxt_declares.specs.Declarations.{shows}
use Rattle.oxt_declares.specs.declared.declaration.Sight.TheVariants as sight
use Rattle.oxt_scopes.proofs.scope.add_name.Goals as goal

pub returns : goal.returns
returns c =
    let o = c.args.declaration.now.sort in
    let value = c.seen_with-seen.ensures.value ∙ ap (λ b. shows sight.Value o || b) c.seen_before-before.ensures.value in
    let parameter = c.seen_with-seen.ensures.type_parameter ∙ ap (λ b. shows sight.TypeParameter o || b) c.seen_before-before.ensures.type_parameter in
    name_added o c.args.declaration.now.name c.seen_with-seen.result c.args.names.now c.insert.new.self (value, parameter) c.in_ok-insert.ensures.updates
