use Rattle.std.proofs.Common.{◌∙◌, ◌||◌, ap}
use Rattle.oxt_enum_checks.proofs.Namesakes.{key_added}
use Rattle.oxt_enum_checks.specs.Keys.{is_noted, keys_in, same_key}
use Rattle.oxt_enum_checks.proofs.repeated.note.Goals as goal

pub returns : goal.returns
returns c =
    let member = c.args.member.now in
    λ k.
    key_added (member.around.symbol.0, c.as_str.result) c.args.names.now c.insert.new.self c.in_ok-insert.ensures.updates k
    ∙ ap (λ t. is_noted (keys_in c.args.names.now.keys) k || same_key k (member.around.symbol.0, t)) c.as_str.ensures
