use Rattle.std.proofs.Common.{◌∙◌, ap}
use Rattle.std.specs.Str.{bytes_eq}
use Rattle.oxt_enum_checks.proofs.Namesakes.{repeated_else}
use Rattle.oxt_enum_checks.specs.Members.{member_view}
use Rattle.oxt_names.specs.Names.{name_bytes}
use Rattle.oxt_enum_checks.proofs.repeated.is_repeated.Goals as goal

pub returns-else-eq : goal.returns-else-eq
returns-else-eq c =
    let member = c.args.member.now in
    repeated_else c.eq.result c.contains.result (member.around.symbol.0, c.as_str-name.result) c.args.names.now.keys (member_view member)
    c.if-eq.false (c.eq.ensures ∙ ap (λ t. bytes_eq t c.as_str.result.now) c.as_str-name.ensures ∙ ap (bytes_eq (name_bytes member.name.now)) c.as_str.ensures) c.contains.ensures (ap (λ t. (member.around.symbol.0, t)) c.as_str-name.ensures)
