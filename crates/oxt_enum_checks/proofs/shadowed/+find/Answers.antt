-- The decorators by their place.
use Rattle.std.proofs.Common.{◌≡◌, ◌++◌, subst, OnOk, Some}
use Rattle.oxt_enum_checks.proofs.Alone.{alone_done, place_is}
use Rattle.oxt_enum_checks.specs.Shadows.{shadow_views}
use Rattle.oxt_grammar.specs.declared.field.Field.TheVariants as field
use Rattle.oxt_enum_checks.proofs.shadowed.+find.Goals as goal

pub push_decorators-returns-in-Some : goal.push_decorators-returns-in-Some
push_decorators-returns-in-Some t c =
    subst (λ xs. OnOk c.push_at.result (shadow_views c.push_at.new.out.items ≡ shadow_views c.args.out.now.items ++ xs))
    (place_is c.args.legacy c.args.scoping.now c.args.around c.args.rows.now c.args.parts.now field.Decorators (Some c.in-Some.place) c.in-Some.ensures) c.push_at.ensures

pub push_decorators-returns-in-None : goal.push_decorators-returns-in-None
push_decorators-returns-in-None t c =
    alone_done _ c.args.legacy c.args.scoping.now c.args.around c.args.rows.now c.args.parts.now c.in-None.ensures
