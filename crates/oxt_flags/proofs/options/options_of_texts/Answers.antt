use Rattle.std.proofs.Common.{◌≡◌, ap, subst, sym, ◌∙◌, map, List, ℕ, Bor, Option, option_map}
use Rattle.std.specs.Prelude.{IfOk}
use Rattle.clap.specs.Words.{found_of, rows_of}
use Rattle.clap.specs.declared.parser.matches.ArgMatches.{ArgMatches}
use Rattle.oxt_flags.proofs.Lookups.{options_said}
use Rattle.oxt_flags.proofs.options.options_of_texts.Goals as goal
use Rattle.oxt_options.specs.Options.{TransformData, transform_view}

pub returns-in-Some : goal.returns-in-Some
returns-in-Some c =
    let words : List (List ℕ) = map (λ (w : Bor (List ℕ)). w.now) c.args.words.now in
    subst (λ (said : Option TransformData). IfOk c.options_from.result (λ options. option_map transform_view options ≡ said))
    (options_said words (rows_of (found_of c.in-Some.matches)) (sym (ap (option_map (λ (m : ArgMatches). rows_of (found_of m))) c.in-Some.is) ∙ c.in_ok-matches.ensures))
    c.options_from.ensures
