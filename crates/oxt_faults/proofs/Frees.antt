-- Global names in the types of parameters, one after the other.
use Rattle.std.proofs.Common.{◌≡◌, ◌∙◌, sym, ap, ℕ, ◌+◌, ◌<◌, ◌≤◌, List, length, drop, get_or, Option, None}
use Rattle.std.specs.Option.{option_or}
use Rattle.oxt_faults.specs.Globals.{among_taken, typing_taken}
use Rattle.oxt_faults.specs.declared.globals.Globals.{Globals}
use Rattle.oxt_fields.specs.Rules.{Rules}
use Rattle.oxt_metadata.specs.Typings.{Source, typing_in}
use Rattle.oxt_options.specs.declared.metadata.GlobalName.{GlobalName}
use Rattle.oxt_names.proofs.Lists.{drop_at, drop_end}
use Rattle.oxt_tree.specs.View.{docs_in, part_doc}
use Rattle.oxt_tree.specs.declared.tree.Part.{Part}

pub among_end : (r : Rules) (t : Globals) (ps : List Part) (i : ℕ) → length ps ≤ i → among_taken r t (docs_in (drop i ps)) ≡ None
among_end r t ps i h = ap (λ rest. among_taken r t (docs_in rest)) (drop_end ps i h)

pub among_at : (r : Rules) (t : Globals) (ps : List Part) (i : ℕ) (p : Part) (x : Source) (o : Option GlobalName) → i < length ps → p ≡ get_or ps i p
    → x ≡ typing_in (part_doc p) → o ≡ typing_taken r t x
    → among_taken r t (docs_in (drop i ps)) ≡ option_or o (among_taken r t (docs_in (drop (i + 1) ps)))
among_at r t ps i p x o h e has is =
    ap (λ rest. among_taken r t (docs_in rest)) (drop_at ps i p h e)
    ∙ ap (λ q. option_or q (among_taken r t (docs_in (drop (i + 1) ps)))) (sym (is ∙ ap (typing_taken r t) has))

pub ruleset among_steps = (among_at, among_end)
