use Rattle.std.proofs.Common.{◌≡◌, [], ap, ◌∙◌, subst, inl, inr}
use Rattle.clap.specs.Words.{is_simple}
use Rattle.clap.specs.Faults.{is_simple_and_free}
use Rattle.clap.specs.Kinds.{HasKind, IsAmong, Kinds}
use Rattle.clap.specs.Values.{kind_of}
use Rattle.clap.specs.declared.error.Error.{Error}
use Rattle.clap.specs.declared.error.kind.ErrorKind.TheVariants as kind
use Rattle.oxt_flags.proofs.Command.{found_where_taken, none_where_refused, simple, simple_and_free}
use Rattle.oxt_flags.proofs.matching.matched.Goals as goal

-- an error that is not for want of memory has a kind
has_fault : (kinds : Kinds) (e : Error) → HasKind kinds e → (kind_of e ≡ kind.OutOfMemory → ⊥) → kinds ≡ [] → ⊥
has_fault kinds e (inl memory) not_memory none = not_memory memory
has_fault kinds e (inr among) not_memory none = subst (IsAmong (kind_of e)) none among

pub returns-in-Ok : goal.returns-in-Ok
returns-in-Ok c =
    let app = c.in_ok-command.ensures in
    let is_simple_here = ap is_simple app ∙ simple in
    let is_free_here = ap is_simple_and_free app ∙ simple_and_free in
    found_where_taken c.args.words.now _ _ c.requires app (c.in-Ok.ensures.kinds is_free_here) (c.in-Ok.ensures.matches is_simple_here).0

pub returns-in_ok-unless_memory-in-Err : goal.returns-in_ok-unless_memory-in-Err
returns-in_ok-unless_memory-in-Err c =
    let app = c.in_ok-command.ensures in
    let is_free_here = ap is_simple_and_free app ∙ simple_and_free in
    none_where_refused c.args.words.now _ c.requires app (has_fault _ c.in-Err.error (c.in-Err.ensures.kinds is_free_here) c.in_ok-unless_memory-in-Err.ensures)
