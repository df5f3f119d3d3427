-- What was lowered is written, what was refused is told of, and a refusal cannot come where nothing stands in the way.
use Rattle.oxt_transform.specs.Faults.{refusal_in}
use Rattle.oxt_transform.specs.Outcomes.{HinderedFrom}
use Rattle.oxt_transform.proofs.Answer.{diagnosed, done}
use Rattle.oxt_transform.proofs.Steps.{answer_cut, completes}
use Rattle.oxt_transform.proofs.Stops.{from_stop, refusal_cut, refused, words_taken}
use Rattle.oxt_transform.proofs.program.run.Goals as goal

pub returns-in-Ok-clause-done : goal.returns-in-Ok-clause-done
returns-in-Ok-clause-done g c =
    let from = c.in-Ok.ensures.lowered in
    done c.answer.result c.args.words.now from.options from.bytes c.in-Ok.field-0.is_told _ c.in-Ok.field-0.lines.items _ _ _ _ _
    from.given from.read from.within from.lowered
    (let value = c.as_slice.ensures.value in let lines = c.in-Ok.lines-is in cc)
    (let told = c.in-Ok.is_told-is in cc)
    c.answer.ensures.done c.answer.ensures.wrote

pub returns-in-Ok-clause-diagnosed : goal.returns-in-Ok-clause-diagnosed
returns-in-Ok-clause-diagnosed g c =
    let from = c.in-Ok.ensures.lowered in
    diagnosed c.answer.result c.args.words.now from.options from.bytes c.in-Ok.field-0.is_told _ c.in-Ok.field-0.lines.items _ _ _ _ _
    from.given from.read from.within from.lowered
    (let value = c.as_slice.ensures.value in let lines = c.in-Ok.lines-is in cc)
    (let told = c.in-Ok.is_told-is in cc)
    c.answer.ensures.diagnosed c.answer.ensures.wrote

pub returns-in-Ok-clause-cut_off : goal.returns-in-Ok-clause-cut_off
returns-in-Ok-clause-cut_off g c =
    let from = c.in-Ok.ensures.lowered in
    answer_cut c.answer.result c.args.words.now from.options from.bytes c.in-Ok.field-0.is_told c.in-Ok.field-0.lines.items _ _ _ _ _ _ _ _ _
    from.given from.read from.within from.lowered
    (let value = c.as_slice.ensures.value in let lines = c.in-Ok.lines-is in cc)
    c.answer.ensures.write_fault

pub returns-in-Ok-clause-words_taken : goal.returns-in-Ok-clause-words_taken
returns-in-Ok-clause-words_taken g c =
    let from = c.in-Ok.ensures.lowered in words_taken c.answer.result c.args.words.now from.options from.given

pub returns-in-Err-Refused-clause-refused : goal.returns-in-Err-Refused-clause-refused
returns-in-Err-Refused-clause-refused g c =
    let from : HinderedFrom c.args.words.now (refusal_in c.in-Err-Refused.fault) (g.S.Source.left c.args.source.now) (g.S.Source.left c.lower_source.new.source) = from_stop c.in-Err-Refused.field-0 c.in-Err-Refused.fault c.args.words.now _ _ _ _ c.in-Err-Refused.field-0-is c.in-Err-Refused.ensures.stopped in
    refused c.refuse.result (refusal_in c.in-Err-Refused.fault) c.args.words.now _ _ _ _ from c.refuse.ensures.refused

pub returns-in-Err-Refused-clause-words_taken : goal.returns-in-Err-Refused-clause-words_taken
returns-in-Err-Refused-clause-words_taken g c =
    let from : HinderedFrom c.args.words.now (refusal_in c.in-Err-Refused.fault) (g.S.Source.left c.args.source.now) (g.S.Source.left c.lower_source.new.source) = from_stop c.in-Err-Refused.field-0 c.in-Err-Refused.fault c.args.words.now _ _ _ _ c.in-Err-Refused.field-0-is c.in-Err-Refused.ensures.stopped in
    words_taken c.refuse.result c.args.words.now from.options from.given

pub returns-in-Err-Refused-clause-cut_off : goal.returns-in-Err-Refused-clause-cut_off
returns-in-Err-Refused-clause-cut_off g c =
    let from : HinderedFrom c.args.words.now (refusal_in c.in-Err-Refused.fault) (g.S.Source.left c.args.source.now) (g.S.Source.left c.lower_source.new.source) = from_stop c.in-Err-Refused.field-0 c.in-Err-Refused.fault c.args.words.now _ _ _ _ c.in-Err-Refused.field-0-is c.in-Err-Refused.ensures.stopped in
    refusal_cut c.refuse.result (refusal_in c.in-Err-Refused.fault) c.args.words.now _ _ _ _ _ _ _ from c.refuse.ensures.cut_off

pub returns-in-Err-Refused-clause-completes : goal.returns-in-Err-Refused-clause-completes
returns-in-Err-Refused-clause-completes g c =
    let from : HinderedFrom c.args.words.now (refusal_in c.in-Err-Refused.fault) (g.S.Source.left c.args.source.now) (g.S.Source.left c.lower_source.new.source) = from_stop c.in-Err-Refused.field-0 c.in-Err-Refused.fault c.args.words.now _ _ _ _ c.in-Err-Refused.field-0-is c.in-Err-Refused.ensures.stopped in
    completes c.refuse.result (refusal_in c.in-Err-Refused.fault) from.options c.args.words.now (g.S.Source.left c.args.source.now) _ _ _ _ _ _ _ _ _ from.bytes
    c.refuse.ensures.only c.refuse.ensures.refused c.refuse.ensures.write_fault from.cause from.given from.read
