use Rattle.std.proofs.Common.{◌≡◌, ◌∙◌, ◌+◌, ◌++◌, ◌∷◌, [], ap, arith, rules, subst, sym}
use Rattle.std.specs.Prelude.{codes}
use Rattle.oxt_stores.specs.Frame.{frame, let_statement, statement_count, statements_made, var_statement}
use Rattle.oxt_stores.specs.Insertion.{docs}
use Rattle.oxt_stores.specs.Ready.{IsReady}
use Rattle.oxt_stores.proofs.Frames.{ready_statement, top_taken}
use Rattle.oxt_stores.proofs.declarations.VarDeclarationsStore.get_var_statement.Goals as goal

pub returns-clause-by_var : goal.returns-clause-by_var
returns-clause-by_var c =
    let split : c.args.self.now.stack.items ≡ c.pop.new.self.items ++ c.in-Some.declarators ∷ [] = search rules in
    let same : c.index.result.now ≡ c.in-Some.declarators = search rules in
    let read : docs c.as_slice.result.now ≡ docs c.in-Some.declarators.vars.items = ap docs c.as_slice.ensures.value ∙ ap (λ d. docs d.vars.items) same in
    let ready = subst (λ ds. IsReady c.args.ids.now.next ds c.in_ok-for_vars.for_vars) read c.in_ok-for_vars.ensures.ready in
    c.statement.ensures ∙ (ready_statement c.args.ids.now.next (codes "var") (docs c.in-Some.declarators.vars.items) c.in_ok-for_vars.for_vars ready ∙ ap (var_statement c.args.ids.now.next) (sym (top_taken c.args.self.now.stack.items c.pop.new.self.items c.in-Some.declarators split)))

pub returns-clause-by_let : goal.returns-clause-by_let
returns-clause-by_let c =
    let split : c.args.self.now.stack.items ≡ c.pop.new.self.items ++ c.in-Some.declarators ∷ [] = search rules in
    let same : c.index.result.now ≡ c.in-Some.declarators = search rules in
    let same_again : c.index-2.result.now ≡ c.in-Some.declarators = search rules in
    let read : docs c.as_slice.result.now ≡ docs c.in-Some.declarators.vars.items = ap docs c.as_slice.ensures.value ∙ ap (λ d. docs d.vars.items) same in
    let read_lets : docs c.as_slice-2.result.now ≡ docs c.in-Some.declarators.lets.items = ap docs c.as_slice-2.ensures.value ∙ ap (λ d. docs d.lets.items) same_again in
    let number : c.blank_for.new.ids.next ≡ c.args.ids.now.next + statement_count (docs c.in-Some.declarators.vars.items) = c.in_ok-for_vars.ensures.used ∙ ap (λ ds. c.args.ids.now.next + statement_count ds) read in
    let ready = subst (λ ds. IsReady c.blank_for.new.ids.next ds c.in_ok-for_lets.for_lets) read_lets c.in_ok-for_lets.ensures.ready in
    let ready_there = subst (λ n. IsReady n (docs c.in-Some.declarators.lets.items) c.in_ok-for_lets.for_lets) number ready in
    c.statement-in-Some.ensures ∙ (ready_statement (c.args.ids.now.next + statement_count (docs c.in-Some.declarators.vars.items)) (codes "let") (docs c.in-Some.declarators.lets.items) c.in_ok-for_lets.for_lets ready_there ∙ ap (let_statement c.args.ids.now.next) (sym (top_taken c.args.self.now.stack.items c.pop.new.self.items c.in-Some.declarators split)))

pub returns-clause-used : goal.returns-clause-used
returns-clause-used c =
    let split : c.args.self.now.stack.items ≡ c.pop.new.self.items ++ c.in-Some.declarators ∷ [] = search rules in
    let same : c.index.result.now ≡ c.in-Some.declarators = search rules in
    let same_again : c.index-2.result.now ≡ c.in-Some.declarators = search rules in
    let read : docs c.as_slice.result.now ≡ docs c.in-Some.declarators.vars.items = ap docs c.as_slice.ensures.value ∙ ap (λ d. docs d.vars.items) same in
    let read_lets : docs c.as_slice-2.result.now ≡ docs c.in-Some.declarators.lets.items = ap docs c.as_slice-2.ensures.value ∙ ap (λ d. docs d.lets.items) same_again in
    let for_vars : c.blank_for.new.ids.next ≡ c.args.ids.now.next + statement_count (docs c.in-Some.declarators.vars.items) = c.in_ok-for_vars.ensures.used ∙ ap (λ ds. c.args.ids.now.next + statement_count ds) read in
    let for_lets : c.blank_for-2.new.ids.next ≡ c.blank_for.new.ids.next + statement_count (docs c.in-Some.declarators.lets.items) = c.in_ok-for_lets.ensures.used ∙ ap (λ ds. c.blank_for.new.ids.next + statement_count ds) read_lets in
    let all : c.blank_for-2.new.ids.next ≡ c.args.ids.now.next + statements_made (frame c.in-Some.declarators) = omega (arith, for_vars, for_lets) in
    all ∙ ap (λ f. c.args.ids.now.next + statements_made f) (sym (top_taken c.args.self.now.stack.items c.pop.new.self.items c.in-Some.declarators split))
