use Rattle.bp_commands.proofs.Common.{common_steps, List, inr, refl, sym, subst, arith, rules, err_from_is_err_and, AppendsAll, AppendsPart, One, Program, SetupOf, text_of, trace_text, Call, Pair, IsOpened, confirms, IsOfSteps}
use Rattle.bp_confirm.specs.ConfirmedTexts.{IsConfirmedText}
use Rattle.bp_confirm.specs.declared.choices.LastChoice.{LastChoice}
use Rattle.bp_machine.proofs.SetupInRange.{stands_of}
use Rattle.bp_source.specs.declared.tasks.ConfirmTask.{ConfirmTask}
use Rattle.bp_commands.proofs.Answered.{cut_short, refused_with}
use Rattle.bp_commands.proofs.confirmations.ConfirmTaskPairCommand.apply.Goals as goal

-- the trace of a history that takes the steps
taken : (x : ConfirmTask) (given : Pair) (t : Program) (start s : SetupOf) (h : List Call) (choices : List LastChoice)
    → IsOpened x.start x.named given.text t start → IsConfirmedText t start given.input given.text x.bound s h choices
    → IsOfSteps x given (trace_text s h)
taken x given t start s h choices opened confirmed =
    record { program = t; start = start; opened = opened; setup = s; history = h; choices = choices; confirmed = confirmed; is = refl }

pub returns-in_err-opened : goal.returns-in_err-opened
returns-in_err-opened g c = grind (arith, common_steps, err_from_is_err_and, refused_with)

pub returns-in_err-confirmed : goal.returns-in_err-confirmed
returns-in_err-confirmed g c =
    let p = err_from_is_err_and c.from_residual-in_err-confirmed.result c.from_residual-in_err-confirmed.ensures.1 in
    let given : Pair = record { text = c.args.text.now; input = c.args.steps.now } in
    let x = c.in_ok-opened.opened in
    rw (p.1, p.2) (refused_with (confirms c.args.self.now) given _ _ (inr (record {
      program = x.code.tree;
      start = x.setup;
      opened = c.in_ok-opened.ensures.answer;
      cause = c.in_err-confirmed.field-0.0;
      why = c.in_err-confirmed.ensures.answer;
      is = refl;
    })))

pub returns-in_err-answer : goal.returns-in_err-answer
returns-in_err-answer g c = search (rules, err_from_is_err_and, refused_with)

pub returns-in_err-write_with_live_threads : goal.returns-in_err-write_with_live_threads
returns-in_err-write_with_live_threads g c =
    let p = err_from_is_err_and c.from_residual-in_err-write_with_live_threads.result c.from_residual-in_err-write_with_live_threads.ensures.1 in
    let found = c.in_ok-confirmed.confirmed in
    let old = g.W.Write.contents c.args.out.now in
    let new = g.W.Write.contents c.write_with_live_threads.new.out in
    let of_history = subst (λ h. AppendsPart old new (text_of One c.setup-setup.result.now h)) c.deref.ensures.value c.in_err-write_with_live_threads.ensures in
    let written = subst (λ s. AppendsPart old new (text_of One s found.history.items)) c.setup-setup.ensures of_history in
    let given : Pair = record { text = c.args.text.now; input = c.args.steps.now } in
    let x = c.in_ok-opened.opened in
    rw (p.1, p.2) (cut_short (confirms c.args.self.now) given old new (trace_text found.session.setup found.history.items)
    (taken c.args.self.now given x.code.tree x.setup found.session.setup found.history.items found.choices.items c.in_ok-opened.ensures.answer
    (c.in_ok-confirmed.ensures.answer.confirmed c.in_ok-opened.ensures.answer.of.well_formed)) written)

pub returns : goal.returns
unfolding taken
returns g c =
    let given : Pair = record { text = c.args.text.now; input = c.args.steps.now } in
    let x = c.in_ok-opened.opened in
    let found = c.in_ok-confirmed.confirmed in
    let old = g.W.Write.contents c.args.out.now in
    let new = g.W.Write.contents c.write_with_live_threads.new.out in
    let of_history = subst (λ h. AppendsAll old new (text_of One c.setup-setup.result.now h)) c.deref.ensures.value c.in_ok-write_with_live_threads.ensures in
    record {
      text = trace_text found.session.setup found.history.items;
      reports = record {
        trace =
            taken c.args.self.now given x.code.tree x.setup found.session.setup found.history.items found.choices.items c.in_ok-opened.ensures.answer
            (c.in_ok-confirmed.ensures.answer.confirmed c.in_ok-opened.ensures.answer.of.well_formed);
        verdict = rw c.in_ok-confirmed.ensures.code at
            (c.in_ok-answer.ensures (stands_of (sym c.in_ok-confirmed.ensures.code) c.in_ok-confirmed.ensures.answer.stands));
      };
      written = subst (λ s. AppendsAll old new (text_of One s found.history.items)) c.setup-setup.ensures of_history;
    }
