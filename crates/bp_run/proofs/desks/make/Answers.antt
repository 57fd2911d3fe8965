use Rattle.bp_run.proofs.Common.{rules, sym, ◌∙◌, ◌≡◌, ◌<◌, Err, length}
use Rattle.bp_machine.specs.declared.calls.Reply.TheVariants.{Stepped}
use Rattle.bp_run.proofs.Batches.{made_more, made_last, made_stands, made_all}
use Rattle.bp_run.proofs.desks.make.Goals as goal

pub returns-in_err-call-clause-answer : goal.returns-in_err-call-clause-answer
returns-in_err-call-clause-answer c = λ h made live books still.
    let before = c.loop-made.invariant.steps h made live books still in
    let is : c.from_residual.result ≡ Err c.in_err-call.field-0.0 = search rules in
    let fewer : length c.loop-made.calls.items < c.args.n = search rules in
    rw (is, c.in_err-call.ensures.same) (record {
      stepped = before.stepped;
      fewer = fewer;
      books = before.books;
      still_live = before.still_live;
      refused = c.in_err-call.ensures.answer _ before.books.stands;
    })

pub returns-then-ne-clause-answer : goal.returns-then-ne-clause-answer
returns-then-ne-clause-answer c = λ h made live books still.
    let before = c.loop-made.invariant.steps h made live books still in
    let fewer : length c.loop-made.calls.items < c.args.n = search rules in
    made_last c.loop-made.session c.ask.new.self h made live c.args.thread c.loop-made.calls.items c.in_ok-call.call before
    (c.in_ok-call.ensures.answer _ before.books.stands) (c.in_ok-call.ensures.stands _ before.books.stands)
    c.in_ok-call.ensures.kept.0 c.in_ok-call.ensures.kept.1 c.args.n c.push_reserved.new.self.items c.push_reserved.ensures.items fewer

pub loop-made-preserved : goal.loop-made-preserved
loop-made-preserved c = record {
  code = c.in_ok-call.ensures.kept.0 ∙ c.loop-made.invariant.code;
  setup = c.in_ok-call.ensures.kept.1 ∙ c.loop-made.invariant.setup;
  count = search rules;
  room = c.push_reserved.ensures.capacity ∙ c.loop-made.invariant.room;
  steps = λ h made live books still.
      let before = c.loop-made.invariant.steps h made live books still in
      let stepped : c.in_ok-call.call.reply ≡ Stepped = search rules in
      let next = c.in_ok-call.ensures.answer _ before.books.stands in
      let stands = c.in_ok-call.ensures.stands _ before.books.stands in
      made_more c.loop-made.session c.ask.new.self h made live c.args.thread c.loop-made.calls.items c.in_ok-call.call before
      next stands c.in_ok-call.ensures.kept.0 c.in_ok-call.ensures.kept.1 c.push_reserved.new.self.items c.push_reserved.ensures.items stepped
      (sym (c.is_terminated.ensures _ _ (made_stands c.loop-made.session c.ask.new.self h made live c.args.thread c.loop-made.calls.items c.in_ok-call.call before
      next stands c.in_ok-call.ensures.kept.0 c.in_ok-call.ensures.kept.1 c.push_reserved.new.self.items c.push_reserved.ensures.items)) ∙ c.if-is_terminated.false);
}

pub returns-clause-answer : goal.returns-clause-answer
returns-clause-answer c = λ h made live books still.
    let long : length c.loop-made.calls.items ≡ c.args.n = search rules in
    made_all c.loop-made.session h made live c.args.thread c.args.n c.loop-made.calls.items (c.loop-made.invariant.steps h made live books still) long c.requires.some
