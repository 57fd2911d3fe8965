use Rattle.bp_machine.specs.declared.calls.Reply.TheVariants.{Stepped}
use Rattle.bp_run.proofs.Common.{◌≡◌, true, arith, rules, Err}
use Rattle.bp_run.proofs.TurnsWithCall.{cut_after}
use Rattle.bp_run.proofs.desks.Desk.turn.Goals as goal

pub loop-made-init : goal.loop-made-init
loop-made-init g c =
    let begun = c.in_ok-last.ensures.answer in
    let long = begun.counted in
    let count = c.in_ok-last.ensures.count.1 in
    let room = begun.room in
    record {
      steps = begun.steps;
      last = begun.last;
      sent = begun.sent;
      room = omega (arith, room, long, count);
      stepped = begun.stepped;
      thread = begun.thread;
      answered = begun.answered;
      many = omega (arith, long, count);
      counted = count;
      own_live = begun.own_live;
      code = c.in_ok-last.ensures.kept.0;
      setup = c.in_ok-last.ensures.kept.1;
      own = begun.own;
    }

pub returns-in_err-last-2-clause-answer : goal.returns-in_err-last-2-clause-answer
returns-in_err-last-2-clause-answer g c =
    let inv = c.loop-made.invariant in
    let refused = c.in_err-last-2.ensures in
    let is : c.from_residual-in_err-last-2.result ≡ Err c.in_err-last-2.field-0.0 = search rules in
    let reply : inv.last.reply ≡ Stepped = search rules in
    let is_open : c.loop-made.seat.is_open ≡ true = search rules in
    rw is (cut_after c.args.self.now c.loop-made.self c.ask.new.self c.args.seat.now c.loop-made.seat c.ask.new.seat
    c.args.n c.loop-made._made inv.steps inv.last c.in_err-last-2.field-0.0 inv.sent inv.room inv.stepped inv.thread reply inv.many
    c.loop-made-test.true inv.counted inv.own is_open inv.own_live refused.same refused.answer)
