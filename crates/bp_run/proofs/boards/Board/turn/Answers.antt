use Rattle.bp_run.proofs.Common.{rules, ◌≡◌}
use Rattle.bp_run.proofs.TurnsWithCall.{seat_turn, told}
use Rattle.bp_run.proofs.boards.Board.turn.Goals as goal

pub returns-clause-answer : goal.returns-clause-answer
returns-clause-answer g c = seat_turn c.deref_mut.result.now c.turn-answer.new.self c.args.seat.now c.turn-answer.new.seat c.args.n c.turn-answer.result c.turn-answer.ensures.answer

pub returns-clause-refused : goal.returns-clause-refused
returns-clause-refused g c = λ is_open.
    let same : c.deref.result.now ≡ c.turn-answer.new.self = search rules in
    let own = rw same at c.is_legal.ensures.own in
    rw (← own.0) (told c.deref_mut.result.now c.turn-answer.new.self c.args.seat.now c.turn-answer.new.seat c.args.n
    (rw same at c.is_legal.ensures.legal) is_open g.C.Calls.setup own.1 c.turn-answer.result c.turn-answer.ensures.answer)
