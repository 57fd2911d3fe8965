use Rattle.bp_run.proofs.Common.{List, take, Program, Stands, AreSeatsOf}
use Rattle.bp_machine.specs.declared.calls.Call.{Call as Answered}
use Rattle.bp_run.proofs.gatherings.agree.Given as goal

abbrev pub invariant-loop-seat : goal.invariant-loop-seat
invariant-loop-seat g l =
    (t : Program) (h : List Answered)
    → Stands t l.fn.session h
    → AreSeatsOf l.fn.session.setup h (take l.seat-index l.fn.seats)
