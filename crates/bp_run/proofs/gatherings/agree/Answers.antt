use Rattle.bp_run.proofs.Common.{subst, take_all, rules, All-more, IsSeatOf}
use Rattle.bp_run.proofs.gatherings.agree.Goals as goal

pub loop-seat-preserved : goal.loop-seat-preserved
loop-seat-preserved g c = λ t h stands.
    let P = IsSeatOf c.args.session.now.setup h in
    let one = (c.agrees.ensures t h stands).0 c.if-not-agrees.false in
    All-more P c.args.seats.now c.loop-seat.seat-index c.seat-item.result c.loop-seat-test.true (c.loop-seat.invariant t h stands) (subst P c.seat-item.is one)

pub returns : goal.returns
returns g c = search (rules, take_all)
