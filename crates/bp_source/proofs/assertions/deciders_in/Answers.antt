use Rattle.bp_source.proofs.Common.{map, refl, reading_of}
use Rattle.bp_source.proofs.DecidersOfPlaces.{noted_one, procedure_more}
use Rattle.bp_source.proofs.assertions.deciders_in.Goals as goal

pub loop-proc-preserved : goal.loop-proc-preserved
loop-proc-preserved c =
    let old = c.loop-proc.deciders.items in
    let noted = rw c.body.ensures at c.in_ok-record_block.ensures in
    let end = noted_one _ _ _ _ c.in_ok-push.ensures.items refl in
    procedure_more c.args.procs.now c.loop-proc.proc-index c.proc-item.result c.loop-proc-test.true c.proc-item.is
    (map reading_of old) _ _ _ noted end c.loop-proc.invariant
