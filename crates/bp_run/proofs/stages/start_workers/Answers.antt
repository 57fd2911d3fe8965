use Rattle.bp_run.proofs.Common.{common_steps, arith, crosses}
use denote.Param.Send.{sendable}
use Rattle.bp_run.proofs.seats.Seat.TheSendSync.{the_send as seat_send}
use Rattle.bp_run.proofs.BoardsCross.{board_sync, signals_sync}
use Rattle.bp_run.proofs.stages.start_workers.Goals as goal

pub spawn_with-requires-send-F : goal.spawn_with-requires-send-F
spawn_with-requires-send-F g c = λ κs lives. search (sendable, crosses, board_sync, signals_sync, seat_send) depth 40 fits 10000

pub loop-seat-preserved : goal.loop-seat-preserved
loop-seat-preserved c = grind (arith, common_steps)
