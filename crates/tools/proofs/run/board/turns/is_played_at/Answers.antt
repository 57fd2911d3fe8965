use Rattle.std.proofs.Common.{subst, arith}
use Rattle.bp_machine.specs.Setups.{threads}
use Rattle.bp_run.specs.Gatherings.{AreOnePerThread}
use Rattle.bp_run.proofs.Played.{one_each_new}
use Rattle.tools.proofs.SeatsBack.{put_back}
use Rattle.tools.proofs.run.board.turns.is_played_at.Goals as goal

pub is_gathered-requires : goal.is_gathered-requires
is_gathered-requires g c =
    let all =
    subst (λ s. AreOnePerThread (threads s) c.in_ok-board.seats.items) c.requires.setup
    (one_each_new (threads c.args.setup.now) c.in_ok-board.seats.items c.in_ok-board.ensures.seats) in
    put_back _ _ _ _ _ _ c.in-Some.ensures.items c.in_ok-push.ensures.items (omega arith) all
