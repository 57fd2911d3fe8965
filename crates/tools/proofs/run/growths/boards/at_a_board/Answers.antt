use Rattle.std.proofs.Common.{subst}
use Rattle.bp_machine.specs.Setups.{threads}
use Rattle.bp_run.specs.Gatherings.{AreOnePerThread}
use Rattle.bp_run.proofs.Played.{one_each_new}
use Rattle.tools.proofs.run.growths.boards.at_a_board.Goals as goal

pub gathers-requires : goal.gathers-requires
gathers-requires g c =
    subst (λ s. AreOnePerThread (threads s) c.in_ok-board.seats.items) c.requires.setup
    (one_each_new (threads c.args.setup.now) c.in_ok-board.seats.items c.in_ok-board.ensures.seats)
