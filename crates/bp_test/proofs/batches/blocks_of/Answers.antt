use denote.Param.{param}
use denote.Param.Send.{sendable, IsSync}
use Rattle.bp_test.proofs.Common.{crosses}
use Rattle.bp_flat.proofs.CodesCross.{code_sync}
use Rattle.bp_test.proofs.CodesShared.{setup_sync, plan_sync}
use Rattle.bp_test.proofs.batches.blocks_of.Goals as goal

pub map_indices-requires-sync-F : goal.map_indices-requires-sync-F
map_indices-requires-sync-F g c κs within =
    let clock : IsSync (param 1 g.row.C) = c.type_bounds.sync-C in
    search (sendable, crosses, code_sync, setup_sync, plan_sync) depth 40 fits 100000
