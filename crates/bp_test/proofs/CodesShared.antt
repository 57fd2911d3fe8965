-- Setups and plans may be shared among threads, in steps that `search` can take.
use denote.Param.Send.{IsSync, sendable}
use Rattle.bp_test.proofs.Common.{crosses}
use Rattle.bp_machine.specs.contracts.setups.Setup as Setup
use Rattle.bp_test.specs.contracts.plans.Plan as Plan

pub setup_sync : IsSync Setup.the_row
setup_sync = search (sendable, crosses) depth 40

pub plan_sync : IsSync Plan.the_row
plan_sync = search (sendable, crosses) depth 40
