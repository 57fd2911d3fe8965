-- Boards may be shared among threads.
use denote.Param.Send.{IsSend, sendable, IsSync, recorded_send, struct_send, view_send}
use Rattle.bp_run.proofs.Common.{crosses}
use denote.RattleType.{RattleType}
use denote.Struct.Declared as structs
use Rattle.std.proofs.sync.ledger.Book.TheSendSync as Book
use Rattle.rtrb.proofs.end.End.TheSendSync as End
use Rattle.std.specs.declared.sync.ledger.Ledger as Ledger
use Rattle.bp_flat.proofs.CodesCross.{code_send}
use Rattle.bp_machine.specs.contracts.setups.Setup as Setup
use Rattle.bp_machine.specs.contracts.machine.Machine as Machine
use Rattle.bp_machine.specs.contracts.sessions.Session as Session
use Rattle.bp_run.specs.declared.boards.Calls as Calls
use Rattle.bp_run.specs.contracts.desks.Desk as Desk
use Rattle.bp_run.specs.contracts.desks.Desk.TheInside as Inside
use Rattle.bp_run.specs.contracts.boards.Board as Board
use Rattle.bp_run.specs.contracts.signals.Notify as Notify
use Rattle.bp_run.specs.contracts.signals.Signals as Signals

-- That sessions may be shared among threads.

setup_send : IsSend Setup.the_row
setup_send = search (sendable, crosses) depth 40

machine_send : IsSend Machine.the_row
machine_send = search (sendable, crosses) depth 40

pub session_send : IsSend Session.the_row
session_send = search (sendable, crosses, code_send, setup_send, machine_send) depth 40

module _ (C O : RattleType) (calls : Calls.Ghosts C.Denot) (made : Ledger.Ghosts C.Denot) (live : Ledger.Ghosts O.Denot) where
  desk_send : IsSend (Desk.the_row C O calls made live)
  desk_send =
      view_send _ _ _ _ _
      (recorded_send _ _ _ (Inside.the_type C O calls made live).to_one
      (struct_send (structs.shape (Inside.the_type C O calls made live)) (
        search (sendable, crosses, session_send) depth 5,
        (search (sendable, crosses, End.the_send) depth 40, (search (sendable, crosses) depth 40, (Book.the_send C made, (Book.the_send O live, tt)))),
      )))

  pub board_sync : IsSync (Board.the_row C O calls made live)
  board_sync = search (sendable, crosses, desk_send) depth 40

-- That the signals of a run may be shared among threads.

notify_sync : IsSync Notify.the_row
notify_sync = search (sendable, crosses) depth 40

pub signals_sync : IsSync Signals.the_row
signals_sync = search (sendable, crosses, notify_sync) depth 40
