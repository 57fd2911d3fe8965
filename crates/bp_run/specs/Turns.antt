-- The results of an attempt and of a turn at a desk, and what the seat tells of them.
use Rattle.std.specs.Prelude.{◌≡◌, ◌⊎◌, ℕ, ◌≤◌, ◌+◌, false, true, List, [], ◌∷◌, ◌++◌, None, length, not, ◌≢◌, ◌<◌, ⊤, cond}
use Rattle.std.specs.List.{AllByRecursion}
use Rattle.bp_syntax.specs.Ast.{Program}
use Rattle.bp_machine.specs.declared.calls.Call.{Call}
use Rattle.bp_machine.specs.declared.calls.Reply.{Reply}
use Rattle.bp_machine.specs.declared.calls.AskError.{AskError}
use Rattle.bp_machine.specs.declared.calls.AskError.TheVariants as error
use Rattle.bp_machine.specs.Histories.{is_terminated, is_last}
use Rattle.bp_machine.specs.Sessions.{IsLiveThread, IsNextCall, IsAskRefusal, SessionOf, Stands}
use Rattle.bp_machine.specs.Setups.{SetupOf}
use Rattle.bp_machine.specs.declared.calls.Reply.TheVariants.{Stepped}
use Rattle.bp_run.specs.Desks.{DeskOf, IsInBooks, SeatOf}

-- The result of an attempt at a desk.

-- Why an attempt of thread i is not made and sent after the history h: the machine refuses it, or
-- the ring is full although the thread is live.
abbrev pub IsSendRefusal : Program → SetupOf → List Call → ℕ → AskError → Type 0
IsSendRefusal t s h i error.Busy = IsLiveThread s h i
IsSendRefusal t s h i f = IsAskRefusal t s h i None f

-- nothing is changed, but more places may be known to be free
abbrev pub IsUnchanged : DeskOf → DeskOf → Type 0
IsUnchanged old new = (new ≡ record old { free = new.free }) × (old.free ≤ new.free)

-- One attempt of the seat's thread was sent: the next one that the machine makes, with the bit of
-- the seed and this reply. It takes one free place at most. The seat counts it, and is open if the
-- line is; it has counted no more attempts than were sent.
pub record IsAsked (old new : DeskOf) (seat after : SeatOf) (reply : Reply) : Type 0 where
  pub call : Call
  pub next : IsNextCall old.code.tree old.setup old.history seat.thread None call
  pub sent : new.history ≡ old.history ++ call ∷ []
  pub room : old.free ≤ new.free + 1
  pub thread : call.thread ≡ seat.thread
  pub answered : call.reply ≡ reply
  pub own : after.thread ≡ seat.thread
  pub counted : after.calls ≡ seat.calls + 1
  pub within : after.calls ≤ length new.history
  pub own_live : after.is_open ≡ not (is_terminated new.setup new.history seat.thread)

-- the seat's thread has terminated, or the seat is shut
abbrev pub IsShut : DeskOf → SeatOf → Type 0
IsShut d seat = (seat.is_open ≡ false) ⊎ (is_terminated d.setup d.history seat.thread ≡ true)

-- the seat's thread is live, and so is the seat
abbrev pub IsOpen : DeskOf → SeatOf → Type 0
IsOpen d seat = (seat.is_open ≡ true) × (is_terminated d.setup d.history seat.thread ≡ false)

-- the next step of the seat's thread may need memory
abbrev pub MayLackMemory : DeskOf → SeatOf → Type 0
MayLackMemory d seat =
    IsAskRefusal d.code.tree d.setup d.history seat.thread None error.Memory

-- Why an attempt is refused: the thread has terminated, or the seat is shut; else memory may be
-- refused if its step is a call; and the ring may be full if no place is known to be free.
abbrev pub IsDeskRefusal : DeskOf → SeatOf → AskError → Type 0
IsDeskRefusal d seat error.Terminated = IsShut d seat
IsDeskRefusal d seat error.Memory = IsOpen d seat × MayLackMemory d seat
IsDeskRefusal d seat error.Busy = IsOpen d seat × (d.free ≡ 0)
IsDeskRefusal d seat f = ⊥

-- the attempts are steps of this thread
abbrev pub AreSteps : ℕ → List Call → Type 0
AreSteps i cs = AllByRecursion (λ x. (x.thread ≡ i) × (x.reply ≡ Stepped)) cs

-- Some attempts of thread i, made one after the other by a session that was in its books after the
-- history h. The thread is live before each of them.
module _ (x : SessionOf) (h : List Call) (made live i n : ℕ) (cs : List Call) where
  -- The last has this reply, and those before it are steps. There are n, or the last is no step, or
  -- it terminates the thread. The session is in its books if they count it.
  pub record AreMade (reply : Reply) : Type 0 where
    pub steps : List Call
    pub last : Call
    pub are : cs ≡ steps ++ last ∷ []
    pub stepped : AreSteps i steps
    pub thread : last.thread ≡ i
    pub answered : last.reply ≡ reply
    pub most : length steps + 1 ≤ n
    pub stands : Stands x.code.tree x (h ++ cs)
    pub books : (less : ℕ)
        → less + cond (is_terminated x.setup (h ++ cs) i) 1 0 ≡ live
        → IsInBooks x (h ++ cs) (made + length cs) less

  -- all are steps, and the thread is live after them, but its next attempt is refused
  pub record AreCut (f : AskError) : Type 0 where
    pub stepped : AreSteps i cs
    pub fewer : length cs < n
    pub books : IsInBooks x (h ++ cs) (made + length cs) live
    pub still_live : is_terminated x.setup (h ++ cs) i ≡ false
    pub refused : IsAskRefusal x.code.tree x.setup (h ++ cs) i None f

-- The result of a turn at a desk: the attempts that it appends.

-- The turn ended with this reply: after n attempts, or because the reply is not Stepped, or because
-- the thread has terminated. The attempts before the last are steps.
pub record IsTurn (old new : DeskOf) (seat after : SeatOf) (n : ℕ) (reply : Reply)
    : Type 0 where
  pub steps : List Call
  pub last : Call
  pub sent : new.history ≡ old.history ++ (steps ++ last ∷ [])
  pub room : old.free ≤ new.free + (length steps + 1)
  pub stepped : AreSteps seat.thread steps
  pub thread : last.thread ≡ seat.thread
  pub answered : last.reply ≡ reply
  pub most : length steps + 1 ≤ n
  pub ended :
      (length steps + 1 ≡ n)
      ⊎ ((reply ≢ Stepped) ⊎ (is_terminated new.setup new.history seat.thread ≡ true))
  pub own : after.thread ≡ seat.thread
  pub counted : after.calls ≡ seat.calls + (length steps + 1)
  pub own_live : after.is_open ≡ not (is_terminated new.setup new.history seat.thread)

-- The turn was cut short by this refusal; the steps before it are kept.
pub record IsCutTurn (old new : DeskOf) (seat after : SeatOf) (n : ℕ) (f : AskError)
    : Type 0 where
  pub steps : List Call
  pub sent : new.history ≡ old.history ++ steps
  pub room : old.free ≤ new.free + length steps
  pub stepped : AreSteps seat.thread steps
  pub fewer : length steps < n
  pub none : f ≡ error.Terminated → after ≡ seat
  pub refused : IsDeskRefusal new after f
  pub own : after.thread ≡ seat.thread
  pub counted : after.calls ≡ seat.calls + length steps

-- The seat after a turn, whatever others do at the desk.

-- a desk refuses an attempt only for these reasons
abbrev pub IsDeskError : AskError → Type 0
IsDeskError error.Terminated = ⊤
IsDeskError error.Memory = ⊤
IsDeskError error.Busy = ⊤
IsDeskError f = ⊥

-- At least one and at most n attempts were made. The seat is not open after a last reply; it is
-- open after a step only if all n attempts were made.
pub record IsSeatTurn (seat after : SeatOf) (n : ℕ) (reply : Reply) : Type 0 where
  pub own : after.thread ≡ seat.thread
  pub more : seat.calls < after.calls
  pub most : after.calls ≤ seat.calls + n
  pub last : is_last reply ≡ true → after.is_open ≡ false
  pub whole : reply ≡ Stepped → after.is_open ≡ true → after.calls ≡ seat.calls + n

-- Fewer than n attempts were made before the refusal, and none if the thread had terminated; else
-- the seat is still open.
pub record IsCutSeatTurn (seat after : SeatOf) (n : ℕ) (f : AskError) : Type 0 where
  pub own : after.thread ≡ seat.thread
  pub some : seat.calls ≤ after.calls
  pub fewer : after.calls < seat.calls + n
  pub none : f ≡ error.Terminated → after ≡ seat
  pub stays : f ≢ error.Terminated → after.is_open ≡ true
  pub why : IsDeskError f
