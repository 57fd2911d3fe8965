-- When a run has stopped, and the result of gathering a board.
use Rattle.std.specs.Prelude.{⊤, ◌≡◌, ◌<◌, ℕ, Bool, true, false, List, [], ◌∷◌, Option, None, Some, ◌==◌, ◌↔◌, IsTrue, ◌++◌, length, not}
use Rattle.std.specs.List.{sum_by, count_by, All}
use Rattle.bp_syntax.specs.Ast.{Program}
use Rattle.bp_flat.specs.Moves.{Frame, is_call}
use Rattle.bp_machine.specs.declared.calls.AskError.{AskError}
use Rattle.bp_machine.specs.declared.calls.AskError.TheVariants as error
use Rattle.bp_machine.specs.declared.calls.Call.{Call}
use Rattle.bp_machine.specs.Histories.{stack_of, configuration_after, is_terminated, IsLegal, HasSeededBits, calls_of_thread, IsReport}
use Rattle.bp_machine.specs.Setups.{SetupOf, threads}
use Rattle.bp_machine.specs.declared.calls.Report.{Report}
use Rattle.bp_run.specs.Desks.{SeatOf, open_amount, TapOf}

-- When a run has stopped: the live threads are before calls.

-- the next step of a thread with this stack is a call
abbrev pub goes_on_with_call : List Frame → Bool
goes_on_with_call [] = false
goes_on_with_call (f ∷ fs) = is_call f.left

-- after the history h the next step of thread i is a call
abbrev pub is_at_call : Program → SetupOf → List Call → ℕ → Bool
is_at_call t s h i = goes_on_with_call (stack_of (configuration_after t s h) i)

-- each thread that is live has a call as its next step: memory is refused only there
abbrev pub HaveStopped : Program → SetupOf → List Call → Type 0
HaveStopped t s h =
    (i : ℕ) → i < threads s → is_terminated s h i ≡ false → is_at_call t s h i ≡ true

-- thread i is live, although its next step is not a call
pub record StoppedEarly (t : Program) (s : SetupOf) (h : List Call) (i : ℕ) : Type 0 where
  pub own : i < threads s
  pub own_live : is_terminated s h i ≡ false
  pub next : is_at_call t s h i ≡ false

-- no thread stopped early, or this one did
abbrev pub TellsEarly : Program → SetupOf → List Call → Option ℕ → Type 0
TellsEarly t s h None = HaveStopped t s h
TellsEarly t s h (Some i) = StoppedEarly t s h i

-- This holds of a legal history with the bits of the seed. It need not be that of a board.
pub record HasBeen (t : Program) (s : SetupOf) (Holds : List Call → Type 0) : Type 0 where
  pub history : List Call
  pub legal : IsLegal t s history
  pub seeded : HasSeededBits s history
  pub held : Holds history

-- the histories in which a refused attempt of thread i has its reason: for memory the thread is
-- live and the next step is a call; otherwise the thread has terminated already
abbrev pub TellsOfRefusal : Program → SetupOf → ℕ → AskError → Type 0
TellsOfRefusal t s i error.Memory =
    HasBeen t s (λ h. (is_terminated s h i ≡ false) × (is_at_call t s h i ≡ true))
TellsOfRefusal t s i error.Terminated = HasBeen t s (λ h. is_terminated s h i ≡ true)
TellsOfRefusal t s i f = ⊤

-- The result of gathering a board.

abbrev pub calls_of_seats : List SeatOf → ℕ
calls_of_seats seats = sum_by (λ s. s.calls) seats

abbrev pub open_seats : List SeatOf → ℕ
open_seats seats = sum_by (λ s. open_amount s.is_open) seats

-- as many seats as threads, and one of each thread
pub record AreOnePerThread (n : ℕ) (seats : List SeatOf) : Type 0 where
  pub many : length seats ≡ n
  pub each : (i : ℕ) → i < n → count_by (λ s. s.thread == i) seats ≡ 1

-- the seat has counted the attempts of its thread in the history, and is open if and only if its
-- thread's line is not finished
pub record IsSeatOf (s : SetupOf) (h : List Call) (seat : SeatOf) : Type 0 where
  pub calls : seat.calls ≡ length (calls_of_thread seat.thread h)
  pub own_live : seat.is_open ≡ not (is_terminated s h seat.thread)

-- each of the seats agrees with the history
abbrev pub AreSeatsOf : SetupOf → List Call → List SeatOf → Type 0
AreSeatsOf s h seats = All (IsSeatOf s h) seats

-- The attempts taken and left are one legal history, with the bits of the seed, and the report is
-- of it; the tap gives those that are left. The seats are one for each thread, and together they
-- have its attempts and its live threads. The result also tells which thread stopped early, if any,
-- and whether each seat agrees with the history.
pub record IsGathered
    (t : Program) (s : SetupOf) (taken : List Call) (seats : List SeatOf) (tap : TapOf) (r : Report)
    (early : Option ℕ) (agree : Bool)
    : Type 0 where
  pub left : List Call
  pub rest : tap.rest ≡ Some left
  pub same : tap.taken ≡ taken
  pub legal : IsLegal t s (taken ++ left)
  pub seeded : HasSeededBits s (taken ++ left)
  pub report : IsReport s (taken ++ left) r
  pub one_each : AreOnePerThread (threads s) seats
  pub calls : calls_of_seats seats ≡ length (taken ++ left)
  pub open_are : open_seats seats ≡ r.left_live
  pub stops : TellsEarly t s (taken ++ left) early
  pub agreement : IsTrue agree ↔ AreSeatsOf s (taken ++ left) seats
