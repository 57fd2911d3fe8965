-- Desks, seats and taps as contracts see them, and the parts of a board.
use denote.RawPtr.{Ptr, null_ptr}
use Rattle.std.specs.Prelude.{[], None, ◌≡◌, ◌<◌, ◌≤◌, ℕ, List, true, length, is_some, refl, if◌then◌else◌, Bool, map, ◌∷◌, Option, Some, MatchOption}
use Rattle.rtrb.specs.Shared.{Names}
use Rattle.std.specs.declared.alloc.Global.{Global}
use Rattle.rtrb.specs.declared.AnyItems.{AnyItems}
use Rattle.rtrb.specs.declared.producer.Producer.{Producer}
use Rattle.rtrb.specs.declared.consumer.Consumer.{Consumer}
use Rattle.rtrb.specs.declared.end.End.{End}
use Rattle.rtrb.specs.Ring.{sent, known_free, received}
use Rattle.std.specs.Coded.{Coded, code_by, coded×, coded_ℕ, coded_list}
use Rattle.std.specs.List.{range_with_len}
use Rattle.std.specs.Option.{option_map}
use Rattle.bp_flat.specs.Flat.{Flat, flat}
use Rattle.bp_flat.specs.Codes.{coded_flat}
use Rattle.bp_machine.specs.Setups.{SetupOf, setup_of, Fits}
use Rattle.bp_machine.specs.declared.calls.Call.{Call}
use Rattle.bp_machine.specs.declared.limits.TheConstants.{MAX_THREADS}
use Rattle.bp_machine.specs.Histories.{live_threads, IsLegal, HasSeededBits}
use Rattle.bp_machine.specs.Sessions.{SessionOf, Stands}
use Rattle.bp_machine.specs.SessionCodes.{coded_setup, coded_call}

-- The ring to which an end belongs.

-- the parts that the two ends of one ring share
pub record RingOf : Type 0 where
  pub words : Ptr
  pub slots : Ptr
  pub names : Names
  pub heap : Global

abbrev pub ring_of_end : End Call Global AnyItems → RingOf
ring_of_end e = record { words = e.words; slots = e.slots; names = e.names; heap = e.heap }

abbrev pub producer_ring : Producer Call Global AnyItems → RingOf
producer_ring p = ring_of_end p.end

abbrev pub consumer_ring : Consumer Call Global AnyItems → RingOf
consumer_ring c = ring_of_end c.end

abbrev pub no_ring : RingOf
no_ring = record {
  words = null_ptr;
  slots = null_ptr;
  names = (0, (0, 0));
  heap = record { memory = record { seal = tt } };
}

abbrev pub no_code : Flat
no_code = flat [] 0 [] (record { globals = []; procedures = [] })

abbrev pub no_setup : SetupOf
no_setup = setup_of [] [] 0 0 None

-- The parts of a board.

-- the number of threads, the names of the two ledgers, the ring, and its number of free places
pub record BoardPartsOf : Type 0 where
  pub threads : ℕ
  pub calls : ℕ
  pub live : ℕ
  pub ring : RingOf
  pub free : ℕ

abbrev pub board_parts_of : ℕ → ℕ → ℕ → Producer Call Global AnyItems → BoardPartsOf
board_parts_of threads calls live to = record {
  threads = threads;
  calls = calls;
  live = live;
  ring = producer_ring to;
  free = known_free to;
}

-- the ledgers have a part for each thread, and nothing was sent through the ring
pub record AreNewBoardParts
    (threads call_parts live_parts : ℕ)
    (to : Producer Call Global AnyItems) (from : Consumer Call Global AnyItems)
    : Type 0 where
  pub some : 0 < threads
  pub few : threads ≤ MAX_THREADS
  pub calls : call_parts ≡ threads
  pub live : live_parts ≡ threads
  pub unsent : sent to ≡ []
  pub untaken : received from ≡ []
  pub one_ring : consumer_ring from ≡ producer_ring to

-- the parts has these names and parts of ledgers, and this ring
pub record IsNamed
    (board_parts : BoardPartsOf) (calls call_parts live live_parts : ℕ) (ring : RingOf) : Type 0
  where
    pub calls_are : board_parts.calls ≡ calls
    pub call_parts_are : board_parts.threads ≡ call_parts
    pub live_are : board_parts.live ≡ live
    pub live_parts_are : board_parts.threads ≡ live_parts
    pub ring_is : board_parts.ring ≡ ring

-- Desks as contracts see them: a program's code, a setup, the history that was sent, and the number
-- of places of the ring that the desk knows to be free.

pub record DeskOf : Type 0 where
  pub code : Flat
  pub setup : SetupOf
  pub history : List Call
  pub free : ℕ

abbrev pub desk_of : SessionOf → List Call → ℕ → DeskOf
desk_of x h free = record { code = x.code; setup = x.setup; history = h; free = free }

-- A desk while nobody is at work on it: its setup fits the code's program and has a seed, and its
-- history is legal and has the bits of that seed.
pub record IsLegalDesk (d : DeskOf) : Type 0 where
  pub fits : Fits d.code.tree d.setup
  pub has_seed : is_some d.setup.seed ≡ true
  pub legal : IsLegal d.code.tree d.setup d.history
  pub seeded : HasSeededBits d.setup d.history

-- The session stands after the history, and the books count the attempts of the history and the
-- threads that are live after it.
pub record IsInBooks (x : SessionOf) (h : List Call) (made live : ℕ) : Type 0 where
  pub fits : Fits x.code.tree x.setup
  pub has_seed : is_some x.setup.seed ≡ true
  pub stands : Stands x.code.tree x h
  pub made_is : made ≡ length h
  pub live_are : live ≡ live_threads x.setup h

-- a desk of this code and setup that has sent nothing, and knows this number of places to be free
pub record IsNewDesk (code : Flat) (setup : SetupOf) (free : ℕ) (d : DeskOf) : Type 0 where
  pub code_is : d.code ≡ code
  pub setup_is : d.setup ≡ setup
  pub unsent : d.history ≡ []
  pub free_is : d.free ≡ free

-- Encodings of the values of desks. No public clause names one.

abbrev pub coded_desk : Coded DeskOf
coded_desk =
    code_by ((Flat × SetupOf) × (List Call × ℕ))
    (coded× (coded× coded_flat coded_setup) (coded× (coded_list coded_call) coded_ℕ))
    (λ d. ((d.code, d.setup), (d.history, d.free)))
    (λ p. record { code = p.0.0; setup = p.0.1; history = p.1.0; free = p.1.1 })
    (λ _. refl)

-- Seats as contracts see them.

-- a thread, the number of attempts made from its seat, and whether it may continue
pub record SeatOf : Type 0 where
  pub thread : ℕ
  pub calls : ℕ
  pub is_open : Bool

abbrev pub seat_of : ℕ → ℕ → Bool → SeatOf
seat_of thread calls is_open = record { thread = thread; calls = calls; is_open = is_open }

-- the number of live threads that a seat counts as
abbrev pub open_amount : Bool → ℕ
open_amount is_open = if is_open then 1 else 0

-- a seat has one part of each ledger: the first counts its attempts, the second its live thread
pub record HasShares (call_parts made live_parts own_live : ℕ) (seat : SeatOf) : Type 0 where
  pub one_of_calls : call_parts ≡ 1
  pub made_is : made ≡ seat.calls
  pub one_of_live : live_parts ≡ 1
  pub own_live_is : own_live ≡ open_amount seat.is_open

abbrev pub new_seat : ℕ → SeatOf
new_seat thread = seat_of thread 0 true

-- an open seat for each of n threads, in order
abbrev pub AreNewSeats : ℕ → List SeatOf → Type 0
AreNewSeats n seats = seats ≡ map new_seat (range_with_len 0 n)

-- Taps as contracts see them.

-- the attempts that were taken, and the attempts that are left once the board is gathered
pub record TapOf : Type 0 where
  pub taken : List Call
  pub rest : Option (List Call)

abbrev pub tap_of : List Call → List Call → Option ℕ → TapOf
tap_of taken known left = record { taken = taken; rest = option_map (λ _. known) left }

-- the attempt is the next of those that are left
pub record IsNextOf (cs : List Call) (c : Call) (new : Option (List Call)) : Type 0 where
  pub others : List Call
  pub are : new ≡ Some others
  pub first : cs ≡ c ∷ others

-- the attempts left after a look at the tap: unspecified before the board is gathered; then the
-- attempts that are left are given one by one
abbrev pub IsTakenOf : Option (List Call) → Option Call → Option (List Call) → Type 0
IsTakenOf old result new =
    MatchOption old
    (new ≡ None)
    (λ cs. MatchOption result ((cs ≡ []) × (new ≡ old)) (λ c. IsNextOf cs c new))
