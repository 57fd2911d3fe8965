-- The choice bits that reported steps leave out, and those of last steps.
use Rattle.std.specs.Prelude.{◌≡◌, ◌≢◌, slice_get, ℕ, Bool, true, false, not, ◌&&◌, List, [], ◌∷◌, ◌++◌, Option, None, Some, if◌then◌else◌, ◌⊎◌, zero, suc}
use Rattle.bp_syntax.specs.Ast.{Block, Then, Branches, Loops, Asserts, Assumes, Choose, Program}
use Rattle.bp_flat.specs.Moves.{chain, Frame}
use Rattle.bp_flat.specs.StandsFor.{start_of_block, starts_of}
use Rattle.bp_machine.specs.declared.calls.Call.{Call}
use Rattle.bp_machine.specs.Histories.{stack_of, configuration_after}
use Rattle.bp_machine.specs.Setups.{SetupOf, threads}
use Rattle.bp_machine.specs.Runs.{IsDeadlocked, waits}
use Rattle.bp_confirm.specs.Steps.{Place, StepOf, IsStepOf, next_place}
use Rattle.bp_confirm.specs.declared.choices.LastChoice.{LastChoice}

-- The choice bits that reported steps leave out, and how they are inferred from the later steps.

-- the bit that leads to the place of the thread's next step: 1 only if the statements after a 1 are
-- at that place and those after a 0 are not; without a next step it is the last bit
abbrev pub bit_towards : (last : Bool) → Option Place → Block → Block → Bool
bit_towards last None taken other = last
bit_towards last (Some p) taken other =
    p (start_of_block taken) && not (p (start_of_block other))

-- The bit of the next statement, if the thread's next step is at this place, its last bit is this
-- one, and steps follow or not. If `?` decides it, an assumption is 1, an assertion is 1 unless it
-- is the last step, and a branch or loop leads to the next step, or goes as the last bit says. All
-- other bits are 0.
abbrev pub bit_of_block : Block → Option Place → (last follow : Bool) → Bool
bit_of_block (Then label at (Assumes Choose) r) next last follow = true
bit_of_block (Then label at (Asserts Choose) r) next last follow = follow
bit_of_block (Then label at (Branches Choose a b) r) next last follow =
    bit_towards last next (chain a r) (chain b r)
bit_of_block (Then label at (Loops Choose a) r) next last follow =
    bit_towards last next (chain a (Then label at (Loops Choose a) r)) r
bit_of_block b next last follow = false

-- both ways are at the place of the thread's next step only if they are the same
abbrev pub IsClearWay : Option Place → Block → Block → Type 0
IsClearWay None taken other = Unit {0}
IsClearWay (Some p) taken other =
    p (start_of_block taken) ≡ true
    → p (start_of_block other) ≡ true
    → taken ≡ other

-- the next step of the thread tells which way a `?` went
abbrev pub IsClear : Block → Option Place → Type 0
IsClear (Then label at (Branches Choose a b) r) next = IsClearWay next (chain a r) (chain b r)
IsClear (Then label at (Loops Choose a) r) next =
    IsClearWay next (chain a (Then label at (Loops Choose a) r)) r
IsClear b next = Unit {0}

-- these ways begin at two different instructions of the program
pub record AreTwo (t : Program) (taken other : Block) : Type 0 where
  pub one : ℕ
  pub two : ℕ
  pub apart : one ≢ two
  pub taken_is : slice_get (starts_of t) one ≡ Some (start_of_block taken)
  pub other_is : slice_get (starts_of t) two ≡ Some (start_of_block other)

-- both ways are at the place, and they are two
pub record AreBothAt (t : Program) (p : Place) (taken other : Block) : Type 0 where
  pub taken_at : p (start_of_block taken) ≡ true
  pub other_at : p (start_of_block other) ≡ true
  pub ways : AreTwo t taken other

abbrev pub AreBothWays : Program → Option Place → Block → Block → Type 0
AreBothWays t None taken other = ⊥
AreBothWays t (Some p) taken other = AreBothAt t p taken other

-- a `?` may have gone either way
abbrev pub IsAmbiguous : Program → Block → Option Place → Type 0
IsAmbiguous t (Then label at (Branches Choose a b) r) next =
    AreBothWays t next (chain a r) (chain b r)
IsAmbiguous t (Then label at (Loops Choose a) r) next =
    AreBothWays t next (chain a (Then label at (Loops Choose a) r)) r
IsAmbiguous t b next = ⊥

-- steps follow
abbrev pub some_follow : List StepOf → Bool
some_follow [] = false
some_follow (x ∷ xs) = true

-- for each thread the bit that it takes if its last step is at a `?` of a branch or a loop
abbrev pub LastBits : Type 0
LastBits = ℕ → Bool

-- 0 for each thread, and 1 for each
abbrev pub zeros : LastBits
zeros = λ i. false

abbrev pub ones : LastBits
ones = λ i. true

-- the bit of the next step of a thread with this stack, before these later steps
abbrev pub bit_of_stack : LastBits → ℕ → List StepOf → List Frame → Bool
bit_of_stack last i later [] = false
bit_of_stack last i later (f ∷ fs) =
    bit_of_block f.left (next_place i later) (last i) (some_follow later)

abbrev pub IsClearOnStack : ℕ → List StepOf → List Frame → Type 0
IsClearOnStack i later [] = Unit {0}
IsClearOnStack i later (f ∷ fs) = IsClear f.left (next_place i later)

abbrev pub IsAmbiguousOnStack : Program → ℕ → List StepOf → List Frame → Type 0
IsAmbiguousOnStack t i later [] = ⊥
IsAmbiguousOnStack t i later (f ∷ fs) = IsAmbiguous t f.left (next_place i later)

-- in this setup, with these last bits
module _ (t : Program) (s : SetupOf) (last : LastBits) where
  -- the attempt takes the step x after the history h, with the bit inferred from the later steps
  pub record Follows (h : List Call) (x : StepOf) (later : List StepOf) (call : Call)
      : Type 0 where
    pub takes : IsStepOf t s h x call
    pub bit :
        call.bit ≡ bit_of_stack last x.thread later (stack_of (configuration_after t s h) x.thread)
    pub clear : IsClearOnStack x.thread later (stack_of (configuration_after t s h) x.thread)

  -- the attempts follow the steps after the history h, and these later steps come after them
  abbrev pub FollowAfter : List Call → List StepOf → List StepOf → List Call → Type 0
  FollowAfter h [] later [] = Unit {0}
  FollowAfter h (x ∷ xs) later (call ∷ calls) =
      Follows h x (xs ++ later) call × FollowAfter (h ++ call ∷ []) xs later calls
  FollowAfter h xs later calls = ⊥

  -- the history takes these steps, one attempt for each, with the inferred bits; each attempt is
  -- allowed, so the history is legal
  abbrev pub IsFollowed : List StepOf → List Call → Type 0
  IsFollowed steps h = FollowAfter [] steps [] h

-- The choice bits of last steps at a `?`, of which no later step tells. Those of a deadlock are
-- preferred; otherwise they are 0.

-- The bits by which threads wait, from the threads that wait after a 0. The bit of such a thread is
-- 0, and that of any other is 1: so a thread waits if one of its bits makes it wait.
abbrev pub waiting_bits : (after_0 : ℕ → Bool) → LastBits
waiting_bits after_0 = λ i. not (after_0 i)

-- exactly one of the two is true
abbrev pub differ : Bool → Bool → Bool
differ true b = not b
differ false b = b

-- The threads below n whose last bit decides a deadlock, with that bit, from those that wait after
-- a 0 and those that wait after a 1: a thread decides if it waits after only one of the two.
abbrev pub deciding : (after_0 after_1 : ℕ → Bool) → (n : ℕ) → List LastChoice
deciding after_0 after_1 zero = []
deciding after_0 after_1 (suc n) =
    let before = deciding after_0 after_1 n in
    if differ (after_0 n) (after_1 n)
    then before ++ record { thread = n; bit = waiting_bits after_0 n } ∷ []
    else before

module _ (t : Program) (s : SetupOf) where
  -- thread i waits after this history
  abbrev pub waits_after : List Call → ℕ → Bool
  waits_after h = λ i. waits t (configuration_after t s h) i

  -- the history takes the steps, one attempt for each, with the inferred bits and some last bits;
  -- each last bit is 0 unless it ends in a deadlock
  pub record IsTaken (steps : List StepOf) (h : List Call) : Type 0 where
    pub last : LastBits
    pub followed : IsFollowed t s last steps h
    pub by_zeros :
        (IsDeadlocked t (configuration_after t s h) → ⊥)
        → IsFollowed t s zeros steps h

  -- these histories take the steps with 0 at each last `?`, with 1, and with the bits by which
  -- threads wait
  pub record TakeEach (steps : List StepOf) (zeroed oned waiting : List Call) : Type 0 where
    pub by_zeros : IsFollowed t s zeros steps zeroed
    pub by_ones : IsFollowed t s ones steps oned
    pub by_waiting : IsFollowed t s (waiting_bits (waits_after zeroed)) steps waiting

  -- the history ends in a deadlock, which depends on these bits
  pub record EndsDeadlocked (zeroed oned waiting h : List Call) (choices : List LastChoice)
      : Type 0 where
    pub deadlock : IsDeadlocked t (configuration_after t s waiting)
    pub is : h ≡ waiting
    pub depends : choices ≡ deciding (waits_after zeroed) (waits_after oned) (threads s)

  -- no such bits lead to a deadlock, and each is 0
  pub record EndsOtherwise (zeroed waiting h : List Call) (choices : List LastChoice)
      : Type 0 where
    pub none : IsDeadlocked t (configuration_after t s waiting) → ⊥
    pub is : h ≡ zeroed
    pub depends : choices ≡ []

  -- the history takes the steps, one attempt for each, with the inferred bits; if last bits lead to
  -- a deadlock it ends in one, which depends on these bits
  pub record IsConfirmed (steps : List StepOf) (h : List Call) (choices : List LastChoice)
      : Type 0 where
    pub zeroed : List Call
    pub oned : List Call
    pub waiting : List Call
    pub take : TakeEach steps zeroed oned waiting
    pub ends : EndsDeadlocked zeroed oned waiting h choices ⊎ EndsOtherwise zeroed waiting h choices
