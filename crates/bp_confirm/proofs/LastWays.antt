-- The ways of a step with each of its last bits, apart from that of any other attempt.
use Rattle.bp_confirm.proofs.Common.{◌≡◌, Bool, false, List, Option, None, Some, refl, option_map, true, inl, ◌⊎◌, arith, Block, Program, Procedure, Frame, StatementEffect, Leaves, Fails, effect, Valuation, Call, stack_of, configuration_after, SetupOf, is_left, is_fork_on, LastBits, bit_of_block, Follows, IsClear, Place, StepOf, next_place}
use Rattle.bp_confirm.proofs.StepMoves.{AgreeStacks}

-- If no last bit decides, a step is followed with any last bits.

pub unasked : (t : Program) (s : SetupOf) (last other : LastBits) (h : List Call) (x : StepOf) (later : List StepOf) (call : Call)
    → (next_place x.thread later ≡ None → is_fork_on (stack_of (configuration_after t s h) x.thread) ≡ false)
    → Follows t s last h x later call → Follows t s other h x later call
unasked t s last other h x later call given1 given2 = grind (arith)

-- if no location is next, no place is
pub no_place : {A B : Type 0} (f : A → B) (o : Option A) → option_map f o ≡ None → o ≡ None
no_place given1 = grind (arith)

-- With a further step at this place the stacks after 0, after 1 and after this bit are the same, and the other one agrees. Without one
-- the bit tells which of the first two the third is, and the fourth is one of them.
abbrev pub Among : Option Place → Bool → (zeroed oned given other : List Frame) → Type 0
Among (Some p) b z o w g = (z ≡ o) × (z ≡ w) × AgreeStacks (Some p) z g
Among None b z o w g = (is_left z ≡ is_left o) × (b ≡ false → z ≡ w) × (b ≡ true → o ≡ w) × ((z ≡ g) ⊎ (o ≡ g))

-- the effects with the three bits leave these globals, and stacks that are so
pub record LeaveAmong (next : Option Place) (b : Bool) (d e k : StatementEffect) (g : Valuation) (other : List Frame) : Type 0 where
  pub zeroed : List Frame
  pub oned : List Frame
  pub given : List Frame
  pub zeroed_is : d ≡ Leaves g zeroed
  pub oned_is : e ≡ Leaves g oned
  pub given_is : k ≡ Leaves g given
  pub among : Among next b zeroed oned given other

-- or at the last step the assertion of a `?` fails with each
pub record FailAll (follow : Bool) (d e k : StatementEffect) : Type 0 where
  pub last : follow ≡ false
  pub zeroed_is : d ≡ Fails
  pub oned_is : e ≡ Fails
  pub given_is : k ≡ Fails

module _ (ps : List Procedure) (g : Valuation) (f : Frame) (fs : List Frame) where
  abbrev effect_with : Block → Bool → StatementEffect
  effect_with left bit = effect ps left g f fs bit

  abbrev Ends : Block → Option Place → (b follow : Bool) → Valuation → List Frame → Type 0
  Ends left next b follow h S =
      LeaveAmong next b (effect_with left (bit_of_block left next false follow)) (effect_with left (bit_of_block left next true follow))
      (effect_with left (bit_of_block left next b follow)) h S
      ⊎ FailAll follow (effect_with left (bit_of_block left next false follow)) (effect_with left (bit_of_block left next true follow))
      (effect_with left (bit_of_block left next b follow))

  -- all leave the same
  all_leave : {next : Option Place} {b : Bool} {d e k : StatementEffect} {h : Valuation} {S R : List Frame} → d ≡ Leaves h S → e ≡ Leaves h S → k ≡ Leaves h S
      → Among next b S S S R → LeaveAmong next b d e k h R
  all_leave given1 given2 given3 given4 = grind (arith)

  same : (b : Bool) (e : StatementEffect) (h : Valuation) (S : List Frame) → e ≡ Leaves h S → LeaveAmong None b e e e h S
  same b e h S is = all_leave is is is (refl, λ p. refl, λ p. refl, inl refl)

  pub leaves_among : (left : Block) (next : Option Place) (b follow y : Bool) (h : Valuation) (S : List Frame)
      → ((p : Place) → next ≡ Some p → follow ≡ true)
      → IsClear left next
      → effect ps left g f fs y ≡ Leaves h S
      → Ends left next b follow h S
  leaves_among left next b follow y h S given1 given2 given3 = grind (arith)
