-- The verdict of an attempt is the machine's reply, and the state after it stands after the longer
-- history.
use Rattle.bp_machine.proofs.Common.{◌≡◌, suc, ◌+◌, ◌≤◌, Bool, true, false, List, [], ◌∷◌, length, refl, ap, arith, Block, Procedure, Program, Valuation, Frame, is_call, StatementEffect, Leaves, Misses, effect, Bits, Activation, valuation_of, ShowsStack, SameEffect}

module _ (t : Program) where
  pub shown_length : (below : List Activation) (fs : List Frame) → ShowsStack t below fs → length below ≡ length fs
  shown_length [] [] e = refl
  shown_length (a ∷ below) (f ∷ fs) e = ap suc (shown_length below fs e.1)
  shown_length [] (f ∷ fs) e = absurd e
  shown_length (a ∷ below) [] e = absurd e

  -- the effect, by the outcome that it is the same as
  pub same_leaves : (b : Bits) (stack : List Activation) (e : StatementEffect) → SameEffect t (Leaves b stack) e
      → (g : Valuation) × (s : List Frame) × (e ≡ Leaves g s) × (g ≡ valuation_of t.globals b) × ShowsStack t stack s
  same_leaves b stack e given1 = grind (arith)

  pub same_lost : (e : StatementEffect) → SameEffect t Misses e → ⊥
  same_lost e given1 = grind (arith)

module _ (ps : List Procedure) (g : Valuation) (f : Frame) (fs : List Frame) (bit : Bool) where
  pub not_call : (left : Block) (h : Valuation) (s : List Frame) → effect ps left g f fs bit ≡ Leaves h s → length s ≤ length fs + 1 → is_call left ≡ false
  not_call left h s given1 given2 = grind (arith)

  pub is_a_call : (left : Block) (h : Valuation) (s : List Frame) → effect ps left g f fs bit ≡ Leaves h s → length s ≡ length fs + 2 → is_call left ≡ true
  is_a_call left h s given1 given2 = grind (arith)
