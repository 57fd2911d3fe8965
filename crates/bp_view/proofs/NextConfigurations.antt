-- A thread's stack and the globals after an attempt.
use Rattle.bp_view.proofs.Common.{◌≡◌, ◌<◌, ℕ, true, false, nat_lt, [], refl, arith, if◌then◌else◌, ◌≤◌, ◌⊎◌, inl, inr, Bool, List, ◌∷◌, Option, length, unwrap_or, rules, nat_tests, cases_lt, get_or_past, get_or-set_same, Block, Procedure, Program, Frame, Configuration, StatementEffect, Leaves, effect, after_effect, call_effect, Valuation, Reply, configuration_after_call, configuration_after_step, stack_of, is_granted, arguments_of, changed, frame_changed, IsNext, IsSameCall}

-- The changes of an attempt at the top of a stack, by the depth of the stack after it.

module _ (f g : Frame) (m n : ℕ) where
  pub entered : m < n → frame_changed f g m n ≡ arguments_of g
  entered h = let deeper : nat_lt m n ≡ true = grind (arith, nat_tests) in rw deeper refl

  pub stayed : m ≡ n → frame_changed f g m n ≡ changed f.locals g.locals
  stayed given1 = grind (arith)

same_call : (fs : List Frame) → IsSameCall fs fs
same_call fs = grind (arith)

-- an effect on this stack leaves a stack of the same call, or one of another depth; the globals are
-- the same if it leaves none
abbrev Keeps : Valuation → List Frame → StatementEffect → Type 0
Keeps g before (Leaves h after) = IsSameCall before after × (after ≡ [] → h ≡ g)
Keeps g before e = Unit {0}

module _ (ps : List Procedure) (g : Valuation) (f : Frame) (fs : List Frame) (bit : Bool) where
  calls : (r : Block) (arguments : List Bool) (p : Option Procedure) → Keeps g (f ∷ fs) (call_effect g f fs r arguments p)
  calls r arguments p = grind (arith)

  keeps : (left : Block) → Keeps g (f ∷ fs) (effect ps left g f fs bit)
  keeps left = grind (arith)

same_next : (c : Configuration) (i : ℕ) → IsNext c c i
same_next c i = record { call = same_call (stack_of c i); idle = λ e. refl; ended = λ e. refl }

module _ (t : Program) (c : Configuration) (i : ℕ) (bit : Bool) where
  -- a thread with a frame is there
  pub there : (f : Frame) (fs : List Frame) → stack_of c i ≡ f ∷ fs → i < length c.stacks
  there f fs e = by_place (cases_lt i (length c.stacks))
    where
      by_place : (i < length c.stacks) ⊎ (length c.stacks ≤ i) → i < length c.stacks
      by_place (inl p) = p
      by_place (inr p) = let none = get_or_past c.stacks i [] p in absurd cc

  next_of_effect : (f : Frame) (fs : List Frame) → stack_of c i ≡ f ∷ fs → (e : StatementEffect) → Keeps c.globals (f ∷ fs) e
      → IsNext c (unwrap_or (after_effect c i e) c) i
  next_of_effect f fs given1 e given2 = search (rules, get_or-set_same, there, same_call, same_next)

  next_of_step : (stack : List Frame) → stack_of c i ≡ stack → IsNext c (unwrap_or (configuration_after_step t c i bit stack) c) i
  next_of_step stack given1 = search (rules, same_next, next_of_effect, keeps)

  pub next_of_call : (r : Reply) → IsNext c (configuration_after_call t c i bit r) i
  next_of_call r = by_reply (is_granted r)
    where
      by_reply : (b : Bool) → IsNext c (if b then unwrap_or (configuration_after_step t c i bit (stack_of c i)) c else c) i
      by_reply true = next_of_step (stack_of c i) refl
      by_reply false = same_next c i
