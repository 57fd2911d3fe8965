-- If a history takes steps and ends in a deadlock, the one that confirms them ends in one.
use Rattle.bp_confirm.proofs.Common.{◌≡◌, ◌≢◌, ◌==◌, ◌&&◌, ℕ, Bool, true, false, not, List, [], ◌∷◌, ◌++◌, Option, Some, refl, ap, sym, ◌∙◌, subst, arith, inl, inr, ◌⊎◌, false≢true, nat_tests, regrouped, Program, Frame, Configuration, StatementEffect, effect, after_effect, Valuation, Call, Reply, stack_of, reply_on_stack, configuration_after, is_left, has_frames, IsDeadlocked, is_blocked, waits, SetupOf, DeadlockIsTaken, LastBits, zeros, ones, bit_of_block, bit_of_stack, some_follow, IsClear, IsClearOnStack, Follows, FollowAfter, waiting_bits, waits_after, Place, StepOf, IsStepOf, TakeAfter, next_place}
use Rattle.std.proofs.Common.{append-nil}
use Rattle.bp_confirm.proofs.Agreement.{next_here, next_other}
use Rattle.bp_confirm.proofs.LastWays.{Among, LeaveAmong, FailAll, leaves_among}
use Rattle.bp_confirm.proofs.StepMoves.{IsMove, move_of, HasLeft, has_left, has_failed, leaves_some, same_stack}

-- a move from a known stack and known globals
moved_from : (t : Program) (c d : Configuration) (i : ℕ) (bit : Bool) (r : Reply) (m : IsMove t c i bit r d) (g : Valuation) (f : Frame) (fs : List Frame)
    → c.globals ≡ g → stack_of c i ≡ f ∷ fs → after_effect c i (effect t.procedures f.left g f fs bit) ≡ Some d
moved_from t c d i bit r m g f fs given1 given2 = grind (arith)

some_if_next : (i : ℕ) (later : List StepOf) (p : Place) → next_place i later ≡ Some p → some_follow later ≡ true
some_if_next i later p given1 = grind (arith)

-- After these histories, of which the first take 0, 1 and given bits, these stacks are among each other, and the globals are the same.
pub record Alike (given : LastBits) (later : List StepOf) (z o w g : Configuration) : Type 0 where
  pub oned : o.globals ≡ z.globals
  pub third : w.globals ≡ z.globals
  pub fourth : g.globals ≡ z.globals
  pub stacks : (i : ℕ) → Among (next_place i later) (given i) (stack_of z i) (stack_of o i) (stack_of w i) (stack_of g i)

-- at one of them the assertion of a `?` failed
pub record Failed (later : List StepOf) (z w : Configuration) : Type 0 where
  pub last : some_follow later ≡ false
  pub first : z.failed ≡ true
  pub third : w.failed ≡ true

module _ (t : Program) (s : SetupOf) (given : LastBits) (x : StepOf) (later : List StepOf) (hz ho hw hg : List Call) (a b c y : Call) where
  abbrev i : ℕ
  i = x.thread

  abbrev after : List Call → Configuration
  after h = configuration_after t s h

  abbrev z : Configuration
  z = after hz

  abbrev o : Configuration
  o = after ho

  abbrev w : Configuration
  w = after hw

  abbrev g : Configuration
  g = after hg

  abbrev z' : Configuration
  z' = after (hz ++ a ∷ [])

  abbrev o' : Configuration
  o' = after (ho ++ b ∷ [])

  abbrev w' : Configuration
  w' = after (hw ++ c ∷ [])

  abbrev g' : Configuration
  g' = after (hg ++ y ∷ [])

  module _ (alike : Alike given (x ∷ later) z o w g) (fa : Follows t s zeros hz x later a) (fb : Follows t s ones ho x later b)
      (fc : Follows t s given hw x later c) (taken : IsStepOf t s hg x y) (going : g'.failed ≡ false) where
    here : Among (Some x.place) (given i) (stack_of z i) (stack_of o i) (stack_of w i) (stack_of g i)
    here = subst (λ n. Among n (given i) (stack_of z i) (stack_of o i) (stack_of w i) (stack_of g i)) (next_here x later) (alike.stacks i)

    first : IsMove t z i a.bit a.reply z'
    first = move_of t s hz x a fa.takes

    stack_g : stack_of g i ≡ first.frame ∷ first.below
    stack_g = sym (same_stack x.place (stack_of z i) (stack_of g i) here.2 taken.at) ∙ first.stack

    abbrev effect_here : Bool → StatementEffect
    effect_here bit = effect t.procedures first.frame.left z.globals first.frame first.below bit

    abbrev bit_here : Bool → Bool
    bit_here last = bit_of_block first.frame.left (next_place i later) last (some_follow later)

    -- an attempt that follows after a history in which the thread has this stack
    at : (last : LastBits) (h : List Call) (k : Call) → Follows t s last h x later k → (after h).globals ≡ z.globals → stack_of (after h) i ≡ first.frame ∷ first.below
        → after_effect (after h) i (effect_here (bit_here (last i))) ≡ Some (after (h ++ k ∷ []))
    at last h k follows globals stack =
        subst (λ n. after_effect (after h) i (effect_here n) ≡ Some (after (h ++ k ∷ []))) (follows.bit ∙ ap (λ S. bit_of_stack last i later S) stack)
        (moved_from t (after h) (after (h ++ k ∷ [])) i k.bit k.reply (move_of t s h x k follows.takes) z.globals first.frame first.below globals stack)

    at_z : after_effect z i (effect_here (bit_here false)) ≡ Some z'
    at_z = at zeros hz a fa refl first.stack

    at_o : after_effect o i (effect_here (bit_here true)) ≡ Some o'
    at_o = at ones ho b fb alike.oned (sym here.0 ∙ first.stack)

    at_w : after_effect w i (effect_here (bit_here (given i))) ≡ Some w'
    at_w = at given hw c fc alike.third (sym here.1 ∙ first.stack)

    moved_g : after_effect g i (effect_here y.bit) ≡ Some g'
    moved_g = moved_from t g g' i y.bit y.reply (move_of t s hg x y taken) z.globals first.frame first.below alike.fourth stack_g

    clear : IsClear first.frame.left (next_place i later)
    clear = subst (λ S. IsClearOnStack i later S) first.stack fa.clear

    module _ (h : Valuation) (S : List Frame) (left_g : HasLeft g g' i h S)
        (ends : LeaveAmong (next_place i later) (given i) (effect_here (bit_here false)) (effect_here (bit_here true)) (effect_here (bit_here (given i))) h S) where
      left_z : HasLeft z z' i h ends.zeroed
      left_z = has_left z z' i h ends.zeroed first.within (subst (λ e. after_effect z i e ≡ Some z') ends.zeroed_is at_z)

      left_o : HasLeft o o' i h ends.oned
      left_o = has_left o o' i h ends.oned (move_of t s ho x b fb.takes).within (subst (λ e. after_effect o i e ≡ Some o') ends.oned_is at_o)

      left_w : HasLeft w w' i h ends.given
      left_w = has_left w w' i h ends.given (move_of t s hw x c fc.takes).within (subst (λ e. after_effect w i e ≡ Some w') ends.given_is at_w)

      abbrev Four : Type 0
      Four = List Frame × List Frame × List Frame × List Frame

      stacks_at : (j : ℕ) (k : Bool) → (i == j) ≡ k
          → Among (next_place j later) (given j) (stack_of z' j) (stack_of o' j) (stack_of w' j) (stack_of g' j)
      stacks_at j true e =
          let same : i ≡ j = grind (arith, nat_tests) in
          subst (λ n. Among (next_place n later) (given n) (stack_of z' n) (stack_of o' n) (stack_of w' n) (stack_of g' n)) same
          (subst (λ (p : Four). Among (next_place i later) (given i) p.0 p.1 p.2 p.3)
          (λ k. (sym left_z.own k, sym left_o.own k, sym left_w.own k, sym left_g.own k)) ends.among)
      stacks_at j false e =
          let apart : i ≢ j = λ same. grind (arith, nat_tests) in
          let back : j ≢ i = λ same. apart (sym same) in
          let old = subst (λ n. Among n (given j) (stack_of z j) (stack_of o j) (stack_of w j) (stack_of g j)) (next_other x later j apart) (alike.stacks j) in
          subst (λ (p : Four). Among (next_place j later) (given j) p.0 p.1 p.2 p.3)
          (λ k. (sym (left_z.others j back) k, sym (left_o.others j back) k, sym (left_w.others j back) k, sym (left_g.others j back) k)) old

      goes_on : Alike given later z' o' w' g'
      goes_on = record {
        oned = left_o.globals ∙ sym left_z.globals;
        third = left_w.globals ∙ sym left_z.globals;
        fourth = left_g.globals ∙ sym left_z.globals;
        stacks = λ j. stacks_at j (i == j) refl;
      }

    pub step_alike : Alike given later z' o' w' g' ⊎ Failed later z' w'
    step_alike =
        let left = leaves_some g g' i (effect_here y.bit) moved_g going in
        let left_g = has_left g g' i left.globals left.stack (move_of t s hg x y taken).within (subst (λ e. after_effect g i e ≡ Some g') left.is moved_g) in
        by_ends left.globals left.stack left_g
        (leaves_among t.procedures z.globals first.frame first.below first.frame.left (next_place i later) (given i) (some_follow later) y.bit
        left.globals left.stack (λ p is. some_if_next i later p is) clear left.is)
      where
        by_ends : (h : Valuation) (S : List Frame) → HasLeft g g' i h S
            → (LeaveAmong (next_place i later) (given i) (effect_here (bit_here false)) (effect_here (bit_here true)) (effect_here (bit_here (given i))) h S
            ⊎ FailAll (some_follow later) (effect_here (bit_here false)) (effect_here (bit_here true)) (effect_here (bit_here (given i))))
            → Alike given later z' o' w' g' ⊎ Failed later z' w'
        by_ends h S left_g (inl ends) = inl (goes_on h S left_g ends)
        by_ends h S left_g (inr fails) = inr (record {
          last = fails.last;
          first = (has_failed z z' i (subst (λ e. after_effect z i e ≡ Some z') fails.zeroed_is at_z)).failed;
          third = (has_failed w w' i (subst (λ e. after_effect w i e ≡ Some w') fails.given_is at_w)).failed;
        })

module _ (t : Program) (s : SetupOf) (given : LastBits) where
  -- no assertion has failed before another step
  still : (h : List Call) (xs : List StepOf) (calls : List Call) → TakeAfter t s h xs calls → (configuration_after t s (h ++ calls)).failed ≡ false
      → (configuration_after t s h).failed ≡ false
  still h [] [] take going = subst (λ k. (configuration_after t s k).failed ≡ false) (append-nil h) going
  still h (x ∷ xs) (y ∷ ys) take going = (move_of t s h x y take.0).going
  still h xs calls take going = absurd (assumption (take))

  abbrev EndAlike : (hz ho hw hg : List Call) → Type 0
  EndAlike hz ho hw hg =
      Alike given [] (configuration_after t s hz) (configuration_after t s ho) (configuration_after t s hw) (configuration_after t s hg)
      ⊎ Failed [] (configuration_after t s hz) (configuration_after t s hw)

  all_alike : (hz ho hw hg : List Call) (xs : List StepOf) (mz mo mw mg : List Call)
      → Alike given (xs ++ []) (configuration_after t s hz) (configuration_after t s ho) (configuration_after t s hw) (configuration_after t s hg)
      → FollowAfter t s zeros hz xs [] mz
      → FollowAfter t s ones ho xs [] mo
      → FollowAfter t s given hw xs [] mw
      → TakeAfter t s hg xs mg
      → (configuration_after t s (hg ++ mg)).failed ≡ false
      → EndAlike (hz ++ mz) (ho ++ mo) (hw ++ mw) (hg ++ mg)
  all_alike hz ho hw hg [] [] [] [] [] alike fz fo fw take going =
      subst (λ (k : List Call × List Call × List Call × List Call). EndAlike k.0 k.1 k.2 k.3)
      (λ j. (sym (append-nil hz) j, sym (append-nil ho) j, sym (append-nil hw) j, sym (append-nil hg) j)) (inl alike)
  all_alike hz ho hw hg (x ∷ xs) (a ∷ mz) (b ∷ mo) (c ∷ mw) (y ∷ mg) alike fz fo fw take going =
      by_step xs mz mw fz.1 fw.1
      (λ more. simp regrouped at (all_alike (hz ++ a ∷ []) (ho ++ b ∷ []) (hw ++ c ∷ []) (hg ++ y ∷ []) xs mz mo mw mg more fz.1 fo.1 fw.1 take.1
      (simp regrouped going)))
      (step_alike t s given x (xs ++ []) hz ho hw hg a b c y alike fz.0 fo.0 fw.0 take.0
      (still (hg ++ y ∷ []) xs mg take.1 (simp regrouped going)))
    where
      by_step : (ys : List StepOf) (nz nw : List Call) → FollowAfter t s zeros (hz ++ a ∷ []) ys [] nz → FollowAfter t s given (hw ++ c ∷ []) ys [] nw
          → (Alike given (ys ++ []) (configuration_after t s (hz ++ a ∷ [])) (configuration_after t s (ho ++ b ∷ []))
          (configuration_after t s (hw ++ c ∷ [])) (configuration_after t s (hg ++ y ∷ []))
          → EndAlike (hz ++ a ∷ nz) (ho ++ b ∷ mo) (hw ++ c ∷ nw) (hg ++ y ∷ mg))
          → (Alike given (ys ++ []) (configuration_after t s (hz ++ a ∷ [])) (configuration_after t s (ho ++ b ∷ []))
          (configuration_after t s (hw ++ c ∷ [])) (configuration_after t s (hg ++ y ∷ []))
          ⊎ Failed (ys ++ []) (configuration_after t s (hz ++ a ∷ [])) (configuration_after t s (hw ++ c ∷ [])))
          → EndAlike (hz ++ a ∷ nz) (ho ++ b ∷ mo) (hw ++ c ∷ nw) (hg ++ y ∷ mg)
      by_step ys nz nw gz gw rest (inl more) = rest more
      by_step [] [] [] gz gw rest (inr failed) = inr (record { last = refl; first = failed.first; third = failed.third })
      by_step (v ∷ vs) nz nw gz gw rest (inr failed) = absurd (false≢true (sym failed.last))
      by_step ys nz nw gz gw rest more = absurd (assumption (gz, gw))
  all_alike hz ho hw hg xs mz mo mw mg alike fz fo fw take going = absurd (assumption (fz, fo, fw, take))

-- a thread waits in both configurations if its stack and the globals are the same
waits_same : (t : Program) (c d : Configuration) (i : ℕ) → c.globals ≡ d.globals → stack_of c i ≡ stack_of d i → waits t c i ≡ waits t d i
waits_same t c d i globals stack = λ j. waits_on (globals j) (stack j)
  where
    waits_on : Valuation → List Frame → Bool
    waits_on g S = is_blocked (reply_on_stack t true g S false) && is_blocked (reply_on_stack t true g S true)

module _ (t : Program) (z o w g : Configuration) (alike : Alike (waiting_bits (λ i. waits t z i)) [] z o w g) where
  zeroed_waits : (i : ℕ) → stack_of z i ≡ stack_of w i → waits t z i ≡ waits t w i
  zeroed_waits i same = waits_same t z w i (sym alike.third) same

  has_same : (c d : Configuration) (i : ℕ) → stack_of c i ≡ stack_of d i → has_frames c i ≡ has_frames d i
  has_same c d i same = ap is_left same

  -- the third has frames if the fourth has
  left_same : (i : ℕ) → has_frames w i ≡ has_frames g i
  left_same i = by_bit (waits t z i) refl (alike.stacks i).3
    where
      by_bit : (k : Bool) → waits t z i ≡ k → ((stack_of z i ≡ stack_of g i) ⊎ (stack_of o i ≡ stack_of g i)) → has_frames w i ≡ has_frames g i
      by_bit true e (inl same) = sym (has_same z w i ((alike.stacks i).1 (ap not e))) ∙ has_same z g i same
      by_bit true e (inr same) = sym (has_same z w i ((alike.stacks i).1 (ap not e))) ∙ (alike.stacks i).0 ∙ has_same o g i same
      by_bit false e (inl same) = sym (has_same o w i ((alike.stacks i).2 (ap not e))) ∙ sym (alike.stacks i).0 ∙ has_same z g i same
      by_bit false e (inr same) = sym (has_same o w i ((alike.stacks i).2 (ap not e))) ∙ has_same o g i same

  module _ (dead : IsDeadlocked t g) where
    each_waits : (i : ℕ) → has_frames w i ≡ true → waits t w i ≡ true
    each_waits i frames = by_bit (waits t z i) refl (alike.stacks i).3
      where
        waiting : waits t g i ≡ true
        waiting = dead.each_waits i (sym (left_same i) ∙ frames)

        by_bit : (k : Bool) → waits t z i ≡ k → ((stack_of z i ≡ stack_of g i) ⊎ (stack_of o i ≡ stack_of g i)) → waits t w i ≡ true
        by_bit true e other = sym (zeroed_waits i ((alike.stacks i).1 (ap not e))) ∙ e
        by_bit false e (inl same) = absurd (false≢true (sym e ∙ waits_same t z g i (sym alike.fourth) same ∙ waiting))
        by_bit false e (inr same) = grind (arith)

    pub deadlocked_too : IsDeadlocked t w
    deadlocked_too = record { thread = dead.thread; unended = left_same dead.thread ∙ dead.unended; each_waits = each_waits }

pub deadlock_is_taken : DeadlockIsTaken
deadlock_is_taken t s steps h g choices p taken dead going_h going =
    by_end (all_alike t s given [] [] [] [] steps p.zeroed p.oned p.waiting g begin p.take.by_zeros p.take.by_ones p.take.by_waiting taken going)
  where
    given : LastBits
    given = waiting_bits (waits_after t s p.zeroed)

    all_same : (next : Option Place) (b : Bool) (S : List Frame) → Among next b S S S S
    all_same next b S = grind (arith)

    begin : Alike given (steps ++ []) (configuration_after t s []) (configuration_after t s []) (configuration_after t s []) (configuration_after t s [])
    begin = grind (arith)

    ends_so : IsDeadlocked t (configuration_after t s p.waiting) → IsDeadlocked t (configuration_after t s h)
    ends_so given1 = grind (arith)

    not_failed : {X : Type 0} (k : List Call) → h ≡ k → (configuration_after t s k).failed ≡ true → X
    not_failed k is failed = absurd (false≢true (sym going_h ∙ ap (λ m. (configuration_after t s m).failed) is ∙ failed))

    by_end : EndAlike t s given p.zeroed p.oned p.waiting g → IsDeadlocked t (configuration_after t s h)
    by_end (inl alike) = ends_so (deadlocked_too t _ _ _ _ alike dead)
    by_end (inr failed) = grind (arith)
