-- Steps have one history, and refused steps have none.
use Rattle.bp_confirm.proofs.Common.{◌≡◌, ◌∙◌, ◌⊎◌, inl, inr, ℕ, List, [], ◌∷◌, ◌++◌, refl, ap, sym, subst, ◌+◌, zero, suc, Bool, true, false, cond, not, get_or, arith, rules, map-append, map_push, fun_ext, Program, Configuration, Call, IsDeadlocked, has_frames, waits, reply_of_step, history_of_run, configuration_after, stack_of, configuration_after_call, IsLegalAfter, SetupOf, threads, start, SessionOf, Stands, RunsAreHistories, configuration_after-append, StepReason, Ambiguous, StepRefusal, ForStuck, IsStepRefusal, StepLineOf, step_of, steps_of, StepOf, TakeAfter, Takes, stands_at, SeesValues, TakeEach, LastBits, zeros, ones, Follows, FollowAfter, IsFollowed, waits_after, waiting_bits, deciding, EndsDeadlocked, EndsOtherwise, differ, IsConfirmed, IsTaken, OneConfirmed, RefusedIsNotTaken, MovesTake, IsRunOfSteps, RefusedFrontHasNoRun, RefusedHasNoRun, LastChoice}
use Rattle.bp_machine.proofs.Deadlocks.{AreSeen, seen_none, seen_ended, seen_waiting, not_waiting, all_seen}
use Rattle.bp_machine.proofs.RunsAreHistories.{reply_granted, goes_there}

module _ (t : Program) (s : SetupOf) (last : LastBits) where
  pub one_call : (h : List Call) (x : StepOf) (later : List StepOf) (a b : Call) → Follows t s last h x later a → Follows t s last h x later b → a ≡ b
  one_call h x later a b given1 given2 = grind (arith)

  one_history : (h : List Call) (xs later : List StepOf) (p q : List Call) → FollowAfter t s last h xs later p → FollowAfter t s last h xs later q → p ≡ q
  one_history h [] later [] [] f g = refl
  one_history h (x ∷ xs) later (a ∷ p) (b ∷ q) (f, fs) (g, gs) =
      let same = one_call h x (xs ++ later) a b f g in
      let rest = one_history (h ++ a ∷ []) xs later p q fs (subst (λ c. FollowAfter t s last (h ++ c ∷ []) xs later q) (sym same) gs) in
      λ j. same j ∷ rest j
  one_history h xs later p q f g = absurd (assumption (f, g))

  -- the first of some steps that are taken
  front : (h : List Call) (xs : List StepOf) (x : StepOf) (later : List StepOf) (g : List Call) → TakeAfter t s h (xs ++ x ∷ later) g
      → (k : List Call) × TakeAfter t s h (xs ++ x ∷ []) k
  front h [] x later (a ∷ g) taking = (a ∷ [], (taking.0, tt))
  front h (z ∷ zs) x later (a ∷ g) taking = let rest = front (h ++ a ∷ []) zs x later g taking.1 in (a ∷ rest.0, (taking.0, rest.1))
  front h xs x later g taking = absurd (assumption (taking))

pub one_confirmed : OneConfirmed
one_confirmed t s steps h g choices others p q = by_ends p.ends q.ends
  where
    zeroed : p.zeroed ≡ q.zeroed
    zeroed = one_history t s zeros [] steps [] p.zeroed q.zeroed p.take.by_zeros q.take.by_zeros

    oned : p.oned ≡ q.oned
    oned = one_history t s ones [] steps [] p.oned q.oned p.take.by_ones q.take.by_ones

    waiting : p.waiting ≡ q.waiting
    waiting =
        one_history t s (waiting_bits (waits_after t s p.zeroed)) [] steps [] p.waiting q.waiting p.take.by_waiting
        (subst (λ z. IsFollowed t s (waiting_bits (waits_after t s z)) steps q.waiting) (sym zeroed) q.take.by_waiting)

    by_ends : (EndsDeadlocked t s p.zeroed p.oned p.waiting h choices ⊎ EndsOtherwise t s p.zeroed p.waiting h choices)
        → (EndsDeadlocked t s q.zeroed q.oned q.waiting g others ⊎ EndsOtherwise t s q.zeroed q.waiting g others)
        → (h ≡ g) × (choices ≡ others)
    by_ends (inl a) (inl b) = (
      a.is ∙ waiting ∙ sym b.is,
      a.depends ∙ (λ j. deciding (waits_after t s (zeroed j)) (waits_after t s (oned j)) (threads s)) ∙ sym b.depends,
    )
    by_ends (inl a) (inr b) = absurd (b.none (subst (λ z. IsDeadlocked t (configuration_after t s z)) waiting a.deadlock))
    by_ends (inr a) (inl b) = absurd (a.none (subst (λ z. IsDeadlocked t (configuration_after t s z)) (sym waiting) b.deadlock))
    by_ends (inr a) (inr b) = (a.is ∙ zeroed ∙ sym b.is, a.depends ∙ sym b.depends)

module _ (text : List ℕ) (t : Program) (s : SetupOf) (last : LastBits) (lines : List StepLineOf) (r : StepRefusal)
    (refused : IsStepRefusal text t s last lines r) where
  -- a history that takes all lines takes those up to the refused one
  none_whole : ((g : List Call) → Takes t s (steps_of text (refused.before ++ refused.step ∷ [])) g → ⊥)
      → (g : List Call) → Takes t s (steps_of text lines) g → ⊥
  none_whole none g taking =
      let before = steps_of text refused.before in
      let x = step_of text refused.step in
      let later = steps_of text refused.later in
      let whole : steps_of text lines ≡ before ++ x ∷ later =
      ap (steps_of text) refused.whole ∙ map-append (step_of text) refused.before (refused.step ∷ refused.later) in
      let found = front t s last [] before x later g (subst (λ xs. Takes t s xs g) whole taking) in
      none found.0 (subst (λ xs. Takes t s xs found.0) (sym (map_push (step_of text) refused.before refused.step)) found.1)

  by_reason : (reason : StepReason) → ForStuck reason ((g : List Call) → Takes t s (steps_of text (refused.before ++ refused.step ∷ [])) g → ⊥)
      → ForStuck reason ((g : List Call) → Takes t s (steps_of text lines) g → ⊥)
  by_reason reason given1 = search (rules, none_whole)

pub refused_is_not_taken : RefusedIsNotTaken
refused_is_not_taken text t s last lines r refused = by_reason text t s last lines r refused r.reason refused.none

-- Which of the histories that take steps confirms them, by the bits at last steps.

-- the threads below n are looked through for a deadlock
module _ (t : Program) (c : Configuration) where
  abbrev Seen : ℕ → Type 0
  Seen n = ((any : Bool) × AreSeen t c n any) ⊎ (IsDeadlocked t c → ⊥)

  one_more : (n : ℕ) → Seen n → (f w : Bool) → has_frames c n ≡ f → waits t c n ≡ w → Seen (n + 1)
  one_more n (inr none) f w is waiting = inr none
  one_more n (inl (any, seen)) false w is waiting = inl (any, seen_ended t c n any seen is)
  one_more n (inl (any, seen)) true true is waiting = inl (true, seen_waiting t c n any seen is waiting)
  one_more n (inl (any, seen)) true false is waiting = inr (not_waiting t c n is waiting)

  seen_up_to : (n : ℕ) → Seen n
  seen_up_to zero = inl (false, seen_none t c)
  seen_up_to (suc n) =
      let one : n + 1 ≡ suc n = omega arith in
      subst Seen one (one_more n (seen_up_to n) (has_frames c n) (waits t c n) refl refl)

-- so there is one, or there is none
pub decided : (t : Program) (x : SessionOf) (h : List Call) → Stands t x h
    → IsDeadlocked t (configuration_after t x.setup h) ⊎ (IsDeadlocked t (configuration_after t x.setup h) → ⊥)
decided t x h stands = by_seen (seen_up_to t (configuration_after t x.setup h) (threads x.setup))
  where
    by_any : (any : Bool) → AreSeen t (configuration_after t x.setup h) (threads x.setup) any
        → IsDeadlocked t (configuration_after t x.setup h) ⊎ (IsDeadlocked t (configuration_after t x.setup h) → ⊥)
    by_any true seen = inl ((all_seen t x.setup x.machine.state h stands.state (threads x.setup) (omega arith) true seen).0 refl)
    by_any false seen =
        inr (λ dead. let no = (all_seen t x.setup x.machine.state h stands.state (threads x.setup) (omega arith) false seen).1 dead in absurd cc)

    by_seen : Seen t (configuration_after t x.setup h) (threads x.setup)
        → IsDeadlocked t (configuration_after t x.setup h) ⊎ (IsDeadlocked t (configuration_after t x.setup h) → ⊥)
    by_seen (inl (any, seen)) = by_any any seen
    by_seen (inr none) = inr none

-- if both bits do the same, none decides
differ_same : (b : Bool) → differ b b ≡ false
differ_same b = grind (arith)

deciding_same : (f : ℕ → Bool) (n : ℕ) → deciding f f n ≡ []
deciding_same f zero = refl
deciding_same f (suc n) =
    ap (λ k. cond k (deciding f f n ++ record { thread = n; bit = not (f n) } ∷ []) (deciding f f n)) (differ_same (f n)) ∙ deciding_same f n

-- one that takes them with 0 at each last `?` takes them
pub taken_by_zeros : (t : Program) (s : SetupOf) (steps : List StepOf) (h : List Call)
    → IsFollowed t s zeros steps h
    → IsTaken t s steps h
taken_by_zeros t s steps h followed = record { last = zeros; followed = followed; by_zeros = λ _. followed }

-- a history that takes the steps whatever the last bits are confirms them
pub plain_confirmed : (t : Program) (s : SetupOf) (steps : List StepOf) (h : List Call) → ((other : LastBits) → IsFollowed t s other steps h)
    → (IsDeadlocked t (configuration_after t s h) ⊎ (IsDeadlocked t (configuration_after t s h) → ⊥))
    → (choices : List LastChoice) → choices ≡ [] → IsConfirmed t s steps h choices
plain_confirmed t s steps h any dead choices none = record {
  zeroed = h;
  oned = h;
  waiting = h;
  take = record { by_zeros = any zeros; by_ones = any ones; by_waiting = any (waiting_bits (waits_after t s h)) };
  ends = elim dead [
    | inl is ↦ inl (record { deadlock = is; is = refl; depends = none ∙ sym (deciding_same (waits_after t s h) (threads s)) })
    | inr not ↦ inr (record { none = not; is = refl; depends = none })
  ];
}

-- the entry of a table for each thread
pub table_is : (t : Program) {r s : SetupOf} (z : List Call) (xs : List Bool) → r ≡ s → ((i : ℕ) → get_or xs i false ≡ waits_after t r z i)
    → (λ i. get_or xs i false) ≡ waits_after t s z
table_is t z xs same each = fun_ext each ∙ ap (λ k. waits_after t k z) same

-- the histories with 0, with 1, and with the bits of such a table
pub taken_each : {t : Program} {r s : SetupOf} {steps : List StepOf} {z o w : List Call} {table xs : List Bool} → r ≡ s → xs ≡ table → IsFollowed t s zeros steps z
    → IsFollowed t s ones steps o → ((i : ℕ) → get_or table i false ≡ waits_after t r z i)
    → IsFollowed t s (waiting_bits (λ i. get_or xs i false)) steps w → TakeEach t s steps z o w
taken_each {t} {s = s} {steps = steps} {z = z} {w = w} {table = table} same is by_zeros by_ones each by_table = record {
  by_zeros = by_zeros;
  by_ones = by_ones;
  by_waiting =
      subst (λ f. IsFollowed t s (waiting_bits f) steps w) (table_is t z table same each)
      (subst (λ ys. IsFollowed t s (waiting_bits (λ i. get_or ys i false)) steps w) is by_table);
}

-- A run that takes steps is a history that takes them.

module _ (t : Program) (s : SetupOf) where
  takes_from : (p : List Call) (c : Configuration) (steps : List StepOf) (calls : List Call) (failed : Bool) → configuration_after t s p ≡ c
      → IsLegalAfter t s p (history_of_run calls failed) → MovesTake t c steps calls → TakeAfter t s p steps (history_of_run calls failed)
  takes_from p c [] [] failed is legal taking = tt
  takes_from p c (x ∷ xs) (a ∷ calls) failed is (allowed, rest) (first, others) =
      let own : Call = record a { reply = reply_of_step calls failed } in
      let there : configuration_after t s (p ++ own ∷ []) ≡ first.next =
      configuration_after-append t s p own
      ∙ ap (λ k. configuration_after_call t k a.thread a.bit (reply_of_step calls failed)) is
      ∙ goes_there t c a.thread a.bit first.next (reply_of_step calls failed) (reply_granted calls failed) first.move in (
        record {
          thread = first.thread;
          allowed = allowed;
          granted = reply_granted calls failed;
          at = ap (λ k. stands_at x.place (stack_of k x.thread)) is ∙ first.at;
          values = subst (λ k. SeesValues k x.thread x.values) (sym there) first.values;
        },
        takes_from (p ++ own ∷ []) first.next xs calls failed there rest others,
      )
  takes_from p c steps calls failed is legal taking = absurd (assumption (taking))

  pub run_takes : RunsAreHistories → (steps : List StepOf) (calls : List Call) (run : IsRunOfSteps t s steps calls)
      → Takes t s steps (history_of_run calls run.last.failed)
  run_takes each steps calls run = takes_from [] (start t s) steps calls run.last.failed refl (each t s calls run.last run.run).legal run.takes

  none_runs : RunsAreHistories → (steps : List StepOf) → ((g : List Call) → Takes t s steps g → ⊥) → (calls : List Call) → IsRunOfSteps t s steps calls → ⊥
  none_runs each steps none calls run = none (history_of_run calls run.last.failed) (run_takes each steps calls run)

module _ (text : List ℕ) (t : Program) (s : SetupOf) (lines : List StepLineOf) (each : RunsAreHistories) where
  none_runs_by_reason : (reason : StepReason) → ForStuck reason ((g : List Call) → Takes t s (steps_of text lines) g → ⊥)
      → ForStuck reason ((calls : List Call) → IsRunOfSteps t s (steps_of text lines) calls → ⊥)
  none_runs_by_reason Ambiguous none = tt
  none_runs_by_reason reason none = none_runs t s each (steps_of text lines) none

pub refused_front_has_no_run : RunsAreHistories → RefusedFrontHasNoRun
refused_front_has_no_run each text t s last lines r refused = none_runs_by_reason text t s (refused.before ++ refused.step ∷ []) each r.reason refused.none

pub refused_has_no_run : RunsAreHistories → RefusedHasNoRun
refused_has_no_run each text t s last lines r refused = none_runs_by_reason text t s lines each r.reason (refused_is_not_taken text t s last lines r refused)
