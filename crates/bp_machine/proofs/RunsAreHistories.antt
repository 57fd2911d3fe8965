-- A run within the bounds of a setup is a legal history.
use Rattle.bp_machine.proofs.Common.{◌≡◌, ◌<◌, ℕ, Bool, true, false, cond, ◌&&◌, nat_le, List, [], ◌∷◌, length, Some, refl, ap, ◌∙◌, arith, ◌≢◌, ◌+◌, ◌≤◌, ◌++◌, sym, subst, length-append, inl, inr, unwrap_or, map, rules, Program, regrouped, Configuration, is_call, StatementEffect, effect, after_effect, Moves, Reply, Stopped, Full, Call, MAX_FRAMES, stack_of, reply_to_effect, reply_on_stack, reply_of, configuration_after_step, configuration_after_call, is_granted, IsRun, IsWithin, configuration_after_calls, configuration_after, granted_threads, granted_calls, calls_of_thread, ends_with_last, is_terminated, IsAllowed, IsLegalAfter, is_last, HasRoom, reply_of_step, EachHasRoom, IsBoundedRun, history_of_run, IsHistoryOfSteps, SetupOf, threads, start}
use Rattle.bp_machine.specs.Histories as reports
use Rattle.bp_machine.proofs.RealFailures.{stack_is, step_is, ended, first_step, FirstStep, move_keeps, thread_below, stacks_at_start}
use Rattle.bp_machine.proofs.ContextCounts.{within_front}
use Rattle.bp_machine.proofs.HistoryWithCall.{configuration_after-append, granted_threads-append, calls_of_thread-same, calls_of_thread-other, ends_with_last-append, same_or_not}

-- The machine's reply to a move that has room.

-- the reply of a step tells whether an assertion failed
pub reply_granted : (xs : List Call) (failed : Bool) → is_granted (reply_of_step xs failed) ≡ true
reply_granted xs failed = grind (arith)

no_call_or_room : (call : Bool) (n : ℕ) → (call ≡ true → n < MAX_FRAMES) → (call && nat_le MAX_FRAMES n) ≡ false
no_call_or_room call n given1 = grind (arith)

module _ (t : Program) (c : Configuration) (i : ℕ) (bit : Bool) (d : Configuration) where
  pub effect_told : (e : StatementEffect) → after_effect c i e ≡ Some d → reply_to_effect e ≡ Some (reply_of_step [] d.failed)
  effect_told e given1 = grind (arith)

  pub reply_told : Moves t c i bit d → HasRoom c i → reply_of t true c i bit ≡ Some (reply_of_step [] d.failed)
  reply_told m room =
      let stack = stack_is t c i bit d m in
      let e = effect t.procedures m.frame.left c.globals m.frame m.below bit in
      let free = no_call_or_room (is_call m.frame.left) (length (m.frame ∷ m.below)) (room m.frame m.below stack) in
      ap (λ b. cond b (Some Stopped) (reply_on_stack t true c.globals (stack_of c i) bit)) m.runs
      ∙ ap (λ S. reply_on_stack t true c.globals S bit) stack
      ∙ ap (λ b. cond b (Some Full) (reply_to_effect e)) free
      ∙ effect_told e m.is

  -- the machine leads to the same configuration as the move
  pub goes_there : (r : Reply) → is_granted r ≡ true → Moves t c i bit d → configuration_after_call t c i bit r ≡ d
  goes_there r granted m =
      ap (λ b. cond b (unwrap_or (configuration_after_step t c i bit (stack_of c i)) c) c) granted
      ∙ ap (λ o. unwrap_or o c) (step_is t c i bit d m)

-- the reply of a step is told by the end of the rest of the run
pub reply_before : (t : Program) (d : Configuration) (xs : List Call) (e : Configuration) → IsRun t d xs e
    → reply_of_step [] d.failed ≡ reply_of_step xs e.failed
reply_before t d xs e given1 = grind (arith)

-- the thread of an attempt
abbrev thread_of : Call → ℕ
thread_of x = x.thread

counts_one : (x : Call) (xs : List Call) (i : ℕ) → x.thread ≡ i → length (calls_of_thread i (x ∷ xs)) ≡ length (calls_of_thread i xs) + 1
counts_one x xs i given1 = grind (arith)

counts_none : (x : Call) (xs : List Call) (i : ℕ) → x.thread ≢ i → length (calls_of_thread i (x ∷ xs)) ≡ length (calls_of_thread i xs)
counts_none x xs i given1 = grind (arith)

still_live : (s : SetupOf) (h : List Call) (i : ℕ) → ends_with_last (calls_of_thread i h) ≡ false
    → length (calls_of_thread i h) < s.calls → is_terminated s h i ≡ false
still_live s h i given1 given2 = grind (arith)

module _ (t : Program) (s : SetupOf) where
  -- the attempts p are made, no thread has terminated, and the steps xs are to come
  record Stands (p xs : List Call) (e : Configuration) : Type 0 where
    live_threads : (i : ℕ) → ends_with_last (calls_of_thread i p) ≡ false
    run : IsRun t (configuration_after t s p) xs e
    contexts : IsWithin s.contexts (granted_threads p ++ map thread_of xs)
    calls : (i : ℕ) → length (calls_of_thread i p) + length (calls_of_thread i xs) ≤ s.calls
    room : EachHasRoom t (configuration_after t s p) xs
    stacks : length (configuration_after t s p).stacks ≡ threads s

  module _ (p : List Call) (x : Call) (xs : List Call) (e : Configuration) (now : Stands p (x ∷ xs) e) where
    -- the first of them, with its reply
    abbrev made : Call
    made = record x { reply = reply_of_step xs e.failed }

    first : FirstStep t (configuration_after t s p) x xs e
    first = first_step now.run

    arrives : configuration_after t s (p ++ made ∷ []) ≡ first.next
    arrives =
        configuration_after-append t s p made
        ∙ goes_there t (configuration_after t s p) x.thread x.bit first.next made.reply (reply_granted xs e.failed) first.move

    reply_is : reply_of_step [] first.next.failed ≡ made.reply
    reply_is = reply_before t first.next xs e first.rest

    granted_is : granted_threads (p ++ made ∷ []) ≡ granted_threads p ++ x.thread ∷ []
    granted_is = granted_threads-append p made ∙ ap (λ g. granted_threads p ++ cond g (x.thread ∷ []) []) (reply_granted xs e.failed)

    all_threads : granted_threads p ++ map thread_of (x ∷ xs) ≡ (granted_threads p ++ x.thread ∷ []) ++ map thread_of xs
    all_threads = simp regrouped

    fits_here : IsWithin s.contexts (granted_threads p ++ x.thread ∷ [])
    fits_here = within_front s.contexts (granted_threads p ++ x.thread ∷ []) (map thread_of xs) (subst (λ ts. IsWithin s.contexts ts) all_threads now.contexts)

    allowed : IsAllowed t s p made
    allowed =
        let below = thread_below t (configuration_after t s p) x.thread x.bit first.next first.move in
        let one = counts_one x xs x.thread refl in
        let few = now.calls x.thread in
        let stacks = now.stacks in
        record {
          thread = omega (arith, below, stacks);
          still_live = still_live s p x.thread (now.live_threads x.thread) (omega (arith, one, few));
          answers = record {
            fits = true;
            decides = (λ _. fits_here, λ _. refl);
            is =
                reply_told t (configuration_after t s p) x.thread x.bit first.next first.move
                (now.room [] x xs (configuration_after t s p) refl (reports.ends (configuration_after t s p)))
                ∙ ap Some reply_is;
          };
        }

    counts_next : (i : ℕ) → length (calls_of_thread i (p ++ made ∷ [])) + length (calls_of_thread i xs) ≤ s.calls
    counts_next i = elim (same_or_not x.thread i) [
      | inl same ↦
          let made_is = ap length (calls_of_thread-same p made i same) in
          let one = counts_one x xs i same in
          let few = now.calls i in
          omega (arith, made_is, length-append (calls_of_thread i p) (made ∷ []), one, few)
      | inr other ↦
          let made_is = ap length (calls_of_thread-other p made i other) in
          let none = counts_none x xs i other in
          let few = now.calls i in
          omega (arith, made_is, none, few)
    ]

    opens_next : is_last made.reply ≡ false → (i : ℕ) → ends_with_last (calls_of_thread i (p ++ made ∷ [])) ≡ false
    opens_next goes_on i = elim (same_or_not x.thread i) [
      | inl same ↦ ap ends_with_last (calls_of_thread-same p made i same) ∙ ends_with_last-append (calls_of_thread i p) made ∙ goes_on
      | inr other ↦ ap ends_with_last (calls_of_thread-other p made i other) ∙ now.live_threads i
    ]

    room_next : EachHasRoom t first.next xs
    room_next before y later d split run =
        now.room (x ∷ before) y later d (ap (λ zs. x ∷ zs) split) (reports.moves (configuration_after t s p) x first.next before d first.move run)

    next : is_last made.reply ≡ false → Stands (p ++ made ∷ []) xs e
    next goes_on = record {
      live_threads = opens_next goes_on;
      run = subst (λ d. IsRun t d xs e) (sym arrives) first.rest;
      contexts = subst (λ ts. IsWithin s.contexts (ts ++ map thread_of xs)) (sym granted_is) (subst (λ ts. IsWithin s.contexts ts) all_threads now.contexts);
      calls = counts_next;
      room = subst (λ d. EachHasRoom t d xs) (sym arrives) room_next;
      stacks = ap (λ (d : Configuration). length d.stacks) arrives ∙ move_keeps t (configuration_after t s p) x.thread x.bit first.next first.move ∙ now.stacks;
    }

  legal_from : (p xs : List Call) (e : Configuration) → Stands p xs e → IsLegalAfter t s p (history_of_run xs e.failed)
  legal_from p [] e now = tt
  legal_from p (x ∷ []) e now = (allowed p x [] e now, tt)
  legal_from p (x ∷ y ∷ ys) e now = search (rules, (legal_from (p ++ made p x (y ∷ ys) e now ∷ []) (y ∷ ys) e (next p x (y ∷ ys) e now refl)), [], allowed, next)

  leads_from : (c : Configuration) (xs : List Call) (e : Configuration) → IsRun t c xs e → configuration_after_calls t c (history_of_run xs e.failed) ≡ e
  leads_from c [] e run = ended run
  leads_from c (x ∷ xs) e run =
      let first = first_step run in
      ap (λ d. configuration_after_calls t d (history_of_run xs e.failed))
      (goes_there t c x.thread x.bit first.next (reply_of_step xs e.failed) (reply_granted xs e.failed) first.move)
      ∙ leads_from first.next xs e first.rest

granted_from : (xs : List Call) (failed : Bool) → granted_calls (history_of_run xs failed) ≡ history_of_run xs failed
granted_from [] failed = refl
granted_from (x ∷ xs) failed = search (rules, (granted_from xs failed), cond, reply_granted)

pub run_is_history : (t : Program) (s : SetupOf) (steps : List Call) (d : Configuration) → IsBoundedRun t s steps d
    → IsHistoryOfSteps t s (history_of_run steps d.failed) d
run_is_history t s steps d run = record {
  legal = legal_from t s [] steps d (record {
    live_threads = λ i. refl;
    run = run.run;
    contexts = run.contexts;
    calls = λ i. let few = run.calls i in omega (arith, few);
    room = run.room;
    stacks = stacks_at_start t s;
  });
  granted = granted_from steps d.failed;
  leads = leads_from t s (start t s) steps d run.run;
}
