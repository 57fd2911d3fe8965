-- A failure is a false assertion, and the last step.
use Rattle.bp_machine.proofs.Common.{◌≡◌, ℕ, zero, suc, Bool, List, [], ◌∷◌, length, Some, refl, ap, sym, ◌∙◌, arith, ◌<◌, true, false, cond, ◌++◌, Option, subst, slice_get, slice_index_or, unwrap_or, rules, length-set, length-map, append-nil, Program, regrouped, Frame, Configuration, first_stack, procedure_named, StatementEffect, Leaves, Blocks, Misses, effect, after_effect, Moves, Call, SetupOf, threads, start, stack_of, configuration_after_step, IsRun, ends, IsWithin, is_granted, reply_to_effect, reply_on_stack, reply_of, configuration_after_call, configuration_after, granted_threads, granted_calls, IsAllowed, IsLegalAfter, IsLegal, outcome_or, outcome_of, IsAtFalseAssertion, IsRealFailure, Reply, Stopped, Blocked, Failed}
use Rattle.bp_flat.specs.Moves.{Fails}
use Rattle.bp_machine.specs.Histories as reports
use Rattle.bp_machine.specs.declared.calls.Outcome.TheVariants as outcome
use Rattle.bp_machine.proofs.HistoryWithCall.{configuration_after-append, granted_threads-append}

-- The first step of a run, and that its steps lead to one configuration.

-- a run begins with a move
pub record FirstStep (t : Program) (c : Configuration) (x : Call) (xs : List Call) (e : Configuration) : Type 0 where
  pub next : Configuration
  pub move : Moves t c x.thread x.bit next
  pub rest : IsRun t next xs e

abbrev Begun : Program → Configuration → List Call → Configuration → Type 0
Begun t c [] e = c ≡ e
Begun t c (x ∷ xs) e = FirstStep t c x xs e

begun : {t : Program} {c : Configuration} {xs : List Call} {e : Configuration} → IsRun t c xs e → Begun t c xs e
begun given1 = grind (arith)

pub ended : {t : Program} {c e : Configuration} → IsRun t c [] e → c ≡ e
ended run = begun run

pub first_step : {t : Program} {c : Configuration} {x : Call} {xs : List Call} {e : Configuration} → IsRun t c (x ∷ xs) e → FirstStep t c x xs e
first_step run = begun run

stack_there : (xs : List (List Frame)) (i : ℕ) (S : List Frame) → slice_get xs i ≡ Some S → slice_index_or xs i [] ≡ S
stack_there [] i S e = absurd cc
stack_there (x ∷ xs) zero S e = cc
stack_there (x ∷ xs) (suc i) S e = stack_there xs i S e

-- only a thread that is there has a stack
below_length : (xs : List (List Frame)) (i : ℕ) (S : List Frame) → slice_get xs i ≡ Some S → i < length xs
below_length [] i S e = absurd cc
below_length (x ∷ xs) zero S e = omega arith
below_length (x ∷ xs) (suc i) S e = let h = below_length xs i S e in omega (arith, h)

module _ (t : Program) (c : Configuration) (i : ℕ) (bit : Bool) where
  pub stack_is : (d : Configuration) (m : Moves t c i bit d) → stack_of c i ≡ m.frame ∷ m.below
  stack_is d m = stack_there c.stacks i (m.frame ∷ m.below) m.has

  pub step_is : (d : Configuration) → Moves t c i bit d → configuration_after_step t c i bit (stack_of c i) ≡ Some d
  step_is d m = ap (configuration_after_step t c i bit) (stack_is d m) ∙ m.is

  pub one_move : (d e : Configuration) → Moves t c i bit d → Moves t c i bit e → d ≡ e
  one_move d e m n = let both = sym (step_is d m) ∙ step_is e n in cc

  kept : (d : Configuration) (effect : StatementEffect) → after_effect c i effect ≡ Some d → length d.stacks ≡ length c.stacks
  kept d effect given1 = search (rules, length-set)

  -- a move keeps the threads
  pub move_keeps : (d : Configuration) → Moves t c i bit d → length d.stacks ≡ length c.stacks
  move_keeps d m = kept d (effect t.procedures m.frame.left c.globals m.frame m.below bit) m.is

  pub thread_below : (d : Configuration) → Moves t c i bit d → i < length c.stacks
  thread_below d m = below_length c.stacks i (m.frame ∷ m.below) m.has

-- at the start there is a stack for each thread
pub stacks_at_start : (t : Program) (s : SetupOf) → length (start t s).stacks ≡ threads s
stacks_at_start t s = length-map s.entries (λ x. first_stack (procedure_named t.procedures x))

-- The granted steps of a legal history are a run within the allowed contexts, and a failure is a false assertion.

-- a thread with a frame has a stack
stack_here : (xs : List (List Frame)) (i : ℕ) (f : Frame) (fs : List Frame) → slice_index_or xs i [] ≡ f ∷ fs → slice_get xs i ≡ Some (f ∷ fs)
stack_here [] i f fs e = cc
stack_here (x ∷ xs) zero f fs e = ap Some e
stack_here (x ∷ xs) (suc i) f fs e = stack_here xs i f fs e

-- a granted reply tells of a step that the thread makes
pub record IsStep (t : Program) (c : Configuration) (i : ℕ) (bit : Bool) (r : Reply) : Type 0 where
  pub going : c.failed ≡ false
  pub frame : Frame
  pub below : List Frame
  pub stack : stack_of c i ≡ frame ∷ below
  pub told_is : reply_to_effect (effect t.procedures frame.left c.globals frame below bit) ≡ Some r

not_granted : (r : Reply) (s : Reply) → Some s ≡ Some r → is_granted s ≡ false → is_granted r ≡ true → ⊥
not_granted r s e no_step step = let same : s ≡ r = cc in let moved_to = ap is_granted same in cc

module _ (t : Program) (c : Configuration) (i : ℕ) (bit : Bool) (r : Reply) (granted_is : is_granted r ≡ true) where
  by_mark : (failed fits : Bool) → c.failed ≡ failed
      → cond failed (Some Stopped) (reply_on_stack t fits c.globals (stack_of c i) bit) ≡ Some r
      → (fits ≡ true) × IsStep t c i bit r
  by_mark failed fits given1 given2 = grind (arith)

  pub is_step : (fits : Bool) → reply_of t fits c i bit ≡ Some r → (fits ≡ true) × IsStep t c i bit r
  is_step fits e = by_mark c.failed fits refl e

  -- the effect of a step moves the configuration
  moves_on : (e : StatementEffect) → reply_to_effect e ≡ Some r → (d : Configuration) × (after_effect c i e ≡ Some d)
  moves_on (Leaves g s) h = (_, refl)
  moves_on Fails h = (_, refl)
  moves_on Blocks h = absurd (not_granted r Blocked h refl granted_is)
  moves_on Misses h = absurd cc

  pub step_moves : IsStep t c i bit r → Moves t c i bit (configuration_after_call t c i bit r)
  step_moves step =
      let (d, moved_is) = moves_on (effect t.procedures step.frame.left c.globals step.frame step.below bit) step.told_is in
      let to_d : configuration_after_call t c i bit r ≡ d =
      ap (λ b. cond b (unwrap_or (configuration_after_step t c i bit (stack_of c i)) c) c) granted_is
      ∙ ap (λ S. unwrap_or (configuration_after_step t c i bit S) c) step.stack
      ∙ ap (λ o. unwrap_or o c) moved_is in
      record {
        frame = step.frame;
        below = step.below;
        runs = step.going;
        has = stack_here c.stacks i step.frame step.below step.stack;
        is = moved_is ∙ ap Some (sym to_d);
      }

module _ (t : Program) (s : SetupOf) where
  one : (h : List Call) (x : Call) (xs : List Call) (b : Bool) → is_granted x.reply ≡ b → IsAllowed t s h x
      → IsRun t (configuration_after t s (h ++ x ∷ [])) (granted_calls xs) (configuration_after t s ((h ++ x ∷ []) ++ xs))
      → IsRun t (configuration_after t s h) (cond b (x ∷ granted_calls xs) (granted_calls xs))
      (configuration_after t s ((h ++ x ∷ []) ++ xs))
  one h x xs true b allowed rest =
      let a = allowed.answers in
      let step = (is_step t (configuration_after t s h) x.thread x.bit x.reply b a.fits a.is).1 in
      let move = step_moves t (configuration_after t s h) x.thread x.bit x.reply b step in
      reports.moves (configuration_after t s h) x (configuration_after t s (h ++ x ∷ [])) (granted_calls xs)
      (configuration_after t s ((h ++ x ∷ []) ++ xs)) (rw (configuration_after-append t s h x) move) rest
  one h x xs false b allowed rest = search (rules, rest, configuration_after-append)

  pub run_from : (h xs : List Call) → IsLegalAfter t s h xs → IsRun t (configuration_after t s h) (granted_calls xs) (configuration_after t s (h ++ xs))
  run_from h [] legal = rw (append-nil h) (ends (configuration_after t s h))
  run_from h (x ∷ xs) (allowed, rest) = search (rules, (run_from (h ++ x ∷ []) xs rest), [], rest, regrouped, one)

  pub runs : (h : List Call) → IsLegal t s h → IsRun t (start t s) (granted_calls h) (configuration_after t s h)
  runs h legal = run_from [] h legal

  within_one : (h : List Call) (x : Call) (b : Bool) → is_granted x.reply ≡ b → IsAllowed t s h x
      → IsWithin s.contexts (granted_threads h) → IsWithin s.contexts (granted_threads (h ++ x ∷ []))
  within_one h x b given1 given2 given3 = search (rules, is_step, granted_threads-append, append-nil)

  within_from : (h xs : List Call) → IsLegalAfter t s h xs → IsWithin s.contexts (granted_threads h) → IsWithin s.contexts (granted_threads (h ++ xs))
  within_from h [] legal so_far = rw (append-nil h) so_far
  within_from h (x ∷ xs) (allowed, rest) so_far = search (rules, (within_from (h ++ x ∷ []) xs rest (within_one h x (is_granted x.reply) refl allowed so_far)), [], rest, regrouped, within_one)

  pub within : (h : List Call) → IsLegal t s h → IsWithin s.contexts (granted_threads h)
  within h legal = within_from [] h legal (record { pieces = []; few = omega arith; each = tt; whole = refl })

module _ (t : Program) (c : Configuration) (i : ℕ) (bit : Bool) (step : IsStep t c i bit Failed) where
  at_false : IsAtFalseAssertion c i bit
  at_false = grind (arith)

  failed_next : (configuration_after_call t c i bit Failed).failed ≡ true
  failed_next = grind (arith)

only_stopped : (failed : Bool) (rest : Option Reply) (r : Reply) → failed ≡ true → cond failed (Some Stopped) rest ≡ Some r → is_granted r ≡ false
only_stopped failed rest r given1 given2 = grind (arith)

module _ (t : Program) (s : SetupOf) where
  none_after : (h xs : List Call) → IsLegalAfter t s h xs → (configuration_after t s h).failed ≡ true → granted_threads xs ≡ []
  none_after h [] legal failed = refl
  none_after h (x ∷ xs) (allowed, rest) failed =
      let c = configuration_after t s h in
      let a = allowed.answers in
      let none = only_stopped c.failed (reply_on_stack t a.fits c.globals (stack_of c x.thread) x.bit) x.reply failed a.is in
      let same =
      configuration_after-append t s h x
      ∙ ap (λ b. cond b (unwrap_or (configuration_after_step t c x.thread x.bit (stack_of c x.thread)) c) c) none in
      ap (λ b. cond b (x.thread ∷ granted_threads xs) (granted_threads xs)) none
      ∙ none_after (h ++ x ∷ []) xs rest (ap (λ (d : Configuration). d.failed) same ∙ failed)

  -- also from a history on
  record RealFrom (h xs : List Call) (i : ℕ) : Type 0 where
    before : List Call
    call : Call
    later : List Call
    whole : xs ≡ before ++ call ∷ later
    thread : call.thread ≡ i
    failed : call.reply ≡ Failed
    last : granted_threads later ≡ []
    stands : IsAtFalseAssertion (configuration_after t s (h ++ before)) i call.bit

  here : (h : List Call) (x : Call) (xs : List Call) (i : ℕ) → x.reply ≡ Failed
      → outcome.Failed x.thread ≡ outcome.Failed i → IsAllowed t s h x → IsLegalAfter t s (h ++ x ∷ []) xs
      → RealFrom h (x ∷ xs) i
  here h x xs i is same allowed rest =
      let c = configuration_after t s h in
      let a = allowed.answers in
      let thread : x.thread ≡ i = cc in
      let step : IsStep t c x.thread x.bit Failed =
      subst (λ r. IsStep t c x.thread x.bit r) is (is_step t c x.thread x.bit x.reply (ap is_granted is) a.fits a.is).1 in
      let failed =
      ap (λ (d : Configuration). d.failed) (configuration_after-append t s h x)
      ∙ ap (λ r. (configuration_after_call t c x.thread x.bit r).failed) is ∙ failed_next t c x.thread x.bit step in
      record {
        before = [];
        call = x;
        later = xs;
        whole = refl;
        thread = thread;
        failed = is;
        last = none_after (h ++ x ∷ []) xs rest failed;
        stands = rw append-nil (subst (λ j. IsAtFalseAssertion c j x.bit) thread (at_false t c x.thread x.bit step));
      }

  later : (h : List Call) (x : Call) (xs : List Call) (i : ℕ) → RealFrom (h ++ x ∷ []) xs i → RealFrom h (x ∷ xs) i
  later h x xs i r = record {
    before = x ∷ r.before;
    call = r.call;
    later = r.later;
    whole = ap (λ ys. x ∷ ys) r.whole;
    thread = r.thread;
    failed = r.failed;
    last = r.last;
    stands = simp regrouped at r.stands;
  }

  by_reply : (h : List Call) (x : Call) (xs : List Call) (i : ℕ) (r : Reply) → x.reply ≡ r
      → outcome_or x r (outcome_of xs) ≡ outcome.Failed i → IsAllowed t s h x
      → IsLegalAfter t s (h ++ x ∷ []) xs → (outcome_of xs ≡ outcome.Failed i → RealFrom (h ++ x ∷ []) xs i) → RealFrom h (x ∷ xs) i
  by_reply h x xs i Failed is e allowed rest next = here h x xs i is e allowed rest
  by_reply h x xs i _ is e allowed rest next = later h x xs i (next e)

  real_from : (h xs : List Call) (i : ℕ) → IsLegalAfter t s h xs → outcome_of xs ≡ outcome.Failed i → RealFrom h xs i
  real_from h [] i legal e = absurd cc
  real_from h (x ∷ xs) i (allowed, rest) e = by_reply h x xs i x.reply refl e allowed rest (λ f. real_from (h ++ x ∷ []) xs i rest f)

  pub real : (h : List Call) (i : ℕ) → IsLegal t s h → outcome_of h ≡ outcome.Failed i → IsRealFailure t s h i
  real h i legal e =
      let r = real_from [] h i legal e in
      record { before = r.before; call = r.call; later = r.later; whole = r.whole; thread = r.thread; failed = r.failed; last = r.last; stands = r.stands }
