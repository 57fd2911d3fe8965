-- Properties of a history with one more attempt: a failed one is its outcome, and it is short.
use Rattle.bp_test.proofs.Common.{◌≡◌, ◌+◌, ◌*◌, ◌-◌, ◌<◌, ◌≤◌, true, nat_le, List, [], ◌∷◌, ◌++◌, length, refl, ap, arith, ℕ, ◌||◌, Bool, false, cond, sym, ◌∙◌, add-one, count_by, unwrap_or, rules, sum_by-append, map-append, Program, Call, Reply, Outcome, outcome_or, outcome_of, is_failure, stack_of, configuration_after_step, configuration_after_call, configuration_after_calls, configuration_after, granted_threads, IsLegal, is_granted, IsAtFalseAssertion, IsRealFailure, threads, SetupOf, SessionOf, Stands, waits, FailuresAreReal, has_refusal, refuses_context, waiting_below, IsNext, AreWaiting, IsWait, Waiting}
use Rattle.std.proofs.lemmas.List.Elements.{All-push}
use Rattle.bp_flat.specs.Moves.{Configuration}
use Rattle.bp_machine.specs.declared.calls.Reply.TheVariants as reply
use Rattle.bp_machine.specs.declared.calls.Outcome.TheVariants as outcome
use Rattle.bp_machine.specs.declared.calls.Reply.TheVariants.{Failed}
use Rattle.bp_machine.proofs.HistoriesAreRuns.{legal_length}

-- a failure is the outcome
fails_after : (y : Call) (r : Reply) (o : Outcome) → is_failure o ≡ true → is_failure (outcome_or y r o) ≡ true
fails_after y r o given1 = grind (arith)

pub failure_of : (h : List Call) (x : Call) → x.reply ≡ reply.Failed → is_failure (outcome_of (h ++ x ∷ [])) ≡ true
failure_of [] x e = ap (λ r. is_failure (outcome_or x r outcome.Clean)) e
failure_of (y ∷ ys) x e = fails_after y y.reply (outcome_of (ys ++ x ∷ [])) (failure_of ys x e)

-- a session's history is short
bounded : (x : SessionOf) (h : List Call) → Stands x.code.tree x h → length h ≤ threads x.setup * x.setup.calls
bounded x h stands = legal_length x.code.tree x.setup h stands.state.legal

pub smaller : (old new : SessionOf) (g h : List Call) → new.setup ≡ old.setup → Stands new.code.tree new h → length h ≡ length g + 1
    → threads new.setup * new.setup.calls - length h < threads old.setup * old.setup.calls - length g
smaller old new g h given1 given2 given3 = search (rules, bounded)

-- Whether a history with one more attempt has one that was refused a context.

any_with : (n m : ℕ) (b : Bool) → m ≡ n + cond b 1 0 → nat_le 1 m ≡ (nat_le 1 n || b)
any_with n m b given1 = grind (arith)

refusal_with : (h : List Call) (x : Call) → has_refusal (h ++ x ∷ []) ≡ (has_refusal h || refuses_context x.reply)
refusal_with h x = search (rules, any_with, count_by, sum_by-append)

-- an attempt, by its results
pub refusal_of_call : (h new : List Call) (thread : ℕ) (r : Reply) (was now : Bool)
    → ((x : Call) × (new ≡ h ++ x ∷ []) × (x.thread ≡ thread) × (x.reply ≡ r))
    → now ≡ (was || refuses_context r)
    → was ≡ has_refusal h
    → now ≡ has_refusal new
refusal_of_call h new thread r was now given1 given2 given3 = search (rules, refusal_with)

-- The threads that wait, one after the other.

module _ (t : Program) (c : Configuration) where
  module _ (n : ℕ) (xs : List Waiting) (was : AreWaiting t c n xs) where
    after : (b : Bool) → waits t c n ≡ b → cond b (waiting_below t c n ++ n ∷ []) (waiting_below t c n) ≡ waiting_below t c (n + 1)
    after b is = sym (ap (λ d. cond d (waiting_below t c n ++ n ∷ []) (waiting_below t c n)) is) ∙ ap (waiting_below t c) (sym (add-one n))

    pub waits_not : waits t c n ≡ false → AreWaiting t c (n + 1) xs
    waits_not is = record { threads = was.threads ∙ after false is; each = was.each }

    pub waits_more : (x : Waiting) → IsWait t c n x → AreWaiting t c (n + 1) (xs ++ x ∷ [])
    waits_more x is = record {
      threads =
          map-append (λ y. y.thread) xs (x ∷ [])
          ∙ (ap (λ ys. ys ++ x.thread ∷ []) was.threads
          ∙ (ap (λ i. waiting_below t c n ++ i ∷ []) is.thread ∙ after true is.waiting));
      each = All-push (IsNext t c) xs x was.each is.next;
    }

-- A thread whose assertion failed has a frame.

module _ (t : Program) where
  after_both : (c : Configuration) (xs ys : List Call)
      → configuration_after_calls t c (xs ++ ys) ≡ configuration_after_calls t (configuration_after_calls t c xs) ys
  after_both c [] ys = refl
  after_both c (x ∷ xs) ys = after_both (configuration_after_call t c x.thread x.bit x.reply) xs ys

  -- attempts without a step leave the configuration
  idle : (c : Configuration) (h : List Call) → granted_threads h ≡ [] → configuration_after_calls t c h ≡ c
  idle c [] e = refl
  idle c (x ∷ xs) e = by_test (is_granted x.reply) refl e (λ none. idle c xs none)
    where
      by_test : (b : Bool) → is_granted x.reply ≡ b → cond b (x.thread ∷ granted_threads xs) (granted_threads xs) ≡ []
          → (granted_threads xs ≡ [] → configuration_after_calls t c xs ≡ c)
          → configuration_after_calls t c (x ∷ xs) ≡ c
      by_test true is none others = absurd cc
      by_test false is none others =
          ap (λ b. configuration_after_calls t (cond b (unwrap_or (configuration_after_step t c x.thread x.bit (stack_of c x.thread)) c) c) xs) is ∙ others none

  -- a failed assertion leaves the stacks
  stays : (c : Configuration) (i : ℕ) (bit : Bool) → IsAtFalseAssertion c i bit → configuration_after_call t c i bit Failed ≡ record c { failed = true }
  stays c i bit given1 = grind (arith)

  module _ (s : SetupOf) (h : List Call) (i : ℕ) (real : FailuresAreReal) (legal : IsLegal t s h) (failed : outcome_of h ≡ outcome.Failed i) where
    failure : IsRealFailure t s h i
    failure = real t s h i legal failed

    stack_there : stack_of (configuration_after t s h) i ≡ failure.stands.frame ∷ failure.stands.below
    stack_there = search (rules, failure, after_both, idle, stays)

    pub has_frame : stack_of (configuration_after t s h) i ≡ [] → ⊥
    has_frame none = let both = sym none ∙ stack_there in cc
