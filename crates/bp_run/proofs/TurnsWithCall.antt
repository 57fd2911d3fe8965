-- Turns grow by one attempt, and are cut short before one.
use Rattle.bp_run.proofs.Common.{[], ◌∷◌, length, length-append, not, AreSteps, ◌≡◌, ◌≢◌, ℕ, ◌+◌, true, ◌++◌, Result, Ok, Err, MatchResult, refl, sym, ◌∙◌, ap, subst, arith, inl, inr, ◌⊎◌, ◌<◌, ◌≤◌, Bool, false, List, None, is_some, IfErr, rules, false≢true, is_terminated, is_last, Call, SessionOf, IsNextCall, SetupOf, threads, last_terminates, DeskOf, SeatOf, desk_of, seat_of, IsLegalDesk, IsDeskRefusal, IsTurn, IsCutTurn, IsSeatTurn, IsCutSeatTurn, IsDeskError, IsSendRefusal, TellsOfRefusal}
use Rattle.bp_run.specs.Turns.{IsUnchanged}
use Rattle.bp_syntax.proofs.GrownLists.{regrouped}
use Rattle.bp_machine.specs.declared.calls.Reply.{Reply}
use Rattle.bp_machine.specs.declared.calls.Reply.TheVariants.{Stepped}
use Rattle.bp_machine.specs.declared.calls.AskError.{AskError}
use Rattle.bp_machine.specs.declared.calls.AskError.TheVariants.{Terminated, NoThread, Seeded, Unseeded, Memory, Busy}
use Rattle.bp_machine.specs.declared.calls.AskError.TheVariants as error

-- The seat after a turn, from the turn at the desk.

desk_error : (d : DeskOf) (seat : SeatOf) (f : AskError) → IsDeskRefusal d seat f → IsDeskError f
desk_error d seat f given1 = grind (arith)

-- a seat is still open if its thread is not refused as terminated
open_before : (d : DeskOf) (seat : SeatOf) (f : AskError) → IsDeskRefusal d seat f → f ≢ error.Terminated → seat.is_open ≡ true
open_before d seat f given1 given2 = grind (arith)

module _ (old new : DeskOf) (seat after : SeatOf) (n : ℕ) where
  module _ (reply : Reply) (turn : IsTurn old new seat after n reply) where
    -- a last reply terminates the thread
    thread_of_last : is_last reply ≡ true → is_terminated new.setup new.history seat.thread ≡ true
    thread_of_last e =
        let terminated = last_terminates new.setup (old.history ++ turn.steps) turn.last (ap is_last turn.answered ∙ e) in
        rw (turn.sent, ← turn.thread) (simp regrouped at terminated)

    all_made : reply ≡ Stepped → after.is_open ≡ true → after.calls ≡ seat.calls + n
    all_made given1 given2 = grind (arith)

  pub seat_turn : (r : Result Reply AskError)
      → MatchResult r (IsTurn old new seat after n) (IsCutTurn old new seat after n)
      → MatchResult r (IsSeatTurn seat after n) (IsCutSeatTurn seat after n)
  seat_turn r given1 = search (rules, thread_of_last, all_made, open_before, desk_error)

-- An attempt is refused as one of a terminated thread if and only if the thread has terminated, or
-- the seat is shut.

-- the seat is not open, or the thread has terminated
abbrev Shut : SetupOf → List Call → ℕ → Bool → Type 0
Shut s h i is_open = (is_open ≡ false) ⊎ (is_terminated s h i ≡ true)

abbrev TerminatedWhereShut : SetupOf → List Call → ℕ → Bool → Result Reply AskError → Type 0
TerminatedWhereShut s h i is_open r = (r ≡ Err Terminated → Shut s h i is_open) × (Shut s h i is_open → r ≡ Err Terminated)

module _ (x : SessionOf) (h : List Call) (i : ℕ) (within : i < threads x.setup) where
  abbrev IsRefused : AskError → Type 0
  IsRefused f = IsSendRefusal x.code.tree x.setup h i f

  refused_when_terminated : (f : AskError) → is_terminated x.setup h i ≡ true → IsRefused f → f ≡ Terminated
  refused_when_terminated NoThread e few = absurd (omega (arith, few, within))
  refused_when_terminated Terminated e refused = refl
  refused_when_terminated Seeded e refused = absurd (false≢true (sym refused.0.1 ∙ e))
  refused_when_terminated Unseeded e refused = absurd (false≢true (sym refused.0.1 ∙ e))
  refused_when_terminated Memory e refused = absurd (false≢true (sym refused.0.1 ∙ e))
  refused_when_terminated Busy e refused = absurd (false≢true (sym refused.1 ∙ e))

  terminated_when_refused : (f : AskError) → f ≡ Terminated → IsRefused f → is_terminated x.setup h i ≡ true
  terminated_when_refused f e refused = (subst IsRefused e refused).1

  pub still_live : (call : Call) → IsNextCall x.code.tree x.setup h i None call → is_terminated x.setup h i ≡ false
  still_live call next = subst (λ j. is_terminated x.setup h j ≡ false) next.thread next.allowed.still_live

  -- the refusals of an attempt that was not sent, with a seed, as those of a desk
  pub desk_refusal : (free calls : ℕ) (is_open : Bool) → is_open ≡ true → is_some x.setup.seed ≡ true → (f : AskError)
      → (f ≡ Busy → free ≡ 0) → IsRefused f → IsDeskRefusal (desk_of x h free) (seat_of i calls is_open) f
  desk_refusal free calls is_open e seed NoThread full few = absurd (omega (arith, few, within))
  desk_refusal free calls is_open e seed Terminated full refused = inr refused.1
  desk_refusal free calls is_open e seed Seeded full refused = absurd (false≢true refused.1)
  desk_refusal free calls is_open e seed Unseeded full refused = absurd (false≢true (sym (ap is_some refused.2) ∙ seed))
  desk_refusal free calls is_open e seed Memory full refused = ((e, refused.0.1), refused)
  desk_refusal free calls is_open e seed Busy full refused = ((e, refused.1), full refl)

  pub refused_where_shut : (is_open : Bool) → is_open ≡ true → (f : AskError) → IsRefused f
      → (r : Result Reply AskError) → r ≡ Err f → TerminatedWhereShut x.setup h i is_open r
  refused_where_shut is_open e f refused r is = (
    (λ terminated. inr (terminated_when_refused f (same f r is terminated) refused)),
    (λ shut. elim shut [
      | inl a ↦ absurd (false≢true (sym a ∙ e))
      | inr b ↦ is ∙ ap (λ k. Err k) (refused_when_terminated f b refused)
    ]),
  )
    where
      error_of : Result Reply AskError → AskError
      error_of (Ok a) = Terminated
      error_of (Err k) = k

      same : (k : AskError) (a : Result Reply AskError) → a ≡ Err k → a ≡ Err Terminated → k ≡ Terminated
      same k a e z = sym (ap error_of e) ∙ ap error_of z

  pub not_shut : (is_open : Bool) → is_open ≡ true → (r : Result Reply AskError) → (r ≡ Err Terminated → ⊥)
      → is_terminated x.setup h i ≡ false → TerminatedWhereShut x.setup h i is_open r
  not_shut is_open given1 r given2 given3 = grind (arith)

-- A turn that is cut short before one more attempt.

pub steps_more : (i : ℕ) (steps : List Call) (last : Call) → AreSteps i steps → last.thread ≡ i → last.reply ≡ Stepped → AreSteps i (steps ++ last ∷ [])
steps_more i [] last stepped thread reply = ((thread, reply), tt)
steps_more i (x ∷ xs) last stepped thread reply = (stepped.0, steps_more i xs last stepped.1 thread reply)

module _ (old now new : DeskOf) (seat at after : SeatOf) (n made : ℕ) (steps : List Call) (last : Call) (f : AskError) where
  -- the seat is still open, and its thread is live
  not_terminated : at.thread ≡ seat.thread → at.is_open ≡ true → at.is_open ≡ not (is_terminated now.setup now.history seat.thread)
      → new ≡ record now { free = new.free } → after ≡ at → IsDeskRefusal new after error.Terminated → ⊥
  not_terminated own is_open own_live same stays (inl shut) = absurd (false≢true (sym shut ∙ ap (λ (x : SeatOf). x.is_open) stays ∙ is_open))
  not_terminated own is_open own_live same stays (inr terminated) =
      let there : is_terminated now.setup now.history seat.thread ≡ true =
      sym (ap (λ (d : DeskOf). is_terminated d.setup d.history seat.thread) same)
      ∙ ap (is_terminated new.setup new.history) (sym (ap (λ (x : SeatOf). x.thread) stays ∙ own)) ∙ terminated in
      absurd (false≢true (sym (own_live ∙ ap not there) ∙ is_open))

  pub cut_after : now.history ≡ old.history ++ (steps ++ last ∷ []) → old.free ≤ now.free + made → AreSteps seat.thread steps
      → last.thread ≡ seat.thread → last.reply ≡ Stepped → length steps + 1 ≡ made → made < n → at.calls ≡ seat.calls + made
      → at.thread ≡ seat.thread → at.is_open ≡ true → at.is_open ≡ not (is_terminated now.setup now.history seat.thread)
      → IsUnchanged now new × (after ≡ at) → IsDeskRefusal new after f → IsCutTurn old new seat after n f
  cut_after sent room stepped thread reply many fewer counted own is_open own_live same refused =
      let more = length-append steps (last ∷ []) in
      let free = same.0.1 in
      let calls = ap (λ (x : SeatOf). x.calls) same.1 in
      record {
        steps = steps ++ last ∷ [];
        sent = ap (λ (d : DeskOf). d.history) same.0.0 ∙ sent;
        room = omega (arith, room, free, more, many);
        stepped = steps_more seat.thread steps last stepped thread reply;
        fewer = omega (arith, more, many, fewer);
        none = λ e. absurd (not_terminated own is_open own_live same.0.0 same.1 (subst (IsDeskRefusal new after) e refused));
        refused = refused;
        own = ap (λ (x : SeatOf). x.thread) same.1 ∙ own;
        counted = omega (arith, calls, counted, more, many);
      }

-- The machine at the moment of a refused turn.

module _ (old new : DeskOf) (seat after : SeatOf) (n : ℕ) (legal : IsLegalDesk new)
    (is_open : seat.is_open ≡ true) where
  pub told : (s : SetupOf) → new.setup ≡ s → (r : Result Reply AskError)
      → MatchResult r (IsTurn old new seat after n) (IsCutTurn old new seat after n)
      → IfErr r (TellsOfRefusal new.code.tree s seat.thread)
  told s given1 r given2 = grind (arith)
