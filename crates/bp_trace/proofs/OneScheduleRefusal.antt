-- A schedule drives its program to one history or has one refusal, and the lines of a legal history drive its program to it.
use Rattle.bp_trace.proofs.Common.{◌≡◌, ◌≢◌, ℕ, ◌+◌, ◌<◌, ◌≤◌, List, [], ◌∷◌, ◌++◌, length, Bool, true, Option, None, Some, ◌⊎◌, inl, inr, refl, ap, sym, ◌∙◌, subst, arith, append-nil, false≢true, regrouped, Program, Call, MAX_THREADS, SetupOf, threads, is_terminated, IsAllowed, IsLegalAfter, history_of_run, DriveError, MAX_SCHEDULE, ScheduleLine, line_text, line_of_call, lines_of_history, schedule_text, IsLineAt, HasNoLine, DrivesUpTo, IsDriven, IsScheduleRefusal, DrivesTo, LinesDriveAgain, OneScheduleRefusal, RefusedDrivesNowhere, RunsDriveToHistories}
use Rattle.bp_machine.proofs.RunsAreHistories.{run_is_history}
use Rattle.bp_trace.specs.declared.errors.DriveError.TheVariants as drive
use Rattle.bp_trace.proofs.ScheduleLines.{same_call, not_empty, schedule_short, one_line}
use Rattle.bp_trace.proofs.Walks.{Walk, Stays, Goes, IsSingle, Stops, one_end}

module _ (t : Program) (s : SetupOf) (few : threads s ≤ MAX_THREADS) where
  abbrev lines : List Call → List ℕ
  lines h = schedule_text (lines_of_history h)

  -- a history, and the rest of the schedule
  abbrev State : Type 0
  State = List Call × List ℕ

  -- one more attempt, whose line begins the rest
  record IsNext (a b : State) : Type 0 where
    call : Call
    allowed : IsAllowed t s a.0 call
    history : b.0 ≡ a.0 ++ call ∷ []
    line : a.1 ≡ line_text (line_of_call call) ++ b.1

  single : IsSingle IsNext
  single a b c p q =
      let below_p = p.allowed.thread in
      let below_q = q.allowed.thread in
      let (line, rest) = one_line (line_of_call p.call) (line_of_call q.call) b.1 c.1 (omega arith) (omega arith) (sym p.line ∙ q.line) in
      let call = same_call t s a.0 p.call q.call line p.allowed q.allowed in
      λ i. ((p.history ∙ ap (λ z. a.0 ++ z ∷ []) call ∙ sym q.history) i, rest i)

  walk : (p h : List Call) (x : List ℕ) → IsLegalAfter t s p h → Walk IsNext (p, lines h ++ x) (p ++ h, x)
  walk p [] x legal = subst (λ q. Walk IsNext (p, x) (q, x)) (sym (append-nil p)) Stays
  walk p (c ∷ h) x (allowed, legal) =
      let next : IsNext (p, lines (c ∷ h) ++ x) (p ++ c ∷ [], lines h ++ x) = record { call = c; allowed = allowed; history = refl; line = simp regrouped } in
      Goes next (subst (λ q. Walk IsNext (p ++ c ∷ [], lines h ++ x) (q, x)) (simp regrouped) (walk (p ++ c ∷ []) h x legal))

  -- how the schedule ends there: with the history, or refused
  abbrev Ends : Option DriveError → State → Type 0
  Ends None a = a.1 ≡ []
  Ends (Some (drive.Line n)) a = (n ≡ length a.0 + 1) × (a.1 ≢ []) × HasNoLine (threads s) a.1
  Ends (Some (drive.AfterFinish n)) a =
      (n ≡ length a.0 + 1) × (line : ScheduleLine) × IsLineAt (threads s) a.1 line × (is_terminated s a.0 line.thread ≡ true)
  Ends (Some f) a = ⊥

  ends_stop : (f : Option DriveError) (a : State) → Ends f a → Stops IsNext a
  ends_stop None a end b next = not_empty (line_of_call next.call) b.1 (sym end ∙ next.line)
  ends_stop (Some (drive.Line n)) a end b next = end.2 (line_of_call next.call) b.1 next.allowed.thread next.line
  ends_stop (Some (drive.AfterFinish n)) a (number, line, begins, finished) b next =
      let below = next.allowed.thread in
      let below_late = begins.1 in
      let same = one_line (line_of_call next.call) line b.1 begins.0 (omega arith) (omega arith) (sym next.line ∙ begins.2) in
      let thread : next.call.thread ≡ line.thread = ap (λ (z : ScheduleLine). z.thread) same.0 in
      false≢true (sym next.allowed.still_live ∙ ap (λ i. is_terminated s a.0 i) thread ∙ finished)
  ends_stop (Some f) a end b next = absurd end

  one_error : (f g : Option DriveError) (a : State) → Ends f a → Ends g a → f ≡ g
  one_error None None a p q = refl
  one_error None (Some (drive.Line m)) a p q = absurd (q.1 p)
  one_error None (Some (drive.AfterFinish m)) a p (number, line, begins, finished) = absurd (not_empty line begins.0 (sym p ∙ begins.2))
  one_error (Some (drive.Line n)) None a p q = absurd (p.1 q)
  one_error (Some (drive.Line n)) (Some (drive.Line m)) a p q = ap (λ k. Some (drive.Line k)) (p.0 ∙ sym q.0)
  one_error (Some (drive.Line n)) (Some (drive.AfterFinish m)) a p (number, line, begins, finished) = absurd (p.2 line begins.0 begins.1 begins.2)
  one_error (Some (drive.AfterFinish n)) None a (number, line, begins, finished) q = absurd (not_empty line begins.0 (sym q ∙ begins.2))
  one_error (Some (drive.AfterFinish n)) (Some (drive.Line m)) a (number, line, begins, finished) q = absurd (q.2 line begins.0 begins.1 begins.2)
  one_error (Some (drive.AfterFinish n)) (Some (drive.AfterFinish m)) a p q = ap (λ k. Some (drive.AfterFinish k)) (p.0 ∙ sym q.0)
  one_error f g a p q = absurd (assumption (p, q))

  module _ (schedule : List ℕ) where
    record EndsAs (f : Option DriveError) : Type 0 where
      state : State
      walk : Walk IsNext ([], schedule) state
      end : Ends f state

    one_state : (f g : Option DriveError) (p : EndsAs f) (q : EndsAs g) → p.state ≡ q.state
    one_state f g p q = one_end IsNext single _ p.state q.state p.walk q.walk (ends_stop f p.state p.end) (ends_stop g q.state q.end)

    one : (f g : Option DriveError) → EndsAs f → EndsAs g → f ≡ g
    one f g p q = one_error f g q.state (subst (Ends f) (one_state f g p q) p.end) q.end

    driven_ends : (h : List Call) → IsDriven t s schedule h → EndsAs None
    driven_ends h driven = record {
      state = (h, []);
      walk = subst (λ z. Walk IsNext ([], z) (h, [])) (append-nil (lines h) ∙ sym driven.lines) (walk [] h [] driven.legal);
      end = refl;
    }

    reached : (n : ℕ) (rest : List ℕ) (r : DrivesUpTo t s schedule n rest) → Walk IsNext ([], schedule) (r.history, rest)
    reached n rest r = subst (λ z. Walk IsNext ([], z) (r.history, rest)) (sym r.whole) (walk [] r.history rest r.legal)

    -- too long, or refused at its end
    abbrev Refused : DriveError → Type 0
    Refused f = ((f ≡ drive.TooLong) × (MAX_SCHEDULE < length schedule)) ⊎ ((length schedule ≤ MAX_SCHEDULE) × EndsAs (Some f))

    refused : (f : DriveError) → f ≢ drive.Memory → IsScheduleRefusal t s schedule f → Refused f
    refused drive.TooLong other r = inl (refl, r)
    refused (drive.Line n) other (short, bad) =
        inr (short, record { state = _; walk = reached n bad.rest bad.reached; end = (bad.reached.number, bad.some, bad.bad) })
    refused (drive.AfterFinish n) other (short, late) =
        inr (short, record { state = _; walk = reached n late.rest late.reached; end = (late.reached.number, late.line, late.begins, late.finished) })
    refused drive.Memory other r = absurd (other refl)
    refused drive.Write other r = absurd r

pub one_schedule_refusal : OneScheduleRefusal
one_schedule_refusal t s schedule f g range other another p q =
    by_length (refused t s range.few schedule f other p) (refused t s range.few schedule g another q)
  where
    by_length : Refused t s range.few schedule f → Refused t s range.few schedule g → f ≡ g
    by_length (inl a) (inl b) = a.0 ∙ sym b.0
    by_length (inr a) (inr b) = let same = one t s range.few schedule (Some f) (Some g) a.1 b.1 in cc
    by_length (inl a) (inr b) = absurd (omega (arith, a.1, b.0))
    by_length (inr a) (inl b) = absurd (omega (arith, a.0, b.1))

pub refused_drives_nowhere : RefusedDrivesNowhere
refused_drives_nowhere t s schedule h f range other p driven = elim (refused t s range.few schedule f other p) [
  | inl long ↦ let short = driven.short in omega (arith, long.1)
  | inr end ↦ let same = one t s range.few schedule (Some f) None end.1 (driven_ends t s range.few schedule h driven) in absurd cc
]

pub lines_drive_again : LinesDriveAgain
unfolding driven_ends
lines_drive_again t s h range legal = record {
  driven = own;
  alone = λ g driven. ap (λ z. z.0) (one_state t s range.few _ None None (driven_ends t s range.few _ g driven) (driven_ends t s range.few _ h own));
  lines = λ n bad. refused_drives_nowhere t s _ h (drive.Line n) range (λ e. absurd cc) (own.short, bad) own;
  finishes = λ n late. refused_drives_nowhere t s _ h (drive.AfterFinish n) range (λ e. absurd cc) (own.short, late) own;
}
  where
    own : IsDriven t s (lines t s range.few h) h
    own = record { short = schedule_short t s h range legal; legal = legal; lines = refl }

-- a line has no reply
same_lines : (steps : List Call) (failed : Bool) → lines_of_history (history_of_run steps failed) ≡ lines_of_history steps
same_lines [] failed = refl
same_lines (x ∷ xs) failed = ap (λ ls. line_of_call x ∷ ls) (same_lines xs failed)

-- the threads and bits of a run drive its program to its history
pub runs_drive_to_histories : RunsDriveToHistories
runs_drive_to_histories t s steps d range run =
    let h = history_of_run steps d.failed in
    subst (λ ls. DrivesTo t s (schedule_text ls) h) (same_lines steps d.failed)
    (lines_drive_again t s h range (run_is_history t s steps d run).legal)
