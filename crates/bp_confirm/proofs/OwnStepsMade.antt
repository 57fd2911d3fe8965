-- A run makes the steps that it reports itself, and their text is confirmed.
use Rattle.bp_confirm.proofs.Common.{◌≡◌, ◌∙◌, ◌==◌, ℕ, zero, suc, Bool, true, false, cond, List, [], ◌∷◌, ◌++◌, Option, None, Some, refl, ap, sym, subst, arith, ◌+◌, option_map, unwrap_or, slice_get, slice_index_or, ◌≤◌, map, length, nat_lt, rules, AllByRecursion, nat_tests, position_at, both_added, Program, Frame, Configuration, Moves, start_of_block, starts_of, stack_of, configuration_after_call, configuration_after, configuration_after_calls, granted_calls, IsLegalAfter, is_granted, IsWithin, IsLegal, RunsAreHistories, HistoriesAreRuns, Call, IsBoundedRun, IsTop, history_of_run, IsDeadlocked, SetupOf, start, threads, Top, is_step, step_moves, configuration_after-append, StepReason, Elsewhere, Ambiguous, Finished, Refused, Differs, Location, End, Line, Column, OwnLinesAreConfirmed, IsMoveOf, MovesTake, IsRunOfSteps, OwnDeadlockIsConfirmed, OwnTextIsConfirmed, ForStuck, IsStepRefusal, exact_location, next_start, IsOwnLine, AreOwnLines, own_step, own_steps, own_steps_from, lines_of_steps, own_line, StepsAreOfTheRun, TextIsOfLines, own_steps_text, place_of, stands_at, StepLineOf, step_of, steps_of, next_location, SeesValues, HasLines, IsBadLine, step_line, value, SourcePoint, points_from, source_points_of, IsTextOf, MAX_CONTEXTS, MAX_THREADS, ContextBound, AsUsed, ConfirmError, Memory, NoSteps, NoThread, NoVariable, Step, TooLong, StepRefusal, zeros, IsConfirmed, HasFitLength, IsStepsRefusal, IsSetupFor, contexts_allowed, thread_of, AreDeclaredLines, IsFirstUndeclaredLine, IsOfNoThread, IsOfNoVariable, LastChoice, EachFits, Fits, text_of, none_bad, one_reading}
use Rattle.std.proofs.Common.{append-nil, length-take}
use Rattle.bp_confirm.specs.declared.noted_steps.OwnStep.{OwnStep}
use Rattle.bp_confirm.proofs.NextLocations.{only_lines}
use Rattle.bp_confirm.proofs.OneConfirmed.{refused_has_no_run, run_takes}
use Rattle.bp_confirm.proofs.ValuesSeen.{top_start}
use Rattle.bp_text.proofs.LinesOfTexts.{column_within, line_within}
use Rattle.bp_syntax.specs.declared.limits.TheConstants.{TEXT_LIMIT}
use Rattle.bp_confirm.specs.declared.confirmations.ConfirmError.TheVariants.{Line}
use Rattle.bp_confirm.proofs.ReadLines.{IsShortLocation, line_fits, no_step_in_nothing}
use Rattle.bp_confirm.proofs.OneTextRefusal.{IsUndeclared, no_thread, no_variable, undeclared_line_alone}
use Rattle.bp_confirm.proofs.DeadlocksTaken.{deadlock_is_taken}

-- A run takes the steps of its own lines, so that they are not refused.

exact_there : (text : List ℕ) (start : Option ℕ) → place_of text (exact_location text start) start ≡ true
exact_there text start = grind (arith)

stands_exactly : (text : List ℕ) (f : Frame) (fs : List Frame) → stands_at (place_of text (exact_location text (next_start (f ∷ fs)))) (f ∷ fs) ≡ true
stands_exactly text f fs = exact_there text (start_of_block f.left)

has_stack : (c : Configuration) (i : ℕ) (S : List Frame) → slice_get c.stacks i ≡ Some S → stack_of c i ≡ S
has_stack c i S at = there c.stacks i at
  where
    there : (xs : List (List Frame)) (k : ℕ) → slice_get xs k ≡ Some S → slice_index_or xs k [] ≡ S
    there [] k e = absurd cc
    there (y ∷ ys) zero e = cc
    there (y ∷ ys) (suc k) e = there ys k e

module _ (text : List ℕ) (t : Program) where
  abbrev one_move : (c next : Configuration) (call : Call) (x : StepLineOf) → IsOwnLine text c call x
      → Moves t c call.thread call.bit next → IsMoveOf t c (step_of text x) call
  one_move c next call x own move =
      let stack = has_stack c call.thread (move.frame ∷ move.below) move.has in
      record {
        next = next;
        thread = sym own.thread;
        at =
            (λ j. stands_at (place_of text (own.location j)) (stack_of c (own.thread j)))
            ∙ ap (λ S. stands_at (place_of text (exact_location text (next_start S))) S) stack
            ∙ stands_exactly text move.frame move.below;
        move = move;
        values = subst (λ vs. SeesValues next x.thread vs) (sym own.values) tt;
      }

  pub all_moves : (c : Configuration) (calls : List Call) (lines : List StepLineOf) → AreOwnLines text t c calls lines → MovesTake t c (steps_of text lines) calls
  all_moves c [] [] own = tt
  all_moves c (call ∷ calls) (x ∷ xs) (here, (next, move, rest)) = (one_move c next call x here move, all_moves next calls xs rest)
  all_moves c calls lines own = absurd (assumption (own))

  -- none of the lines is without a column
  abbrev IsExact : Location → Type 0
  IsExact End = Unit {0}
  IsExact (Line n) = ⊥
  IsExact (Column n m) = Unit {0}

  exact_is : (start : Option ℕ) → IsExact (exact_location text start)
  exact_is start = grind (arith)

  all_exact : (c : Configuration) (calls : List Call) (lines : List StepLineOf) → AreOwnLines text t c calls lines
      → AllByRecursion (λ x. IsExact x.location) lines
  all_exact c [] [] own = tt
  all_exact c (call ∷ calls) (x ∷ xs) (here, (next, move, rest)) =
      (subst IsExact (sym here.location) (exact_is (next_start (stack_of c call.thread))), all_exact next calls xs rest)
  all_exact c calls lines own = absurd (assumption (own))

  rest_exact : (xs ys : List StepLineOf) → AllByRecursion (λ x. IsExact x.location) (xs ++ ys) → AllByRecursion (λ x. IsExact x.location) ys
  rest_exact [] ys all = all
  rest_exact (x ∷ xs) ys all = rest_exact xs ys all.1

  no_line : (i n : ℕ) (xs : List StepLineOf) → AllByRecursion (λ x. IsExact x.location) xs → next_location i xs ≡ Some (Line n) → ⊥
  no_line i n [] all e = absurd cc
  no_line i n (x ∷ xs) all e = by_test (x.thread == i) (no_line i n xs all.1) e
    where
      by_test : (b : Bool) → (next_location i xs ≡ Some (Line n) → ⊥) → cond b (Some x.location) (next_location i xs) ≡ Some (Line n) → ⊥
      by_test true rest e = let same : x.location ≡ Line n = cc in subst IsExact same all.0
      by_test false rest e = rest e

-- so the run takes the steps of its own lines
abbrev pub own_run : (text : List ℕ) (t : Program) (s : SetupOf) (calls : List Call) (last : Configuration) (lines : List StepLineOf)
    → IsBoundedRun t s calls last → AreOwnLines text t (start t s) calls lines → IsRunOfSteps t s (steps_of text lines) calls
own_run text t s calls last lines run own = record { last = last; run = run; takes = all_moves text t (start t s) calls lines own }

pub own_lines_confirmed : RunsAreHistories → OwnLinesAreConfirmed
own_lines_confirmed each text t s bits calls last lines r is run own refused = by_reason r.reason refl (refused_has_no_run each text t s bits lines r refused)
  where
    taken : IsRunOfSteps t s (steps_of text lines) calls
    taken = own_run text t s calls last lines run own

    exact : AllByRecursion (λ x. IsExact text t x.location) refused.later
    exact = search (rules, all_exact, rest_exact)

    by_reason : (reason : StepReason) → r.reason ≡ reason → ForStuck reason ((ys : List Call) → IsRunOfSteps t s (steps_of text lines) ys → ⊥) → ⊥
    by_reason Elsewhere e none = none calls taken
    by_reason Ambiguous e none = let line = only_lines text t s bits lines r is refused e in no_line text t r.thread line.0 refused.later exact line.1
    by_reason Finished e none = none calls taken
    by_reason (Refused q) e none = none calls taken
    by_reason (Differs d) e none = none calls taken

-- the position of a point
module _ (text : List ℕ) where
  position_from : (k : ℕ) (starts : List (Option ℕ)) (n : ℕ) (start : Option ℕ) → slice_get starts n ≡ Some start
      → option_map (λ (s : SourcePoint). s.position) (slice_get (points_from text k starts) n) ≡ Some (option_map (position_at text) start)
  position_from k [] n start at = absurd cc
  position_from k (None ∷ starts) zero start at = ap (option_map (option_map (position_at text))) at
  position_from k (Some a ∷ starts) zero start at = ap (option_map (option_map (position_at text))) at
  position_from k (None ∷ starts) (suc n) start at = position_from (k + 1) starts n start at
  position_from k (Some a ∷ starts) (suc n) start at = position_from k starts n start at

  point_start : (t : Program) (points : List SourcePoint) (c : Configuration) (i : ℕ) (x : Top) → points ≡ source_points_of text t → IsTop t c i x
      → option_map (λ (s : SourcePoint). s.position) (slice_get points x.number) ≡ Some (option_map (position_at text) (next_start (stack_of c i)))
  point_start t points c i x are is =
      ap (λ ss. option_map (λ (s : SourcePoint). s.position) (slice_get ss x.number)) are
      ∙ position_from 0 (starts_of t) x.number (start_of_block is.frame.left) (top_start t c i x is)
      ∙ ap (λ S. Some (option_map (position_at text) (next_start S))) (sym is.stack)

  pub point_there : (t : Program) (points : List SourcePoint) (c : Configuration) (i : ℕ) (x : Top) (point : SourcePoint)
      → points ≡ source_points_of text t → IsTop t c i x → slice_get points x.number ≡ Some point
      → point.position ≡ option_map (position_at text) (next_start (stack_of c i))
  point_there t points c i x point are is at =
      let same = sym (ap (option_map (λ (s : SourcePoint). s.position)) at) ∙ point_start t points c i x are is in
      ap (λ o. unwrap_or o None) same

  pub point_missing : (t : Program) (points : List SourcePoint) (c : Configuration) (i : ℕ) (x : Top) → points ≡ source_points_of text t
      → IsTop t c i x → slice_get points x.number ≡ None → ⊥
  point_missing t points c i x are is at = let same = sym (ap (option_map (λ (s : SourcePoint). s.position)) at) ∙ point_start t points c i x are is in cc

-- one more attempt
module _ (text : List ℕ) (t : Program) where
  steps_more : (c : Configuration) (h : List Call) (x : Call)
      → own_steps_from text t c (h ++ x ∷ [])
      ≡ own_steps_from text t c h
      ++ cond (is_granted x.reply) (own_step text (configuration_after_calls t c h) x ∷ []) []
  steps_more c [] x = refl
  steps_more c (y ∷ ys) x = by_reply (is_granted y.reply) _ _ _ (steps_more (configuration_after_call t c y.thread y.bit y.reply) ys x)
    where
      by_reply : (b : Bool) (all front last : List OwnStep) → all ≡ front ++ last
          → cond b (own_step text c y ∷ all) all ≡ cond b (own_step text c y ∷ front) front ++ last
      by_reply true all front last e = ap (λ xs. own_step text c y ∷ xs) e
      by_reply false all front last e = e

  module _ (s : SetupOf) (h : List Call) (x : Call) (first old new : List OwnStep) (had : old ≡ first ++ own_steps text t s h) where
    more_steps : own_steps text t s (h ++ x ∷ []) ≡ own_steps text t s h ++ cond (is_granted x.reply) (own_step text (configuration_after t s h) x ∷ []) []
    more_steps = steps_more (start t s) h x

    pub noted : is_granted x.reply ≡ true → new ≡ old ++ own_step text (configuration_after t s h) x ∷ [] → new ≡ first ++ own_steps text t s (h ++ x ∷ [])
    noted given1 given2 = search (rules, both_added, more_steps)

    pub not_noted : is_granted x.reply ≡ false → new ≡ old → new ≡ first ++ own_steps text t s (h ++ x ∷ [])
    not_noted given1 given2 = search (rules, more_steps, append-nil)

-- the lines of the steps are the own lines of the run
module _ (text : List ℕ) (t : Program) (s : SetupOf) where
  own_from : (h calls : List Call) (c : Configuration) → configuration_after t s h ≡ c → IsLegalAfter t s h calls
      → AreOwnLines text t c (granted_calls calls) (lines_of_steps (own_steps_from text t c calls))
  own_from h [] c at legal = tt
  own_from h (x ∷ xs) c at (allowed, rest) =
      by_reply (is_granted x.reply) refl (own_from (h ++ x ∷ []) xs next
      (configuration_after-append t s h x ∙ ap (λ d. configuration_after_call t d x.thread x.bit x.reply) at) rest)
    where
      next : Configuration
      next = configuration_after_call t c x.thread x.bit x.reply

      by_reply : (b : Bool) → is_granted x.reply ≡ b → AreOwnLines text t next (granted_calls xs) (lines_of_steps (own_steps_from text t next xs))
          → AreOwnLines text t c (cond b (x ∷ granted_calls xs) (granted_calls xs))
          (lines_of_steps (cond b (own_step text c x ∷ own_steps_from text t next xs) (own_steps_from text t next xs)))
      by_reply b given1 given2 = search (rules, is_step, step_moves)

pub steps_of_the_run : StepsAreOfTheRun
steps_of_the_run text t s h legal = own_from text t s [] h (start t s) refl legal

pub text_of_lines : TextIsOfLines
text_of_lines [] = refl
text_of_lines (x ∷ xs) = ap (λ ys. own_line x ++ ys) (text_of_lines xs)

-- The text of a run's own steps is read as their lines, which are declared and are not refused.

-- the lines are of threads of the setup, and have no values
module _ (text : List ℕ) (t : Program) (s : SetupOf) where
  declared_from : (h calls : List Call) (c : Configuration) → IsLegalAfter t s h calls
      → AreDeclaredLines t s (lines_of_steps (own_steps_from text t c calls))
  declared_from h [] c legal = tt
  declared_from h (x ∷ xs) c (allowed, rest) = by_reply (is_granted x.reply) (declared_from (h ++ x ∷ []) xs next rest)
    where
      next : Configuration
      next = configuration_after_call t c x.thread x.bit x.reply

      by_reply : (b : Bool) → AreDeclaredLines t s (lines_of_steps (own_steps_from text t next xs))
          → AreDeclaredLines t s (lines_of_steps (cond b (own_step text c x ∷ own_steps_from text t next xs) (own_steps_from text t next xs)))
      by_reply b given1 = grind (arith)

-- and they can be written, since their places are in a short text
module _ (text : List ℕ) (few : length text ≤ TEXT_LIMIT) where
  short_location : (begin : Option ℕ) → IsShortLocation (exact_location text begin)
  short_location begin = search (rules, length-take, line_within, column_within)

  module _ (t : Program) (s : SetupOf) (small : threads s ≤ MAX_THREADS) where
    each_line : (c : Configuration) (calls : List Call) (lines : List StepLineOf) → AreOwnLines text t c calls lines
        → AreDeclaredLines t s lines → EachFits (text_of step_line) (Fits step_line) lines []
    each_line c [] [] own all = no_step_in_nothing.none
    each_line c (call ∷ calls) (x ∷ xs) (here, (next, move, rest)) (declared, others) = (
      line_fits x [] _ (omega (arith, small, declared.thread))
          (subst IsShortLocation (sym here.location) (short_location (next_start (stack_of c call.thread))))
          (subst (λ vs. EachFits (text_of value) (Fits value) vs []) (sym here.values) (λ v more fits e. absurd cc)),
      each_line next calls xs rest others,
    )
    each_line c calls lines own all = absurd (assumption (own))

same_threads : (text : List ℕ) (t : Program) (c : Configuration) (calls : List Call) (lines : List StepLineOf) → AreOwnLines text t c calls lines
    → map (λ x. x.thread) calls ≡ map thread_of lines
same_threads text t c [] [] own = refl
same_threads text t c (call ∷ calls) (x ∷ xs) (here, (next, move, rest)) =
    let more = same_threads text t next calls xs rest in
    λ i. sym here.thread i ∷ more i
same_threads text t c calls lines own = absurd (assumption (own))

allowed_as_used : (used : ℕ) → used ≤ MAX_CONTEXTS → contexts_allowed used ≡ used
allowed_as_used used within = ap (λ b. cond b MAX_CONTEXTS used) (let none : nat_lt MAX_CONTEXTS used ≡ false = grind (arith, nat_tests, within) in none)

-- no step of a run's own lines is refused, in the setup for them
module _ (each : RunsAreHistories) (text : List ℕ) (t : Program) (s : SetupOf) (is : IsTextOf text t) (calls : List Call) (last : Configuration)
    (run : IsBoundedRun t s calls last) (lines : List StepLineOf) (own : AreOwnLines text t (start t s) calls lines) where
  -- in this setup they are the own lines of a run within its bounds
  record AreOwnIn (setup : SetupOf) : Type 0 where
    bounded : IsBoundedRun t setup calls last
    are : AreOwnLines text t (start t setup) calls lines

  own_in : (k : ℕ) → IsWithin k (map thread_of lines) → AreOwnIn (record s { contexts = k })
  own_in k within = record {
    bounded = record {
      run = run.run;
      contexts = subst (IsWithin k) (sym (same_threads text t (start t s) calls lines own)) within;
      calls = run.calls;
      room = run.room;
    };
    are = own;
  }

  own_within : IsWithin s.contexts (map thread_of lines)
  own_within = subst (IsWithin s.contexts) (same_threads text t (start t s) calls lines own) run.contexts

  own_for : (bound : ContextBound) (setup : SetupOf) → (bound ≡ AsUsed → s.contexts ≤ MAX_CONTEXTS) → IsSetupFor s lines bound setup → AreOwnIn setup
  own_for bound setup given1 given2 = search (rules, own_in, own_within, allowed_as_used)

  none_refused : (bound : ContextBound) (setup : SetupOf) (r : StepRefusal) → (bound ≡ AsUsed → s.contexts ≤ MAX_CONTEXTS)
      → IsSetupFor s lines bound setup → IsStepRefusal text t setup zeros lines r → ⊥
  none_refused bound setup r few allows refused =
      let there = own_for bound setup few allows in
      own_lines_confirmed each text t setup zeros calls last lines r is there.bounded there.are refused

  -- so the history that confirms them ends in a deadlock if the run does
  deadlocked : (bound : ContextBound) (setup : SetupOf) (g : List Call) (choices : List LastChoice) → (bound ≡ AsUsed → s.contexts ≤ MAX_CONTEXTS)
      → IsSetupFor s lines bound setup → IsConfirmed t setup (steps_of text lines) g choices → last.failed ≡ false → IsDeadlocked t last
      → (configuration_after t setup g).failed ≡ false → IsDeadlocked t (configuration_after t setup g)
  deadlocked bound setup g choices few allows confirmed going dead going_g =
      let there = own_for bound setup few allows in
      let leads = (each t setup calls last there.bounded).leads in
      let taken = run_takes t setup each (steps_of text lines) calls (own_run text t setup calls last lines there.bounded there.are) in
      deadlock_is_taken t setup (steps_of text lines) g (history_of_run calls last.failed) choices confirmed taken
      (subst (IsDeadlocked t) (sym leads) dead) going_g (ap (λ d. d.failed) leads ∙ going)

-- a text of these lines, which are declared and have no refused step, is refused only for memory
module _ (text : List ℕ) (t : Program) (s : SetupOf) (steps : List ℕ) (bound : ContextBound) (lines : List StepLineOf) (fit : HasFitLength t s steps)
    (has : HasLines steps lines) (declared : AreDeclaredLines t s lines)
    (taken : (setup : SetupOf) (r : StepRefusal) → IsSetupFor s lines bound setup → IsStepRefusal text t setup zeros lines r → ⊥) where
  same_lines : (others : List StepLineOf) → HasLines steps others → others ≡ lines
  same_lines others p = one_reading p has

  no_bad : (n : ℕ) → IsBadLine steps n → ⊥
  no_bad n bad = none_bad has bad

  no_undeclared_line : (others : List StepLineOf) (n : ℕ) (Is : StepLineOf → Type 0) → IsUndeclared t s Is → HasLines steps others → IsFirstUndeclaredLine t s others n Is → ⊥
  no_undeclared_line others n Is undeclared_line p first =
      undeclared_line_alone t s lines n Is undeclared_line (subst (λ xs. IsFirstUndeclaredLine t s xs n Is) (same_lines others p) first) declared

  not_refused : (r : StepRefusal) → IsStepsRefusal t s steps text bound (Step r) → ⊥
  not_refused r p =
      let same = same_lines p.lines p.told.read.has in
      taken p.setup r (subst (λ xs. IsSetupFor s xs bound p.setup) same p.allows) (subst (λ xs. IsStepRefusal text t p.setup zeros xs r) same p.refused)

  only_memory : (f : ConfirmError) → IsStepsRefusal t s steps text bound f → f ≡ Memory
  only_memory TooLong p = absurd (omega (arith, p, fit.1))
  only_memory NoSteps p = absurd (omega (arith, p, fit.0))
  only_memory (Line n) p = absurd (no_bad n p.1)
  only_memory (NoThread n i) p = absurd (no_undeclared_line p.lines n (IsOfNoThread s i) (no_thread t s i) p.read.has p.undeclared_line)
  only_memory (NoVariable n k) p = absurd (no_undeclared_line p.lines n (IsOfNoVariable t s k) (no_variable t s k) p.read.has p.undeclared_line)
  only_memory (Step r) p = absurd (not_refused r p)
  only_memory Memory p = refl

module _ (text : List ℕ) (t : Program) (s : SetupOf) (h : List Call) (legal : IsLegal t s h) where
  own_of : AreOwnLines text t (start t s) (granted_calls h) (lines_of_steps (own_steps text t s h))
  own_of = steps_of_the_run text t s h legal

  module _ (is : IsTextOf text t) (small : threads s ≤ MAX_THREADS) where
    own_has : HasLines (own_steps_text (own_steps text t s h)) (lines_of_steps (own_steps text t s h))
    own_has = search (rules, each_line, own_of, declared_from, text_of_lines, append-nil)

pub own_text_confirmed : RunsAreHistories → HistoriesAreRuns → OwnTextIsConfirmed
own_text_confirmed each back text t s h bound f is small few legal fit refusal =
    only_memory text t s (own_steps_text (own_steps text t s h)) bound (lines_of_steps (own_steps text t s h)) fit (own_has text t s h legal is small)
    (declared_from text t s [] h (start t s) legal)
    (λ setup r. none_refused each text t s is (granted_calls h) (configuration_after t s h) (back t s h legal).run
    (lines_of_steps (own_steps text t s h)) (own_of text t s h legal) bound setup r few) f refusal

pub own_deadlock_confirmed : RunsAreHistories → HistoriesAreRuns → OwnDeadlockIsConfirmed
own_deadlock_confirmed each back text t s h bound setup g choices is small few legal going dead confirmed going_g =
    let lines = lines_of_steps (own_steps text t s h) in
    let has = own_has text t s h legal is small in
    let read = confirmed.told.read.has in
    let same = one_reading read has in
    deadlocked each text t s is (granted_calls h) (configuration_after t s h) (back t s h legal).run lines (own_of text t s h legal) bound setup g choices few
    (subst (λ xs. IsSetupFor s xs bound setup) same confirmed.allows)
    (subst (λ xs. IsConfirmed t setup (steps_of text xs) g choices) same confirmed.confirmed) going dead going_g
