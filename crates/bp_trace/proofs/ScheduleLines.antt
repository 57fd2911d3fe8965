-- Lines of schedules: their beginnings, their lengths, their attempts, and a session that stands
-- after them.
use Rattle.bp_trace.proofs.Common.{◌≡◌, ℕ, ◌+◌, ◌/◌, ◌%◌, ◌<◌, ◌≤◌, ◌^◌, List, [], ◌∷◌, ◌++◌, length, refl, ap, sym, ◌∙◌, arith, decimal, append_assoc, ◌*◌, length-append, ◌≢◌, ◌↔◌, IsTrue, Bool, true, Some, subst, Option, None, rules, decimal_digit, decimal_step, HasNone, IsAt, ends_at, regrouped, one_at, ScheduleLine, schedule_line, thread_field, line_text, bit_digit, IsLineAt, HasNoLine, schedule_text, line_of_call, lines_of_history, mul-le-mul_left, mul-le-mul_right, cases_lt, Program, Configuration, MAX_THREADS, Call, SetupOf, threads, IsInRange, IsLegal, Answers, reply_of, configuration_after, granted_threads, is_terminated, IsAllowed, Reply, SessionOf, Stands, IsAskRefusal, AllBelow, all_below, legal_length, MAX_SCHEDULE, IsAfterFinish, IsRefusal, drive_error_of, IsLineRefusal, DriveError}
use Rattle.bp_machine.specs.declared.calls.AskError.{AskError}
use Rattle.bp_machine.specs.declared.calls.AskError.TheVariants.{Memory}
use Rattle.bp_trace.specs.declared.errors.DriveError.TheVariants as error

pub two_text : (t : ℕ) → 10 ≤ t → t < 100 → decimal t ≡ (48 + t / 10) ∷ (48 + t % 10) ∷ []
two_text t h k = decimal_step t h (omega arith) ∙ ap (λ x. x ++ (48 + t % 10) ∷ []) (decimal_digit (t / 10) (omega arith))

pub one_digit : (t : ℕ) → t < 10 → 1 ≡ length (decimal t)
one_digit t h = sym (ap length (decimal_digit t h))

pub both_digits : (t : ℕ) → 10 ≤ t → t < 100 → 2 ≡ length (decimal t)
both_digits t h k = sym (ap length (two_text t h k))

module _ (n : ℕ) (few : n < 2 ^ 64) (text : List ℕ) where
  pub thread_there : (i : ℕ) (more : List ℕ) → i < n → text ≡ decimal i ++ 32 ∷ more → IsAt (thread_field n) text i more
  thread_there i more given1 given2 = search (rules, ends_at, append_assoc, decimal)

  pub thread_parts : (i : ℕ) (more : List ℕ) → IsAt (thread_field n) text i more → text ≡ decimal i ++ 32 ∷ more
  thread_parts i more at = at.parts ∙ append_assoc (decimal i) (32 ∷ []) more

  line_there : (x : ScheduleLine) (more : List ℕ) → x.thread < n → text ≡ line_text x ++ more → IsAt (schedule_line n) text x more
  line_there x more given1 given2 = search (rules, ends_at, decimal, regrouped)

  pub line_parts : (x : ScheduleLine) (more : List ℕ) → IsAt (schedule_line n) text x more → text ≡ line_text x ++ more
  line_parts x more at = let regroup : ((decimal x.thread ++ 32 ∷ []) ++ bit_digit x.bit ∷ 10 ∷ []) ++ more ≡ line_text x ++ more = simp regrouped in at.parts ∙ regroup

  pub line_found : (x : ScheduleLine) (more : List ℕ) → IsAt (schedule_line n) text x more → IsLineAt n text x
  line_found x more at = (more, at.fits.0.0, line_parts x more at)

  pub no_line : HasNone (schedule_line n) text → HasNoLine n text
  no_line none = λ x more below e. let at = line_there x more below e in none.none x more at.fits at.parts

-- one line begins a text
pub one_line : (x y : ScheduleLine) (a b : List ℕ) → x.thread < 100 → y.thread < 100 → line_text x ++ a ≡ line_text y ++ b → (x ≡ y) × (a ≡ b)
one_line x y a b few_x few_y e = one_at (line_there 100 (omega arith) _ x a few_x refl) (line_there 100 (omega arith) _ y b few_y e)

-- Lines of schedules: their lengths, their attempts, and the next attempt of a session that stands
-- after them.

-- The schedule of a legal history is short enough to be driven.

pub few_digits : (n : ℕ) → n < 100 → length (decimal n) ≤ 2
few_digits n given1 = search (rules, cases_lt, one_digit, both_digits)

line_short : (x : Call) → x.thread < 100 → length (line_text (line_of_call x)) ≤ 5
line_short x given1 = search (rules, few_digits, length-append, decimal)

lines_short : (n : ℕ) (h : List Call) → n ≤ MAX_THREADS → AllBelow n h → length (schedule_text (lines_of_history h)) ≤ 5 * length h
lines_short n [] few all = omega arith
lines_short n (x ∷ xs) few (below, all) = search (rules, (lines_short n xs few all), line_short, length-append)

pub schedule_short : (t : Program) (s : SetupOf) (h : List Call) → IsInRange s → IsLegal t s h → length (schedule_text (lines_of_history h)) ≤ MAX_SCHEDULE
schedule_short t s h given1 given2 = search (rules, lines_short, all_below, legal_length, mul-le-mul_right, mul-le-mul_left)

pub not_empty : (x : ScheduleLine) (more : List ℕ) → [] ≢ line_text x ++ more
not_empty x more e =
    let none = ap length e in
    omega (arith, none, length-append (line_text x) more, length-append (decimal x.thread) (32 ∷ bit_digit x.bit ∷ 10 ∷ []))

-- the machine has one answer
pub same_fits : (W : Type 0) (p q : Bool) → IsTrue p ↔ W → IsTrue q ↔ W → p ≡ q
same_fits W p q given1 given2 = grind (arith)

pub same_answer : (t : Program) (k : ℕ) (c : Configuration) (before : List ℕ) (i : ℕ) (bit : Bool) (r q : Reply)
    → Answers t k c before i bit r → Answers t k c before i bit q → r ≡ q
same_answer t k c before i bit r q a b =
    let both : Some r ≡ Some q = sym a.is ∙ ap (λ f. reply_of t f c i bit) (same_fits _ a.fits b.fits a.decides b.decides) ∙ b.is in
    cc

module _ (t : Program) (s : SetupOf) where
  pub same_call : (h : List Call) (x y : Call) → line_of_call x ≡ line_of_call y → IsAllowed t s h x → IsAllowed t s h y → x ≡ y
  same_call h x y e p q =
      let thread : x.thread ≡ y.thread = ap (λ (z : ScheduleLine). z.thread) e in
      let bit : x.bit ≡ y.bit = ap (λ (z : ScheduleLine). z.bit) e in
      let one = subst (λ i. Answers t s.contexts (configuration_after t s h) (granted_threads h) i x.bit x.reply) thread p.answers in
      let other = subst (λ b. Answers t s.contexts (configuration_after t s h) (granted_threads h) y.thread b x.reply) bit one in
      let reply = same_answer t s.contexts (configuration_after t s h) (granted_threads h) y.thread y.bit x.reply y.reply other q.answers in
      λ i. record { thread = thread i; bit = bit i; reply = reply i }

-- a refused attempt of an existing thread, if the setup has no seed
pub ask_refused : (t : Program) (s : SetupOf) (h : List Call) (i : ℕ) (bit : Bool) (f : AskError) → i < threads s
    → s.seed ≡ None → IsAskRefusal t s h i (Some bit) f
    → (f ≡ Memory → ⊥) → is_terminated s h i ≡ true
ask_refused t s h i bit f given1 given2 given3 given4 = grind (arith)

-- The attempts of all lines, by a session that stands after them.

module _ (x : SessionOf) (h : List Call) (stands : Stands x.code.tree x h) where
  -- the refusal of an attempt of a thread that is there
  pub refused_line : (line : ScheduleLine) (n : ℕ) (f : AskError) → line.thread < threads x.setup → x.setup.seed ≡ None
      → ((g : List Call) → Stands x.code.tree x g
      → IsAskRefusal x.code.tree x.setup g line.thread (Some line.bit) f) → IsLineRefusal x.setup h line n (drive_error_of f n)
  refused_line line n Memory within unseeded refused = tt
  refused_line line n f within unseeded refused = (
    refl,
    ask_refused x.code.tree x.setup h line.thread line.bit f within unseeded (refused h stands) (λ e. absurd cc),
  )

-- the refusal of a line, as that of the schedule
module _ (x : SessionOf) (t : Program) (s : SetupOf) (h : List Call) (setup : x.setup ≡ s) (stands : Stands t x h)
    (schedule rest : List ℕ) (short : length schedule ≤ MAX_SCHEDULE) (whole : schedule ≡ schedule_text (lines_of_history h) ++ rest) where
  pub legal_of : IsLegal t s h
  legal_of = subst (λ z. IsLegal t z h) setup stands.state.legal

  pub bad_line : (n many : ℕ) → n ≡ length h + 1 → many ≡ threads s → rest ≢ [] → HasNoLine many rest → (bytes : Option (List ℕ))
      → IsRefusal t s schedule bytes bytes (error.Line n)
  bad_line n many given1 given2 given3 given4 bytes = grind (arith)

  module _ (line : ScheduleLine) (n many : ℕ) (number : n ≡ length h + 1) (all : many ≡ threads s) (begins : IsLineAt many rest line) where
    pub line_refused : (f : DriveError) → IsLineRefusal x.setup h line n f → (bytes : Option (List ℕ)) → IsRefusal t s schedule bytes bytes f
    line_refused (error.AfterFinish m) r bytes =
        let after : IsAfterFinish t s schedule m = record {
          rest = rest;
          reached = record { history = h; legal = legal_of; whole = whole; number = r.0 ∙ number };
          line = line;
          begins = subst (λ k. IsLineAt k rest line) all begins;
          finished = ap (λ z. is_terminated z h line.thread) (sym setup) ∙ r.1;
        } in
        (refl, (short, after))
    line_refused error.Memory r bytes = (refl, short)
    line_refused f r bytes = absurd r
