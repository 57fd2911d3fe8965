-- The result of playing a setup, from the promises of the stage, the gathering and the rest.
use Rattle.bp_run.proofs.Common.{◌≡◌, ℕ, Bool, true, List, [], ◌∷◌, ◌++◌, Option, Some, None, is_some, refl, sym, ◌∙◌, ap, subst, ◌<◌, ◌≤◌, ◌==◌, zero, suc, ◌+◌, false, cond, length, map, arith, length-append, rules, false≢true, flat_map-append, count_by, range_with_len, sum_by-cons, length-map-range_with_len, Given, HasTaken, AppendsAll, AppendsPart, Program, Call, SetupOf, Report, live_threads, IsTakenOf, SeatOf, AreNewSeats, new_seat, TapOf, AreOnePerThread, IsGathered, TellsEarly, One, head_text, call_line, end_line, trace_text, lines_of, IsRestWritten, IsPlayedFrom, IsEarly, IsCutTrace}
use Rattle.std.proofs.lemmas.List.{append-nil, length-map}
use Rattle.std.proofs.lemmas.Option.{same_Some}
use Rattle.bp_text.specs.declared.sinks.Sink.{Sink}
use Rattle.bp_text.proofs.Givings.{and_then, given_none, part_first, part_then, taken_since}
use Rattle.bp_text.proofs.PartsOfTexts.{regrouped}
use Rattle.bp_machine.specs.Laws.{StepsAreARun, StepsAreWithin, FailuresAreReal}

-- How the lines of attempts add up.

pub lines_append : (cs ds : List Call) → lines_of (cs ++ ds) ≡ lines_of cs ++ lines_of ds
lines_append cs ds = flat_map-append call_line cs ds

module _ {W : Type 0} (contents : W → Option (List ℕ)) where
  pub given_line : (a b c : Sink W) (cs : List Call) (x : Call)
      → Given contents a b (lines_of cs) → Given contents b c (call_line x) → Given contents a c (lines_of (cs ++ x ∷ []))
  given_line a b c cs x given1 given2 = search (rules, lines_append, append-nil, and_then)

  pub rest_begins : (a : Sink W) (rest : Option (List Call)) → is_some rest ≡ true → IsRestWritten contents a a rest rest
  rest_begins a (Some cs) t = record { more = []; left = cs; were = refl; are = refl; given = given_none contents a }
  rest_begins a None t = absurd (false≢true t)

  -- one more of the attempts that are left was taken and written
  pub rest_more : (a b c : Sink W) (rest r1 r2 : Option (List Call)) (x : Call)
      → IsRestWritten contents a b rest r1 → IsTakenOf r1 (Some x) r2 → Given contents b c (call_line x) → IsRestWritten contents a c rest r2
  rest_more a b c rest r1 r2 x s next w =
      let step = subst (λ o. IsTakenOf o (Some x) r2) s.are next in record {
        more = s.more ++ x ∷ [];
        left = step.others;
        were = s.were ∙ ap (λ y. Some y) (ap (λ y. s.more ++ y) step.first ∙ simp regrouped);
        are = step.are;
        given = given_line a b c s.more x s.given w;
      }

-- Seats of the threads in order are one of each thread.

abbrev pub threads_of : List SeatOf → List ℕ
threads_of seats = map (λ s. s.thread) seats

abbrev times : ℕ → List ℕ → ℕ
times i ks = count_by (λ k. k == i) ks

long : (seats : List SeatOf) → length (threads_of seats) ≡ length seats
long seats = length-map seats (λ s. s.thread)

counted : (i : ℕ) (seats : List SeatOf) → count_by (λ s. s.thread == i) seats ≡ times i (threads_of seats)
counted i [] = refl
counted i (s ∷ seats) = search (rules, (counted i seats), sum_by-cons)

-- seats of the same threads in the same order
pub one_each_kept : (n : ℕ) (a b : List SeatOf) → threads_of a ≡ threads_of b → AreOnePerThread n b → AreOnePerThread n a
one_each_kept n a b same one = record {
  many = sym (long a) ∙ ap length same ∙ long b ∙ one.many;
  each = λ i lt. counted i a ∙ ap (times i) same ∙ sym (counted i b) ∙ one.each i lt;
}

differ : (a i : ℕ) → i < a → (a == i) ≡ false
differ a i lt = grind arith

first : (i a : ℕ) (ks : List ℕ) → times i (a ∷ ks) ≡ cond (a == i) 1 0 + times i ks
first i a ks = sum_by-cons (λ (k : ℕ). cond (k == i) 1 0) a ks

none_below : (a n i : ℕ) → i < a → times i (range_with_len a n) ≡ 0
none_below a zero i lt = refl
none_below a (suc n) i lt = search (rules, (none_below (a + 1) n i (omega (arith, lt))), differ, first)

one_of : (a n i : ℕ) → a ≤ i → i < a + n → times i (range_with_len a n) ≡ 1
one_of a zero i le lt = absurd (omega (arith, le, lt))
one_of a (suc n) i le lt = go (a == i) refl (λ more. one_of (a + 1) n i more (omega (arith, lt)))
  where
    go : (b : Bool) → (a == i) ≡ b → (a + 1 ≤ i → times i (range_with_len (a + 1) n) ≡ 1) → times i (range_with_len a (suc n)) ≡ 1
    go true e later =
        let same : a ≡ i = grind arith in
        let one : cond {A = ℕ} (a == i) 1 0 ≡ 1 = ap (λ b. cond b 1 0) e in
        first i a (range_with_len (a + 1) n) ∙ omega (arith, one, none_below (a + 1) n i (omega (arith, same)))
    go false e later =
        let more : a + 1 ≤ i = grind arith in
        let none : cond {A = ℕ} (a == i) 1 0 ≡ 0 = ap (λ b. cond b 1 0) e in
        first i a (range_with_len (a + 1) n) ∙ omega (arith, none, later more)

again : (ks : List ℕ) → threads_of (map new_seat ks) ≡ ks
again [] = refl
again (k ∷ ks) = ap (λ xs. k ∷ xs) (again ks)

pub one_each_new : (n : ℕ) (seats : List SeatOf) → AreNewSeats n seats → AreOnePerThread n seats
one_each_new n seats new = record {
  many = ap length new ∙ length-map-range_with_len new_seat 0 n;
  each = λ i lt. counted i seats ∙ ap (times i) (ap threads_of new ∙ again (range_with_len 0 n)) ∙ one_of 0 n i (omega arith) (omega (arith, lt));
}

pub has_rest : (t : Program) (s : SetupOf) (taken : List Call) (seats : List SeatOf) (tap : TapOf) (r : Report)
    (b : Option ℕ) (a : Bool) → IsGathered t s taken seats tap r b a → is_some tap.rest ≡ true
has_rest t s taken seats tap r b a g = ap is_some g.rest

-- a head, the lines of some attempts and those of the others, and an end
both_lines : (head end : List ℕ) (cs ds : List Call) → (head ++ lines_of cs) ++ (lines_of ds ++ end) ≡ head ++ (lines_of (cs ++ ds) ++ end)
both_lines head end cs ds = simp (regrouped, lines_append)

module _ {W : Type 0} (contents : W → Option (List ℕ)) (t : Program) (s : SetupOf) (a b c d : Sink W) (taken : List Call)
    (rest_now : Option (List Call)) (seats : List SeatOf) (tap : TapOf) (r : Report) (early : Option ℕ) (agree : Bool)
    (fresh : a.refused ≡ false) (staged : Given contents a b (head_text One s ++ lines_of taken))
    (g : IsGathered t s taken seats tap r early agree)
    (rest : IsRestWritten contents b c tap.rest rest_now) (all : rest_now ≡ Some [])
    (ended : Given contents c d (end_line r.calls r.left_live)) where
  abbrev old : Option (List ℕ)
  old = contents a.out.now

  abbrev now : Option (List ℕ)
  now = contents d.out.now

  -- the attempts that were left are those gathered as left
  same : rest.more ≡ g.left
  same = search (rules, same_Some, append-nil)

  the_end : end_line r.calls r.left_live ≡ end_line (length (taken ++ g.left)) (live_threads s (taken ++ g.left))
  the_end = ap (λ n. end_line n r.left_live) g.report.calls ∙ ap (λ n. end_line (length (taken ++ g.left)) n) g.report.left_live

  bytes : (head_text One s ++ lines_of taken) ++ (lines_of rest.more ++ end_line r.calls r.left_live) ≡ trace_text s (taken ++ g.left)
  bytes = search (rules, both_lines, same, the_end)

  taken_all : HasTaken old now d.refused (trace_text s (taken ++ g.left))
  taken_all = taken_since contents a d _ fresh (subst (Given contents a d) bytes (and_then staged (and_then rest.given ended)))

  pub played : StepsAreARun → StepsAreWithin → FailuresAreReal → d.refused ≡ false → early ≡ None → IsPlayedFrom t s old now seats agree r
  played run within real fine none =
      let all_written : AppendsAll old now (trace_text s (taken ++ g.left)) =
      subst (λ b. HasTaken old now b (trace_text s (taken ++ g.left))) fine taken_all in
      record {
        played = record {
          history = taken ++ g.left;
          written = all_written.grown;
          report = g.report;
          legal = g.legal;
          seeded = g.seeded;
          steps = run t s (taken ++ g.left) g.legal;
          within = within t s (taken ++ g.left) g.legal;
          failure = λ i e. real t s (taken ++ g.left) i g.legal (sym g.report.outcome ∙ e);
          stopped = subst (TellsEarly t s (taken ++ g.left)) none g.stops;
        };
        one_each = g.one_each;
        agreement = g.agreement;
        made = g.calls;
        left = g.open_are;
      }

  pub stopped_early : (i : ℕ) → d.refused ≡ false → early ≡ Some i → IsEarly t s old now i
  stopped_early i given1 given2 = search (rules, taken_all)

  pub cut : d.refused ≡ true → IsCutTrace t s old now
  cut given1 = search (rules, taken_all)

-- The writer stopped before the end: the attempts that were taken are written, or a part of their
-- lines.
module _ {W : Type 0} (contents : W → Option (List ℕ)) (t : Program) (s : SetupOf) (a b : Sink W) (taken : List Call)
    (seats : List SeatOf) (tap : TapOf) (r : Report) (early : Option ℕ) (agree : Bool) (fresh : a.refused ≡ false)
    (staged : Given contents a b (head_text One s ++ lines_of taken)) (g : IsGathered t s taken seats tap r early agree) where
  begun : List ℕ
  begun = head_text One s ++ lines_of taken

  the_rest : List ℕ
  the_rest = lines_of g.left ++ end_line (length (taken ++ g.left)) (live_threads s (taken ++ g.left))

  has_end : 0 < length the_rest
  unfolding the_rest
  has_end = rw (length-append (lines_of g.left) (end_line (length (taken ++ g.left)) (live_threads s (taken ++ g.left)))) (omega arith)

  whole : begun ++ the_rest ≡ trace_text s (taken ++ g.left)
  unfolding the_rest begun
  whole = both_lines (head_text One s) (end_line (length (taken ++ g.left)) (live_threads s (taken ++ g.left))) taken g.left

  part : (old now : Option (List ℕ)) (refused : Bool) → HasTaken old now refused begun → AppendsPart old now (begun ++ the_rest)
  part old now refused given1 = search (rules, part_then, begun, the_rest, has_end, part_first)

  pub stopped : IsCutTrace t s (contents a.out.now) (contents b.out.now)
  unfolding begun
  stopped = record {
    history = taken ++ g.left;
    legal = g.legal;
    seeded = g.seeded;
    written =
        subst (AppendsPart (contents a.out.now) (contents b.out.now)) whole
        (part _ _ b.refused (taken_since contents a b begun fresh staged));
  }
