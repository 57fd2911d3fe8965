-- The books of a desk once its seats and its tap are joined with it.
use Rattle.bp_run.proofs.Common.{◌≡◌, Bool, true, false, sym, ◌∙◌, ap, ℕ, ◌+◌, ◌<◌, ◌^◌, cond, List, [], ◌∷◌, ◌++◌, None, is_some, subst, arith, length-append, ◌↔◌, IsTrue, length, Option, Some, rules, Call, is_terminated, terminated_by, live_threads, IsLegal, IsReport, HasSeededBits, SessionOf, Stands, IsNextCall, threads, Fits, IsInRange, SetupOf, Report, live_at_start, live_threads-append, IsInBooks, SeatOf, TapOf, calls_of_seats, open_seats, AreOnePerThread, AreSeatsOf, IsGathered, TellsEarly}
use Rattle.std.proofs.Math.Nat.{mul-le-mul_left, mul-le-mul_right}
use Rattle.bp_flat.specs.Flat.{Flat}
use Rattle.bp_machine.specs.declared.limits.TheConstants.{MAX_THREADS}
use Rattle.bp_machine.proofs.HistoriesAreRuns.{legal_length}

-- The books of a desk at the start, and after one more attempt.

-- a session that stands after no attempt
pub books_at_start : (x : SessionOf) (made live : ℕ) → Fits x.code.tree x.setup → is_some x.setup.seed ≡ true → Stands x.code.tree x [] → 0 < x.setup.calls
    → made ≡ 0 → live ≡ threads x.setup → IsInBooks x [] made live
books_at_start x made live given1 given2 given3 given4 given5 given6 = search (rules, live_at_start)

module _ (x new : SessionOf) (h : List Call) (made live i : ℕ) (call : Call) (books : IsInBooks x h made live)
    (next : IsNextCall x.code.tree x.setup h i None call) (stands : Stands x.code.tree new (h ++ call ∷ []))
    (code : new.code ≡ x.code) (setup : new.setup ≡ x.setup)
  where
    live_with : live_threads x.setup (h ++ call ∷ []) + terminated_by x.setup h call ≡ live_threads x.setup h
    live_with = live_threads-append x.code.tree x.setup h call next.allowed

    pub books_with : (more less : ℕ) → more ≡ made + 1 → less + terminated_by x.setup h call ≡ live → IsInBooks new (h ++ call ∷ []) more less
    books_with more less given1 given2 = grind (arith, length-append, live_with)

    -- a thread that the attempt terminates
    pub books_when_terminated : (more less : ℕ) → more ≡ made + 1 → less + 1 ≡ live
        → is_terminated x.setup (h ++ call ∷ []) call.thread ≡ true → IsInBooks new (h ++ call ∷ []) more less
    books_when_terminated more less one_more closed terminated =
        books_with more less one_more (ap (λ b. less + cond b 1 0) terminated ∙ closed)

    -- a line that continues
    pub books_when_live : (more : ℕ) → more ≡ made + 1 → is_terminated x.setup (h ++ call ∷ []) call.thread ≡ false → IsInBooks new (h ++ call ∷ []) more live
    books_when_live more one_more still_live =
        books_with more live one_more (ap (λ b. live + cond b 1 0) still_live ∙ omega arith)

-- the books count few attempts
pub few_made : (x : SessionOf) (h : List Call) (made live : ℕ) → IsInBooks x h made live → IsInRange x.setup → made < 2 ^ 32
few_made x h made live books range =
    let long = legal_length x.code.tree x.setup h books.stands.state.legal in
    let one = mul-le-mul_right x.setup.calls range.few in
    let other = mul-le-mul_left MAX_THREADS range.calls in
    let was = books.made_is in
    omega (arith, long, one, other, was)

module _ (x : SessionOf) (h : List Call) (made live : ℕ) (books : IsInBooks x h made live)
    (seats : List SeatOf) (one_each : AreOnePerThread (threads x.setup) seats)
    (r : Report) (early : Option ℕ) (agree : Bool)
    (report : (g : List Call) → Stands x.code.tree x g → IsReport x.setup g r) (calls : calls_of_seats seats ≡ made)
    (open_are : open_seats seats ≡ live)
    (stops : (g : List Call) → Stands x.code.tree x g → TellsEarly x.code.tree x.setup g early)
    (agreement : (g : List Call) → Stands x.code.tree x g → (IsTrue agree ↔ AreSeatsOf x.setup g seats)) where
  reported : IsReport x.setup h r
  reported = report h books.stands

  pub gathered : (taken left : List Call) (tap : TapOf) → taken ++ left ≡ h → tap.taken ≡ taken → tap.rest ≡ Some left
      → IsGathered x.code.tree x.setup taken seats tap r early agree
  gathered taken left tap all same rest = record {
    left = left;
    rest = rest;
    same = same;
    legal = subst (IsLegal x.code.tree x.setup) (sym all) books.stands.state.legal;
    seeded = subst (HasSeededBits x.setup) (sym all) books.stands.seeded;
    report = subst (λ g. IsReport x.setup g r) (sym all) reported;
    one_each = one_each;
    calls = calls ∙ books.made_is ∙ ap length (sym all);
    stops = subst (λ g. TellsEarly x.code.tree x.setup g early) (sym all) (stops h books.stands);
    agreement = subst (λ g. IsTrue agree ↔ AreSeatsOf x.setup g seats) (sym all) (agreement h books.stands);
    open_are = open_are ∙ books.live_are ∙ sym reported.left_live;
  }

-- the result of gathering, by other names of the code and the setup
pub gathered_as : {code own : Flat} {s its : SetupOf} {taken : List Call} {seats : List SeatOf} {tap : TapOf} {r : Report} {early : Option ℕ} {agree : Bool}
    → code ≡ own → s ≡ its → IsGathered own.tree its taken seats tap r early agree → IsGathered code.tree s taken seats tap r early agree
gathered_as given1 given2 given3 = grind (arith)
