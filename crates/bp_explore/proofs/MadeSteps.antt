-- Runs that make listed steps, step by step.
use Rattle.bp_explore.proofs.Common.{◌≡◌, ℕ, zero, suc, List, [], ◌∷◌, length, Some, ◌↔◌, IsTrue, ◌+◌, ◌<◌, Bool, true, false, cond, refl, ap, sym, ◌∙◌, subst, arith, ◌⊎◌, ◌++◌, slice_get, slice_index_or, slice_set, length-set, get_or-set_same, get_or-set_other, rules, Program, Configuration, Frame, Moves, after_effect, Flat, ShowsStack, StepsAlike, ActivationRecord, stack_of, reply_on_stack, configuration_after_step, is_granted, IsRun, configuration_after, IsAllowed, top_of, activations, IsTop, HasRoom, reply_of_step, Stopped, Transition, IsTransitionOn, reply_of_transition, stack_after, Call, SetupOf, start, top_shown, step_is, thread_below, first_step, ended, IsAnswer, on_stack, goes, StateOf, Shows, state_after, ListedSteps, IsMade, MakesFrom, ends, passes, makes, HasNone, HasNoneBelow, CanMake, IsSafe, IsCountTo, IsFollowed, IsStep, Step, Stays, Fails, Leads, failures, IsCount, IsCountedStep, ShowsStep, HasNeither, HasNeitherBelow, IsPlayedTo, SeenStep}
use Rattle.bp_flat.specs.declared.effects.Effect.{Effect}
use Rattle.bp_machine.specs.declared.threads.Transition.TheVariants as transition
use Rattle.bp_machine.specs.Histories as reports
use Rattle.bp_machine.proofs.RunsAreHistories.{reply_told, reply_granted}
use Rattle.bp_machine.proofs.HistoryWithCall.{same_or_not, set_same, set_other}
use Rattle.bp_explore.proofs.Growth.{item_at}

-- The top of a thread's stack in a state.

pub index_is : {X : Type 0} (xs : List X) (k : ℕ) (z d : X) → slice_get xs k ≡ Some z → slice_index_or xs k d ≡ z
index_is [] k z d e = absurd cc
index_is (x ∷ xs) zero z d e = cc
index_is (x ∷ xs) (suc k) z d e = index_is xs k z d e

pub state_top : (t : Program) (x : StateOf) (c : Configuration) → Shows t x c → (i : ℕ) (stack : List ActivationRecord) → slice_get x.stacks i ≡ Some stack
    → (top : ActivationRecord) → Some top ≡ top_of stack
    → IsTop t c i (record { number = top.number; store = record { globals = x.globals; locals = top.locals }; depth = length stack })
state_top t x c shows i stack has top is =
    let s = top_shown t stack (stack_of c i) top (shows.stack i stack has) is in
    record { frame = s.frame; below = s.below; stack = s.are; next = s.shows.left; globals = shows.globals; locals = s.shows.locals; depth = s.depth }

-- A step of a state shows the move of the configuration that the state shows.

-- after the first m, n listed steps are made with the step of thread i from c to d
pub record IsCounted (o : ListedSteps) (m : ℕ) (c : Configuration) (i : ℕ) (d : Configuration) (n : ℕ) : Type 0 where
  pub is_made : Bool
  pub told : IsTrue is_made ↔ IsMade o m c i d
  pub count : n ≡ cond is_made (m + 1) m

-- the move of thread i from c to d, by a step of a state
abbrev pub Matches : Program → ListedSteps → ℕ → Configuration → ℕ → Configuration → Step → Type 0
Matches t o m c i d Stays = ⊥
Matches t o m c i d (Fails n) = IsCounted o m c i d n × (d.failed ≡ true)
Matches t o m c i d (Leads n y) = IsCounted o m c i d n × Shows t y d × (d.failed ≡ false)

module _ (c : Flat) (t : Program) (o : ListedSteps) (own : o.is_of t) (alike : StepsAlike c t) (m : ℕ) (x : StateOf) (now : Configuration) (shows : Shows t x now)
    (i : ℕ) (bit : Bool) (d : Configuration) (move : Moves t now i bit d) (room : HasRoom now i) where
  -- the reply to the move is that of a granted step
  told : reply_on_stack t true now.globals (stack_of now i) bit ≡ Some (reply_of_step [] d.failed)
  told =
      sym (ap (λ b. cond b (Some Stopped) (reply_on_stack t true now.globals (stack_of now i) bit)) move.runs)
      ∙ reply_told t now i bit d move room

  module _ (stack : List ActivationRecord) (has : slice_get x.stacks i ≡ Some stack) where
    answer : (v : Transition) → IsTransitionOn c.instructions x.globals bit true stack v → IsAnswer t now.globals false (stack_of now i) true bit x.globals stack v
    answer v is = on_stack c t alike bit x.globals now.globals shows.globals stack (stack_of now i) true v (shows.stack i stack has) is

    granted : (v : Transition) → IsTransitionOn c.instructions x.globals bit true stack v → is_granted (reply_of_transition v) ≡ true
    granted v given1 = search (rules, answer, told, reply_granted)

    inside : i < length now.stacks
    inside = thread_below t now i bit d move

    stacks_after : (e : Effect) (S : List Frame) → ShowsStack t (activations (stack_after e stack)) S
        → (j : ℕ) (own : List ActivationRecord) → slice_get (slice_set x.stacks i (stack_after e stack)) j ≡ Some own
        → ShowsStack t (activations own) (stack_of (record { globals = now.globals; stacks = slice_set now.stacks i S; failed = false }) j)
    stacks_after e S given1 j own given2 = search (rules, same_or_not, set_same, get_or-set_same, inside, set_other, get_or-set_other)

    leads_on : (e : Effect) → IsTransitionOn c.instructions x.globals bit true stack (transition.Steps e) → Shows t (state_after x i stack e) d × (d.failed ≡ false)
    leads_on e is =
        let a = answer (transition.Steps e) is in
        let (going, f, fs, stack_is, told_is) = a.comes in
        let (g, S, effect_is, worth, shown) = told_is in
        let next : Configuration = record { globals = g; stacks = slice_set now.stacks i S; failed = false } in
        let there : configuration_after_step t now i bit (stack_of now i) ≡ Some next =
        ap (configuration_after_step t now i bit) stack_is ∙ ap (λ w. after_effect now i w) effect_is in
        let both : Some next ≡ Some d = sym there ∙ step_is t now i bit d move in
        let d_is : next ≡ d = cc in
        subst (λ (z : Configuration). Shows t (state_after x i stack e) z × (z.failed ≡ false)) d_is (
          record {
            globals = worth;
            count = length-set x.stacks i (stack_after e stack) ∙ shows.count ∙ sym (length-set now.stacks i S);
            stack = stacks_after e S shown;
          },
          refl,
        )

    fails_there : IsTransitionOn c.instructions x.globals bit true stack transition.Fails → Shows t x d × (d.failed ≡ true)
    fails_there is =
        let a = answer transition.Fails is in
        let (going, f, fs, stack_is, effect_is) = a.comes in
        let next : Configuration = record now { failed = true } in
        let there : configuration_after_step t now i bit (stack_of now i) ≡ Some next =
        ap (configuration_after_step t now i bit) stack_is ∙ ap (λ w. after_effect now i w) effect_is in
        let both : Some next ≡ Some d = sym there ∙ step_is t now i bit d move in
        let d_is : next ≡ d = cc in
        subst (λ (z : Configuration). Shows t x z × (z.failed ≡ true)) d_is
        (record { globals = shows.globals; count = shows.count; stack = shows.stack }, refl)

    counted : (n : ℕ) (z : StateOf) (failed : Bool) → IsCountTo o m i n x z failed → Shows t z d → d.failed ≡ failed → IsCounted o m now i d n
    counted n z failed k there is = record { is_made = k.is_made; told = k.told t now d own (shows, there, is); count = k.count }

    by_transition : (v : Transition) (y : Step) → IsTransitionOn c.instructions x.globals bit true stack v → IsFollowed o m x i v y → Matches t o m now i d y
    by_transition (transition.Stays r) y is led =
        let a = answer (transition.Stays r) is in
        let no : is_granted r ≡ false = a.comes in
        let yes : is_granted r ≡ true = granted (transition.Stays r) is in
        absurd cc
    by_transition transition.Fails y is (n, k, led) =
        let (there, failed) = fails_there is in
        subst (Matches t o m now i d) (sym led) (counted n x true k there failed, failed)
    by_transition (transition.Steps e) y is (n, z, k, after, led) =
        let (there, going) = leads_on e is in
        let shown = subst (λ w. Shows t w d) (sym (after stack has)) there in
        subst (Matches t o m now i d) (sym led) (counted n z false k shown going, shown, going)

  pub step_matches : (y : Step) → IsStep o m x i c.instructions bit y → Matches t o m now i d y
  step_matches y step =
      let below = thread_below t now i bit d move in
      let count = shows.count in
      let (stack, has) = item_at x.stacks i (omega (arith, below, count)) in
      by_transition stack has step.transition y (step.is.some stack has) step.led

-- the first step of a run either makes the next listed step or does not
pub record FirstMade (t : Program) (o : ListedSteps) (m : ℕ) (c : Configuration) (x : Call) (xs : List Call) (n : ℕ) (e : Configuration) : Type 0 where
  pub next : Configuration
  pub move : Moves t c x.thread x.bit next
  pub made : ℕ
  pub how : (made ≡ m) ⊎ ((made ≡ m + 1) × IsMade o m c x.thread next)
  pub rest : MakesFrom t o made next xs n e

abbrev Begun : Program → ListedSteps → ℕ → Configuration → List Call → ℕ → Configuration → Type 0
Begun t o m c [] n e = (m ≡ n) × (c ≡ e)
Begun t o m c (x ∷ xs) n e = FirstMade t o m c x xs n e

begun : {t : Program} {o : ListedSteps} {m : ℕ} {c : Configuration} {xs : List Call} {n : ℕ} {e : Configuration} → MakesFrom t o m c xs n e → Begun t o m c xs n e
begun given1 = grind (arith)

pub no_more : {t : Program} {o : ListedSteps} {m : ℕ} {c : Configuration} {n : ℕ} {e : Configuration} → MakesFrom t o m c [] n e → (m ≡ n) × (c ≡ e)
no_more run = begun run

pub first_made : {t : Program} {o : ListedSteps} {m : ℕ} {c : Configuration} {x : Call} {xs : List Call} {n : ℕ} {e : Configuration}
    → MakesFrom t o m c (x ∷ xs) n e → FirstMade t o m c x xs n e
first_made run = begun run

module _ (t : Program) (o : ListedSteps) where
  -- a run makes no listed steps if none are looked for in it
  pub run_passes : (m : ℕ) (c : Configuration) (xs : List Call) (e : Configuration) → IsRun t c xs e → MakesFrom t o m c xs m e
  run_passes m c [] e run = subst (MakesFrom t o m c [] m) (ended run) (ends m c)
  run_passes m c (x ∷ xs) e run =
      let first = first_step run in
      passes m c x first.next xs m e first.move (run_passes m first.next xs e first.rest)

  pub makes_run : (m : ℕ) (c : Configuration) (xs : List Call) (n : ℕ) (e : Configuration) → MakesFrom t o m c xs n e → IsRun t c xs e
  makes_run m c [] n e run = subst (IsRun t c []) (no_more run).1 (reports.ends c)
  makes_run m c (x ∷ xs) n e run =
      let first = first_made run in
      reports.moves c x first.next xs e first.move (makes_run first.made first.next xs n e first.rest)

  -- one run after another
  then_makes : {m : ℕ} {c : Configuration} {xs : List Call} {n : ℕ} {d : Configuration} → MakesFrom t o m c xs n d
      → (ys : List Call) (k : ℕ) (e : Configuration) → MakesFrom t o n d ys k e → MakesFrom t o m c (xs ++ ys) k e
  then_makes (ends m c) ys k e later = later
  then_makes (passes m c x d xs n f move rest) ys k e later = passes m c x d (xs ++ ys) k e move (then_makes rest ys k e later)
  then_makes (makes m c x d xs n f move made rest) ys k e later = makes m c x d (xs ++ ys) k e move made (then_makes rest ys k e later)

  -- one more step at the end
  pub makes_one : (m : ℕ) (c : Configuration) (xs : List Call) (n : ℕ) (d : Configuration) (x : Call) (e : Configuration) → MakesFrom t o m c xs n d
      → Moves t d x.thread x.bit e → IsMade o n d x.thread e → MakesFrom t o m c (xs ++ x ∷ []) (n + 1) e
  makes_one m c xs n d x e run move made = then_makes run (x ∷ []) (n + 1) e (makes n d x e [] (n + 1) e move made (ends (n + 1) e))

  pub passes_one : (m : ℕ) (c : Configuration) (xs : List Call) (n : ℕ) (d : Configuration) (x : Call) (e : Configuration) → MakesFrom t o m c xs n d
      → Moves t d x.thread x.bit e → MakesFrom t o m c (xs ++ x ∷ []) n e
  passes_one m c xs n d x e run move = then_makes run (x ∷ []) n e (passes n d x e [] n e move (ends n e))

-- a run to a false assertion makes the one step that is listed as such
pub failing_makes : (t : Program) (c : Configuration) (xs : List Call) (e : Configuration) → IsRun t c xs e → c.failed ≡ false → e.failed ≡ true → MakesFrom t failures 0 c xs 1 e
failing_makes t c [] e run going failed = absurd (let no : false ≡ true = sym going ∙ ap (λ (z : Configuration). z.failed) (ended run) ∙ failed in cc)
failing_makes t c (x ∷ xs) e run going failed =
    let first = first_step run in
    by_next first.next first.move first.rest (λ on. failing_makes t first.next xs e first.rest on failed) first.next.failed refl
  where
    by_next : (d : Configuration) → Moves t c x.thread x.bit d → IsRun t d xs e → (d.failed ≡ false → MakesFrom t failures 0 d xs 1 e)
        → (b : Bool) → d.failed ≡ b → MakesFrom t failures 0 c (x ∷ xs) 1 e
    by_next d move rest later false is = passes 0 c x d xs 1 e move (later is)
    by_next d move rest later true is = makes 0 c x d xs 1 e move (record { is = is; last = λ _. refl }) (run_passes t failures 1 d xs e rest)

-- Counting the listed steps by the seen part of a step.

pub counted_to : (o : ListedSteps) (m i n : ℕ) (x y : StateOf) (failed : Bool) (step : SeenStep) → step.thread ≡ i
    → ((t : Program) (c d : Configuration) → Shows t x c → Shows t y d → d.failed ≡ failed → ShowsStep t step c d)
    → IsCountedStep o m step n → IsCountTo o m i n x y failed
counted_to o m i n x y failed step same shown k = subst (λ j. IsCount o m j n (λ t c d. Shows t x c × Shows t y d × (d.failed ≡ failed))) same (record {
  is_made = k.is_made;
  told = λ t c d is s. k.told t c d is (shown t c d s.0 s.1 s.2);
  count = k.count;
})

-- A run that makes the one step of `failures` ends in a false assertion.

module _ (t : Program) (s : SetupOf) where
  pub safe_of : (k : ℕ) → (CanMake t s failures k 1 → ⊥) → IsSafe t s k
  safe_of k none d r = by_failed d.failed refl
    where
      by_failed : (b : Bool) → d.failed ≡ b → d.failed ≡ false
      by_failed false is = is
      by_failed true is =
          absurd (none (record { steps = r.steps; end = d; run = failing_makes t (start t s) r.steps d r.run refl is; contexts = r.contexts; room = r.room }))

  pub none_of : (b : Bool) (k : ℕ) → HasNeither t s failures b k → HasNone t s b k
  none_of b k h =
      let safe = safe_of k h.none in
      record { safe = safe; live = λ e d r dead. h.live e d r (safe d r) dead }

  pub none_below_of : (b : Bool) (k : ℕ) → HasNeitherBelow t s failures b k → HasNoneBelow t s b k
  none_below_of b k h m below = none_of b m (h m below)

-- A history with one more attempt, and the listed steps that it makes.

module _ (t : Program) (s : SetupOf) (o : ListedSteps) (own : o.is_of t) where
  pub played_none : 0 < o.count → IsPlayedTo t s o [] 0
  played_none some = record { makes = ends 0 (start t s); last = λ all. absurd (omega (arith, some, all)) }

  pub played_more : (h : List Call) (x : Call) → IsAllowed t s h x → is_granted x.reply ≡ true → (m n : ℕ) → m < o.count → IsPlayedTo t s o h m
      → (step : SeenStep) → step.thread ≡ x.thread → ShowsStep t step (configuration_after t s h) (configuration_after t s (h ++ x ∷ []))
      → IsCountedStep o m step n → IsPlayedTo t s o (h ++ x ∷ []) n
  played_more h x allowed granted m n few played step thread shows counted = by_test counted.is_made refl
    where
      by_test : (b : Bool) → counted.is_made ≡ b → IsPlayedTo t s o (h ++ x ∷ []) n
      by_test true is =
          let c = configuration_after t s h in
          let d = configuration_after t s (h ++ x ∷ []) in
          let more : n ≡ m + 1 = counted.count ∙ ap (λ b. cond b (m + 1) m) is in
          let move = goes t s h x allowed granted in
          let made : IsMade o m c x.thread d = subst (λ i. IsMade o m c i d) thread ((counted.told t c d own shows).0 is) in
          record {
            makes = subst (λ k. MakesFrom t o 0 (start t s) (h ++ x ∷ []) k d) (sym more) (makes_one t o 0 (start t s) h m c x d played.makes move made);
            last = λ all. record { before = h; last = x; whole = refl; number = m; count = omega (arith, all, more, few); at = c; makes = played.makes; moves = move; made = made };
          }
      by_test false is =
          let c = configuration_after t s h in
          let d = configuration_after t s (h ++ x ∷ []) in
          let same : n ≡ m = counted.count ∙ ap (λ b. cond b (m + 1) m) is in
          record {
            makes = subst (λ k. MakesFrom t o 0 (start t s) (h ++ x ∷ []) k d) (sym same) (passes_one t o 0 (start t s) h m c x d played.makes (goes t s h x allowed granted));
            last = λ all. absurd (omega (arith, all, same, few));
          }
