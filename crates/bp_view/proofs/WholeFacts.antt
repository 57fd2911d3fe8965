-- Each attempt and each end of a history has facts.
use Rattle.bp_view.proofs.Common.{◌≡◌, ◌⊎◌, inl, inr, ℕ, zero, suc, ◌≤◌, Bool, true, false, [], length, ap, refl, subst, add-one, if◌then◌else◌, ◌∙◌, ◌+◌, ◌++◌, List, ◌∷◌, Some, slice_get, take, sym, arith, Option, None, drop, IsTrue, ◌↔◌, option_map, rules, cases_lt, get_or_past, map-append, All-push, All-nil, slice_get_within, position_at, Program, Configuration, Frame, frame_store, Flat, StandsFor, place, places_of, start_of_block, has_frames, is_left, IsDeadlocked, waits, Call, SetupOf, threads, Outcome, Clean, Failed, Report, stack_of, configuration_after, granted_threads, IsLegal, is_granted, outcome_of, IsRealFailure, opened, opened_least, real, SourceStatement, variables_read, AreSourceStatements, IsStatementAt, place_text, IsStatement, source_statement_at, SourceStatementAt, waiting, AreStandingFacts, AreWaitsFacts, ShownCondition, named_entries, AreFailureFacts, AreFooterFacts, IsAtCondition, ShownFooter, AreFrameFacts, AreStackFacts, AreThreadFacts, AreThreadsFacts, ShownFrame, ShownThread, status, AreStateFacts, ShownState, changes_by, nothing_next, AreCallFacts, IsNextOf, Next, ShownCall, is_switch, IsContext}
use Rattle.bp_machine.proofs.Deadlocks.{not_waiting, seen_ended, seen_none, seen_waiting, AreSeen}
use Rattle.bp_view.proofs.FailedConditions.{assertion_facts, at_assertion, at_assumption}
use Rattle.bp_view.proofs.PlacedStacks.{stack_placed, ArePlaced, IsPlaced, frame_facts, frame_with}

-- It is decided whether a configuration is a deadlock: its stacks are looked through.

module _ (t : Program) (c : Configuration) where
  -- the result of a look at the threads below n, or one that could step
  abbrev Seen : ℕ → Type 0
  Seen n = ((any : Bool) × AreSeen t c n any) ⊎ ((i : ℕ) × (has_frames c i ≡ true) × (waits t c i ≡ false))

  module _ (n : ℕ) (any : Bool) (seen : AreSeen t c n any) where
    by_wait : has_frames c n ≡ true → (b : Bool) → waits t c n ≡ b → Seen (suc n)
    by_wait frames true e = inl (true, subst (λ m. AreSeen t c m true) (add-one n) (seen_waiting t c n any seen frames e))
    by_wait frames false e = inr (n, frames, e)

    by_frames : (b : Bool) → has_frames c n ≡ b → Seen (suc n)
    by_frames true e = by_wait e (waits t c n) refl
    by_frames false e = inl (any, subst (λ m. AreSeen t c m any) (add-one n) (seen_ended t c n any seen e))

  one_more_seen : (n : ℕ) → Seen n → Seen (suc n)
  one_more_seen n (inl (any, seen)) = by_frames n any seen (has_frames c n) refl
  one_more_seen n (inr found) = inr found

  search_to : (n : ℕ) → Seen n
  search_to zero = inl (false, seen_none t c)
  search_to (suc n) = one_more_seen n (search_to n)

  none_past : (i : ℕ) → length c.stacks ≤ i → has_frames c i ≡ false
  none_past i past = ap is_left (get_or_past c.stacks i [] past)

  all_wait : AreSeen t c (length c.stacks) true → IsDeadlocked t c
  all_wait given1 = search (rules, cases_lt, none_past)

  none_left : AreSeen t c (length c.stacks) false → IsDeadlocked t c → ⊥
  none_left given1 given2 = search (rules, cases_lt, none_past)

  answer : Seen (length c.stacks) → (b : Bool) × (IsTrue b ↔ IsDeadlocked t c)
  answer given1 = search (rules, all_wait, none_left, not_waiting)

  pub decided : (b : Bool) × (IsTrue b ↔ IsDeadlocked t c)
  decided = answer (search_to (length c.stacks))

-- The facts of a stack, of threads and of waits, with those of one more.

pub one_frame_more : (text : List ℕ) (n k m : ℕ) → m ≡ n + k → (stack : List Frame) (xs : List ShownFrame) (f : Frame) (x : ShownFrame)
    → AreStackFacts text n (take k stack) xs → slice_get stack k ≡ Some f → AreFrameFacts text m f x
    → AreStackFacts text n (take (suc k) stack) (xs ++ x ∷ [])
one_frame_more text n k m deep [] xs f x are at is = absurd (omega (arith, slice_get_within [] k f at))
one_frame_more text n zero m deep (g ∷ gs) [] f x are at is = grind (arith)
one_frame_more text n zero m deep (g ∷ gs) (y ∷ ys) f x are at is = elim are [ ]
one_frame_more text n (suc k) m deep (g ∷ gs) [] f x are at is = elim are [ ]
one_frame_more text n (suc k) m deep (g ∷ gs) (y ∷ ys) f x are at is = search (rules, (one_frame_more text (suc n) k m (omega (arith, deep)) gs ys f x are.1 at is))

pub one_thread_more : (t : Program) (text : List ℕ) (s : SetupOf) (h : List Call) (i m : ℕ) (xs : List ShownThread) (x : ShownThread)
    → m ≡ i + length xs → AreThreadsFacts t text s h i xs → AreThreadFacts t text s h m x → AreThreadsFacts t text s h i (xs ++ x ∷ [])
one_thread_more t text s h i m [] x count are is =
    let first : m ≡ i = omega (arith, count) in
    (subst (λ k. AreThreadFacts t text s h k x) first is, tt)
one_thread_more t text s h i m (y ∷ ys) x count are is = (are.0, one_thread_more t text s h (suc i) m ys x (omega (arith, count)) are.1 is)

module _ (t : Program) (text : List ℕ) (c : Configuration) (n : ℕ) (xs : List ShownCondition) (are : AreWaitsFacts text c (waiting t c n) xs) where
  pub no_wait_more : waits t c n ≡ false → AreWaitsFacts text c (waiting t c (suc n)) xs
  no_wait_more given1 = grind (arith)

  pub one_wait_more : waits t c n ≡ true → (x : ShownCondition) → x.thread ≡ n → AreStandingFacts text c x
      → AreWaitsFacts text c (waiting t c (suc n)) (xs ++ x ∷ [])
  one_wait_more does x same is = record {
    each = All-push (AreStandingFacts text c) xs x are.each is;
    of =
        let thread = λ (y : ShownCondition). y.thread in
        map-append thread xs (x ∷ [])
        ∙ ap (λ ks. ks ++ x.thread ∷ []) are.of
        ∙ ap (λ k. waiting t c n ++ k ∷ []) same
        ∙ sym (ap (λ b. if b then waiting t c n ++ n ∷ [] else waiting t c n) does);
  }

module _ (c : Flat) (t : Program) (code : StandsFor c t) (text : List ℕ) (statements : List SourceStatement)
    (are : AreSourceStatements text t statements) (s : SetupOf) where
  -- the source statement of a frame
  source_statement_of : (f : Frame) → IsPlaced t f → (n : ℕ) × SourceStatementAt text t.procedures (place f.procedure f.left) statements n
  source_statement_of f given1 = search (rules, source_statement_at)

  some_next : (stack : List Frame) → ArePlaced t stack → (next : Next) × IsNextOf text stack next
  some_next [] placed = (nothing_next, refl)
  some_next (f ∷ fs) (here, below) =
      let (n, found) = source_statement_of f here in
      let shown = found.statement.excerpt.text.items in (
        record {
          place = place_text text (start_of_block f.left);
          position = option_map (position_at text) (start_of_block f.left);
          procedure = Some f.procedure.name.text;
          depth = length (f ∷ fs);
          text = Some shown;
          reads = found.statement.excerpt.reads_choice;
        },
        record {
          place = refl;
          position = refl;
          procedure = refl;
          depth_is = refl;
          shown = shown;
          said = refl;
          statement = found.is.excerpt;
          one_line = found.is.one_line;
        },
      )

  some_context : (h : List Call) (x : Call) (b : Bool) → is_granted x.reply ≡ b → (n : Option ℕ) × IsContext h x n
  some_context h x true granted = (Some (opened None (granted_threads (h ++ x ∷ []))), (granted, opened_least (granted_threads (h ++ x ∷ []))))
  some_context h x false none = (None, none)

  pub some_call : (h : List Call) (x : Call) → (f : ShownCall) × AreCallFacts t text s h x f
  some_call h x =
      let now = configuration_after t s h in
      let (n, is) = some_context h x (is_granted x.reply) refl in
      let (next, next_is) = some_next (stack_of now x.thread) (stack_placed c t code s h x.thread) in (
        record {
          number = suc (length h);
          call = x;
          context = n;
          switch = is_switch h x;
          next = next;
          changes = changes_by t s h x;
        },
        record { number = refl; call = refl; context = is; switch = refl; next = next_is; changes = refl },
      )

  module _ (h : List Call) where
    some_condition : (i : ℕ) → IsAtCondition (configuration_after t s h) i
        → (x : ShownCondition) × (x.thread ≡ i) × AreStandingFacts text (configuration_after t s h) x
    some_condition i stands =
        let frame = stands.frame in
        let now = configuration_after t s h in
        let placed : ArePlaced t (frame ∷ stands.below) = subst (ArePlaced t) stands.stack (stack_placed c t code s h i) in
        let (n, found) = source_statement_of frame placed.0 in
        let shown = found.statement.excerpt.text.items in
        let own : IsStatement (drop stands.at text) shown found.statement.excerpt.reads_choice =
        subst (λ at. IsStatementAt text frame.procedure at shown found.statement.excerpt.reads_choice) stands.begins found.is.excerpt
        in (
          record {
            thread = i;
            position = position_at text stands.at;
            text = shown;
            values = named_entries frame.procedure (frame_store now.globals frame) (variables_read stands.decision);
          },
          refl,
          record { stands = stands; are = record { position = refl; reads = found.statement.excerpt.reads_choice; statement = own; values = refl } },
        )

    some_failure : IsLegal t s h → (o : Outcome) → o ≡ outcome_of h → (x : Option ShownCondition) × AreFailureFacts t text s h o x
    some_failure legal Clean is = (None, refl)
    some_failure legal (Failed i) is =
        let failure = real t s h i legal (sym is) in
        let (x, same, facts) = some_condition i (at_assertion t s h i failure) in
        (Some x, (same, assertion_facts t s h text x (subst (IsRealFailure t s h) (sym same) failure) facts))

    -- the threads below n that wait have facts
    abbrev Waits : ℕ → Type 0
    Waits n = (xs : List ShownCondition) × AreWaitsFacts text (configuration_after t s h) (waiting t (configuration_after t s h) n) xs

    one_more : (n : ℕ) → Waits n → (b : Bool) → waits t (configuration_after t s h) n ≡ b → Waits (suc n)
    one_more n (xs, are) false none = (xs, no_wait_more t text (configuration_after t s h) n xs are none)
    one_more n (xs, are) true does =
        let now = configuration_after t s h in
        let (x, same, facts) = some_condition n (at_assumption t now n does) in
        (xs ++ x ∷ [], one_wait_more t text now n xs are does x same facts)

    some_waits : (n : ℕ) → Waits n
    some_waits zero = ([], record { each = All-nil _; of = refl })
    some_waits (suc n) = one_more n (some_waits n) (waits t (configuration_after t s h) n) refl

    some_stuck : (deadlocked : Bool)
        → (xs : List ShownCondition)
        × AreWaitsFacts text (configuration_after t s h) (if deadlocked then waiting t (configuration_after t s h) (threads s) else []) xs
    some_stuck true = some_waits (threads s)
    some_stuck false = ([], record { each = All-nil _; of = refl })

    pub some_footer : IsLegal t s h → (r : Report) → r.outcome ≡ outcome_of h → (x : ShownFooter) × AreFooterFacts t text s h r x
    some_footer legal r is =
        let (deadlocked, decides) = decided t (configuration_after t s h) in
        let (failure, failure_is) = some_failure legal r.outcome is in
        let (stuck, stuck_are) = some_stuck deadlocked in (
          record { report = r; deadlocked = deadlocked; failure = failure; waits = stuck },
          record { report = refl; decides = decides; failure = failure_is; waits_are = stuck_are },
        )

-- Each state has facts.

module _ (c : Flat) (t : Program) (code : StandsFor c t) (text : List ℕ) (statements : List SourceStatement)
    (are : AreSourceStatements text t statements) (s : SetupOf) where
  some_stack : (n : ℕ) (stack : List Frame) → ArePlaced t stack → (xs : List ShownFrame) × AreStackFacts text n stack xs
  some_stack n [] placed = ([], tt)
  some_stack n (f ∷ fs) (here, below) =
      let found = source_statement_at text t.procedures (places_of t.procedures) statements here.number (place f.procedure f.left) are here.at in
      let (xs, xs_are) = some_stack (suc n) fs below in
      (frame_with n f.procedure f.locals found.statement ∷ xs, (frame_facts text t.procedures n f found.statement found.is, xs_are))

  module _ (h : List Call) where
    some_thread : (i : ℕ) → (x : ShownThread) × AreThreadFacts t text s h i x
    some_thread i =
        let (frames, frames_are) = some_stack 0 (stack_of (configuration_after t s h) i) (stack_placed c t code s h i) in
        (record { thread = i; status = status t s h i; frames = frames }, record { thread = refl; status_is = refl; frames = frames_are })

    some_threads : (n i : ℕ) → (xs : List ShownThread) × (length xs ≡ n) × AreThreadsFacts t text s h i xs
    some_threads zero i = ([], refl, tt)
    some_threads (suc n) i =
        let (x, x_is) = some_thread i in
        let (xs, count, xs_are) = some_threads n (suc i) in
        (x ∷ xs, ap suc count, (x_is, xs_are))

    pub some_state : (x : ShownState) × AreStateFacts t text s h (length h) x
    some_state =
        let (xs, count, xs_are) = some_threads (threads s) 0 in (
          record {
            number = length h;
            count = length h;
            outcome = outcome_of h;
            globals = (configuration_after t s h).globals;
            threads = xs;
          },
          record {
            number = refl;
            count_is = refl;
            outcome = refl;
            globals = refl;
            all_threads = count;
            threads_are = xs_are;
          },
        )
