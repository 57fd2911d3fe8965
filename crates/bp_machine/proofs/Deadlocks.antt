-- Deadlocks grant nothing, and how the threads are searched for one.
use Rattle.bp_machine.proofs.Common.{◌≡◌, ◌&&◌, Bool, true, false, cond, List, [], ◌∷◌, Some, refl, ℕ, ◌+◌, ◌<◌, ◌≤◌, ◌++◌, None, ap, sym, ◌∙◌, subst, arith, inl, inr, zero, suc, drop, length, ◌⊎◌, get_or, unwrap_or, IsTrue, ◌↔◌, slice_get, rules, cases_lt, append-nil, get_or_past, slice_get_cases, Block, Program, regrouped, Valuation, Frame, is_call, effect, Configuration, ShowsFrame, ShowsStack, Full, Stopped, is_full, reply_to_effect, reply_on_stack, is_granted, stack_of, reply_of, configuration_after_step, configuration_after, granted_calls, IsLegalAfter, IsLegal, is_blocked, waits, is_left, has_frames, IsDeadlocked, Call, Reply, SetupOf, threads, State, StandsAfter, GuestThreadOf, top_of, activation_of, activations, ActivationRecord}
use Rattle.bp_machine.proofs.HistoryWithCall.{configuration_after-append}

-- If a thread is blocked with bit 1 it is blocked with bit 0 as well, so one look tells whether it
-- waits.

module _ (t : Program) (g : Valuation) (f : Frame) (fs : List Frame) where
  -- whether the frame is blocked if these statements are left to it
  abbrev blocked : Block → Bool → Bool
  blocked left bit =
      is_blocked (cond (is_call left && is_full (f ∷ fs)) (Some Full) (reply_to_effect (effect t.procedures left g f fs bit)))

pub with_either_bit : (t : Program) (g : Valuation) (stack : List Frame)
    → (is_blocked (reply_on_stack t true g stack false) && is_blocked (reply_on_stack t true g stack true)) ≡ is_blocked (reply_on_stack t true g stack true)
with_either_bit t g stack = grind (arith)

module _ (t : Program) (c : Configuration) (i : ℕ) (bit : Bool) (r : Reply) where
  by_mark : (failed fits : Bool) → (has_frames c i ≡ true → waits t c i ≡ true)
      → cond failed (Some Stopped) (reply_on_stack t fits c.globals (stack_of c i) bit) ≡ Some r → is_granted r ≡ false
  by_mark failed fits given1 given2 = grind (arith)

  pub grants_nothing : (fits : Bool) → IsDeadlocked t c → reply_of t fits c i bit ≡ Some r → is_granted r ≡ false
  grants_nothing fits dead e = by_mark c.failed fits (dead.each_waits i) e

module _ (t : Program) (s : SetupOf) where
  none_after : (h xs : List Call) → IsLegalAfter t s h xs → IsDeadlocked t (configuration_after t s h) → granted_calls xs ≡ []
  none_after h [] legal dead = refl
  none_after h (x ∷ xs) (allowed, rest) dead =
      let c = configuration_after t s h in
      let a = allowed.answers in
      let none = grants_nothing t c x.thread x.bit x.reply a.fits dead a.is in
      let same =
      configuration_after-append t s h x
      ∙ ap (λ b. cond b (unwrap_or (configuration_after_step t c x.thread x.bit (stack_of c x.thread)) c) c) none in
      ap (λ b. cond b (x ∷ granted_calls xs) (granted_calls xs)) none ∙ none_after (h ++ x ∷ []) xs rest (subst (IsDeadlocked t) (sym same) dead)

  legal_later : (g h xs : List Call) → IsLegalAfter t s g (h ++ xs) → IsLegalAfter t s (g ++ h) xs
  legal_later g [] xs legal = subst (λ k. IsLegalAfter t s k xs) (sym (append-nil g)) legal
  legal_later g (x ∷ h) xs (first, rest) = simp regrouped at (legal_later (g ++ x ∷ []) h xs rest)

  pub none_later : (h more : List Call) → IsLegal t s (h ++ more) → IsDeadlocked t (configuration_after t s h) → granted_calls more ≡ []
  none_later h more legal dead = none_after h more (legal_later [] h more legal) dead

-- of the threads below n: each with frames waits, and whether there are such
pub record AreSeen (t : Program) (c : Configuration) (n : ℕ) (any : Bool) : Type 0 where
  pub each : (i : ℕ) → i < n → has_frames c i ≡ true → waits t c i ≡ true
  pub some : any ≡ true → (i : ℕ) × (has_frames c i ≡ true)
  pub none : any ≡ false → (i : ℕ) → i < n → has_frames c i ≡ false

module _ (t : Program) (c : Configuration) where
  pub seen_none : AreSeen t c 0 false
  seen_none = record { each = λ i below. absurd (omega (arith, below)); some = λ e. absurd cc; none = λ e i below. absurd (omega (arith, below)) }

  module _ (n : ℕ) (any : Bool) (seen : AreSeen t c n any) where
    pub seen_ended : has_frames c n ≡ false → AreSeen t c (n + 1) any
    seen_ended given1 = grind (arith)

    pub seen_waiting : has_frames c n ≡ true → waits t c n ≡ true → AreSeen t c (n + 1) true
    seen_waiting given1 given2 = grind (arith)

  pub not_waiting : (n : ℕ) → has_frames c n ≡ true → waits t c n ≡ false → IsDeadlocked t c → ⊥
  not_waiting n frames going dead = let a = dead.each_waits n frames in let b = going in cc

-- the result of a look at all threads
module _ (t : Program) (s : SetupOf) (x : State) (h : List Call) (stands : StandsAfter t s x h) where
  abbrev now : Configuration
  now = configuration_after t s h

  none_past : (i : ℕ) → threads s ≤ i → has_frames now i ≡ false
  none_past i past = let e : stack_of now i ≡ [] = get_or_past now.stacks i [] (omega (arith, past, stands.stacks)) in ap is_left e

  module _ (n : ℕ) (all : threads s ≤ n) where
    all_seen_some : AreSeen t now n true → IsDeadlocked t now
    all_seen_some seen = let some = seen.some refl in record {
      thread = some.0;
      unended = some.1;
      each_waits = λ i frames. elim (cases_lt i n) [
        | inl within ↦ seen.each i within frames
        | inr past ↦ absurd (let a = none_past i (omega (arith, past, all)) in let b = frames in cc)
      ];
    }

    all_seen_none : AreSeen t now n false → IsDeadlocked t now → ⊥
    all_seen_none seen dead = elim (cases_lt dead.thread n) [
      | inl within ↦ let a = seen.none refl dead.thread within in let b = dead.unended in cc
      | inr past ↦ let a = none_past dead.thread (omega (arith, past, all)) in let b = dead.unended in cc
    ]

    pub all_seen : (any : Bool) → AreSeen t now n any → IsTrue any ↔ IsDeadlocked t now
    all_seen any given1 = search (rules, all_seen_some, all_seen_none)

-- The top of a thread's stack in a session is that of its stack in the configuration.

pub none_shown : (t : Program) (acts : List ActivationRecord) (frames : List Frame) → ShowsStack t (activations acts) frames → None ≡ top_of acts → frames ≡ []
none_shown t acts frames given1 given2 = grind (arith)

as_long : (t : Program) (acts : List ActivationRecord) (frames : List Frame) → ShowsStack t (activations acts) frames → length acts ≡ length frames
as_long t [] [] shown = refl
as_long t [] (f ∷ fs) shown = absurd shown
as_long t (a ∷ acts) [] shown = absurd shown
as_long t (a ∷ acts) (f ∷ fs) shown = ap suc (as_long t acts fs shown.1)

-- the rest of a stack after n calls have returned is shown, too
pub shown_below : (t : Program) (n : ℕ) (acts : List ActivationRecord) (frames : List Frame)
    → ShowsStack t (activations acts) frames → ShowsStack t (activations (drop n acts)) (drop n frames)
shown_below t zero acts frames shown = shown
shown_below t (suc n) [] [] shown = shown
shown_below t (suc n) [] (f ∷ fs) shown = absurd shown
shown_below t (suc n) (a ∷ acts) [] shown = absurd shown
shown_below t (suc n) (a ∷ acts) (f ∷ fs) shown = shown_below t n acts fs shown.1

-- the statement that the top of a stack shows
pub record TopShown (t : Program) (acts : List ActivationRecord) (frames : List Frame) (top : ActivationRecord) : Type 0 where
  pub frame : Frame
  pub below : List Frame
  pub are : frames ≡ frame ∷ below
  pub shows : ShowsFrame t (activation_of top) frame
  pub depth : length acts ≡ length (frame ∷ below)

pub top_shown : (t : Program) (acts : List ActivationRecord) (frames : List Frame) (top : ActivationRecord)
    → ShowsStack t (activations acts) frames → Some top ≡ top_of acts → TopShown t acts frames top
top_shown t [] frames top shown is = cc
top_shown t (a ∷ acts) [] top shown is = absurd shown
top_shown t (a ∷ acts) (f ∷ fs) top shown is =
    let same : top ≡ a = cc in
    record { frame = f; below = fs; are = refl; shows = rw same shown.0; depth = as_long t (a ∷ acts) (f ∷ fs) shown }

module _ (t : Program) (s : SetupOf) (x : State) (h : List Call) (stands : StandsAfter t s x h) (i : ℕ) where
  -- a thread that is not there has no stack
  pub no_stack : None ≡ slice_get x.threads i → stack_of (configuration_after t s h) i ≡ []
  no_stack none = there (slice_get_cases x.threads i).1
    where
      there : ((y : GuestThreadOf) × (i < length x.threads) × (slice_get x.threads i ≡ Some y) × (get_or x.threads i y ≡ y))
          ⊎ ((length x.threads ≤ i) × (slice_get x.threads i ≡ None)) → stack_of (configuration_after t s h) i ≡ []
      there (inl (y, inside, has, is)) = let a = has in let b = none in absurd cc
      there (inr (past, is)) = get_or_past (configuration_after t s h).stacks i [] (omega (arith, past, stands.thread_count, stands.stacks))
