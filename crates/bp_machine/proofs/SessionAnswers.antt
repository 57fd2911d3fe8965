-- The results of a session that stands after a history: an attempt, a refusal, and its accessors.
use Rattle.bp_machine.proofs.Common.{◌≡◌, ℕ, ◌+◌, ◌<◌, ◌||◌, nat_le, Bool, true, false, List, [], ◌∷◌, ◌++◌, length, Option, Some, is_some, refl, ap, sym, ◌∙◌, subst, arith, cond, add-one, zero, suc, ◌≤◌, None, get_or, ◌⊎◌, inl, inr, ◌^◌, slice_get, rules, ∥∥₁_map, slice_get_within, slice_get_cases, Name, Program, bits_of, Bits, Flat, StandsFor, valuation_of, StepsAlike, Call, Transition, Judged, ChoicesOf, choice_bit, IsBitOfCall, configuration_after, is_terminated, ends_with_last, calls_of_thread, live_below, SetupOf, threads, IsInRange, State, MachineOf, StandsAfter, GuestThreadOf, SessionOf, Stands, IsInOrder, IsLiveThread, IsNextCall, IsAskRefusal, choices_of, state_after, is_over, IsCallTransition, AreDrawn, IsKeptBit, IsJudged, IsKeptRefusal, session_of}
use Rattle.std.proofs.Common.{length-set}
use Rattle.std.specs.Option.{option_map}
use Rattle.bp_machine.specs.declared.calls.AskError.{AskError}
use Rattle.bp_machine.specs.declared.calls.AskError.TheVariants.{NoThread, Terminated, Seeded, Unseeded, Memory, Busy}
use Rattle.bp_machine.proofs.StandsAfterTransition.{seeded-append, choices_after, allowed, stands_after, call_step}
use Rattle.bp_machine.proofs.SessionsInOrder.{still_stands, stays_in_order, still_judged, few_calls}

module _ (t : Program) (s : SetupOf) (x : State) (h : List Call) (stands : StandsAfter t s x h) (i : ℕ)
    (guest : GuestThreadOf) (has : slice_get x.threads i ≡ Some guest) where
  -- the session's thread tells whether the thread has terminated
  pub over_is : is_over s guest ≡ is_terminated s h i
  over_is =
      let shown = stands.thread i guest has in
      ap (λ b. b || nat_le s.calls guest.calls) shown.ended ∙ ap (λ n. ends_with_last (calls_of_thread i h) || nat_le s.calls n) shown.calls

  pub within_threads : i < threads s
  within_threads = omega (arith, slice_get_within x.threads i guest has, stands.thread_count)

  still_live : is_over s guest ≡ false → is_terminated s h i ≡ false
  still_live goes_on = sym over_is ∙ goes_on

-- a session has choices of a thread if and only if its setup has a seed
module _ (s : SetupOf) (choices : List ChoicesOf) (count : length choices ≡ choices_of s) (i : ℕ) where
  count_at : (seed : Option ℕ) → s.seed ≡ seed → length choices ≡ cond (is_some seed) (threads s) 0
  count_at seed e = count ∙ ap (λ o. cond (is_some o) (threads s) 0) e

  pub has_seed : (c : ChoicesOf) → slice_get choices i ≡ Some c → (seed : ℕ) × (s.seed ≡ Some seed)
  has_seed c at = go s.seed refl
    where
      go : (o : Option ℕ) → s.seed ≡ o → (seed : ℕ) × (s.seed ≡ Some seed)
      go (Some seed) e = (seed, e)
      go None e = absurd (omega (arith, slice_get_within choices i c at, count_at None e))

  pub no_seed : i < threads s → slice_get choices i ≡ None → s.seed ≡ None
  no_seed within none = go s.seed refl
    where
      past : ((y : ChoicesOf) × (i < length choices) × (slice_get choices i ≡ Some y) × (get_or choices i y ≡ y))
          ⊎ ((length choices ≤ i) × (slice_get choices i ≡ None)) → length choices ≤ i
      past (inl (y, inside, has, is)) = let a = has in let b = none in absurd cc
      past (inr (is, has)) = is

      go : (o : Option ℕ) → s.seed ≡ o → s.seed ≡ None
      go o given1 = search (rules, slice_get_cases, count_at)

is_some_of : {X : Type 0} (o : Option X) (y : X) → o ≡ Some y → is_some o ≡ true
is_some_of o y e = ap is_some e

module _ (t : Program) (x : SessionOf) (h : List Call) (stands : Stands t x h)
    (count : length x.choices ≡ choices_of x.setup) (i : ℕ) (given : Option Bool) where
  abbrev s : SetupOf
  s = x.setup

  abbrev state : State
  state = x.machine.state

  is_live_thread : (guest : GuestThreadOf) → slice_get state.threads i ≡ Some guest → is_over s guest ≡ false → IsLiveThread s h i
  is_live_thread guest given1 given2 = search (rules, within_threads, still_live)

  -- why a session refuses an attempt is why it is refused after the history
  pub refused_after : (e : AskError) → IsKeptRefusal x i given e → IsAskRefusal t s h i given e
  refused_after NoThread none = there (slice_get_cases state.threads i).1
    where
      there : ((y : GuestThreadOf) × (i < length state.threads) × (slice_get state.threads i ≡ Some y)
          × (get_or state.threads i y ≡ y)) ⊎ ((length state.threads ≤ i) × (slice_get state.threads i ≡ None))
          → threads s ≤ i
      there (inl (y, inside, has, is)) = let a = has in let b = none in absurd cc
      there (inr (past, is)) = omega (arith, past, stands.state.thread_count)
  refused_after Terminated over = search (rules, within_threads, over_is)
  refused_after Seeded (goes_on, ((c, has), (bit, is))) = search (rules, has_seed, is_live_thread, is_some_of)
  refused_after Unseeded (goes_on, (none, is)) = search (rules, is_live_thread, no_seed)
  refused_after Memory never = absurd never
  refused_after Busy never = absurd never

  -- the bit that a session gives an attempt is the one that it has to have
  bit_of : (given : Option Bool) (bit : Bool) → i < threads s → IsKeptBit x.choices i given bit → IsBitOfCall s h i given bit
  bit_of given bit given1 given2 = grind (arith, no_seed, has_seed)

  module _ (alike : StepsAlike x.code t) (p : Judged) (judged : IsJudged x i given p) where
    line_of : IsLiveThread s h i
    line_of = let next = judged.transition in is_live_thread next.guest next.has next.goes_on

    -- the attempt that was judged is the next attempt
    pub judged_next : IsNextCall t s h i given p.call
    judged_next = search (rules, allowed, line_of, bit_of)

    -- memory may be refused only if its step is a call
    pub refused_for_memory : IsCallTransition p.transition → IsAskRefusal t s h i given Memory
    refused_for_memory call =
        let next = judged.transition in
        let step = call_step x.code t alike s state h stands.state i next.guest next.has line_of.0 line_of.1 p.call.bit p.transition call next.is in
        (line_of, (p.call.bit, bit_of given p.call.bit line_of.0 judged.bit, step))

-- the session stands after the history with the attempt that was made
module _ (t : Program) (x : SessionOf) (h : List Call) (stands : Stands t x h) (count : length x.choices ≡ choices_of x.setup) (alike : StepsAlike x.code t)
    (p : Judged) (given : Option Bool) (judged : IsJudged x p.call.thread given p)
    (y : State) (made : y ≡ state_after x.machine.state p.call.thread judged.transition.guest p.transition)
    (choices : List ChoicesOf) (drawn : AreDrawn p.call.thread x.choices choices) where
  abbrev i : ℕ
  i = p.call.thread

  state_stands : StandsAfter t x.setup y (h ++ p.call ∷ [])
  state_stands =
      let next = judged.transition in
      let line = judged_next t x h stands count i given alike p judged in
      let after = stands_after x.code t alike x.setup x.machine.state h stands.state i next.guest next.has
      line.allowed.thread line.allowed.still_live p.call.bit p.transition next.is in
      subst (λ z. StandsAfter t x.setup z (h ++ p.call ∷ [])) (sym made)
      (subst (λ r. StandsAfter t x.setup (state_after x.machine.state i next.guest p.transition)
      (h ++ record { thread = i; bit = p.call.bit; reply = r } ∷ [])) (sym judged.reply) after)

  -- with a seed, the attempt has its bit
  call_bit : (seed : ℕ) → x.setup.seed ≡ Some seed → (given : Option Bool) → IsBitOfCall x.setup h i given p.call.bit
      → p.call.bit ≡ choice_bit seed i (length (calls_of_thread i h))
  call_bit seed given1 given given2 = grind (arith)

  pub stands_with_call : (machine : MachineOf) → machine.state ≡ y
      → Stands t (record { code = x.code; setup = x.setup; machine = machine; choices = choices }) (h ++ p.call ∷ [])
  stands_with_call machine is = record {
    state = subst (λ z. StandsAfter t x.setup z (h ++ p.call ∷ [])) (sym is) state_stands;
    seeded = λ seed e.
        seeded-append seed h p.call (stands.seeded seed e) (call_bit seed e given (judged_next t x h stands count i given alike p judged).bit);
    choices = λ seed j c e at. choices_after seed h p.call x.choices choices drawn (λ k d. stands.choices seed k d e) j c at;
  }

same_thread_count : (x : State) (i : ℕ) (guest : GuestThreadOf) (v : Transition) → length (state_after x i guest v).threads ≡ length x.threads
same_thread_count x i guest v = search (rules, length-set)

-- a session in order is in order with the attempt that was made
pub still_in_order : (x y : SessionOf) (i : ℕ) (guest : GuestThreadOf) (v : Transition)
    → y.code ≡ x.code → y.setup ≡ x.setup → y.machine.state ≡ state_after x.machine.state i guest v → length y.choices ≡ length x.choices
    → IsInOrder x
    → ((h : List Call) → Stands x.code.tree x h → (g : List Call) × Stands x.code.tree y g)
    → IsInOrder y
still_in_order x y i guest v code setup made count order goes_on = record {
  range = subst IsInRange (sym setup) order.range;
  thread_count = ap (λ (z : State). length z.threads) made ∙ same_thread_count x.machine.state i guest v ∙ order.thread_count ∙ ap threads (sym setup);
  choice_count = count ∙ order.choice_count ∙ ap choices_of (sym setup);
  stands = ∥∥₁_map order.stands next;
}
  where
    next : (h : List Call) × Stands x.code.tree x h → (h : List Call) × Stands y.code.tree y h
    next (h, stands) = let later = goes_on h stands in (later.0, subst (λ c. Stands c.tree y later.0) (sym code) later.1)

-- one more line of those that were counted
pub count_more : (t : Program) (s : SetupOf) (x : State) (h : List Call) (stands : StandsAfter t s x h) (i : ℕ)
    (guest : GuestThreadOf) → slice_get x.threads i ≡ Some guest
    → (over : Bool) → over ≡ is_over s guest → (count : ℕ) → count ≡ live_below i s h → cond over count (count + 1) ≡ live_below (i + 1) s h
count_more t s x h stands i guest given1 over given2 count given3 = search (rules, over_is, add-one)

-- the bit of a global, if its names stand for the bits of a word
named_at : (gs : List Name) (bits : Bits) (n : ℕ) → n < length gs → option_map (λ (e : List ℕ × Bool). e.1) (slice_get (valuation_of gs bits) n) ≡ Some (bits n)
named_at [] bits n h = absurd (omega arith)
named_at (g ∷ gs) bits zero h = refl
named_at (g ∷ gs) bits (suc n) h = named_at gs (λ k. bits (suc k)) n (omega arith)

named_past : (gs : List Name) (bits : Bits) (n : ℕ) → length gs ≤ n → option_map (λ (e : List ℕ × Bool). e.1) (slice_get (valuation_of gs bits) n) ≡ None
named_past [] bits n h = refl
named_past (g ∷ gs) bits zero h = absurd (omega arith)
named_past (g ∷ gs) bits (suc n) h = named_past gs (λ k. bits (suc k)) n (omega arith)

module _ (t : Program) (c : Flat) (s : SetupOf) (x : State) (h : List Call) (is : StandsFor c t) (stands : StandsAfter t s x h) (n : ℕ) where
  pub global_here : n < c.globals → Some (bits_of x.globals n) ≡ option_map (λ (e : List ℕ × Bool). e.1) (slice_get (configuration_after t s h).globals n)
  global_here given1 = search (rules, named_at)

  pub no_global : c.globals ≤ n → None ≡ option_map (λ (e : List ℕ × Bool). e.1) (slice_get (configuration_after t s h).globals n)
  no_global given1 = search (rules, named_past)

-- A judged attempt may be made at once; the session then stands after the history with it.

module _ (c : Flat) (s : SetupOf) (machine later : MachineOf) (same : later.state ≡ machine.state) (choices : List ChoicesOf)
    (i : ℕ) (given : Option Bool) (p : Judged) (order : IsInOrder (session_of c s machine choices))
    (judged : IsJudged (session_of c s machine choices) i given p) where
  -- the session that has room for the call
  abbrev x : SessionOf
  x = session_of c s later choices

  now_judged : IsJudged x p.call.thread given p
  now_judged = still_judged c s machine later same choices i given p judged

  in_order : IsInOrder x
  in_order = stays_in_order c s machine later same choices order

  pub thread_is : p.call.thread ≡ i
  thread_is = judged.thread

  pub within : i < length later.state.threads
  within = search (rules, now_judged, thread_is, slice_get_within)

  own : (guest : GuestThreadOf) → slice_get later.state.threads i ≡ Some guest → now_judged.transition.guest ≡ guest
  own guest given1 = grind (arith)

  pub few : (guest : GuestThreadOf) → slice_get later.state.threads i ≡ Some guest → guest.calls + 1 < 2 ^ 32
  few guest has = few_calls s in_order.range guest (ap (λ g. is_over s g) (sym (own guest has)) ∙ now_judged.transition.goes_on)

  module _ (now : MachineOf) (made : (guest : GuestThreadOf) → slice_get later.state.threads i ≡ Some guest
      → now.state ≡ state_after later.state i guest p.transition)
      (drawn : List ChoicesOf) (are : AreDrawn i choices drawn) where
    abbrev y : SessionOf
    y = session_of c s now drawn

    made_is : now.state ≡ state_after later.state p.call.thread now_judged.transition.guest p.transition
    made_is = grind (arith)

    drawn_are : AreDrawn p.call.thread choices drawn
    drawn_are = subst (λ j. AreDrawn j choices drawn) (sym thread_is) are

    stands_from : (t : Program) (h : List Call) → StepsAlike c t → Stands t x h → Stands t y (h ++ p.call ∷ [])
    stands_from t h alike stands = stands_with_call t x h stands in_order.choice_count alike p given now_judged now.state made_is drawn drawn_are now refl

    pub made_stands : (t : Program) (h : List Call) → StepsAlike c t → Stands t (session_of c s machine choices) h → Stands t y (h ++ p.call ∷ [])
    made_stands t h alike stands = stands_from t h alike (still_stands c s machine later same choices t h stands)

    pub made_in_order : StepsAlike c c.tree → IsInOrder y
    made_in_order alike =
        still_in_order x y p.call.thread now_judged.transition.guest p.transition refl refl made_is drawn_are.count
        in_order (λ h stands. (_, stands_from c.tree h alike stands))
