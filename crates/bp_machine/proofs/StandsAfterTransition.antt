-- A session that stands after a history stands after it with the attempt that it returns.
use Rattle.bp_machine.proofs.Common.{◌≡◌, ℕ, ◌+◌, ◌<◌, Bool, true, false, cond, nat_le, List, [], ◌∷◌, ◌++◌, length, Some, refl, ap, sym, ◌∙◌, subst, arith, suc, ◌/◌, add-one, ◌⊎◌, zero, inl, inr, slice_get, slice_set, unwrap_or, length-append, rules, Lcg, started, increment_of, multiplier_64, pcg32, slice_get_within, slice_get_cases, Program, Frame, Configuration, after_effect, Flat, ShowsStack, StepsAlike, Effect, Continues, Enters, Returns, Reply, Stopped, Failed, Stepped, Call, Transition, Stays, Fails, Steps, used_with, count_with, IsCountOf, State, activations, StandsAfter, GuestThreadOf, IsCallStep, SetupOf, threads, is_granted, stack_of, reply_on_stack, configuration_after_step, configuration_after, granted_threads, is_terminated, IsAllowed, is_failure, ChoicesOf, IsAt, choice_word, choice_bit, calls_of_thread, IsSeeded, IsTransition, reply_of_transition, thread_after, state_after, stack_after, IsEntering, IsCallTransition, AreDrawn, ActivationRecord}
use Rattle.std.proofs.Common.{length-set, append-nil, get_or-set_same, get_or-set_other}
use Rattle.bp_flat.specs.declared.effects.Effect.TheVariants as instr
use Rattle.bp_machine.specs.Histories.{generator_after}
use Rattle.bp_machine.proofs.HistoryWithCall.{same_outcome, stepped_outcome, failed_outcome, configuration_after-append, granted_threads-append, advance, calls_of_thread-same, calls_of_thread-other, same_or_not}
use Rattle.bp_machine.proofs.ContextCounts.{counts_more, fits_with}
use Rattle.bp_machine.proofs.TransitionIsAnswer.{IsAnswer, answer_of}
use Rattle.bp_machine.proofs.EffectSizes.{shown_length, is_a_call}

module _ (c : Flat) (t : Program) (alike : StepsAlike c t) (s : SetupOf) (x : State) (h : List Call) (stands : StandsAfter t s x h)
    (i : ℕ) (guest : GuestThreadOf) (has : slice_get x.threads i ≡ Some guest) (within : i < threads s)
    (still_live : is_terminated s h i ≡ false) (bit : Bool) where
  abbrev call_of : Reply → Call
  call_of r = record { thread = i; bit = bit; reply = r }

  abbrev now : Configuration
  now = configuration_after t s h

  abbrev fits : Bool
  fits = nat_le (used_with x.contexts i) s.contexts

  one_more : IsCountOf (count_with x.contexts i) (granted_threads h ++ i ∷ [])
  one_more = counts_more x.contexts (granted_threads h) i stands.contexts

  module _ (v : Transition) (is : IsTransition c.instructions x s.contexts i guest bit v) where
    answer : IsAnswer t now.globals (is_failure x.outcome) (stack_of now i) fits bit x.globals guest.stack v
    answer =
        answer_of c t alike bit x.globals now.globals stands.globals (is_failure x.outcome) guest.stack
        (stack_of now i) fits v (stands.thread i guest has).stack is

    pub allowed : IsAllowed t s h (call_of (reply_of_transition v))
    allowed = record {
      thread = within;
      still_live = still_live;
      answers = record {
        fits = fits;
        decides = fits_with x.contexts (granted_threads h) i stands.contexts s.contexts;
        is = ap (λ b. cond b (Some Stopped) (reply_on_stack t fits now.globals (stack_of now i) bit)) stands.failed ∙ answer.reply;
      };
    }

  -- the sizes of the stacks before and after the step of a call
  sizes : (cal loc m : ℕ) (own : List ActivationRecord) (f : Frame) (fs stack : List Frame) → ShowsStack t (activations own) (f ∷ fs)
      → ShowsStack t (activations (stack_after (Enters cal m loc) own)) stack → length stack ≡ length fs + 2
  sizes cal loc m own f fs stack given1 given2 = search (rules, shown_length)

  -- the step of a call is a granted step at a call statement
  pub enters : (cal loc m : ℕ) → IsTransition c.instructions x s.contexts i guest bit (Steps (Enters cal m loc)) → IsCallStep t s h i bit
  enters cal loc m is =
      let a = answer (Steps (Enters cal m loc)) is in
      let (going, f, fs, stack_is, told) = a.comes in
      let (g, stack, effect_is, worth, shown) = told in
      let shows = subst (λ S. ShowsStack t (activations guest.stack) S) stack_is (stands.thread i guest has).stack in
      record {
        frame = f;
        below = fs;
        stack = stack_is;
        calls = is_a_call t.procedures now.globals f fs bit f.left g stack effect_is (sizes cal loc m guest.stack f fs stack shows shown);
        steps = (allowed (Steps (Enters cal m loc)) is).answers;
      }

  pub call_step : (v : Transition) → IsCallTransition v → IsTransition c.instructions x s.contexts i guest bit v → IsCallStep t s h i bit
  call_step (Stays r) call is = absurd call
  call_step Fails call is = absurd call
  call_step (Steps d) call is = by_effect d call is
    where
      by_effect : (d : Effect) → IsEntering d → IsTransition c.instructions x s.contexts i guest bit (Steps d) → IsCallStep t s h i bit
      by_effect (Enters cal m loc) call is = enters cal loc m is
      by_effect (Continues m w) call is = absurd call
      by_effect Returns call is = absurd call
      by_effect instr.Fails call is = absurd call
      by_effect instr.Blocks call is = absurd call

  stays : (r : Reply) → IsTransition c.instructions x s.contexts i guest bit (Stays r) → StandsAfter t s (state_after x i guest (Stays r)) (h ++ call_of r ∷ [])
  stays r is =
      let a = answer (Stays r) is in
      let none : is_granted r ≡ false = a.comes in
      let same_after =
      configuration_after-append t s h (call_of r)
      ∙ ap (λ b. cond b (unwrap_or (configuration_after_step t now i bit (stack_of now i)) now) now) none in
      let same_granted = granted_threads-append h (call_of r) ∙ ap (λ b. granted_threads h ++ cond b (i ∷ []) []) none ∙ append-nil (granted_threads h) in
      advance t s x h stands i guest has (call_of r) (thread_after guest (Stays r)) (state_after x i guest (Stays r)) now
      (record {
        thread = refl;
        allowed = allowed (Stays r) is;
        calls = refl;
        ended = refl;
        guests = refl;
        after_is = same_after;
        globals = stands.globals;
        failed = stands.failed;
        outcome = stands.outcome ∙ same_outcome h (call_of r) none;
        stacks = stands.stacks;
        stack = (stands.thread i guest has).stack;
        others = λ j n. refl;
        contexts = subst (λ g. IsCountOf x.contexts g) (sym same_granted) stands.contexts;
      })

  fails : IsTransition c.instructions x s.contexts i guest bit Fails → StandsAfter t s (state_after x i guest Fails) (h ++ call_of Failed ∷ [])
  fails is =
      let a = answer Fails is in
      let (going, f, fs, stack_is, effect_is) = a.comes in
      let d : Configuration = record now { failed = true } in
      let moves_on = ap (λ S. unwrap_or (configuration_after_step t now i bit S) now) stack_is ∙ ap (λ e. unwrap_or (after_effect now i e) now) effect_is in
      advance t s x h stands i guest has (call_of Failed) (thread_after guest Fails) (state_after x i guest Fails) d
      (record {
        thread = refl;
        allowed = allowed Fails is;
        calls = refl;
        ended = refl;
        guests = refl;
        after_is = configuration_after-append t s h (call_of Failed) ∙ moves_on;
        globals = stands.globals;
        failed = refl;
        outcome = failed_outcome h (call_of Failed) refl (ap is_failure (sym stands.outcome) ∙ going);
        stacks = stands.stacks;
        stack = (stands.thread i guest has).stack;
        others = λ j n. refl;
        contexts = subst (λ g. IsCountOf (count_with x.contexts i) g) (sym (granted_threads-append h (call_of Failed))) one_more;
      })

  takes : (d : Effect) → IsTransition c.instructions x s.contexts i guest bit (Steps d)
      → StandsAfter t s (state_after x i guest (Steps d)) (h ++ call_of Stepped ∷ [])
  takes d is =
      let a = answer (Steps d) is in
      let (going, f, fs, stack_is, reply_to_effect) = a.comes in
      let (g, stack, effect_is, worth, shown) = reply_to_effect in
      let after_it : Configuration = record { globals = g; stacks = slice_set now.stacks i stack; failed = false } in
      let moves_on = ap (λ S. unwrap_or (configuration_after_step t now i bit S) now) stack_is ∙ ap (λ e. unwrap_or (after_effect now i e) now) effect_is in
      let inside : i < length now.stacks = omega (arith, stands.stacks, within) in
      advance t s x h stands i guest has (call_of Stepped) (thread_after guest (Steps d)) (state_after x i guest (Steps d)) after_it
      (record {
        thread = refl;
        allowed = allowed (Steps d) is;
        calls = refl;
        ended = refl;
        guests = refl;
        after_is = configuration_after-append t s h (call_of Stepped) ∙ moves_on;
        globals = worth;
        failed = sym going;
        outcome = stands.outcome ∙ stepped_outcome h (call_of Stepped) refl;
        stacks = length-set now.stacks i stack ∙ stands.stacks;
        stack = subst (λ S. ShowsStack t (activations (stack_after d guest.stack)) S) (sym (get_or-set_same now.stacks i stack [] inside)) shown;
        others = λ j n. get_or-set_other now.stacks i j stack [] n;
        contexts = subst (λ g. IsCountOf (count_with x.contexts i) g) (sym (granted_threads-append h (call_of Stepped))) one_more;
      })

  pub stands_after : (v : Transition) → IsTransition c.instructions x s.contexts i guest bit v
      → StandsAfter t s (state_after x i guest v) (h ++ record { thread = i; bit = bit; reply = reply_of_transition v } ∷ [])
  stands_after (Stays r) is = stays r is
  stands_after Fails is = fails is
  stands_after (Steps d) is = takes d is

-- Drawing a word of choices advances to the next 32 bits.

word_after : (seed thread k : ℕ) → generator_after seed thread (suc k) ≡ (pcg32 (generator_after seed thread k)).1
unfolding generator_after
word_after seed thread k = refl

pub at_next_word : (seed thread n : ℕ) (x : ChoicesOf) → IsAt x seed thread n → x.place ≡ 31 → (word : ℕ) (g : Lcg) → (word, g) ≡ pcg32 x.generator
    → IsAt (record { word = word; place = 0; generator = g }) seed thread (n + 1)
at_next_word seed thread n x stands last word g drawn =
    let place = stands.place in
    let later : n / 32 + 1 ≡ (n + 1) / 32 = omega arith in
    let from = ap pcg32 stands.generator in
    record {
      word = ap (λ p. p.0) (drawn ∙ from) ∙ ap (choice_word seed thread) later;
      place = omega arith;
      generator =
          ap (λ p. p.1) (drawn ∙ from) ∙ sym (word_after seed thread (n / 32 + 1))
          ∙ ap (generator_after seed thread) (sym (add-one (n / 32 + 1)) ∙ ap (λ k. k + 1) later);
    }

start_is : (seed thread : ℕ) → generator_after seed thread 0 ≡ started 64 multiplier_64 seed (increment_of 64 (54 + thread))
unfolding generator_after
start_is seed thread = refl

pub at_first_word : (seed thread word : ℕ) (g : Lcg) → (word, g) ≡ pcg32 (started 64 multiplier_64 seed (increment_of 64 (54 + thread)))
    → IsAt (record { word = word; place = 0; generator = g }) seed thread 0
at_first_word seed thread word g given1 = search (rules, start_is, word_after)

-- A seeded history is seeded with one more attempt that has the seed's bit, and so are the choices
-- after it.

-- an item of a list with one more is an item of the list, or the last
pub at_end : {X : Type 0} (xs : List X) (x y : X) (n : ℕ) → slice_get (xs ++ x ∷ []) n ≡ Some y → (slice_get xs n ≡ Some y) ⊎ ((n ≡ length xs) × (x ≡ y))
at_end [] x y zero e = inr (refl, cc)
at_end [] x y (suc n) e = absurd cc
at_end (z ∷ zs) x y zero e = inl e
at_end (z ∷ zs) x y (suc n) e = elim (at_end zs x y n e) [ inl found ↦ inl found | inr last ↦ inr (ap suc last.0, last.1) ]

module _ (seed : ℕ) (h : List Call) (x : Call) (seeded : IsSeeded seed h) (is : x.bit ≡ choice_bit seed x.thread (length (calls_of_thread x.thread h))) where
  own_bit : (i n : ℕ) (y : Call) → x.thread ≡ i → slice_get (calls_of_thread i (h ++ x ∷ [])) n ≡ Some y → y.bit ≡ choice_bit seed i n
  own_bit i n y given1 given2 = grind (arith, calls_of_thread-same, at_end)

  pub seeded-append : IsSeeded seed (h ++ x ∷ [])
  seeded-append = search (rules, same_or_not, own_bit, calls_of_thread-other)

module _ (seed : ℕ) (h : List Call) (x : Call) (old new : List ChoicesOf) (drawn : AreDrawn x.thread old new)
    (stand : (i : ℕ) (c : ChoicesOf) → slice_get old i ≡ Some c → IsAt c seed i (length (calls_of_thread i h))) where
  own_choices : (i : ℕ) (c : ChoicesOf) → i ≡ x.thread → slice_get new i ≡ Some c → IsAt c seed i (length (calls_of_thread i (h ++ x ∷ [])))
  own_choices i c same at = elim (slice_get_cases old i).1 [
    | inl there ↦
        let count = ap length (calls_of_thread-same h x i (sym same)) ∙ length-append (calls_of_thread i h) (x ∷ []) in
        let found = ap (slice_get old) (sym same) ∙ there.2 in
        let now = drawn.own there.0 c seed i (length (calls_of_thread i h)) found (ap (slice_get new) (sym same) ∙ at) (stand i there.0 there.2) in
        subst (λ n. IsAt c seed i n) (sym count) now
    | inr past ↦ absurd (let within = slice_get_within new i c at in omega (arith, within, past.0, drawn.count))
  ]

  pub choices_after : (i : ℕ) (c : ChoicesOf) → slice_get new i ≡ Some c → IsAt c seed i (length (calls_of_thread i (h ++ x ∷ [])))
  choices_after i c given1 = grind (arith, same_or_not, own_choices, calls_of_thread-other)
