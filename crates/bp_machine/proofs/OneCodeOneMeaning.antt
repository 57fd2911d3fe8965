-- Programs of one code have the same legal histories and printed rows: each of them does what the
-- code does.
use Rattle.bp_machine.proofs.Common.{◌≡◌, ◌≢◌, ℕ, zero, suc, ◌+◌, ◌<◌, ◌==◌, ◌&&◌, nat_le, not, Bool, true, false, cond, List, [], ◌∷◌, ◌++◌, length, map, get_or, Option, None, Some, refl, ap, sym, ◌∙◌, subst, arith, inl, inr, slice_get, slice_set, option_map, unwrap_or, rules, option_to_list, get_or-set_same, get_or-set_other, get_or_past, cases_lt, nat_tests, Block, Procedure, Program, Frame, Configuration, is_call, first_stack, procedure_named, StatementEffect, Leaves, Blocks, Misses, effect, after_effect, Flat, Instruction, Bits, Activation, InstructionEffect, bits_from, step, StandsFor, Does, valuation_of, places_of, ShowsStack, SameEffect, Reply, Stopped, Ended, NoContexts, Full, Blocked, Failed, Stepped, MAX_FRAMES, is_granted, stack_of, reply_to_effect, reply_on_stack, reply_of, configuration_after_step, configuration_after_call, configuration_after, IsLegalAfter, IsLegal, first_thread, activations, SetupOf, start, entries_error, entry_error, Fits, rows_of_call, rows_after, printed_rows}
use Rattle.bp_flat.specs.Moves.{Fails}
use Rattle.bp_flat.specs.Flat.{Call}
use Rattle.bp_flat.proofs.StandsForStepsAlike.{steps_alike}
use Rattle.bp_machine.specs.declared.calls.Call as calls
use Rattle.bp_machine.proofs.EffectSizes.{shown_length}
use Rattle.bp_machine.proofs.HistoryWithCall.{configuration_after-append}
use Rattle.bp_machine.proofs.PrintsAlike.{printed_here, printed_alike}
use Rattle.bp_machine.proofs.SessionsInOrder.{bound_is, entry_fine, others_fine, shown}

-- ---- the steps of the code

pub record CodeState : Type 0 where
  pub globals : Bits
  pub stacks : ℕ → List Activation
  pub failed : Bool

-- an instruction is a call
abbrev pub is_call_at : Option Instruction → Bool
is_call_at (Some (Call c fs m)) = true
is_call_at o = false

abbrev pub reply_to_step : InstructionEffect → Option Reply
reply_to_step (Leaves g stack) = Some Stepped
reply_to_step Fails = Some Failed
reply_to_step Blocks = Some Blocked
reply_to_step Misses = None

module _ (code : List Instruction) where
  abbrev pub reply_here : Bool → Bits → List Activation → Bool → Option Reply
  reply_here fits g [] bit = Some Ended
  reply_here fits g (a ∷ below) bit =
      cond (not fits) (Some NoContexts)
      (cond (is_call_at (slice_get code a.number) && nat_le MAX_FRAMES (length (a ∷ below))) (Some Full) (reply_to_step (step code g a below bit)))

  abbrev pub state_after_effect : CodeState → ℕ → InstructionEffect → CodeState
  state_after_effect z i (Leaves b stack) = record { globals = b; stacks = λ j. cond (j == i) stack (z.stacks j); failed = false }
  state_after_effect z i Fails = record z { failed = true }
  state_after_effect z i e = z

  abbrev pub state_after_step : CodeState → ℕ → Bool → List Activation → CodeState
  state_after_step z i bit [] = z
  state_after_step z i bit (a ∷ below) = state_after_effect z i (step code z.globals a below bit)

  abbrev pub state_after_call : CodeState → calls.Call → CodeState
  state_after_call z x = cond (is_granted x.reply) (state_after_step z x.thread x.bit (z.stacks x.thread)) z

-- ---- a configuration of a program that the code shows

pub record Shows (t : Program) (z : CodeState) (k : Configuration) : Type 0 where
  pub globals : k.globals ≡ valuation_of t.globals z.globals
  pub stack : (i : ℕ) → ShowsStack t (z.stacks i) (stack_of k i)
  pub failed : k.failed ≡ z.failed

module _ (t : Program) (table : List Rattle.bp_flat.specs.StandsFor.Place) (p : Procedure) where
  call_alike : (left : Block) (i : Instruction) → Does t table p left i → is_call left ≡ is_call_at (Some i)
  call_alike left i given1 = grind (arith)

reply_alike : (t : Program) (o : InstructionEffect) (e : StatementEffect) → SameEffect t o e → reply_to_effect e ≡ reply_to_step o
reply_alike t o e given1 = grind (arith)

-- a thread with frames is there
there : (stacks : List (List Frame)) (i : ℕ) (f : Frame) (fs : List Frame) → get_or stacks i [] ≡ f ∷ fs → i < length stacks
there stacks i f fs is = elim (cases_lt i (length stacks)) [ inl within ↦ within | inr past ↦ absurd (none (sym (get_or_past stacks i [] past) ∙ is)) ]
  where
    none : [] ≡ f ∷ fs → ⊥
    none e = cc

module _ (c : Flat) (t : Program) (st : StandsFor c t) (z : CodeState) (k : Configuration) (shows : Shows t z k) where
  same_effect : (a : Activation) (below : List Activation) (f : Frame) (fs : List Frame) (bit : Bool) → ShowsStack t (a ∷ below) (f ∷ fs)
      → SameEffect t (step c.instructions z.globals a below bit) (effect t.procedures f.left k.globals f fs bit)
  same_effect a below f fs bit shown = rw shows.globals (steps_alike c t st z.globals a below f fs bit shown.0 shown.1)

  reply_on : (fits bit : Bool) (acts : List Activation) (frames : List Frame) → ShowsStack t acts frames
      → reply_on_stack t fits k.globals frames bit ≡ reply_here c.instructions fits z.globals acts bit
  reply_on fits bit [] [] shown = refl
  reply_on fits bit [] (f ∷ fs) shown = absurd shown
  reply_on fits bit (a ∷ below) [] shown = absurd shown
  reply_on fits bit (a ∷ below) (f ∷ fs) shown =
      let found = st.each a.number f.procedure f.left shown.0.left in
      let call : is_call f.left ≡ is_call_at (slice_get c.instructions a.number) =
      rw found.1 (call_alike t (places_of t.procedures) f.procedure f.left found.0 found.2) in
      let long : length (f ∷ fs) ≡ length (a ∷ below) = sym (shown_length t (a ∷ below) (f ∷ fs) shown) in
      let reply = reply_alike t (step c.instructions z.globals a below bit)
      (effect t.procedures f.left k.globals f fs bit) (same_effect a below f fs bit shown) in
      λ j. cond (not fits) (Some NoContexts) (cond (call j && nat_le MAX_FRAMES (long j)) (Some Full) (reply j))

  pub reply_is : (fits : Bool) (i : ℕ) (bit : Bool)
      → reply_of t fits k i bit
      ≡ cond z.failed (Some Stopped) (reply_here c.instructions fits z.globals (z.stacks i) bit)
  reply_is fits i bit = λ j. cond (shows.failed j) (Some Stopped) (reply_on fits bit (z.stacks i) (stack_of k i) (shows.stack i) j)

  pub rows_are : (x : calls.Call) → rows_of_call k x ≡ cond (is_granted x.reply)
      (option_to_list (option_map (λ (vs : List Bool). record { thread = x.thread; values = vs })
      (printed_here c.instructions z.globals (z.stacks x.thread)))) []
  rows_are x =
      ap (λ o. cond (is_granted x.reply) (option_to_list (option_map (λ (vs : List Bool). record { thread = x.thread; values = vs }) o)) [])
      (printed_alike c t st k.globals z.globals shows.globals (z.stacks x.thread) (stack_of k x.thread) (shows.stack x.thread))

  module _ (i : ℕ) (within : i < length k.stacks) where
    stack_after_set : (stack : List Activation) (s : List Frame) → ShowsStack t stack s → (j : ℕ) (b : Bool) → (j == i) ≡ b
        → ShowsStack t (cond b stack (z.stacks j)) (get_or (slice_set k.stacks i s) j [])
    stack_after_set stack s shown j true e =
        let same : i ≡ j = grind (arith, nat_tests) in
        subst (λ n. ShowsStack t stack (get_or (slice_set k.stacks i s) n [])) same (rw (get_or-set_same k.stacks i s [] within) shown)
    stack_after_set stack s shown j false e =
        let other : j ≢ i = λ same. grind (arith, nat_tests) in
        rw (get_or-set_other k.stacks i j s [] other) (shows.stack j)

    after : (o : InstructionEffect) (e : StatementEffect) → SameEffect t o e
        → Shows t (state_after_effect c.instructions z i o) (unwrap_or (after_effect k i e) k)
    after (Leaves b stack) (Leaves g s) same =
        record { globals = same.0; stack = λ j. stack_after_set stack s same.1 j (j == i) refl; failed = refl }
    after (Leaves b stack) Fails same = absurd same
    after (Leaves b stack) Blocks same = absurd same
    after (Leaves b stack) Misses same = absurd same
    after Fails (Leaves g s) same = absurd same
    after Fails Fails same = record { globals = shows.globals; stack = shows.stack; failed = refl }
    after Fails Blocks same = absurd same
    after Fails Misses same = absurd same
    after Blocks (Leaves g s) same = absurd same
    after Blocks Fails same = absurd same
    after Blocks Blocks same = shows
    after Blocks Misses same = absurd same
    after Misses (Leaves g s) same = absurd same
    after Misses Fails same = absurd same
    after Misses Blocks same = absurd same
    after Misses Misses same = absurd same

  stepped : (i : ℕ) (bit : Bool) (acts : List Activation) (frames : List Frame) → frames ≡ stack_of k i → ShowsStack t acts frames
      → Shows t (state_after_step c.instructions z i bit acts) (unwrap_or (configuration_after_step t k i bit frames) k)
  stepped i bit [] [] is shown = shows
  stepped i bit [] (f ∷ fs) is shown = absurd shown
  stepped i bit (a ∷ below) [] is shown = absurd shown
  stepped i bit (a ∷ below) (f ∷ fs) is shown =
      after i (there k.stacks i f fs (sym is)) (step c.instructions z.globals a below bit)
      (effect t.procedures f.left k.globals f fs bit) (same_effect a below f fs bit shown)

  pub shows_after : (x : calls.Call) → Shows t (state_after_call c.instructions z x) (configuration_after_call t k x.thread x.bit x.reply)
  shows_after x = by_grant (is_granted x.reply)
    where
      by_grant : (b : Bool)
          → Shows t (cond b (state_after_step c.instructions z x.thread x.bit (z.stacks x.thread)) z)
          (cond b (unwrap_or (configuration_after_step t k x.thread x.bit (stack_of k x.thread)) k) k)
      by_grant true = stepped x.thread x.bit (z.stacks x.thread) (stack_of k x.thread) refl (shows.stack x.thread)
      by_grant false = shows

-- ---- the start

module _ (c : Flat) where
  abbrev pub activations_of : Option (List ℕ) → List Activation
  activations_of None = []
  activations_of (Some e) = activations (first_thread c e).stack

  abbrev pub first_state : SetupOf → CodeState
  first_state s = record { globals = bits_from s.init; stacks = λ i. activations_of (slice_get s.entries i); failed = false }

  first_stacks : (t : Program) (s : SetupOf) (is : StandsFor c t) (es : List (List ℕ)) (k : ℕ) → entries_error t k es ≡ None → (i : ℕ)
      → ShowsStack t (activations_of (slice_get es i)) (get_or (map (λ x. first_stack (procedure_named t.procedures x)) es) i [])
  first_stacks t s is [] k none i = tt
  first_stacks t s is (e ∷ es) k none zero = search (rules, entry_fine, shown)
  first_stacks t s is (e ∷ es) k none (suc i) = search (rules, (first_stacks t s is es (k + 1) (others_fine (entry_error k (procedure_named t.procedures e)) (entries_error t (k + 1) es) none) i), others_fine)

  pub shows_start : (t : Program) (s : SetupOf) → StandsFor c t → Fits t s → Shows t (first_state s) (start t s)
  shows_start t s is fits = record {
    globals = bound_is t.globals s.init;
    stack = first_stacks t s is s.entries 0 fits.entries;
    failed = refl;
  }

-- ---- two programs

module _ (c : Flat) (t u : Program) (st : StandsFor c t) (su : StandsFor c u) (s : SetupOf) where
  same_legal : (z : CodeState) (done rest : List calls.Call) → Shows t z (configuration_after t s done) → Shows u z (configuration_after u s done)
      → IsLegalAfter t s done rest → IsLegalAfter u s done rest
  same_legal z done [] one two legal = tt
  same_legal z done (x ∷ xs) one two (allowed, more) =
      let answers = allowed.answers in
      let reply =
      reply_is c u su z (configuration_after u s done) two answers.fits x.thread x.bit
      ∙ sym (reply_is c t st z (configuration_after t s done) one answers.fits x.thread x.bit) in
      let next = state_after_call c.instructions z x in (
        record {
          thread = allowed.thread;
          still_live = allowed.still_live;
          answers = record { fits = answers.fits; decides = answers.decides; is = reply ∙ answers.is };
        },
        same_legal next (done ++ x ∷ []) xs
            (subst (λ k. Shows t next k) (sym (configuration_after-append t s done x)) (shows_after c t st z (configuration_after t s done) one x))
            (subst (λ k. Shows u next k) (sym (configuration_after-append u s done x)) (shows_after c u su z (configuration_after u s done) two x)) more,
      )

  same_rows : (z : CodeState) (k l : Configuration) (h : List calls.Call) → Shows t z k → Shows u z l → rows_after t k h ≡ rows_after u l h
  same_rows z k l [] one two = refl
  same_rows z k l (x ∷ xs) one two =
      let here = rows_are c t st z k one x ∙ sym (rows_are c u su z l two x) in
      let later = same_rows (state_after_call c.instructions z x) _ _ xs (shows_after c t st z k one x) (shows_after c u su z l two x) in
      λ j. here j ++ later j

  pub one_meaning : ((v : Program) → StandsFor c v → Fits v s) → (h : List calls.Call) → IsLegal t s h → IsLegal u s h × (printed_rows t s h ≡ printed_rows u s h)
  one_meaning fits h legal =
      let one = shows_start c t s st (fits t st) in
      let two = shows_start c u s su (fits u su) in
      (same_legal (first_state c s) [] h one two legal, same_rows (first_state c s) (start t s) (start u s) h one two)
