-- The verdict of an attempt is the machine's reply.
use Rattle.bp_machine.proofs.Common.{◌≡◌, ℕ, ◌&&◌, Bool, true, false, cond, nat_le, List, [], ◌∷◌, length, Option, None, Some, refl, ap, sym, ◌∙◌, subst, arith, ◌<◌, get_or, slice_get, slice_set, option_map, rules, length-map, map-set, map-set_same, slice_get_read, slice_get-map, Program, bits_of, store_of, effect_of, Effect, Continues, Enters, Returns, Valuation, Frame, is_call, StatementEffect, Leaves, effect, Flat, Instruction, Activation, effect_at, valuation_of, ShowsStack, SameEffect, StepsAlike, Reply, Stopped, Full, ActivationRecord, Transition, Stays, Fails, Steps, MAX_FRAMES, is_granted, reply_to_effect, reply_on_stack, activation_of, activations, count_with, GuestThreadOf, KeptThread, guests, rooms, State, MachineOf, transition_of, IsTransitionAt, IsTransitionOn, IsTransitionUnless, reply_of_transition, stack_after, globals_after, thread_after, state_after, TransitionFitsIn, Outcome, ContextCount}
use Rattle.bp_flat.specs.declared.effects.Effect.TheVariants as instr
use Rattle.bp_flat.specs.Moves as moves
use Rattle.bp_machine.specs.Transitions.{HasRoom}
use Rattle.bp_machine.specs.declared.calls.Outcome.TheVariants.{Failed}
use Rattle.bp_machine.proofs.EffectSizes.{shown_length, same_leaves, same_lost, not_call, is_a_call}
use Rattle.bp_machine.proofs.HistoryWithCall.{set_same}

-- the effect of a verdict
abbrev pub Tells : Program → StatementEffect → ℕ → List ActivationRecord → Transition → Type 0
Tells t e gw stack (Stays r) = is_granted r ≡ false
Tells t e gw stack Fails = e ≡ moves.Fails
Tells t e gw stack (Steps d) =
    (g : Valuation) × (s : List Frame) × (e ≡ Leaves g s)
    × (g ≡ valuation_of t.globals (bits_of (globals_after gw (Steps d))))
    × ShowsStack t (activations (stack_after d stack)) s

not_full : (b full : Bool) (a c : Option Reply) → b ≡ false → cond (b && full) a c ≡ c
not_full b full a c e = ap (λ d. cond (d && full) a c) e

module _ (t : Program) (g : Valuation) (f : Frame) (fs : List Frame) (bit : Bool) (gw : ℕ) (top : ActivationRecord)
    (rest : List ActivationRecord) (shows : ShowsStack t (activations rest) fs) where
  pub record Answered (full : Bool) (v : Transition) : Type 0 where
    pub reply : cond (is_call f.left && full) (Some Full) (reply_to_effect (effect t.procedures f.left g f fs bit)) ≡ Some (reply_of_transition v)
    pub tells : Tells t (effect t.procedures f.left g f fs bit) gw (top ∷ rest) v

  below_length : length (activations rest) ≡ length fs
  below_length = shown_length t (activations rest) fs shows

  abbrev Same : Effect → Type 0
  Same d = SameEffect t (effect_of (record { globals = gw; locals = top.locals }) d (activations rest)) (effect t.procedures f.left g f fs bit)

  by_effect : (d : Effect) (full : Bool) → Same d → Answered full (transition_of d full)
  by_effect (Continues m w) full same =
      let stack : List Activation = record { number = m; locals = bits_of w.locals } ∷ activations rest in
      let (h, s, is, worth, shown) = same_leaves t (bits_of w.globals) stack (effect t.procedures f.left g f fs bit) same in
      let size = shown_length t stack s shown in
      let plain = not_call t.procedures g f fs bit f.left h s is (omega (arith, size, below_length)) in
      record { reply = not_full _ full _ _ plain ∙ ap reply_to_effect is; tells = (h, s, is, worth, shown) }
  by_effect Returns full same =
      let stack : List Activation = activations rest in
      let (h, s, is, worth, shown) = same_leaves t (bits_of gw) stack (effect t.procedures f.left g f fs bit) same in
      let size = shown_length t stack s shown in
      let plain = not_call t.procedures g f fs bit f.left h s is (omega (arith, size, below_length)) in
      record { reply = not_full _ full _ _ plain ∙ ap reply_to_effect is; tells = (h, s, is, worth, shown) }
  by_effect (Enters c m locals) true same =
      let stack : List Activation = record { number = c; locals = bits_of locals } ∷ record { number = m; locals = bits_of top.locals } ∷ activations rest in
      let (h, s, is, worth, shown) = same_leaves t (bits_of gw) stack (effect t.procedures f.left g f fs bit) same in
      let size = shown_length t stack s shown in
      let call = is_a_call t.procedures g f fs bit f.left h s is (omega (arith, size, below_length)) in
      record { reply = ap (λ b. cond (b && true) (Some Full) (reply_to_effect (effect t.procedures f.left g f fs bit))) call; tells = refl }
  by_effect (Enters c m locals) false same = grind (arith)
  by_effect instr.Fails full same = grind (arith)
  by_effect instr.Blocks full same = grind (arith)

-- A whole stack: the reply and the next configuration of the verdict.

-- the step of a thread with these frames, by its verdict
abbrev pub Comes : Program → Valuation → Bool → List Frame → Bool → ℕ → List ActivationRecord → Transition → Type 0
Comes t g failed S bit gw stack (Stays r) = is_granted r ≡ false
Comes t g failed S bit gw stack v =
    (failed ≡ false) × (f : Frame) × (fs : List Frame) × (S ≡ f ∷ fs) × Tells t (effect t.procedures f.left g f fs bit) gw stack v

pub record IsAnswer (t : Program) (g : Valuation) (failed : Bool) (S : List Frame) (fits bit : Bool) (gw : ℕ)
    (stack : List ActivationRecord) (v : Transition) : Type 0 where
  pub reply : cond failed (Some Stopped) (reply_on_stack t fits g S bit) ≡ Some (reply_of_transition v)
  pub comes : Comes t g failed S bit gw stack v

module _ (c : Flat) (t : Program) (alike : StepsAlike c t) (bit : Bool) (gw : ℕ) (g : Valuation) (worth : g ≡ valuation_of t.globals (bits_of gw)) where
  comes_of : (f : Frame) (fs : List Frame) (stack : List ActivationRecord) (v : Transition)
      → Tells t (effect t.procedures f.left g f fs bit) gw stack v → Comes t g false (f ∷ fs) bit gw stack v
  comes_of f fs stack v given1 = grind (arith)

  at_instruction : (a : ActivationRecord) (rest : List ActivationRecord) (f : Frame) (fs : List Frame) (v : Transition)
      → ShowsStack t (activations (a ∷ rest)) (f ∷ fs)
      → (o : Option Instruction)
      → SameEffect t (effect_at o (store_of (record { globals = gw; locals = a.locals })) (activations rest) bit)
      (effect t.procedures f.left g f fs bit)
      → IsTransitionAt c.instructions gw bit o a (nat_le MAX_FRAMES (length (a ∷ rest))) v → IsAnswer t g false (f ∷ fs) true bit gw (a ∷ rest) v
  at_instruction a rest f fs v shows None same is = absurd (same_lost t (effect t.procedures f.left g f fs bit) same)
  at_instruction a rest f fs v shows (Some i) same (d, effect_is, is) =
      let full = nat_le MAX_FRAMES (length (a ∷ rest)) in
      let sizes : length (a ∷ rest) ≡ length (f ∷ fs) = sym (length-map (a ∷ rest) activation_of) ∙ shown_length t (activations (a ∷ rest)) (f ∷ fs) shows in
      let told_is : SameEffect t (effect_of (record { globals = gw; locals = a.locals }) d (activations rest)) (effect t.procedures f.left g f fs bit) =
      rw (effect_is.each (activations rest)) same in
      let done = by_effect t g f fs bit gw a rest shows.1 d full told_is in
      subst (λ w. IsAnswer t g false (f ∷ fs) true bit gw (a ∷ rest) w) (sym is)
      (record {
        reply =
            ap (λ n. cond (is_call f.left && nat_le MAX_FRAMES n) (Some Full)
            (reply_to_effect (effect t.procedures f.left g f fs bit))) (sym sizes) ∙ done.reply;
        comes = comes_of f fs (a ∷ rest) (transition_of d full) done.tells;
      })

  pub on_stack : (stack : List ActivationRecord) (S : List Frame) (fits : Bool) (v : Transition)
      → ShowsStack t (activations stack) S → IsTransitionOn c.instructions gw bit fits stack v
      → IsAnswer t g false S fits bit gw stack v
  on_stack [] [] fits v shows is = subst (λ w. IsAnswer t g false [] fits bit gw [] w) (sym is) (record { reply = refl; comes = refl })
  on_stack [] (f ∷ fs) fits v shows is = absurd shows
  on_stack (a ∷ rest) [] fits v shows is = absurd shows
  on_stack (a ∷ rest) (f ∷ fs) false v shows is = grind (arith)
  on_stack (a ∷ rest) (f ∷ fs) true v shows is =
      let moved = alike (bits_of gw) (activation_of a) (activations rest) f fs bit shows.0 shows.1 in
      let done : SameEffect t (effect_at (slice_get c.instructions a.number)
      (store_of (record { globals = gw; locals = a.locals })) (activations rest) bit)
      (effect t.procedures f.left g f fs bit) =
      rw worth moved in
      at_instruction a rest f fs v shows (slice_get c.instructions a.number) done is

  pub answer_of : (failed : Bool) (stack : List ActivationRecord) (S : List Frame) (fits : Bool) (v : Transition) → ShowsStack t (activations stack) S
      → IsTransitionUnless c.instructions gw bit failed fits stack v → IsAnswer t g failed S fits bit gw stack v
  answer_of true stack S fits v shows is = grind (arith)
  answer_of false stack S fits v shows is = on_stack stack S fits v shows is

-- The thread of an attempt, found in the list of threads, and the state after the attempt.

-- a kept thread of a list, if the lists of its parts have it
pub guest_here : (ks : List KeptThread) (i : ℕ) (k : KeptThread) → i < length ks → k ≡ get_or ks i k → slice_get (guests ks) i ≡ Some k.guest
guest_here ks i k within is = slice_get-map (λ z. z.guest) ks i ∙ ap (option_map (λ z. z.guest)) (slice_get_read ks (length ks) i k refl within is)

pub room_here : (ks : List KeptThread) (i : ℕ) (k : KeptThread) → i < length ks → k ≡ get_or ks i k → slice_get (rooms ks) i ≡ Some k.room
room_here ks i k within is = slice_get-map (λ z. z.room) ks i ∙ ap (option_map (λ z. z.room)) (slice_get_read ks (length ks) i k refl within is)

pub counted : (m : MachineOf) (ks : List KeptThread) → guests ks ≡ m.state.threads → length ks ≡ length m.state.threads
counted m ks e = sym (length-map ks (λ k. k.guest)) ∙ ap length e

-- making room leaves the guests, and there is room
module _ (ks : List KeptThread) (i : ℕ) (at new : KeptThread) (within : i < length ks) (is : at ≡ get_or ks i at) where
  pub same_guests : new.guest ≡ at.guest → guests (slice_set ks i new) ≡ guests ks
  same_guests same = map-set_same (λ z. z.guest) ks i new at (same ∙ ap (λ z. z.guest) is)

  pub has_room : (v : Transition) → TransitionFitsIn new.room v → HasRoom (rooms (slice_set ks i new)) i v
  has_room v given1 = search (rules, set_same, slice_get_read, slice_get-map)

-- The parts of a machine, put together from its fields.
abbrev pub state : ℕ → List GuestThreadOf → ContextCount → Outcome → State
state g ls k f = record { globals = g; threads = ls; contexts = k; outcome = f }

module _ (x : State) (g : ℕ) (ks : List KeptThread) (k : ContextCount) (f : Outcome) (whole : state g (guests ks) k f ≡ x)
    (i : ℕ) (guest : GuestThreadOf) (at new : KeptThread) (v : Transition)
    (has : slice_get x.threads i ≡ Some guest) (within : i < length ks) (is : at ≡ get_or ks i at) (made : new.guest ≡ thread_after at.guest v) where
  same_guest : at.guest ≡ guest
  same_guest = search (rules, guest_here)

  threads_are : guests (slice_set ks i new) ≡ slice_set x.threads i (thread_after guest v)
  threads_are = search (rules, map-set, same_guest)

  pub stays_after : (r : Reply) → v ≡ Stays r → state g (guests (slice_set ks i new)) k f ≡ state_after x i guest v
  stays_after r given1 = search (rules, threads_are)

  pub fails_after : v ≡ Fails → (m : ContextCount) → m ≡ count_with k i → state g (guests (slice_set ks i new)) m (Failed i) ≡ state_after x i guest v
  fails_after given1 m given2 = search (rules, threads_are)

  pub steps_after : (d : Effect) → v ≡ Steps d → (m : ContextCount) → m ≡ count_with k i → (h : ℕ) → h ≡ globals_after g (Steps d)
      → state h (guests (slice_set ks i new)) m f ≡ state_after x i guest v
  steps_after d given1 m given2 h given3 = search (rules, threads_are)
