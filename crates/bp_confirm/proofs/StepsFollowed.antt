-- One more step that is followed, and one that is refused.
use Rattle.bp_confirm.proofs.Common.{◌≡◌, ◌∙◌, ℕ, Bool, List, ◌∷◌, false, Option, Some, ap, sym, subst, Bor, ◌<◌, ◌+◌, [], ◌++◌, length, take, drop, get_or, ◌≤◌, zero, suc, true, arith, slice_get, rules, option_copied, take_more, take-append-drop, append-nil, map_push, take_all, false≢true, length-take, drop_of_length-le, regrouped, Block, Procedure, Program, Configuration, Valuation, Flat, Instruction, StandsFor, Does, places_of, Top, stack_of, configuration_after, is_terminated, IsAllowed, is_granted, IsTop, Call, IsNextCall, given_bit, SetupOf, TellsNext, is_fork, is_fork_on, IsInferred, IsInferredOn, IsRefusedHere, IsNotTaken, refusal_of, source_points_of, StepOf, next_place, StepLineOf, step_of, steps_of, value_seen, IsFirstMismatch, SeesValues, IsStepOf, TakeAfter, Takes, IsClearOnStack, LastBits, some_follow, IsFollowed, bit_of_stack, IsAmbiguousOnStack, Follows, FollowAfter, Difference, StepReason, Elsewhere, Ambiguous, Finished, Refused, Differs, StepRefusal, IsDifference, GoesOnAt, StandsAtPlace, IsStuck, IsReason, ForStuck, IsStepRefusal, IsNotFollowed, SourcePoint}
use Rattle.bp_trace.specs.Replays.{IsPlayable}
use Rattle.bp_trace.proofs.PlayableFronts.{front, own_is}
use Rattle.bp_confirm.specs.Steps as point
use Rattle.bp_confirm.specs.declared.choices.Inferred.{Inferred}
use Rattle.bp_confirm.specs.declared.choices.Next.{Next}
use Rattle.bp_confirm.specs.declared.confirmations.StepError.{StepError}
use Rattle.bp_confirm.proofs.Elements.{parts_at, rest_at, take_got}
use Rattle.bp_confirm.proofs.BitsOfInstructions.{fork_is}
use Rattle.bp_confirm.proofs.ValuesSeen.{stands_as}
use Rattle.bp_confirm.proofs.StepMoves.{same_reply, refused_for_all, other_values}
use Rattle.bp_confirm.proofs.Agreement.{transfer}

-- The bit that is inferred at an instruction is that of the stack which continues there.

pub inferred_here : (t : Program) (last : LastBits) (code : Flat) (c : Configuration) (i : ℕ) (x : Top) (later : List StepOf) → StandsFor code t → IsTop t c i x
    → (got : Option (Bor Instruction)) (instr : Bor Instruction) → got ≡ Some instr → option_copied got ≡ slice_get code.instructions x.number
    → (next : Option point.Place) (bit follow : Bool) (o : Inferred) → next ≡ next_place i later → bit ≡ last i → follow ≡ some_follow later
    → ((p : Procedure) (left : Block) → Does t (places_of t.procedures) p left instr.now → IsInferred t left next bit follow o)
    → IsInferredOn t last i later (stack_of c i) o
inferred_here t last code c i x later given1 given2 got instr given3 given4 next bit follow o given5 given6 given7 given8 = grind (arith)

-- and so is whether it is a branch or a loop of `?`
pub fork_here : (t : Program) (code : Flat) (c : Configuration) (i : ℕ) (x : Top) → StandsFor code t → IsTop t c i x
    → (got : Option (Bor Instruction)) (instr : Bor Instruction) → got ≡ Some instr → option_copied got ≡ slice_get code.instructions x.number
    → is_fork instr.now ≡ is_fork_on (stack_of c i)
fork_here t code c i x given1 given2 got instr given3 given4 = search (rules, fork_is)

-- A history that is made again attempt by attempt.

module _ (t : Program) (s : SetupOf) (h : List Call) (playable : IsPlayable t s h) (n : ℕ) (d : Call) (within : n < length h) where
  playable_here : IsPlayable t s (take n h ++ get_or h n d ∷ [])
  playable_here =
      subst (IsPlayable t s) (take_more h n d within)
      (front t s (take (n + 1) h) (drop (n + 1) h) (subst (IsPlayable t s) (sym (take-append-drop (n + 1) h)) playable))

  -- the machine's next attempt is that of the history
  pub front_again : (own : Call) → IsNextCall t s (take n h) (get_or h n d).thread (given_bit s (get_or h n d).bit) own → take n h ++ own ∷ [] ≡ take (n + 1) h
  front_again own next = ap (λ c. take n h ++ c ∷ []) (own_is t s (take n h) (get_or h n d) [] playable_here own next) ∙ sym (take_more h n d within)

module _ (t : Program) (s : SetupOf) (last : LastBits) where
  -- attempts that follow steps take them
  pub taken : (h : List Call) (xs later : List StepOf) (calls : List Call) → FollowAfter t s last h xs later calls → TakeAfter t s h xs calls
  taken h [] later [] follow = tt
  taken h (x ∷ xs) later (a ∷ calls) (here, rest) = (here.takes, taken (h ++ a ∷ []) xs later calls rest)
  taken h xs later calls follow = absurd (assumption (follow))

  pub follow_more : (h : List Call) (xs : List StepOf) (x : StepOf) (later : List StepOf) (calls : List Call) (a : Call)
      → FollowAfter t s last h xs (x ∷ later) calls → Follows t s last (h ++ calls) x later a → FollowAfter t s last h (xs ++ x ∷ []) later (calls ++ a ∷ [])
  follow_more h [] x later [] a follow next = (subst (λ k. Follows t s last k x later a) (append-nil h) next, tt)
  follow_more h (z ∷ zs) x later (m ∷ ms) a (here, rest) next =
      let grown : Follows t s last h z ((zs ++ x ∷ []) ++ later) m = simp regrouped here in
      (grown, follow_more (h ++ m ∷ []) zs x later ms a rest (simp regrouped next))
  follow_more h xs x later calls a follow next = absurd (assumption (follow))

-- the lines of steps, and their meaning
module _ (text : List ℕ) (t : Program) (s : SetupOf) (last : LastBits) (lines : List StepLineOf) (n : ℕ) where
  -- the first n of the lines are followed, and then one more
  pub follow_next : {x : StepLineOf} {r : SetupOf} {g h new : List Call} {a : Call} → n < length lines → x ≡ get_or lines n x → r ≡ s → g ≡ h → new ≡ h ++ a ∷ []
      → FollowAfter t s last [] (steps_of text (take n lines)) (steps_of text (drop n lines)) h
      → Follows t r last g (step_of text x) (steps_of text (drop (n + 1) lines)) a
      → FollowAfter t s last [] (steps_of text (take (n + 1) lines)) (steps_of text (drop (n + 1) lines)) new
  follow_next {x} {h = h} {new = new} {a = a} within is setup made added follow next =
      let y = get_or lines n x in
      let front : steps_of text (take (n + 1) lines) ≡ steps_of text (take n lines) ++ step_of text y ∷ [] =
      ap (steps_of text) (take_more lines n x within) ∙ map_push (step_of text) (take n lines) y in
      let before = subst (λ ys. FollowAfter t s last [] (steps_of text (take n lines)) ys h) (ap (steps_of text) (rest_at lines n x within)) follow in
      let own = subst (λ (w : SetupOf × List Call × StepLineOf). Follows t w.0 last w.1 (step_of text w.2) (steps_of text (drop (n + 1) lines)) a)
      (λ i. (setup i, made i, is i)) next in
      let after = follow_more t s last [] (steps_of text (take n lines)) (step_of text y) (steps_of text (drop (n + 1) lines)) h a before own in
      subst (λ (w : List StepOf × List Call). FollowAfter t s last [] w.0 (steps_of text (drop (n + 1) lines)) w.1) (λ i. (sym front i, sym added i)) after

  module _ (d : StepLineOf) (h : List Call) (within : n < length lines)
      (follow : FollowAfter t s last [] (steps_of text (take n lines)) (steps_of text (drop n lines)) h) where
    none_takes : IsStuck t s h (step_of text (get_or lines n d)) → (g : List Call) → Takes t s (steps_of text (take n lines ++ get_or lines n d ∷ [])) g → ⊥
    none_takes given1 g given2 = search (rules, rest_at, map_push, transfer)

    for_all : (reason : StepReason) → ForStuck reason (IsStuck t s h (step_of text (get_or lines n d)))
        → ForStuck reason ((g : List Call) → Takes t s (steps_of text (take n lines ++ get_or lines n d ∷ [])) g → ⊥)
    for_all reason given1 = search (rules, none_takes)

    step_refused : (r : StepRefusal)
        → IsRefusedHere text t s h (get_or lines n d) (steps_of text (drop (n + 1) lines)) (n + 1) r
        → IsStepRefusal text t s last lines r
    step_refused r given1 = search (rules, parts_at, length-take, rest_at, for_all)

    by_error : (f : StepError) → IsNotTaken text t s h (get_or lines n d) (steps_of text (drop (n + 1) lines)) (n + 1) f → IsNotFollowed text t s last lines f
    by_error f given1 = search (rules, step_refused)

  -- the refusal of a step is one of the lines
  pub not_followed : {x : StepLineOf} {r : SetupOf} {g h : List Call} (f : StepError) → n < length lines → x ≡ get_or lines n x → r ≡ s → g ≡ h → length h ≡ n
      → FollowAfter t s last [] (steps_of text (take n lines)) (steps_of text (drop n lines)) h
      → IsNotTaken text t r g x (steps_of text (drop (n + 1) lines)) (length g + 1) f → IsNotFollowed text t s last lines f
  not_followed given1 given2 given3 given4 given5 given6 given7 = search (rules, by_error)

  pub followed : (h : List Call) → length lines ≤ n
      → FollowAfter t s last [] (steps_of text (take n lines)) (steps_of text (drop n lines)) h
      → IsFollowed t s last (steps_of text lines) h
  followed h given1 given2 = search (rules, drop_of_length-le, take_all)

-- a value that is not seen is one of those that are wanted
pub mismatch_not : (c : Configuration) (i : ℕ) (vs : Valuation) (n : ℕ) (seen : Option Bool) → IsFirstMismatch c i vs n seen → SeesValues c i vs → ⊥
mismatch_not c i vs n seen mismatch sees = mismatch.differs (mismatch.is_seen ∙ seen_at vs n mismatch.value mismatch.at sees)
  where
    seen_at : (ws : Valuation) (m : ℕ) (v : List ℕ × Bool) → slice_get ws m ≡ Some v → SeesValues c i ws → value_seen c.globals (stack_of c i) v.0 ≡ Some v.1
    seen_at [] m v at all = absurd cc
    seen_at (w ∷ ws) zero v at all = let same : w ≡ v = cc in subst (λ u. value_seen c.globals (stack_of c i) u.0 ≡ Some u.1) same all.0
    seen_at (w ∷ ws) (suc m) v at all = seen_at ws m v at all.1

-- one more value is seen
module _ (c : Configuration) (i : ℕ) (v : List ℕ × Bool) where
  seen_too : (vs : Valuation) → SeesValues c i vs → value_seen c.globals (stack_of c i) v.0 ≡ Some v.1 → SeesValues c i (vs ++ v ∷ [])
  seen_too [] sees here = (here, tt)
  seen_too (w ∷ ws) sees here = (sees.0, seen_too ws sees.1 here)

  pub sees_more : (vs : Valuation) (n : ℕ) → slice_get vs n ≡ Some v → SeesValues c i (take n vs)
      → value_seen c.globals (stack_of c i) v.0 ≡ Some v.1 → SeesValues c i (take (n + 1) vs)
  sees_more vs n at sees here = subst (SeesValues c i) (sym (take_got vs n v at)) (seen_too (take n vs) sees here)

-- the information on a line as it is read is that on the line
pub tells_same : {text : List ℕ} {last : LastBits} {x z : StepLineOf} {later : List StepOf} {lines : List StepLineOf} {next : Next} → x ≡ z
    → TellsNext text last (step_of text z) later lines next → TellsNext text last (step_of text x) later lines next
tells_same {text} {last} {later = later} {lines = lines} {next = next} is tells = subst (λ w. TellsNext text last (step_of text w) later lines next) (sym is) tells

-- the refusals of the step of one line, which is x as it is read, and whose thread continues at
-- this instruction
module _ (text : List ℕ) (t : Program) (s : SetupOf) (h : List Call) {x z : StepLineOf} (is : x ≡ z) (later : List StepOf) (n : ℕ) (number : Option ℕ)
    (goes_on : GoesOnAt t (configuration_after t s h) x.thread number) {points : List SourcePoint} (are : points ≡ source_points_of text t) where
  refused_for : (reason : StepReason) → IsReason t s h (step_of text x) later reason → ForStuck reason (IsStuck t s h (step_of text x))
      → IsNotTaken text t s h z later n (refusal_of points z n number reason)
  refused_for reason given1 given2 = search (rules, stands_as)

  pub elsewhere : StandsAtPlace t s h (step_of text x) false → IsNotTaken text t s h z later n (refusal_of points z n number Elsewhere)
  elsewhere other = refused_for Elsewhere other (λ y takes. false≢true (sym other ∙ takes.at))

  module _ (at : StandsAtPlace t s h (step_of text x) true) where
    pub finished : is_terminated s h x.thread ≡ true → IsNotTaken text t s h z later n (refusal_of points z n number Finished)
    finished over = refused_for Finished (at, over) (λ y takes. false≢true (sym takes.allowed.still_live ∙ ap (is_terminated s h) takes.thread ∙ over))

    module _ (last : LastBits) {a : Call} (thread : a.thread ≡ x.thread) (allowed : IsAllowed t s h a)
        (bit : a.bit ≡ bit_of_stack last x.thread later (stack_of (configuration_after t s h) x.thread)) where
      pub answered : is_granted a.reply ≡ false → IsNotTaken text t s h z later n (refusal_of points z n number (Refused a.reply))
      answered none =
          refused_for (Refused a.reply)
          (at, record { call = a; thread = thread; allowed = allowed; each = same_reply t s last h (step_of text x) later a thread bit allowed none; refused = none })
          (refused_for_all t s last h (step_of text x) later a thread bit allowed none)

      module _ (granted : is_granted a.reply ≡ true) {r : SetupOf} (same : r ≡ s) where
        bare : IsStepOf t s h (record (step_of text x) { values = [] }) a
        bare = record { thread = thread; allowed = allowed; granted = granted; at = at; values = tt }

        pub others_seen : (d : Difference) → IsDifference t r (h ++ a ∷ []) z.thread z.values d
            → IsNotTaken text t s h z later n (refusal_of points z n number (Differs d))
        others_seen d found =
            let differs = subst (λ (w : SetupOf × StepLineOf). IsDifference t w.0 (h ++ a ∷ []) w.1.thread w.1.values d) (λ i. (same i, sym is i)) found in
            refused_for (Differs d) (at, record { call = a; takes = bare; differs = differs })
            (other_values t s h (step_of text x) a bare (mismatch_not (configuration_after t s (h ++ a ∷ [])) x.thread x.values d.place d.seen differs.mismatch))

        module _ (found : SeesValues (configuration_after t r (h ++ a ∷ [])) z.thread z.values) where
          takes : IsStepOf t s h (step_of text x) a
          takes = grind (arith)

          pub ambiguous : IsAmbiguousOnStack t x.thread later (stack_of (configuration_after t s h) x.thread)
              → IsNotTaken text t s h z later n (refusal_of points z n number Ambiguous)
          ambiguous both = refused_for Ambiguous (record { call = a; takes = takes; ambiguous = both }) tt

          pub follows : IsClearOnStack x.thread later (stack_of (configuration_after t s h) x.thread) → Follows t s last h (step_of text z) later a
          follows clear = subst (λ w. Follows t s last h (step_of text w) later a) is (record { takes = takes; bit = bit; clear = clear })
