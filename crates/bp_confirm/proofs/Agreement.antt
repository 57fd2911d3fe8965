-- Two histories that take the same steps lead to configurations that agree, except for the places
-- of threads that take no more steps.
use Rattle.bp_confirm.proofs.Common.{◌≡◌, ◌≢◌, ◌<◌, ◌+◌, ◌==◌, ℕ, Bool, true, false, cond, List, [], ◌∷◌, ◌++◌, length, Some, refl, ap, sym, ◌∙◌, subst, arith, length-append, rules, nat_tests, regrouped, Program, Frame, Configuration, StatementEffect, Leaves, Fails, effect, after_effect, Valuation, Stepped, Call, stack_of, reply_to_effect, Answers, configuration_after, granted_threads, calls_of_thread, ends_with_last, is_terminated, IsAllowed, is_granted, is_last, SetupOf, granted_threads-append, calls_of_thread-same, calls_of_thread-other, ends_with_last-append, stands_at, StepOf, value_seen, SeesValues, IsStepOf, next_place, TakeAfter, Takes, LastBits, bit_of_block, IsClear, some_follow, IsClearOnStack, Follows, FollowAfter}
use Rattle.std.proofs.Common.{append-nil}
use Rattle.bp_confirm.proofs.StepMoves.{AgreeStacks, leaves_alike, IsMove, move_of, HasLeft, has_left, leaves_some}

-- c, after the history h, and d agree before these later steps; no assertion has failed
pub record Agree (later : List StepOf) (h : List Call) (c d : Configuration) : Type 0 where
  pub globals : c.globals ≡ d.globals
  pub going : c.failed ≡ false
  pub size : length c.stacks ≡ length d.stacks
  pub stacks : (i : ℕ) → AgreeStacks (next_place i later) (stack_of c i) (stack_of d i)
  pub unended : (i : ℕ) → ends_with_last (calls_of_thread i h) ≡ false

-- the histories have attempts of the same threads, and agree as above unless an assertion failed
pub record Together (t : Program) (s : SetupOf) (later : List StepOf) (h g : List Call) : Type 0 where
  pub threads_same : granted_threads h ≡ granted_threads g
  pub counts : (i : ℕ) → length (calls_of_thread i h) ≡ length (calls_of_thread i g)
  pub agree : (configuration_after t s g).failed ≡ false → Agree later h (configuration_after t s h) (configuration_after t s g)

-- the next step of its thread
pub next_here : (x : StepOf) (later : List StepOf) → next_place x.thread (x ∷ later) ≡ Some x.place
next_here x later = grind (arith)

pub next_other : (x : StepOf) (later : List StepOf) (j : ℕ) → x.thread ≢ j → next_place j (x ∷ later) ≡ next_place j later
next_other x later j given1 = grind (arith)

sees_same : (c d : Configuration) (i : ℕ) → c.globals ≡ d.globals → stack_of c i ≡ stack_of d i → (vs : Valuation) → SeesValues d i vs → SeesValues c i vs
sees_same c d i globals stack [] sees = tt
sees_same c d i globals stack (v ∷ vs) (here, rest) = ((λ j. value_seen (globals j) (stack j) v.0) ∙ here, sees_same c d i globals stack vs rest)

-- equal effects leave a thread the same view
same_view : (c d c' d' : Configuration) (i : ℕ) (e : StatementEffect) → c.globals ≡ d.globals
    → stack_of c i ≡ stack_of d i → i < length c.stacks → i < length d.stacks
    → after_effect c i e ≡ Some c' → after_effect d i e ≡ Some d' → (c'.globals ≡ d'.globals) × (stack_of c' i ≡ stack_of d' i)
same_view c d c' d' i (Leaves g S) globals stack in_c in_d mine theirs =
    let one = has_left c c' i g S in_c mine in
    let other = has_left d d' i g S in_d theirs in
    (one.globals ∙ sym other.globals, one.own ∙ sym other.own)
same_view c d c' d' i Fails globals stack in_c in_d mine theirs = grind (arith)
same_view c d c' d' i e globals stack in_c in_d mine theirs = absurd cc

module _ (t : Program) (s : SetupOf) (h g : List Call) (x : StepOf) (later : List StepOf) (together : Together t s (x ∷ later) h g) where
  -- a step that can be taken after the other history
  module _ (y : Call) (takes : IsStepOf t s g x y) where
    abbrev c : Configuration
    c = configuration_after t s h

    abbrev d : Configuration
    d = configuration_after t s g

    abbrev i : ℕ
    i = x.thread

    theirs : IsMove t d x.thread y.bit y.reply (configuration_after t s (g ++ y ∷ []))
    theirs = move_of t s g x y takes

    pub agree_here : Agree (x ∷ later) h (configuration_after t s h) (configuration_after t s g)
    agree_here = together.agree theirs.going

    -- its thread has the same stack
    pub stack_here : stack_of (configuration_after t s h) x.thread ≡ stack_of (configuration_after t s g) x.thread
    stack_here = grind (arith)

    answers_here : Answers t s.contexts c (granted_threads h) y.thread y.bit y.reply
    answers_here = grind (arith)

    still_live_here : is_terminated s h y.thread ≡ false
    still_live_here = grind (arith)

    allowed_here : IsAllowed t s h y
    allowed_here = record { thread = takes.allowed.thread; still_live = still_live_here; answers = answers_here }

    at_here : stands_at x.place (stack_of c i) ≡ true
    at_here = ap (stands_at x.place) stack_here ∙ takes.at

    -- without its values
    bare : IsStepOf t s h (record x { values = [] }) y
    bare = record { thread = takes.thread; allowed = allowed_here; granted = takes.granted; at = at_here; values = tt }

    mine : IsMove t c i y.bit y.reply (configuration_after t s (h ++ y ∷ []))
    mine = move_of t s h (record x { values = [] }) y bare

    -- can be taken after this history, too
    pub taken_here : IsStepOf t s h x y
    taken_here =
        let tops : mine.frame ∷ mine.below ≡ theirs.frame ∷ theirs.below = sym mine.stack ∙ stack_here ∙ theirs.stack in
        let frame : mine.frame ≡ theirs.frame = cc in
        let below : mine.below ≡ theirs.below = cc in
        let e = effect t.procedures theirs.frame.left d.globals theirs.frame theirs.below y.bit in
        let moved : after_effect c i e ≡ Some (configuration_after t s (h ++ y ∷ [])) =
        (λ j. after_effect c i (effect t.procedures (sym frame j).left (sym agree_here.globals j) (sym frame j) (sym below j) y.bit)) ∙ mine.moved in
        let view = same_view c d (configuration_after t s (h ++ y ∷ [])) (configuration_after t s (g ++ y ∷ [])) i e
        agree_here.globals stack_here mine.within theirs.within moved theirs.moved in
        record {
          thread = takes.thread;
          allowed = allowed_here;
          granted = takes.granted;
          at = at_here;
          values = sees_same (configuration_after t s (h ++ y ∷ [])) (configuration_after t s (g ++ y ∷ [])) i view.0 view.1 x.values takes.values;
        }

    -- with the bit that is inferred there, this history has an attempt that takes the step as well;
    -- then both continue together
    module _ (last : LastBits) (a : Call) (follows : Follows t s last h x later a) (more : some_follow later ≡ true) where
      abbrev c' : Configuration
      c' = configuration_after t s (h ++ a ∷ [])

      abbrev d' : Configuration
      d' = configuration_after t s (g ++ y ∷ [])

      own : IsMove t c i a.bit a.reply c'
      own = move_of t s h x a follows.takes

      tops : own.frame ∷ own.below ≡ theirs.frame ∷ theirs.below
      tops = sym own.stack ∙ stack_here ∙ theirs.stack

      frame_same : own.frame ≡ theirs.frame
      frame_same = let e = tops in cc

      below_same : own.below ≡ theirs.below
      below_same = let e = tops in cc

      abbrev effect_here : Bool → StatementEffect
      effect_here bit = effect t.procedures theirs.frame.left d.globals theirs.frame theirs.below bit

      effect_same : effect t.procedures own.frame.left c.globals own.frame own.below a.bit ≡ effect_here a.bit
      effect_same = λ j. effect t.procedures (frame_same j).left (agree_here.globals j) (frame_same j) (below_same j) a.bit

      bit_here : a.bit ≡ bit_of_block theirs.frame.left (next_place i later) (last i) true
      bit_here = search (rules, stack_here, theirs)

      clear_here : IsClear theirs.frame.left (next_place i later)
      clear_here = subst (λ S. IsClearOnStack i later S) (stack_here ∙ theirs.stack) follows.clear

      goes_on : d'.failed ≡ false → Agree later (h ++ a ∷ []) c' d'
      goes_on going =
          let left = leaves_some d d' i (effect_here y.bit) theirs.moved going in
          let alike = leaves_alike t.procedures d.globals theirs.frame theirs.below theirs.frame.left
          (next_place i later) (last i) a.bit y.bit left.globals left.stack bit_here clear_here left.is in
          let my_effect : effect t.procedures own.frame.left c.globals own.frame own.below a.bit ≡ Leaves left.globals alike.stack = effect_same ∙ alike.is in
          let one = has_left c c' i left.globals alike.stack own.within (sym (ap (λ e. after_effect c i e) my_effect) ∙ own.moved) in
          let other = has_left d d' i left.globals left.stack theirs.within (sym (ap (λ e. after_effect d i e) left.is) ∙ theirs.moved) in
          let told : reply_to_effect (Leaves left.globals alike.stack) ≡ Some a.reply = sym (ap reply_to_effect my_effect) ∙ own.told in
          let stepped : a.reply ≡ Stepped = cc in
          record {
            globals = one.globals ∙ sym other.globals;
            going = one.going;
            size = one.size ∙ agree_here.size ∙ sym other.size;
            stacks = λ j. stacks_at left.globals left.globals alike.stack left.stack alike.agree one other j (i == j) refl;
            unended = λ j. unended_at stepped j (i == j) refl;
          }
        where
          stacks_at : (m n : Valuation) (S R : List Frame) → AgreeStacks (next_place i later) S R → HasLeft c c' i m S → HasLeft d d' i n R
              → (j : ℕ) (b : Bool) → (i == j) ≡ b → AgreeStacks (next_place j later) (stack_of c' j) (stack_of d' j)
          stacks_at m n S R agree one other j true e =
              let same : i ≡ j = grind (arith, nat_tests) in
              subst (λ k. AgreeStacks (next_place k later) (stack_of c' k) (stack_of d' k)) same
              (subst (λ (z : List Frame × List Frame). AgreeStacks (next_place i later) z.0 z.1) (λ k. (sym one.own k, sym other.own k)) agree)
          stacks_at m n S R agree one other j false e =
              let apart : i ≢ j = λ same. grind (arith, nat_tests) in
              let back : j ≢ i = λ same. apart (sym same) in
              subst (λ z. AgreeStacks (next_place j later) z (stack_of d' j)) (sym (one.others j back))
              (subst (λ z. AgreeStacks (next_place j later) (stack_of c j) z) (sym (other.others j back))
              (subst (λ o. AgreeStacks o (stack_of c j) (stack_of d j)) (next_other x later j apart) (agree_here.stacks j)))

          unended_at : a.reply ≡ Stepped → (j : ℕ) (b : Bool) → (i == j) ≡ b → ends_with_last (calls_of_thread j (h ++ a ∷ [])) ≡ false
          unended_at stepped j true e =
              let same : a.thread ≡ j = follows.takes.thread ∙ (grind (arith, nat_tests)) in
              ap ends_with_last (calls_of_thread-same h a j same) ∙ ends_with_last-append (calls_of_thread j h) a ∙ ap is_last stepped
          unended_at stepped j false e =
              let apart : i ≢ j = λ same. grind (arith, nat_tests) in
              ap ends_with_last (calls_of_thread-other h a j (λ same. apart (sym follows.takes.thread ∙ same))) ∙ agree_here.unended j

      threads_more : (w : List Call) (z : Call) → is_granted z.reply ≡ true → granted_threads (w ++ z ∷ []) ≡ granted_threads w ++ z.thread ∷ []
      threads_more w z granted = granted_threads-append w z ∙ ap (λ b. granted_threads w ++ cond b (z.thread ∷ []) []) granted

      counts_more : (j : ℕ) (b : Bool) → (i == j) ≡ b → length (calls_of_thread j (h ++ a ∷ [])) ≡ length (calls_of_thread j (g ++ y ∷ []))
      counts_more j true e =
          let same : i ≡ j = grind (arith, nat_tests) in
          ap length (calls_of_thread-same h a j (follows.takes.thread ∙ same))
          ∙ length-append (calls_of_thread j h) (a ∷ [])
          ∙ ap (λ n. n + 1) (together.counts j)
          ∙ sym (length-append (calls_of_thread j g) (y ∷ []))
          ∙ sym (ap length (calls_of_thread-same g y j (takes.thread ∙ same)))
      counts_more j false e =
          let apart : i ≢ j = λ same. grind (arith, nat_tests) in
          ap length (calls_of_thread-other h a j (λ same. apart (sym follows.takes.thread ∙ same)))
          ∙ together.counts j
          ∙ sym (ap length (calls_of_thread-other g y j (λ same. apart (sym takes.thread ∙ same))))

      pub together_more : Together t s later (h ++ a ∷ []) (g ++ y ∷ [])
      together_more = record {
        threads_same =
            threads_more h a follows.takes.granted
            ∙ (λ j. together.threads_same j ++ (follows.takes.thread ∙ sym takes.thread) j ∷ [])
            ∙ sym (threads_more g y takes.granted);
        counts = λ j. counts_more j (i == j) refl;
        agree = goes_on;
      }

-- If any history takes the first steps, the one with the inferred bits can take the last of them as
-- well.

some_more : (xs : List StepOf) (x : StepOf) (later : List StepOf) → some_follow (xs ++ x ∷ later) ≡ true
some_more [] x later = refl
some_more (z ∷ zs) x later = refl

module _ (t : Program) (s : SetupOf) (last : LastBits) (x : StepOf) (later : List StepOf) where
  transfer_from : (h g : List Call) (xs : List StepOf) (mine theirs : List Call) → Together t s (xs ++ x ∷ later) h g → FollowAfter t s last h xs (x ∷ later) mine
      → TakeAfter t s g (xs ++ x ∷ []) theirs → (y : Call) × IsStepOf t s (h ++ mine) x y
  transfer_from h g [] [] (y ∷ ys) together follow take =
      (y, subst (λ k. IsStepOf t s k x y) (sym (append-nil h)) (taken_here t s h g x later together y take.0))
  transfer_from h g (z ∷ zs) (m ∷ ms) (y ∷ ys) together follow take =
      let next = together_more t s h g z (zs ++ x ∷ later) together y take.0 last m follow.0 (some_more zs x later) in
      let (w, is) = transfer_from (h ++ m ∷ []) (g ++ y ∷ []) zs ms ys next follow.1 take.1 in
      (w, simp regrouped at is)
  transfer_from h g xs mine theirs together follow take = absurd (assumption (follow, take))

  -- so both can be followed up to it together
  together_from : (h g : List Call) (xs : List StepOf) (mine theirs : List Call) → Together t s (xs ++ x ∷ later) h g → FollowAfter t s last h xs (x ∷ later) mine
      → TakeAfter t s g xs theirs → Together t s (x ∷ later) (h ++ mine) (g ++ theirs)
  together_from h g [] [] [] together follow take =
      subst (λ k. Together t s (x ∷ later) k (g ++ [])) (sym (append-nil h)) (subst (λ k. Together t s (x ∷ later) h k) (sym (append-nil g)) together)
  together_from h g (z ∷ zs) (m ∷ ms) (y ∷ ys) together follow take =
      let next = together_more t s h g z (zs ++ x ∷ later) together y take.0 last m follow.0 (some_more zs x later) in
      simp regrouped at (together_from (h ++ m ∷ []) (g ++ y ∷ []) zs ms ys next follow.1 take.1)
  together_from h g xs mine theirs together follow take = absurd (assumption (follow, take))

  start_together : Together t s (later) [] []
  start_together = grind (arith)

-- If some history takes these steps and then x, then the step x can be taken after the history that follows these steps with the inferred bits.
pub transfer : (t : Program) (s : SetupOf) (last : LastBits) (xs : List StepOf) (x : StepOf) (later : List StepOf) (h g : List Call)
    → FollowAfter t s last [] xs (x ∷ later) h
    → Takes t s (xs ++ x ∷ []) g
    → (y : Call) × IsStepOf t s h x y
transfer t s last xs x later h g follow take = transfer_from t s last x later [] [] xs h g (start_together t s last x (xs ++ x ∷ later)) follow take

-- And there its thread has the same stack after both.
pub same_stack_there : (t : Program) (s : SetupOf) (last : LastBits) (xs : List StepOf) (x : StepOf) (later : List StepOf) (h g : List Call) (y : Call)
    → FollowAfter t s last [] xs (x ∷ later) h
    → Takes t s xs g
    → IsStepOf t s g x y
    → stack_of (configuration_after t s h) x.thread ≡ stack_of (configuration_after t s g) x.thread
same_stack_there t s last xs x later h g y given1 given2 given3 = search (rules, stack_here, together_from, start_together)
