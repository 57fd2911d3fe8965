-- A recorded attempt of a history that may be played is refused only for memory.
use Rattle.bp_view.proofs.Common.{if◌then◌else◌, ◌≡◌, ◌∙◌, ◌<◌, ℕ, ◌+◌, ◌^◌, List, [], ◌∷◌, ◌++◌, Bool, true, Option, None, Some, is_some, length, arith, sym, refl, take, drop, get_or, subst, take-append-drop, ◌≢◌, ap, length-append, rules, false≢true, take_more, take_all, take-append-le, Program, Call, IsPrintRefusal, IsAskRefusal, given_bit, last_thread, Stands, SetupOf, IsInRange, IsLegal, granted_threads, calls_of_thread, calls_other, calls_of_thread-same, IsOwnRefusal, IsPlayable, next_allowed, front, IsCheckpoint, IsKept, last_reply}
use Rattle.std.proofs.Math.Nat.{mul-le-mul_left, mul-le-mul_right}
use Rattle.bp_machine.specs.declared.calls.AskError.{AskError}
use Rattle.bp_machine.specs.declared.calls.AskError.TheVariants as error
use Rattle.bp_machine.proofs.HistoriesAreRuns.{legal_length}
use Rattle.bp_view.specs.declared.checkpoints.Checkpoint.{Checkpoint}

-- a recorded bit is given if and only if there is no seed
not_both : (seed : Option ℕ) (bit : Bool) → is_some (if is_some seed then None else Some bit) ≡ true → is_some seed ≡ true → ⊥
not_both seed bit given1 given2 = grind (arith)

not_neither : (seed : Option ℕ) (bit : Bool) → (if is_some seed then None else Some bit) ≡ None → seed ≡ None → ⊥
not_neither seed bit given1 given2 = grind (arith)

module _ (t : Program) (s : SetupOf) (h : List Call) (x : Call) (playable : IsPlayable t s (h ++ x ∷ [])) where
  pub own_refused : (f : AskError) → IsOwnRefusal t s h x f → f ≡ error.Memory
  own_refused f given1 = search (rules, false≢true, next_allowed, not_both, not_neither)

  pub print_refused : (printed : Option (List Bool)) (f : AskError) → IsPrintRefusal s x.thread printed f → f ≡ error.Memory
  print_refused printed f given1 = search (rules, next_allowed)

-- the number of the next attempt is a number of 64 bits
module _ (t : Program) (s : SetupOf) (h : List Call) (legal : IsLegal t s h) (range : IsInRange s) where
  pub next_number : length h + 1 < 2 ^ 64
  next_number = search (rules, legal_length, mul-le-mul_right, mul-le-mul_left)

-- The front of a history that may be played, with its next attempt.

module _ (t : Program) (s : SetupOf) (h : List Call) (playable : IsPlayable t s h) where
  pub front_playable : (n : ℕ) → IsPlayable t s (take n h)
  front_playable n = front t s (take n h) (drop n h) (subst (IsPlayable t s) (sym (take-append-drop n h)) playable)

  pub playable_here : (i : ℕ) (d : Call) → i < length h → IsPlayable t s (take i h ++ get_or h i d ∷ [])
  playable_here i d inside = subst (IsPlayable t s) (take_more h i d inside) (front_playable (i + 1))

-- a recorded attempt is refused only for memory
pub asked_refused : (t : Program) (s : SetupOf) (h : List Call) (x : Call) → IsPlayable t s (h ++ x ∷ [])
    → (f : AskError) → IsAskRefusal t s h x.thread (given_bit s x.bit) f → f ≡ error.Memory
asked_refused t s h x playable error.Memory is = refl
asked_refused t s h x playable error.Terminated is = own_refused t s h x playable error.Terminated is
asked_refused t s h x playable error.NoThread is = own_refused t s h x playable error.NoThread is
asked_refused t s h x playable error.Seeded is = own_refused t s h x playable error.Seeded is
asked_refused t s h x playable error.Unseeded is = own_refused t s h x playable error.Unseeded is
asked_refused t s h x playable error.Busy is = absurd is

-- A checkpoint of a history is one of each longer history, and a watcher counts one attempt more.

module _ (t : Program) (s : SetupOf) (h : List Call) where
  -- the session stands after the whole history
  pub whole : (x : Checkpoint) → x.made ≡ length h → x.session.code.tree ≡ t → x.session.setup ≡ s → Stands t x.session h
      → x.last ≡ last_thread (granted_threads h) → IsCheckpoint t s h x
  whole x given1 given2 given3 given4 given5 = search (rules, take_all)

  module _ (y : Call) where
    abbrev longer : List Call
    longer = h ++ y ∷ []

    pub one_more : length longer ≡ length h + 1
    one_more = omega (arith, length-append h (y ∷ []))

    goes_on : (x : Checkpoint) → IsCheckpoint t s h x → IsCheckpoint t s longer x
    goes_on x given1 = search (rules, front, take-append-le, one_more)

    -- a kept checkpoint is kept after one more attempt, after which none is wanted
    pub still_kept : (n : ℕ) (kept : Option Checkpoint) → IsKept t s h n kept → length h + 1 ≢ n → IsKept t s longer n kept
    still_kept n kept given1 given2 = search (rules, goes_on, one_more)

-- The last reply to a thread, attempt by attempt.

last_reply-append : (xs : List Call) (x : Call) → last_reply (xs ++ x ∷ []) ≡ Some x.reply
last_reply-append [] x = refl
last_reply-append (y ∷ []) x = refl
last_reply-append (y ∷ z ∷ ys) x = last_reply-append (z ∷ ys) x

module _ (h : List Call) (i n : ℕ) (d : Call) (within : i < length h) where
  pub own : (get_or h i d).thread ≡ n → Some (get_or h i d).reply ≡ last_reply (calls_of_thread n (take (i + 1) h))
  own e =
      let more = ap (calls_of_thread n) (take_more h i d within) ∙ calls_of_thread-same (take i h) (get_or h i d) n e in
      sym (ap last_reply more ∙ last_reply-append (calls_of_thread n (take i h)) (get_or h i d))

  pub other : (get_or h i d).thread ≢ n → last_reply (calls_of_thread n (take i h)) ≡ last_reply (calls_of_thread n (take (i + 1) h))
  other e = sym (ap last_reply (calls_other h i n d within e))
