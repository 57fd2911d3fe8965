-- The attempts of a history that are asked for, and the number of attempts in each line.
use Rattle.std.specs.Prelude.{if◌then◌else◌, ◌==◌, ◌&&◌, ◌+◌, nat_lt, ℕ, suc, Bool, true, false, List, [], ◌∷◌, ◌≡◌, ◌-◌, nat_le, ◌++◌, Option, None, Some, drop, length, max, replicate, reverse, take, unwrap_or, ◌||◌, bytes_eq, map, option_map, slice_get}
use Rattle.std.specs.Borrow.{Bor}
use Rattle.std.specs.List.{list_all, list_any, prefix_len, suffix_len}
use Rattle.bp_syntax.specs.Ast.{Program}
use Rattle.bp_flat.specs.Moves.{same_bit}
use Rattle.bp_machine.specs.declared.calls.Call.{Call}
use Rattle.bp_machine.specs.declared.calls.Reply.{Reply}
use Rattle.bp_machine.specs.declared.calls.Reply.TheVariants.{Blocked}
use Rattle.bp_source.specs.Names.{pieces, declares, qualified}
use Rattle.bp_view.specs.declared.filters.TheConstants.{MAX_WAITS}
use Rattle.bp_view.specs.declared.filters.CallFilter.{CallFilter}
use Rattle.bp_view.specs.CallFacts.{Entry}

-- Equal waits in succession, which may be folded into one line.

abbrev pub is_wait : Reply → Bool
is_wait Blocked = true
is_wait r = false

-- both attempts are waits of one thread with one choice bit
abbrev pub is_same_wait : Call → Call → Bool
is_same_wait x y =
    is_wait x.reply && (is_wait y.reply && (x.thread == y.thread && same_bit x.bit y.bit))

-- the number of attempts, from the first on, that are the same wait as x
abbrev pub waits_like : Call → List Call → ℕ
waits_like x [] = 0
waits_like x (y ∷ ys) = if is_same_wait x y then suc (waits_like x ys) else 0

-- The number of attempts in the line of an attempt, if its history has the attempts `before`, the
-- latest first, and `after` it. The last of more than three equal waits stands for all of them, and
-- the others have no line. Any other attempt has a line of its own.
abbrev pub calls_in_line : (folds : Bool) → Call → (before after : List Call) → ℕ
calls_in_line false x before after = 1
calls_in_line true x before after =
    let waits = suc (waits_like x before + waits_like x after) in
    if nat_lt MAX_WAITS waits
    then if waits_like x after == 0 then waits else 0
    else 1

-- attempts of thread i are asked for
abbrev pub is_of_thread : Option ℕ → ℕ → Bool
is_of_thread None i = true
is_of_thread (Some k) i = i == k

-- attempt n of `count` attempts is asked for: fewer than `last` are after it
abbrev pub is_late : Option ℕ → ℕ → ℕ → Bool
is_late None count n = true
is_late (Some last) count n = nat_lt (count - n) last

-- attempt n is neither before the first that is asked for, nor after the last
abbrev pub is_between : (from to : Option ℕ) → ℕ → Bool
is_between from to n = nat_le (unwrap_or from 0) n && nat_le n (unwrap_or to n)

-- attempt n of thread i, among `count` attempts, is asked for
abbrev pub is_asked : CallFilter → ℕ → ℕ → ℕ → Bool
is_asked f count n i =
    is_of_thread f.thread i && (is_late f.last count n && is_between f.from f.to n)

-- the number of the `count` attempts before all those whose numbers are asked for
abbrev pub before_last : Option ℕ → ℕ → ℕ
before_last None count = 0
before_last (Some last) count = count - last

abbrev pub skipped : CallFilter → ℕ → ℕ
skipped f count = max (unwrap_or f.from 0 - 1) (before_last f.last count)

-- the number of the last of `count` attempts that is asked for
abbrev pub last_number : CallFilter → ℕ → ℕ
last_number f count = unwrap_or f.to count

-- the number of attempts in the line of attempt n, which is x in this whole history: attempts whose
-- numbers are not asked for are in no line
abbrev pub calls_at : CallFilter → (whole : List Call) → (n : ℕ) → Call → ℕ
calls_at f whole n x =
    let count = length whole in
    let before = drop (skipped f count) (take (n - 1) whole) in
    let after = take (last_number f count - n) (drop n whole) in
    calls_in_line f.folds x (reverse before) after

-- the number of attempts in the line of x, which is the next attempt of this whole history after h
abbrev pub calls_of : CallFilter → (whole h : List Call) → Call → ℕ
calls_of f whole h x = calls_at f whole (suc (length h)) x

-- the attempts of this whole history whose numbers are asked for
abbrev pub asked_calls : CallFilter → List Call → List Call
asked_calls f whole =
    let count = length whole in
    let before = skipped f count in
    take (last_number f count - before) (drop before whole)

-- the attempts for which the lines of these attempts stand, one line after the other; the first of
-- them is attempt n of this whole history
abbrev pub calls_of_lines : CallFilter → (whole : List Call) → (n : ℕ) → List Call → List Call
calls_of_lines f whole n [] = []
calls_of_lines f whole n (x ∷ xs) =
    replicate (calls_at f whole n x) x ++ calls_of_lines f whole (suc n) xs

-- the lines of the attempts whose numbers are asked for stand for these attempts, each once and in
-- their order
abbrev pub StandForEachOnce : Type 0
StandForEachOnce =
    (f : CallFilter) (whole : List Call)
    → let asked = asked_calls f whole in
    calls_of_lines f whole (suc (skipped f (length whole))) asked ≡ asked

-- The names of the watched variables.

-- a text without its leading and trailing spaces
abbrev pub trimmed : List ℕ → List ℕ
trimmed text =
    let rest = drop (prefix_len (λ b. b == 32) text) text in
    take (length rest - suffix_len (λ b. b == 32) rest) rest

-- the watched names: those between a list's commas outside braces, each without the spaces around
-- it, and none without a list
abbrev pub watched_names : Option (Bor (List ℕ)) → List (List ℕ)
watched_names None = []
watched_names (Some list) = map trimmed (pieces false list.now)

-- a text names this variable, a local of a procedure or a global: by its own name, or a local by
-- the qualified one
abbrev pub is_of : (text : List ℕ) → (procedure : Option (List ℕ)) → (name : List ℕ) → Bool
is_of text None x = bytes_eq text x
is_of text (Some p) x = bytes_eq text x || bytes_eq text (qualified p x)

-- one of these texts names this variable
abbrev pub is_watched : List (List ℕ) → (procedure : Option (List ℕ)) → (name : List ℕ) → Bool
is_watched texts p x = list_any (λ text. is_of text p x) texts

-- each of these names is that of a variable
abbrev pub AreDeclared : Program → List (List ℕ) → Type 0
AreDeclared t names = list_all (declares t) names ≡ true

-- name n of these, from 1, is the first that no variable has
pub record IsUndeclared (t : Program) (names : List (List ℕ)) (n : ℕ) : Type 0 where
  pub before : ℕ
  pub number : n ≡ suc before
  pub name : List ℕ
  pub at : slice_get names before ≡ Some name
  pub undeclared : declares t name ≡ false
  pub first : AreDeclared t (take before names)

-- the name of the procedure of a local
abbrev pub owner_name : Entry → Option (List ℕ)
owner_name x = option_map (λ p. p.name.text) x.owner

-- one of these changes is of a watched variable, or no variable is watched
abbrev pub is_seen : (watched : List (List ℕ)) → List Entry → Bool
is_seen [] changes = true
is_seen (n ∷ ns) changes = list_any (λ x. is_watched (n ∷ ns) (owner_name x) x.name) changes
