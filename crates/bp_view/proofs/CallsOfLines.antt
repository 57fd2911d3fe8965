-- The lines of the attempts that are asked for stand for these attempts, each once.
use Rattle.bp_view.proofs.Common.{◌≡◌, ◌≤◌, suc, Bool, true, false, List, [], ◌∷◌, length, refl, arith, ◌∙◌, ◌+◌, ◌-◌, ◌==◌, if◌then◌else◌, nat_le, nat_lt, ℕ, zero, ◌++◌, append-nil, drop, length-append, replicate, reverse, take, ap, ap₂, sym, subst, rules, drop-append-add, drop-append_seam, take-append_seam, take-nil, drop_all, length-take-le, reverse-append, nat_tests, Call, is_same_wait, waits_like, asked_calls, calls_at, calls_of_lines, last_number, skipped, StandForEachOnce, calls_in_line, CallFilter}
use Rattle.std.proofs.lemmas.List.{append_assoc, take-append-drop}
use Rattle.bp_view.specs.declared.filters.TheConstants.{MAX_WAITS}

-- How many equal waits a list begins with, by its first attempt.

module _ (x y : Call) (ys : List Call) where
  pub same_first : is_same_wait x y ≡ true → waits_like x (y ∷ ys) ≡ suc (waits_like x ys)
  same_first same = rw same refl

  pub other_first : is_same_wait x y ≡ false → waits_like x (y ∷ ys) ≡ 0
  other_first other = rw other refl

-- there are no more equal waits than attempts
at_most_here : (x y : Call) (ys : List Call) (b : Bool) → is_same_wait x y ≡ b → waits_like x ys ≤ length ys → waits_like x (y ∷ ys) ≤ length (y ∷ ys)
at_most_here x y ys b given1 given2 = grind (arith)

pub at_most : (x : Call) (ys : List Call) → waits_like x ys ≤ length ys
at_most x [] = omega arith
at_most x (y ∷ ys) = at_most_here x y ys (is_same_wait x y) refl (at_most x ys)

-- the attempts for which the lines of these attempts stand, one line after the other; the attempts
-- `before` come before them, the latest first
abbrev calls_after : (folds : Bool) → (before calls : List Call) → List Call
calls_after folds before [] = []
calls_after folds before (x ∷ xs) = replicate (calls_in_line folds x before xs) x ++ calls_after folds (x ∷ before) xs

equal_threads : (i j : ℕ) → (i == j) ≡ true → i ≡ j
equal_threads i j e = grind (arith, nat_tests)

-- attempts that are the same wait are equal
equal_waits : (x y : Call) → is_same_wait x y ≡ true → x ≡ y
equal_waits x y given1 = grind (arith)

like_either : (x y : Call) → is_same_wait x y ≡ is_same_wait y x
like_either x y = by_tests (is_same_wait x y) refl (is_same_wait y x) refl
  where
    turned : (u v : Call) → u ≡ v → is_same_wait v u ≡ is_same_wait u v
    turned u v e = subst (λ (z : Call). is_same_wait z u ≡ is_same_wait u z) e refl

    by_tests : (b : Bool) → is_same_wait x y ≡ b → (c : Bool) → is_same_wait y x ≡ c → is_same_wait x y ≡ is_same_wait y x
    by_tests b given1 c given2 = grind (arith)

-- the waits before an attempt that have no line of their own: that of a later one stands for them
abbrev pending : (before calls : List Call) → List Call
pending before [] = []
pending before (x ∷ xs) =
    if nat_lt MAX_WAITS (suc (waits_like x before + waits_like x xs)) then replicate (waits_like x before) x else []

-- those before the next attempt, by the waits before and after this one
abbrev still_pending : (many last : Bool) (x : Call) (before : ℕ) → List Call
still_pending many last x before =
    if last then [] else if many then replicate (suc before) x else []

module _ (x : Call) (before : List Call) where
  -- those before y, whose waits are as many more as x is like it
  shifted : (y : Call) (ys : List Call) (before_y after_y : ℕ) → waits_like y (x ∷ before) ≡ before_y → waits_like y ys ≡ after_y
      → pending (x ∷ before) (y ∷ ys) ≡ (if nat_lt MAX_WAITS (suc (before_y + after_y)) then replicate before_y y else [])
  shifted y ys before_y after_y p q = ap₂ (λ (m n : ℕ). if nat_lt MAX_WAITS (suc (m + n)) then replicate m y else []) p q

  same_next : (y : Call) (ys : List Call) → x ≡ y → is_same_wait x y ≡ true
      → pending (x ∷ before) (y ∷ ys)
      ≡ still_pending (nat_lt MAX_WAITS (suc (waits_like x before + waits_like x (y ∷ ys)))) (waits_like x (y ∷ ys) == 0) x (waits_like x before)
  same_next y ys e same =
      let p = waits_like x before in
      let r = waits_like x ys in
      let like_itself : is_same_wait y x ≡ true = sym (like_either x y) ∙ same in
      let own : waits_like y (x ∷ before) ≡ suc p =
      same_first y x before like_itself ∙ ap (λ (z : Call). suc (waits_like z before)) (sym e) in
      let later : waits_like y ys ≡ r = ap (λ (z : Call). waits_like z ys) (sym e) in
      let none : (suc r == 0) ≡ false = grind (arith, nat_tests) in
      shifted y ys (suc p) r own later
      ∙ ap₂ (λ (n : ℕ) (z : Call). if nat_lt MAX_WAITS (suc n) then replicate (suc p) z else []) (counts p r) (sym e)
      ∙ ap (λ (b : Bool). still_pending (nat_lt MAX_WAITS (suc (p + suc r))) b x p) (sym none)
      ∙ ap (λ (q : ℕ). still_pending (nat_lt MAX_WAITS (suc (p + q))) (q == 0) x p) (sym (same_first x y ys same))
    where
      counts : (p r : ℕ) → suc p + r ≡ p + suc r
      counts p r = omega arith

  other_next : (y : Call) (ys : List Call) → is_same_wait x y ≡ false
      → pending (x ∷ before) (y ∷ ys)
      ≡ still_pending (nat_lt MAX_WAITS (suc (waits_like x before + waits_like x (y ∷ ys)))) (waits_like x (y ∷ ys) == 0) x (waits_like x before)
  other_next y ys other =
      let p = waits_like x before in
      let back : is_same_wait y x ≡ false = sym (like_either x y) ∙ other in
      shifted y ys 0 (waits_like y ys) (other_first y x before back) refl
      ∙ neither (nat_lt MAX_WAITS (suc (0 + waits_like y ys)))
      ∙ ap (λ (q : ℕ). still_pending (nat_lt MAX_WAITS (suc (p + q))) (q == 0) x p) (sym (other_first x y ys other))
    where
      neither : (b : Bool) → (if b then replicate 0 y else []) ≡ []
      neither true = refl
      neither false = refl

  next : (xs : List Call)
      → pending (x ∷ before) xs
      ≡ still_pending (nat_lt MAX_WAITS (suc (waits_like x before + waits_like x xs))) (waits_like x xs == 0) x (waits_like x before)
  next [] = refl
  next (y ∷ ys) = by_test (is_same_wait x y) refl
    where
      by_test : (b : Bool) → is_same_wait x y ≡ b → pending (x ∷ before) (y ∷ ys)
          ≡ still_pending (nat_lt MAX_WAITS (suc (waits_like x before + waits_like x (y ∷ ys)))) (waits_like x (y ∷ ys) == 0) x (waits_like x before)
      by_test true same = same_next y ys (equal_waits x y same) same
      by_test false other = other_next y ys other

one_more : (p : ℕ) (x : Call) (xs : List Call) → replicate (suc p) x ++ xs ≡ replicate p x ++ x ∷ xs
one_more zero x xs = refl
one_more (suc p) x xs = ap (λ ys. x ∷ ys) (one_more p x xs)

-- the line of an attempt, and then the waits that are still pending
joined : (x : Call) (xs : List Call) (p q : ℕ) (many last : Bool) → (last ≡ true → q ≡ 0)
    → replicate (if many then if last then suc (p + q) else 0 else 1) x ++ (still_pending many last x p ++ xs)
    ≡ (if many then replicate p x else []) ++ x ∷ xs
joined x xs p q many last given1 = search (rules, one_more)

folded : (before calls : List Call) → calls_after true before calls ≡ pending before calls ++ calls
folded before [] = refl
folded before (x ∷ xs) = search (rules, (folded (x ∷ before) xs), next, joined, equal_threads)

unfolded : (before calls : List Call) → calls_after false before calls ≡ calls
unfolded before [] = refl
unfolded before (x ∷ xs) = ap (λ ys. x ∷ ys) (unfolded (x ∷ before) xs)

none_pending : (calls : List Call) → pending [] calls ≡ []
none_pending [] = refl
none_pending (x ∷ xs) = by_test (nat_lt MAX_WAITS (suc (0 + waits_like x xs)))
  where
    by_test : (b : Bool) → (if b then replicate 0 x else []) ≡ []
    by_test true = refl
    by_test false = refl

each_after : (folds : Bool) (calls : List Call) → calls_after folds [] calls ≡ calls
each_after true calls = folded [] calls ∙ ap (λ ys. ys ++ calls) (none_pending calls)
each_after false calls = unfolded [] calls

first_taken : (n : ℕ) (x : Call) (xs ys : List Call) → take n (x ∷ ys) ≡ x ∷ xs → take (n - 1) ys ≡ xs
first_taken n x xs ys given1 = grind (arith)

-- the attempts before those that are asked for are `first`; of those, these are before the next one
module _ (f : CallFilter) (whole : List Call) (first : List Call) (skips : length first ≡ skipped f (length whole)) where
  abbrev last : ℕ
  last = last_number f (length whole)

  line : (before : List Call) (x : Call) (xs rest : List Call) → whole ≡ (first ++ before) ++ x ∷ (xs ++ rest)
      → take (last - suc (length (first ++ before))) (xs ++ rest) ≡ xs
      → calls_at f whole (suc (length (first ++ before))) x ≡ calls_in_line f.folds x (reverse before) xs
  line before x xs rest whole_is cut =
      let n = length (first ++ before) in
      let same : suc n - 1 ≡ n = omega arith in
      let earlier : drop (skipped f (length whole)) (take (suc n - 1) whole) ≡ before =
      ap (λ k. drop (skipped f (length whole)) (take k whole)) same
      ∙ ap (λ ys. drop (skipped f (length whole)) (take n ys)) whole_is
      ∙ ap (λ ys. drop (skipped f (length whole)) ys) (take-append_seam (first ++ before) (x ∷ (xs ++ rest)))
      ∙ ap (λ k. drop k (first ++ before)) (sym skips)
      ∙ drop-append_seam first before in
      let next : suc n ≡ n + 1 = omega arith in
      let later : drop (suc n) whole ≡ xs ++ rest =
      ap (λ k. drop k whole) next ∙ ap (λ ys. drop (n + 1) ys) whole_is ∙ drop-append-add (first ++ before) (x ∷ (xs ++ rest)) 1 in
      ap₂ (λ (b a : List Call). calls_in_line f.folds x (reverse b) a) earlier (ap (λ ys. take (last - suc n) ys) later ∙ cut)

  along : (before xs rest : List Call) → whole ≡ (first ++ before) ++ (xs ++ rest)
      → take (last - length (first ++ before)) (xs ++ rest) ≡ xs
      → calls_of_lines f whole (suc (length (first ++ before))) xs ≡ calls_after f.folds (reverse before) xs
  along before [] rest whole_is cut = refl
  along before (x ∷ xs) rest whole_is cut =
      let n = length (first ++ before) in
      let fewer : last - n - 1 ≡ last - suc n = omega arith in
      let cut_later : take (last - suc n) (xs ++ rest) ≡ xs =
      ap (λ k. take k (xs ++ rest)) (sym fewer) ∙ first_taken (last - n) x xs (xs ++ rest) cut in
      let more : first ++ (before ++ x ∷ []) ≡ (first ++ before) ++ x ∷ [] = sym (append_assoc first before (x ∷ [])) in
      let long : length (first ++ (before ++ x ∷ [])) ≡ suc n =
      ap length more ∙ length-append (first ++ before) (x ∷ []) ∙ (let one : n + 1 ≡ suc n = omega arith in one) in
      let is : whole ≡ (first ++ (before ++ x ∷ [])) ++ (xs ++ rest) =
      whole_is ∙ sym (append_assoc (first ++ before) (x ∷ []) (xs ++ rest)) ∙ ap (λ ys. ys ++ (xs ++ rest)) (sym more) in
      let turned : reverse (before ++ x ∷ []) ≡ x ∷ reverse before = reverse-append before (x ∷ []) in
      let others = along (before ++ x ∷ []) xs rest is (ap (λ k. take (last - k) (xs ++ rest)) long ∙ cut_later) in
      ap₂ (λ (k : ℕ) (ys : List Call). replicate k x ++ ys) (line before x xs rest whole_is cut_later)
      (ap (λ k. calls_of_lines f whole (suc k) xs) (sym long) ∙ others ∙ ap (λ b. calls_after f.folds b xs) turned)

module _ (f : CallFilter) (whole : List Call) where
  abbrev skipped_first : ℕ
  skipped_first = skipped f (length whole)

  abbrev asked : List Call
  asked = asked_calls f whole

  abbrev cut_at : ℕ
  cut_at = last_number f (length whole) - skipped_first

  stand_for_asked : (b : Bool) → nat_le skipped_first (length whole) ≡ b → calls_of_lines f whole (suc skipped_first) asked ≡ asked
  stand_for_asked true within =
      let few : skipped_first ≤ length whole = grind (arith, nat_tests) in
      let first = take skipped_first whole in
      let skips : length first ≡ skipped_first = length-take-le skipped_first whole few in
      let none : first ++ [] ≡ first = append-nil first in
      let count : length (first ++ []) ≡ skipped_first = ap length none ∙ skips in
      let rest = drop cut_at (drop skipped_first whole) in
      let both : asked ++ rest ≡ drop skipped_first whole = take-append-drop cut_at (drop skipped_first whole) in
      let whole_is : whole ≡ (first ++ []) ++ (asked ++ rest) =
      sym (take-append-drop skipped_first whole) ∙ ap₂ (λ (a b : List Call). a ++ b) (sym none) (sym both) in
      ap (λ n. calls_of_lines f whole (suc n) asked) (sym count)
      ∙ along f whole first skips [] asked rest whole_is
      (ap₂ (λ (k : ℕ) (ys : List Call). take (last_number f (length whole) - k) ys) count both)
      ∙ each_after f.folds asked
  stand_for_asked false past = search (rules, nat_tests, drop_all, take-nil)

pub each_once : StandForEachOnce
each_once f whole = stand_for_asked f whole (nat_le (skipped f (length whole)) (length whole)) refl
