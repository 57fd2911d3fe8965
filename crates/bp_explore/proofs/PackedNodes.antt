-- The nodes of adjacent records.
use Rattle.bp_explore.proofs.Common.{◌≡◌, ◌+◌, ◌++◌, ◌∷◌, [], ℕ, zero, suc, List, refl, ap, sym, ◌∙◌, append_assoc, arith, ◌*◌, ◌/◌, ◌%◌, ◌^◌, Some, drop, append-nil, ◌≤◌, ◌-◌, All, ◌<◌, length, get_or, take, slice_set, slice_get, rules, take_more, take_more_set, take-append-le, drop-append-le, slice_get_within, StackOf, frames_of, IsPacked, take_times, take_number, node_of, take_key, take_state, last_of, StateOf, NodeOf, nodes_from, start_from, end_of, record_at, HasKey, Has, AreAtMost}
use Rattle.std.proofs.lemmas.List.{length-drop, take_all}
use Rattle.std.proofs.Transfers.{drop-appended}

-- Values that are packed one after the other.

module _ {X : Type 0} (take : List ℕ → X × List ℕ) where
  -- one value more
  times_next : (k : ℕ) (cells : List ℕ) (xs : List X) (rest : List ℕ) (x : X) (left : List ℕ)
      → take_times take k cells ≡ (xs, rest) → take rest ≡ (x, left) → take_times take (suc k) cells ≡ (xs ++ x ∷ [], left)
  times_next zero cells xs rest x left e f = grind (arith)
  times_next (suc k) cells xs rest x left e f =
      let first = take cells in
      let others = take_times take k first.1 in
      let more : first.0 ∷ others.0 ≡ xs = ap (λ p. p.0) e in
      let same : others.1 ≡ rest = ap (λ p. p.1) e in
      let next : take_times take (suc k) first.1 ≡ (others.0 ++ x ∷ [], left) =
      times_next k first.1 others.0 others.1 x left refl (ap take same ∙ f) in
      ap (λ p. (first.0 ∷ p.0, p.1)) next ∙ ap (λ ys. (ys ++ x ∷ [], left)) more

  pub times_more : (k : ℕ) (cells : List ℕ) (xs : List X) (rest : List ℕ) (x : X) (left : List ℕ)
      → take_times take k cells ≡ (xs, rest) → take rest ≡ (x, left) → take_times take (k + 1) cells ≡ (xs ++ x ∷ [], left)
  times_more k cells xs rest x left e f = let one : suc k ≡ k + 1 = omega arith in sym (ap (λ n. take_times take n cells) one) ∙ times_next k cells xs rest x left e f

  pub packed_more : (k : ℕ) (a b c : List ℕ) (xs : List X) (x : X) → IsPacked (take_times take k) a b xs → IsPacked take b c x
      → IsPacked (take_times take (k + 1)) a c (xs ++ x ∷ [])
  packed_more k a b c xs x p q = record {
    more = p.more ++ q.more;
    whole = q.whole ∙ ap (λ l. l ++ q.more) p.whole ∙ append_assoc a p.more q.more;
    takes = λ rest.
        ap (take_times take (k + 1)) (append_assoc p.more q.more rest)
        ∙ times_more k (p.more ++ (q.more ++ rest)) xs (q.more ++ rest) x rest (p.takes (q.more ++ rest)) (q.takes rest);
  }

frames_after : (xs : List StackOf) (s : StackOf) → frames_of (xs ++ s ∷ []) ≡ frames_of xs ++ s.frames ∷ []
frames_after [] s = refl
frames_after (x ∷ xs) s = ap (λ ys. x.frames ∷ ys) (frames_after xs s)

pub frames_next : (xs : List StackOf) (i : ℕ) (s : StackOf) → i < length xs → s ≡ get_or xs i s → frames_of (take (i + 1) xs) ≡ frames_of (take i xs) ++ s.frames ∷ []
frames_next xs i s within is =
    ap frames_of (take_more xs i s within) ∙ frames_after (take i xs) (get_or xs i s) ∙ ap (λ (t : StackOf). frames_of (take i xs) ++ t.frames ∷ []) (sym is)

pub frames_set : (xs : List StackOf) (i : ℕ) (s : StackOf) → i < length xs → frames_of (take (i + 1) (slice_set xs i s)) ≡ frames_of (take i xs) ++ s.frames ∷ []
frames_set xs i s within = ap frames_of (take_more_set xs i s within) ∙ frames_after (take i xs) s

-- Records that are written part by part.

module _ (threads : ℕ) (b c d : List ℕ) (level head : ℕ) (x : StateOf)
    (p : IsPacked take_number [] b level) (q : IsPacked take_number b c head) (r : IsPacked (take_state threads) c d x) where
  whole : d ≡ b ++ (q.more ++ r.more)
  whole = r.whole ∙ ap (λ l. l ++ r.more) q.whole ∙ append_assoc b q.more r.more

  state_is : take_state threads r.more ≡ (x, [])
  state_is = ap (take_state threads) (sym (append-nil r.more)) ∙ r.takes []

  key_is : take_key threads (q.more ++ r.more) ≡ ((head / 2 ^ 33 % 2 ^ 32, last_of (head % 2 ^ 33), x), [])
  key_is = search (rules, state_is)

  pub packed_key : take_key threads (drop (length b) d) ≡ ((head / 2 ^ 33 % 2 ^ 32, last_of (head % 2 ^ 33), x), [])
  packed_key = ap (take_key threads) (drop-appended b d (q.more ++ r.more) whole) ∙ key_is

  pub packed_node : node_of threads d ≡ record { state = x; made = head / 2 ^ 33 % 2 ^ 32; last = last_of (head % 2 ^ 33); level = level }
  packed_node = search (rules, whole, key_is)

-- the head of a key has the thread and how many listed steps were made
pub last_of_head : (made thread : ℕ) → thread < 2 ^ 32 → last_of ((made * 2 ^ 33 + thread + 1) % 2 ^ 33) ≡ Some thread
last_of_head made thread given1 = grind (arith)

pub made_of_head : (made thread : ℕ) → made < 2 ^ 32 → thread < 2 ^ 32 → (made * 2 ^ 33 + thread + 1) / 2 ^ 33 % 2 ^ 32 ≡ made
made_of_head made thread few small = omega (arith, few, small)

pub nodes_length : (threads : ℕ) (cells : List ℕ) (from : ℕ) (ends : List ℕ) → length (nodes_from threads cells from ends) ≡ length ends
nodes_length threads cells from [] = refl
nodes_length threads cells from (e ∷ es) = ap suc (nodes_length threads cells e es)

pub nodes_get : (threads : ℕ) (cells : List ℕ) (from : ℕ) (ends : List ℕ) (n : ℕ) → n < length ends
    → slice_get (nodes_from threads cells from ends) n ≡ Some (node_of threads (take (get_or ends n 0 - start_from from ends n) (drop (start_from from ends n) cells)))
nodes_get threads cells from [] n within = absurd (omega (arith, within))
nodes_get threads cells from (e ∷ es) zero within = refl
nodes_get threads cells from (e ∷ es) (suc zero) within = nodes_get threads cells e es zero (omega (arith, within))
nodes_get threads cells from (e ∷ es) (suc (suc n)) within = nodes_get threads cells e es (suc n) (omega (arith, within))

record_kept : (cells more : List ℕ) (from end : ℕ) → from ≤ length cells → end ≤ length cells
    → take (end - from) (drop from (cells ++ more)) ≡ take (end - from) (drop from cells)
record_kept cells more from end given1 given2 = search (rules, drop-append-le, take-append-le, length-drop)

pub nodes_added : (threads : ℕ) (cells more : List ℕ) (from : ℕ) (ends : List ℕ) → from ≤ length cells → All (λ e. e ≤ length cells) ends
    → end_of from ends ≡ length cells → (end : ℕ) → end ≡ length cells + length more
    → nodes_from threads (cells ++ more) from (ends ++ end ∷ []) ≡ nodes_from threads cells from ends ++ node_of threads more ∷ []
nodes_added threads cells more from [] a each last end is = search (rules, drop-appended, take_all)
nodes_added threads cells more from (e ∷ es) a each last end is =
    let here : e ≤ length cells = each 0 0 (omega arith) in
    let others : All (λ k. k ≤ length cells) es = λ k d below. each (suc k) d (omega (arith, below)) in
    let kept = record_kept cells more from e a here in
    ap (λ r. node_of threads r ∷ nodes_from threads (cells ++ more) e (es ++ end ∷ [])) kept
    ∙ ap (λ ns. node_of threads (take (e - from) (drop from cells)) ∷ ns) (nodes_added threads cells more e es here others last end is)

pub bounded_added : (ends : List ℕ) (a b end : ℕ) → All (λ e. e ≤ a) ends → a ≤ b → end ≡ b → All (λ e. e ≤ b) (ends ++ end ∷ [])
bounded_added [] a b end each more is zero d below = omega (arith, is)
bounded_added [] a b end each more is (suc k) d below = absurd (omega (arith, below))
bounded_added (e ∷ es) a b end each more is zero d below = let h : e ≤ a = each 0 0 (omega arith) in omega (arith, h, more)
bounded_added (e ∷ es) a b end each more is (suc k) d below = search (rules, (bounded_added es a b end (λ j c h. each (suc j) c (omega (arith, h))) more is k d (omega (arith, below))))

pub end_of_added : (from : ℕ) (ends : List ℕ) (end : ℕ) → end_of from (ends ++ end ∷ []) ≡ end
end_of_added from [] end = refl
end_of_added from (e ∷ es) end = end_of_added e es end

pub node_is : (threads : ℕ) (cells ends : List ℕ) (n : ℕ) (node : NodeOf) → slice_get (nodes_from threads cells 0 ends) n ≡ Some node
    → node_of threads (record_at cells ends n) ≡ node
node_is threads cells ends n node given1 = search (rules, slice_get_within, nodes_length, nodes_get)

-- A node with the key of a state.

pub key_held : (threads : ℕ) (nodes : List NodeOf) (key : List ℕ) (i made level : ℕ) (x : StateOf) → HasKey threads nodes key
    → take_key threads key ≡ ((made, Some i, x), []) → AreAtMost nodes level → Has nodes x i made level
key_held threads nodes key i made level x h e low =
    let same = h.same ∙ ap (λ p. p.0) e in
    record { at = h.at; used = h.node.level; is = h.is ∙ ap Some (λ j. record { state = (same j).2; made = (same j).0; last = (same j).1; level = h.node.level }); low = low h.at h.node h.is }
