-- The attempts before the first refused line, and those before the refused attempt on it, are the
-- longest accepted beginning.
use Rattle.bp_trace.proofs.Common.{◌≡◌, ℕ, zero, suc, ◌+◌, ◌-◌, ◌<◌, ◌≤◌, List, [], ◌∷◌, ◌++◌, length, take, drop, map, get_or, Some, ap, sym, ◌∙◌, subst, arith, inl, inr, length-append, length-drop, None, refl, ◌⊎◌, slice_get, take_more, take-append-drop, drop-drop, drop_at, AllByRecursion, both_added, regrouped, Program, Configuration, Call, configuration_after_call, configuration_after, configuration_after_calls, last_thread, SessionOf, Stands, PrintedRow, rows_of_call, rows_after, printed_rows, SetupOf, threads, start, setup_error, MAX_THREADS, few_threads, ReplayError, Version, IsBodyLineAt, HasNoBodyLine, IsRefusedAfter, IsCallRefusal, IsLineRefused, IsBodyRefusal, calls_text, HasHead, head_text, IsPlayable, IsBodyLine, IsCallError, line_count, IsAccepted, IsLongestAccepted, HasRefusedCall}
use Rattle.std.proofs.lemmas.List.{append-nil}
use Rattle.std.proofs.Math.Seq.{drop-cons}
use Rattle.bp_trace.proofs.PiecesAreFewest.{text_grows, count_grows, some_line, line_below, thread_of}
use Rattle.bp_trace.proofs.HeadsRead.{all_of_both, all_of_second, one_head}
use Rattle.bp_trace.proofs.OneRefusal.{State, IsNextLine, single, grown, walk_of, below}
use Rattle.bp_trace.proofs.Walks.{Walk, Stays, Goes, compared, stays}
use Rattle.bp_trace.proofs.OneText.{front_cut}
use Rattle.bp_trace.proofs.PlayableFronts.{not_refused, one_place}

-- The attempts of some lines of a trace, by a session that stands after them.

last_at : (h : List Call) (n : ℕ) (x : Call) → length h ≡ suc n → slice_get h n ≡ Some x → Some x.thread ≡ last_thread (map (λ (y : Call). y.thread) h)
last_at [] n x long e = absurd cc
last_at (a ∷ []) zero x long e = let same : a ≡ x = cc in ap (λ (y : Call). Some y.thread) (sym same)
last_at (a ∷ []) (suc n) x long e = absurd cc
last_at (a ∷ b ∷ h) zero x long e = absurd (omega (arith, long))
last_at (a ∷ b ∷ h) (suc n) x long e = last_at (b ∷ h) n x (omega (arith, long)) e

pub last_is : (h : List Call) (x : Call) → slice_get h (length h - 1) ≡ Some x → Some x.thread ≡ last_thread (map (λ (y : Call). y.thread) h)
last_is [] x e = absurd cc
last_is (a ∷ h) x e = last_at (a ∷ h) (length (a ∷ h) - 1) x (omega arith) e

rows_more : (t : Program) (c : Configuration) (h : List Call) (x : Call)
    → rows_after t c (h ++ x ∷ []) ≡ rows_after t c h ++ rows_of_call (configuration_after_calls t c h) x
rows_more t c [] x = append-nil (rows_of_call c x)
rows_more t c (y ∷ ys) x =
    let next = configuration_after_call t c y.thread y.bit y.reply in
    ap (λ rs. rows_of_call c y ++ rs) (rows_more t next ys x)
    ∙ simp regrouped

-- one more attempt
pub played_more : (t : Program) (s : SetupOf) (h new : List Call) (x : Call) (old_rows new_rows : List PrintedRow) → new ≡ h ++ x ∷ []
    → old_rows ≡ printed_rows t s h → new_rows ≡ old_rows ++ rows_of_call (configuration_after t s h) x → new_rows ≡ printed_rows t s new
played_more t s h new x old_rows new_rows is before after =
    after ∙ ap (λ rs. rs ++ rows_of_call (configuration_after t s h) x) before ∙ sym (rows_more t (start t s) h x) ∙ ap (printed_rows t s) (sym is)

-- a session stands only after playable histories
pub playable_of : (t : Program) (x : SessionOf) (s : SetupOf) (h : List Call) → x.setup ≡ s → Stands t x h → IsPlayable t s h
playable_of t x s h same stands = subst (λ z. IsPlayable t z h) same (record { legal = stands.state.legal; seeded = stands.seeded })

-- the refusal of the i-th attempt of a line
module _ (t : Program) (s : SetupOf) (h own calls : List Call) (i : ℕ) (d : Call) (within : i < length calls) (parts : own ≡ h ++ take i calls) where
  whole : calls ≡ take i calls ++ get_or calls i d ∷ drop (suc i) calls
  whole = sym (take-append-drop i calls) ∙ ap (λ cs. take i calls ++ cs) (drop-cons calls i d within)

  pub line_refused : (n : ℕ) (f : ReplayError) → IsPlayable t s own → IsCallRefusal t s own n (get_or calls i d) f → IsLineRefused t s h n calls own f
  line_refused n f playable (inl memory) = inl memory
  line_refused n f playable (inr refused) = inr (record {
    among = record {
      good = take i calls;
      call = get_or calls i d;
      others = drop (suc i) calls;
      parts = whole;
      playable = subst (IsPlayable t s) parts playable;
      refused = subst (λ k. IsCallError t s k n (get_or calls i d) f) parts refused;
    };
    are = parts;
  })

-- one more line of a text
module _ (v : Version) (n first : ℕ) (text : List ℕ) (h : List Call) (size line : ℕ) (within : size ≤ length text)
    (parts : text ≡ calls_text v h ++ drop size text) (number : line ≡ first + line_count v h) where
  module _ (calls new : List Call) (more : ℕ)
      (at : IsBodyLineAt v n (last_thread (map (λ (x : Call). x.thread) h)) (drop size text) calls more)
      (is : new ≡ h ++ calls) where
    rest_is : drop (size + more) text ≡ at.more
    rest_is = sym (drop-drop more size text) ∙ ap (drop more) at.begins ∙ drop_at at.line at.more more (sym at.size_is)

    pub next_line : line ≤ first + size
        → (size + more ≤ length text) × (text ≡ calls_text v new ++ drop (size + more) text) × (line + 1 ≡ first + line_count v new)
        × (line + 1 ≤ first + (size + more))
    next_line few = (
      let whole = ap length at.begins in omega (arith, within, whole, at.size_is, length-append at.line at.more, length-drop size text),
      parts ∙ ap (λ r. calls_text v h ++ r) at.begins ∙ rw (is, text_grows v n h at.line calls at.is_line, rest_is) (simp regrouped),
      omega (arith, number, ap (line_count v) is, count_grows v n h at.line calls at.is_line),
      omega (arith, few, at.size_is, some_line v n (last_thread (map (λ (x : Call). x.thread) h)) at.line calls at.is_line),
    )

  module _ (t : Program) (s : SetupOf) (many : n ≡ threads s) (playable : IsPlayable t s h) (calls : List Call) (more : ℕ)
      (at : IsBodyLineAt v n (last_thread (map (λ (x : Call). x.thread) h)) (drop size text) calls more) where
    pub body_refused : (played : List Call) (f : ReplayError) → IsLineRefused t s h line calls played f → IsBodyRefusal t v s text first played f
    body_refused played f (inl memory) = inl memory
    body_refused played f (inr after) = let moved = subst (λ k. IsRefusedAfter t s h k calls played f) number after in inr (record {
      history = h;
      rest = drop size text;
      playable = playable;
      parts = parts;
      refused = record {
        line = at.line;
        calls = calls;
        more = at.more;
        is_line = subst (λ k. IsBodyLine k (last_thread (map (λ (x : Call). x.thread) h)) at.line calls v) many at.is_line;
        begins = at.begins;
        among = moved.among;
      };
      are = moved.are;
    })

-- one more of the attempts of a line
pub history_more : (old own new calls : List Call) (i : ℕ) (d : Call) → i < length calls → own ≡ old ++ take i calls
    → new ≡ own ++ get_or calls i d ∷ [] → new ≡ old ++ take (i + 1) calls
history_more old own new calls i d within before after =
    both_added old own new (take i calls) (get_or calls i d ∷ []) _ after before (sym (take_more calls i d within))

-- a front of a list is one of its first part, or has the element after it
abbrev Fronts : List Call → List Call → Call → Type 0
Fronts g h c = ((m : List Call) × (h ≡ g ++ m)) ⊎ ((m : List Call) × (g ≡ h ++ c ∷ m))

fronts : (g k h : List Call) (c : Call) (z : List Call) → g ++ k ≡ h ++ c ∷ z → Fronts g h c
fronts g [] h c z e = inr (z, sym (append-nil g) ∙ e)
fronts g (x ∷ k) h c z e = elim (one_place g h k z x c e) [
  | inl same ↦ inl ([], sym same.0 ∙ sym (append-nil g))
  | inr other ↦ elim other [ inl before ↦ inl (x ∷ before.0, before.1) | inr after ↦ inr after ]
]

module _ (t : Program) (text : List ℕ) (v : Version) (s : SetupOf) (has : HasHead s) (fine : setup_error t s ≡ None)
    (h : List Call) (playable : IsPlayable t s h) (rest : List ℕ) (parts : text ≡ head_text v s ++ (calls_text v h ++ rest)) where
  abbrev few : threads s ≤ MAX_THREADS
  few = few_threads t s fine

  -- the accepted lines of this setup continue to those of h, or from there
  abbrev Compared : State (threads s) v → Type 0
  Compared b = Walk (IsNextLine (threads s) v) b (h, rest) ⊎ Walk (IsNextLine (threads s) v) (h, rest) b

  within : (g : List Call) (a : IsAccepted t text v s g) → Compared (g ++ a.others, a.rest)
  within g a =
      let all = all_of_both (λ (x : Call). x.thread < threads s) g a.others (below t v s few [] g a.playable.legal) a.threads in
      let alike = front_cut (head_text v s) _ _ (sym parts ∙ a.parts) in
      let own = walk_of (threads s) v h rest (below t v s few [] h playable.legal) in
      compared (IsNextLine (threads s) v) (single (threads s) v few) _ _ _ (walk_of (threads s) v (g ++ a.others) a.rest all)
      (subst (λ z. Walk (IsNextLine (threads s) v) ([], z) (h, rest)) alike own)

  moved : (w : Version) (r : SetupOf) (g : List Call) → IsAccepted t text w r g → IsAccepted t text v s g
  moved w r g a =
      let same = one_head w v r s _ _ a.head has (sym a.parts ∙ parts) in
      subst (λ z. IsAccepted t text z s g) same.0 (subst (λ z. IsAccepted t text w z g) same.1 a)

  -- no line of attempts begins the rest
  module _ (ends : HasNoBodyLine v (threads s) (last_thread (map thread_of h)) rest) where
    beginning : (g o : List Call) (r : List ℕ) → Compared (g ++ o, r) → (m : List Call) × (h ≡ g ++ m)
    beginning g o r (inl on) = let (m, is) = grown (threads s) v (g ++ o, r) (h, rest) on in (o ++ m, is ∙ simp regrouped)
    beginning g o r (inr back) =
        (o, ap (λ z. z.0) (stays (IsNextLine (threads s) v) (h, rest) (g ++ o, r) back (λ u next. ends next.line next.calls u.1 next.is_line next.begins)))

    pub longest_before_no_line : IsLongestAccepted t text v s h
    longest_before_no_line = record {
      accepted = record {
        head = has;
        fine = fine;
        playable = playable;
        others = [];
        threads = tt;
        rest = rest;
        parts = parts ∙ ap (λ z. head_text v s ++ (calls_text v z ++ rest)) (sym (append-nil h));
      };
      longest = λ w r g a. let own = moved w r g a in beginning g own.others own.rest (within g own);
    }

  -- a line of attempts begins it, of which one is refused
  module _ (n : ℕ) (f : ReplayError) (r : HasRefusedCall t v s h n rest f) where
    abbrev good : List Call
    good = h ++ r.among.good

    not_more : (g : List Call) → IsPlayable t s g → Fronts g good r.among.call → (m : List Call) × (good ≡ g ++ m)
    not_more g playable (inl found) = found
    not_more g playable (inr more) =
        absurd (not_refused t s good r.among.call more.0 (subst (IsPlayable t s) more.1 playable) n f r.among.refused)

    refused_line : IsNextLine (threads s) v (h, rest) (h ++ r.calls, r.more)
    refused_line = record { line = r.line; calls = r.calls; is_line = r.is_line; history = refl; begins = r.begins }

    -- lines that continue h continue that line
    with_line : (a b c : State (threads s) v) → IsNextLine (threads s) v a c → Walk (IsNextLine (threads s) v) a b → (a.0 ≡ b.0) ⊎ ((m : List Call) × (b.0 ≡ c.0 ++ m))
    with_line a b c next Stays = inl refl
    with_line a b c next (Goes {u = u} other w) =
        let (m, is) = grown (threads s) v u b w in inr (m, is ∙ ap (λ z. z.0 ++ m) (single (threads s) v few a u c other next))

    before_it : (g o : List Call) (k : List ℕ) → IsPlayable t s g → Compared (g ++ o, k) → (m : List Call) × (good ≡ g ++ m)
    before_it g o k playable (inl on) =
        let (m, is) = grown (threads s) v (g ++ o, k) (h, rest) on in (o ++ (m ++ r.among.good), ap (λ z. z ++ r.among.good) is ∙ simp regrouped)
    before_it g o k playable (inr back) = by_end (with_line (h, rest) (g ++ o, k) (h ++ r.calls, r.more) refused_line back)
      where
        by_end : (h ≡ g ++ o) ⊎ ((m : List Call) × (g ++ o ≡ (h ++ r.calls) ++ m)) → (m : List Call) × (good ≡ g ++ m)
        by_end (inl same) = (o ++ r.among.good, ap (λ z. z ++ r.among.good) same ∙ simp regrouped)
        by_end (inr (m, is)) =
            let whole = is ∙ ap (λ z. (h ++ z) ++ m) r.among.parts in
            not_more g playable (fronts g o good r.among.call (r.among.others ++ m) (whole ∙ simp regrouped))

    goes_on : text ≡ head_text v s ++ (calls_text v (good ++ r.among.call ∷ r.among.others) ++ r.more)
    goes_on =
        let grown = text_grows v (threads s) h r.line r.calls r.is_line in
        let calls : h ++ r.calls ≡ good ++ r.among.call ∷ r.among.others =
        ap (λ z. h ++ z) r.among.parts ∙ (simp regrouped) in
        let split : calls_text v h ++ (r.line ++ r.more) ≡ (calls_text v h ++ r.line) ++ r.more = simp regrouped in
        let line : calls_text v h ++ rest ≡ calls_text v (h ++ r.calls) ++ r.more =
        ap (λ z. calls_text v h ++ z) r.begins ∙ split ∙ ap (λ z. z ++ r.more) (sym grown) in
        parts ∙ ap (λ z. head_text v s ++ z) (line ∙ ap (λ z. calls_text v z ++ r.more) calls)

    later : AllByRecursion (λ (x : Call). x.thread < threads s) (r.among.call ∷ r.among.others)
    later =
        all_of_second (λ (x : Call). x.thread < threads s) r.among.good (r.among.call ∷ r.among.others)
        (subst (AllByRecursion (λ (x : Call). x.thread < threads s)) r.among.parts
        (line_below v (threads s) (last_thread (map thread_of h)) r.line r.calls r.is_line))

    pub longest_before_refused : IsLongestAccepted t text v s good
    longest_before_refused = record {
      accepted = record {
        head = has;
        fine = fine;
        playable = r.among.playable;
        others = r.among.call ∷ r.among.others;
        threads = later;
        rest = r.more;
        parts = goes_on;
      };
      longest = λ w u g a.
          let own = moved w u g a in
          before_it g own.others own.rest own.playable (within g own);
    }
