-- Two histories that may be played, each followed by text that no line of attempts continues, have
-- two texts; so a text has at most one refusal.
use Rattle.bp_trace.proofs.Common.{◌≡◌, ℕ, ◌<◌, List, [], ◌∷◌, ◌++◌, map, flat_map, refl, ap, sym, ◌∙◌, subst, ◌≢◌, ◌≤◌, ◌+◌, length, ◌⊎◌, inl, inr, length-append, arith, append-nil, None, Some, rules, AllByRecursion, regrouped, Program, Call, last_thread, MAX_THREADS, IsLegalAfter, live_threads, SetupOf, threads, setup_error, Version, One, Two, Piece, calls_of_piece, calls_of_pieces, pieces_of, call_line, piece_line, calls_text, end_line, HasHead, head_lines, head_text, IsBodyLine, IsPlayable, counts_of, IsEndLine, HasOtherEnd, HasMoreAfter, IsRefusedAmong, HasNoNextLine, HasRefusedCall, IsRestRefused, IsTrace, line_count, Reaches, HasRefusedSetup, HasRefusedRest, IsReplayRefusal, ReplayError, TEXT_LIMIT, entries_are_names, fits, few_threads, few_calls, range_of, MAX_TRACE, OneRefusal, RefusedIsNoTrace, BreaksAt, one_break, head}
use Rattle.bp_trace.proofs.PiecesAreFewest.{piece_thread, last_is_thread, Alternate, pieces_alternate, pieces_threads, thread_of, pieces_whole, some_line}
use Rattle.bp_trace.proofs.EndLineAt.{one_body_line, one_end_line, not_both}
use Rattle.bp_trace.proofs.PlayableFronts.{front, one_among, not_refused}
use Rattle.bp_trace.proofs.Walks.{Walk, Stays, Goes, IsSingle, compared}
use Rattle.bp_syntax.specs.Texts.{HasText}
use Rattle.bp_syntax.proofs.NamesOfTokens.{short_names}
use Rattle.bp_syntax.specs.Errors.{IsWellFormed}
use Rattle.bp_machine.specs.declared.setup_errors.SetupError.{SetupError}
use Rattle.bp_trace.proofs.HeadsRead.{no_break, one_head}
use Rattle.bp_trace.proofs.OneText.{front_cut}
use Rattle.bp_trace.proofs.TraceLength.{own_end, trace_short}
use Rattle.bp_trace.specs.declared.errors.ReplayError.TheVariants as error

-- The text of a history is that of its lines, each of which may follow the attempts before it.

module _ (n : ℕ) (v : Version) where
  -- the attempts so far, and the rest of the text
  abbrev pub State : Type 0
  State = List Call × List ℕ

  -- a line of attempts that may follow begins the rest
  pub record IsNextLine (a b : State) : Type 0 where
    pub line : List ℕ
    pub calls : List Call
    pub is_line : IsBodyLine n (last_thread (map thread_of a.0)) line calls v
    pub history : b.0 ≡ a.0 ++ calls
    pub begins : a.1 ≡ line ++ b.1

  pub single : n ≤ MAX_THREADS → IsSingle IsNextLine
  single few a b c p q =
      let (line, calls, rest) = one_body_line n few (last_thread (map thread_of a.0)) v p.line q.line p.calls q.calls b.1 c.1
      p.is_line q.is_line (sym p.begins ∙ q.begins) in
      λ i. ((p.history ∙ ap (λ z. a.0 ++ z) calls ∙ sym q.history) i, rest i)

  -- a walk adds attempts
  pub grown : (a b : State) → Walk IsNextLine a b → (m : List Call) × (b.0 ≡ a.0 ++ m)
  grown a b Stays = ([], sym (append-nil a.0))
  grown a b (Goes {u = u} next w) = let (m, is) = grown u b w in (next.calls ++ m, is ∙ ap (λ z. z ++ m) next.history ∙ simp regrouped)

module _ (n : ℕ) where
  call_walk : (p h : List Call) (x : List ℕ) → AllByRecursion (λ (c : Call). c.thread < n) h → Walk (IsNextLine n One) (p, flat_map call_line h ++ x) (p ++ h, x)
  call_walk p [] x below = subst (λ q. Walk (IsNextLine n One) (p, x) (q, x)) (sym (append-nil p)) Stays
  call_walk p (c ∷ h) x below =
      let next : IsNextLine n One (p, flat_map call_line (c ∷ h) ++ x) (p ++ c ∷ [], flat_map call_line h ++ x) = record {
        line = call_line c;
        calls = c ∷ [];
        is_line = record { call = c; thread = below.0; is = refl; holds = refl };
        history = refl;
        begins = simp regrouped;
      } in
      Goes next (subst (λ q. Walk (IsNextLine n One) (p ++ c ∷ [], flat_map call_line h ++ x) (q, x)) (simp regrouped) (call_walk (p ++ c ∷ []) h x below.1))

  piece_walk : (p : List Call) (ks : List Piece) (x : List ℕ) → AllByRecursion (λ (k : Piece). k.thread < n) ks → Alternate (last_thread (map thread_of p)) ks
      → Walk (IsNextLine n Two) (p, flat_map piece_line ks ++ x) (p ++ calls_of_pieces ks, x)
  piece_walk p [] x below other = subst (λ q. Walk (IsNextLine n Two) (p, x) (q, x)) (sym (append-nil p)) Stays
  piece_walk p (k ∷ ks) x below other =
      let next : IsNextLine n Two (p, flat_map piece_line (k ∷ ks) ++ x) (p ++ calls_of_piece k, flat_map piece_line ks ++ x) = record {
        line = piece_line k;
        calls = calls_of_piece k;
        is_line = record { piece = k; thread = below.0; other = other.0; is = refl; holds = refl };
        history = refl;
        begins = simp regrouped;
      } in
      let later = subst (λ l. Alternate l ks) (sym (last_is_thread k.thread p (calls_of_piece k) (piece_thread k))) other.1 in
      Goes next (subst (λ q. Walk (IsNextLine n Two) (p ++ calls_of_piece k, flat_map piece_line ks ++ x) (q, x)) (simp regrouped)
      (piece_walk (p ++ calls_of_piece k) ks x below.1 later))

  pub walk_of : (v : Version) (h : List Call) (x : List ℕ) → AllByRecursion (λ (c : Call). c.thread < n) h → Walk (IsNextLine n v) ([], calls_text v h ++ x) (h, x)
  walk_of One h x below = call_walk [] h x below
  walk_of Two h x below =
      subst (λ g. Walk (IsNextLine n Two) ([], calls_text Two h ++ x) (g, x)) (pieces_whole h)
      (piece_walk [] (pieces_of h) x (pieces_threads (λ i. i < n) h below) (pieces_alternate h))

module _ (t : Program) (v : Version) (s : SetupOf) (few : threads s ≤ MAX_THREADS) where
  -- no line of attempts that may be played after h begins the text
  abbrev pub Stops : List Call → List ℕ → Type 0
  Stops h x =
      (line : List ℕ) (calls : List Call) (more : List ℕ)
      → IsBodyLine (threads s) (last_thread (map thread_of h)) line calls v → IsPlayable t s (h ++ calls) → x ≢ line ++ more

  not_gone : (a b : State (threads s) v) → Walk (IsNextLine (threads s) v) a b → IsPlayable t s b.0 → Stops a.0 a.1 → (a.0 ≡ b.0) × (a.1 ≡ b.1)
  not_gone a b Stays playable stops = (refl, refl)
  not_gone a b (Goes {u = u} next w) playable stops =
      let (m, is) = grown (threads s) v u b w in
      let played = front t s (a.0 ++ next.calls) m (subst (IsPlayable t s) (is ∙ ap (λ z. z ++ m) next.history) playable) in
      absurd (stops next.line next.calls u.1 next.is_line played next.begins)

  pub below : (p h : List Call) → IsLegalAfter t s p h → AllByRecursion (λ (x : Call). x.thread < threads s) h
  below p [] legal = tt
  below p (x ∷ xs) (allowed, rest) = (allowed.thread, below (p ++ x ∷ []) xs rest)

  -- two histories that may be played, each followed by text that no line continues, that have one
  -- text
  pub one_history : (h g : List Call) (x y : List ℕ) → IsPlayable t s h → IsPlayable t s g → Stops h x → Stops g y
      → calls_text v h ++ x ≡ calls_text v g ++ y → (h ≡ g) × (x ≡ y)
  one_history h g x y ph pg sx sy e =
      let own = walk_of (threads s) v h x (below [] h ph.legal) in
      let other = subst (λ z. Walk (IsNextLine (threads s) v) ([], z) (g, y)) (sym e) (walk_of (threads s) v g y (below [] g pg.legal)) in
      elim (compared (IsNextLine (threads s) v) (single (threads s) v few) _ (h, x) (g, y) own other) [
        | inl on ↦ not_gone (h, x) (g, y) on pg sx
        | inr back ↦ let same = not_gone (g, y) (h, x) back ph sy in (sym same.0, sym same.1)
      ]

-- The text after the attempts of a history is refused once, or is its end.

module _ (t : Program) (v : Version) (s : SetupOf) (few : threads s ≤ MAX_THREADS) (h : List Call)
    (own_is : IsEndLine (end_line (length h) (live_threads s h))) (n : ℕ) (x : List ℕ) where
  abbrev own : List ℕ
  own = end_line (length h) (live_threads s h)

  abbrev Next : List ℕ → List Call → Type 0
  Next line calls = IsBodyLine (threads s) (last_thread (map thread_of h)) line calls v

  end_or_line : (line end : List ℕ) (calls : List Call) (a b : List ℕ) → Next line calls → IsEndLine end → x ≡ line ++ a → x ≡ end ++ b → ⊥
  end_or_line line end calls a b next is_end e f = not_both (threads s) few (last_thread (map thread_of h)) v line end calls a b next is_end (sym e ∙ f)

  call_stops : (f : ReplayError) → HasRefusedCall t v s h n x f → Stops t v s few h x
  call_stops f r line calls more next playable e =
      let (same, held, rest) = one_body_line (threads s) few (last_thread (map thread_of h)) v line r.line calls r.calls
      more r.more next r.is_line (sym e ∙ r.begins) in
      let parts = held ∙ r.among.parts in
      not_refused t s (h ++ r.among.good) r.among.call r.among.others (simp regrouped (rw parts at playable)) n f r.among.refused

  -- why it is refused
  abbrev pub Refused : ReplayError → Type 0
  Refused f =
      ((f ≡ error.NoEnd (counts_of s h)) × (x ≡ []))
      ⊎ (((f ≡ error.EndCount n (counts_of s h)) × HasOtherEnd own x)
      ⊎ (((f ≡ error.Line n) × HasNoNextLine t v s h n x)
      ⊎ (((f ≡ error.Line (n + 1)) × HasMoreAfter own x)
      ⊎ HasRefusedCall t v s h n x f)))

  pub refused : (f : ReplayError) → IsRestRefused t v s h n x f → Refused f
  refused f given1 = grind (arith)

  pub stops : (f : ReplayError) → Refused f → Stops t v s few h x
  stops f (inl r) line calls more next playable e =
      omega (arith, some_line v (threads s) (last_thread (map thread_of h)) line calls next, ap length (sym r.1 ∙ e), length-append line more)
  stops f (inr (inl r)) line calls more next playable e = end_or_line line r.1.line calls more r.1.more next r.1.is_end e r.1.begins
  stops f (inr (inr (inl r))) line calls more next playable e = r.1.calls line calls more next e
  stops f (inr (inr (inr (inl r)))) line calls more next playable e = end_or_line line own calls more r.1.more next own_is e r.1.begins
  stops f (inr (inr (inr (inr r)))) line calls more next playable e = call_stops f r line calls more next playable e

  -- nothing, an end and a line of attempts are not begun by one text
  nothing_ends : (end more : List ℕ) → IsEndLine end → x ≡ [] → x ≡ end ++ more → ⊥
  nothing_ends end more is_end e f = omega (arith, ap length (sym e ∙ f), length-append end more, ap length is_end.is)

  nothing_goes_on : (line more : List ℕ) (calls : List Call) → Next line calls → x ≡ [] → x ≡ line ++ more → ⊥
  nothing_goes_on line more calls next e f =
      omega (arith, some_line v (threads s) (last_thread (map thread_of h)) line calls next, ap length (sym e ∙ f), length-append line more)

  other_and_own : HasOtherEnd own x → HasMoreAfter own x → ⊥
  other_and_own p q = p.other (one_end_line p.line own p.more q.more p.is_end own_is (sym p.begins ∙ q.begins)).0

  pub one_rest : (f g : ReplayError) → Refused f → Refused g → f ≡ g
  one_rest f g (inl p) (inl q) = p.0 ∙ sym q.0
  one_rest f g (inl p) (inr (inl q)) = absurd (nothing_ends q.1.line q.1.more q.1.is_end p.1 q.1.begins)
  one_rest f g (inl p) (inr (inr (inl q))) = absurd (q.1.some p.1)
  one_rest f g (inl p) (inr (inr (inr (inl q)))) = absurd (nothing_ends own q.1.more own_is p.1 q.1.begins)
  one_rest f g (inl p) (inr (inr (inr (inr q)))) = absurd (nothing_goes_on q.line q.more q.calls q.is_line p.1 q.begins)
  one_rest f g (inr (inl p)) (inl q) = absurd (nothing_ends p.1.line p.1.more p.1.is_end q.1 p.1.begins)
  one_rest f g (inr (inl p)) (inr (inl q)) = p.0 ∙ sym q.0
  one_rest f g (inr (inl p)) (inr (inr (inl q))) = absurd (q.1.ends p.1.line p.1.more p.1.is_end p.1.begins)
  one_rest f g (inr (inl p)) (inr (inr (inr (inl q)))) = absurd (other_and_own p.1 q.1)
  one_rest f g (inr (inl p)) (inr (inr (inr (inr q)))) = absurd (end_or_line q.line p.1.line q.calls q.more p.1.more q.is_line p.1.is_end q.begins p.1.begins)
  one_rest f g (inr (inr (inl p))) (inl q) = absurd (p.1.some q.1)
  one_rest f g (inr (inr (inl p))) (inr (inl q)) = absurd (p.1.ends q.1.line q.1.more q.1.is_end q.1.begins)
  one_rest f g (inr (inr (inl p))) (inr (inr (inl q))) = p.0 ∙ sym q.0
  one_rest f g (inr (inr (inl p))) (inr (inr (inr (inl q)))) = absurd (p.1.ends own q.1.more own_is q.1.begins)
  one_rest f g (inr (inr (inl p))) (inr (inr (inr (inr q)))) = absurd (p.1.calls q.line q.calls q.more q.is_line q.begins)
  one_rest f g (inr (inr (inr (inl p)))) (inl q) = absurd (nothing_ends own p.1.more own_is q.1 p.1.begins)
  one_rest f g (inr (inr (inr (inl p)))) (inr (inl q)) = absurd (other_and_own q.1 p.1)
  one_rest f g (inr (inr (inr (inl p)))) (inr (inr (inl q))) = absurd (q.1.ends own p.1.more own_is p.1.begins)
  one_rest f g (inr (inr (inr (inl p)))) (inr (inr (inr (inl q)))) = p.0 ∙ sym q.0
  one_rest f g (inr (inr (inr (inl p)))) (inr (inr (inr (inr q)))) =
      absurd (end_or_line q.line own q.calls q.more p.1.more q.is_line own_is q.begins p.1.begins)
  one_rest f g (inr (inr (inr (inr p)))) (inl q) = absurd (nothing_goes_on p.line p.more p.calls p.is_line q.1 p.begins)
  one_rest f g (inr (inr (inr (inr p)))) (inr (inl q)) = absurd (end_or_line p.line q.1.line p.calls p.more q.1.more p.is_line q.1.is_end p.begins q.1.begins)
  one_rest f g (inr (inr (inr (inr p)))) (inr (inr (inl q))) = absurd (q.1.calls p.line p.calls p.more p.is_line p.begins)
  one_rest f g (inr (inr (inr (inr p)))) (inr (inr (inr (inl q)))) =
      absurd (end_or_line p.line own p.calls p.more q.1.more p.is_line own_is p.begins q.1.begins)
  one_rest f g (inr (inr (inr (inr p)))) (inr (inr (inr (inr q)))) =
      let (same, held, rest) = one_body_line (threads s) few (last_thread (map thread_of h)) v p.line q.line p.calls
      q.calls p.more q.more p.is_line q.is_line (sym p.begins ∙ q.begins) in
      one_among t s h n q.calls f g (subst (λ cs. IsRefusedAmong t s h n cs f) held p.among) q.among

  -- only its own end is not refused
  pub end_stops : x ≡ own → Stops t v s few h x
  end_stops e line calls more next playable f = end_or_line line own calls more [] next own_is f (e ∙ sym (append-nil own))

  pub end_not_refused : (f : ReplayError) → x ≡ own → Refused f → ⊥
  end_not_refused f e (inl r) = nothing_ends own [] own_is r.1 (e ∙ sym (append-nil own))
  end_not_refused f e (inr (inl r)) =
      r.1.other (one_end_line r.1.line own r.1.more [] r.1.is_end own_is (sym r.1.begins ∙ e ∙ sym (append-nil own))).0
  end_not_refused f e (inr (inr (inl r))) = r.1.ends own [] own_is (e ∙ sym (append-nil own))
  end_not_refused f e (inr (inr (inr (inl r)))) =
      r.1.some (one_end_line own own r.1.more [] own_is own_is (sym r.1.begins ∙ e ∙ sym (append-nil own))).1
  end_not_refused f e (inr (inr (inr (inr r)))) = end_or_line r.line own r.calls r.more [] r.is_line own_is r.begins (e ∙ sym (append-nil own))

-- A text has at most one refusal, and one that is refused is no trace.

module _ (t : Program) (text : List ℕ) where
  -- a text with a rest after two histories, and the refusal there
  module _ (v : Version) (s : SetupOf) (h g : List Call) (n m : ℕ) (x y : List ℕ) (p : Reaches t text v s h n x) (q : Reaches t text v s g m y) where
    abbrev few : threads s ≤ MAX_THREADS
    few = few_threads t s p.fine

    own_h : IsEndLine (end_line (length h) (live_threads s h))
    own_h = own_end t s h few (few_calls t s p.fine) p.playable.legal

    own_g : IsEndLine (end_line (length g) (live_threads s g))
    own_g = own_end t s g few (few_calls t s p.fine) q.playable.legal

    alike : calls_text v h ++ x ≡ calls_text v g ++ y
    alike = front_cut (head_text v s) (calls_text v h ++ x) (calls_text v g ++ y) (sym p.parts ∙ q.parts)

    one_of_rests : (f k : ReplayError) → IsRestRefused t v s h n x f → IsRestRefused t v s g m y k → f ≡ k
    one_of_rests f k a b =
        let here = refused t v s few h own_h n x f a in
        let there = refused t v s few g own_g m y k b in
        let (calls, after) = one_history t v s few h g x y p.playable q.playable (stops t v s few h own_h n x f here)
        (stops t v s few g own_g m y k there) alike in
        let number : m ≡ n = omega (arith, p.number, q.number, ap (line_count v) calls) in
        let moved = subst (λ z. IsRestRefused t v s h n z k) (sym after)
        (subst (λ z. IsRestRefused t v s h z y k) number (subst (λ z. IsRestRefused t v s z m y k) (sym calls) b)) in
        one_rest t v s few h own_h n x f k here (refused t v s few h own_h n x k moved)

    -- if the rest after the first is its end
    ended_not_refused : (k : ReplayError) → x ≡ end_line (length h) (live_threads s h) → IsRestRefused t v s g m y k → ⊥
    ended_not_refused k end b =
        let there = refused t v s few g own_g m y k b in
        let (calls, after) = one_history t v s few h g x y p.playable q.playable (end_stops t v s few h own_h n x end)
        (stops t v s few g own_g m y k there) alike in
        let moved = subst (λ z. IsRestRefused t v s h m z k) (sym after) (subst (λ z. IsRestRefused t v s z m y k) (sym calls) b) in
        end_not_refused t v s few h own_h m x k end (refused t v s few h own_h m x k moved)

  no_stop : (v : Version) (s : SetupOf) (rest : List ℕ) (k : ℕ) → HasHead s → text ≡ head_text v s ++ rest → BreaksAt head text k → ⊥
  no_stop v s rest k has parts breaks = no_break v s text rest k has parts breaks

  -- of a setup that has an error and one that has none, one is not that of the text
  not_fine : (v w : Version) (s r : SetupOf) (x y : List ℕ) (g : SetupError) → HasHead s → HasHead r → text ≡ head_text v s ++ x → text ≡ head_text w r ++ y
      → setup_error t s ≡ Some g → setup_error t r ≡ None → ⊥
  not_fine v w s r x y g p q a b some none =
      let same = one_head v w s r x y p q (sym a ∙ b) in
      let error = ap (setup_error t) same.1 in
      let found : Some g ≡ None = sym some ∙ error ∙ none in
      absurd cc

  -- why it is refused
  abbrev Cause : ReplayError → Type 0
  Cause f =
      ((k : ℕ) × (f ≡ error.Head k) × BreaksAt head text k)
      ⊎ (((g : SetupError) × (f ≡ error.Setup g) × HasRefusedSetup t text g)
      ⊎ HasRefusedRest t text f)

  abbrev Refusal : ReplayError → Type 0
  Refusal f = ((f ≡ error.TooLong) × (MAX_TRACE < length text)) ⊎ ((length text ≤ MAX_TRACE) × Cause f)

  refusal : (f : ReplayError) → f ≢ error.Memory → IsReplayRefusal t text f → Refusal f
  refusal f given1 given2 = grind (arith)

  moved_to : (v w : Version) (s r : SetupOf) (g : List Call) (m : ℕ) (y : List ℕ) → v ≡ w → s ≡ r → Reaches t text w r g m y → Reaches t text v s g m y
  moved_to v w s r g m y a b q = subst (λ z. Reaches t text v z g m y) (sym b) (subst (λ z. Reaches t text z r g m y) (sym a) q)

  rest_moved_to : (v w : Version) (s r : SetupOf) (g : List Call) (m : ℕ) (y : List ℕ) (f : ReplayError) → v ≡ w → s ≡ r
      → IsRestRefused t w r g m y f → IsRestRefused t v s g m y f
  rest_moved_to v w s r g m y f a b q = subst (λ z. IsRestRefused t v z g m y f) (sym b) (subst (λ z. IsRestRefused t z r g m y f) (sym a) q)

  one_cause : (f g : ReplayError) → Cause f → Cause g → f ≡ g
  one_cause f g (inl p) (inl q) = p.1 ∙ ap error.Head (one_break head text p.0 q.0 p.2 q.2) ∙ sym q.1
  one_cause f g (inl p) (inr (inl q)) = absurd (no_stop q.2.version q.2.setup q.2.rest p.0 q.2.head q.2.parts p.2)
  one_cause f g (inl p) (inr (inr q)) = absurd (no_stop q.version q.setup _ p.0 q.reached.head q.reached.parts p.2)
  one_cause f g (inr (inl p)) (inl q) = absurd (no_stop p.2.version p.2.setup p.2.rest q.0 p.2.head p.2.parts q.2)
  one_cause f g (inr (inl p)) (inr (inl q)) =
      let same = one_head p.2.version q.2.version p.2.setup q.2.setup p.2.rest q.2.rest p.2.head q.2.head (sym p.2.parts ∙ q.2.parts) in
      let found : Some p.0 ≡ Some q.0 = sym p.2.error ∙ ap (setup_error t) same.1 ∙ q.2.error in
      let alike : p.0 ≡ q.0 = cc in
      p.1 ∙ ap error.Setup alike ∙ sym q.1
  one_cause f g (inr (inl p)) (inr (inr q)) = search (rules, not_fine)
  one_cause f g (inr (inr p)) (inl q) = absurd (no_stop p.version p.setup _ q.0 p.reached.head p.reached.parts q.2)
  one_cause f g (inr (inr p)) (inr (inl q)) = search (rules, not_fine)
  one_cause f g (inr (inr p)) (inr (inr q)) =
      let same = one_head p.version q.version p.setup q.setup _ _ p.reached.head q.reached.head (sym p.reached.parts ∙ q.reached.parts) in
      let other = moved_to p.version q.version p.setup q.setup q.history q.number q.rest same.0 same.1 q.reached in
      one_of_rests p.version p.setup p.history q.history p.number q.number p.rest q.rest p.reached other f g p.refused
      (rest_moved_to p.version q.version p.setup q.setup q.history q.number q.rest g same.0 same.1 q.refused)

  one_refusal_of : (f g : ReplayError) → Refusal f → Refusal g → f ≡ g
  one_refusal_of f g (inl p) (inl q) = p.0 ∙ sym q.0
  one_refusal_of f g (inl p) (inr q) = absurd (omega (arith, p.1, q.0))
  one_refusal_of f g (inr p) (inl q) = absurd (omega (arith, p.0, q.1))
  one_refusal_of f g (inr p) (inr q) = one_cause f g p.1 q.1

pub one_refusal : OneRefusal
one_refusal t text f g other another p q = one_refusal_of t text f g (refusal t text f other p) (refusal t text g another q)

-- ---- a trace

module _ (t : Program) (v : Version) (s : SetupOf) (h : List Call) (text : List ℕ) (well_formed : IsWellFormed t)
    (of_text : HasText t) (trace : IsTrace t v s h text) where
  names : AllByRecursion (λ e. length e ≤ TEXT_LIMIT) s.entries
  names = entries_are_names (λ e. length e ≤ TEXT_LIMIT) t 0 s.entries (short_names t of_text).1 (fits t s trace.fine).entries

  short : length text < MAX_TRACE
  short = subst (λ z. length z < MAX_TRACE) (sym trace.is) (trace_short t v s h (range_of t s trace.fine well_formed) trace.playable.legal names trace.head.seed)

  reached : Reaches t text v s h (length (head_lines v s) + line_count v h + 1) (end_line (length h) (live_threads s h))
  reached = record { head = trace.head; fine = trace.fine; playable = trace.playable; parts = trace.is; number = refl }

  no_refusal : (f : ReplayError) → Refusal t text f → ⊥
  no_refusal f (inl r) = omega (arith, short, r.1)
  no_refusal f (inr (within, inl r)) = no_stop t text v s _ r.0 trace.head trace.is r.2
  no_refusal f (inr (within, inr (inl r))) = search (rules, not_fine)
  no_refusal f (inr (within, inr (inr r))) =
      let same = one_head v r.version s r.setup _ _ trace.head r.reached.head (sym trace.is ∙ r.reached.parts) in
      let other = moved_to t text v r.version s r.setup r.history r.number r.rest same.0 same.1 r.reached in
      ended_not_refused t text v s h r.history _ r.number _ r.rest reached other f refl
      (rest_moved_to t text v r.version s r.setup r.history r.number r.rest f same.0 same.1 r.refused)

pub refused_is_no_trace : RefusedIsNoTrace
refused_is_no_trace t v s h text f well_formed of_text other refused trace = no_refusal t v s h text well_formed of_text trace f (refusal t text f other refused)
