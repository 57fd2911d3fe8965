-- The attempts of a turn that are made before they are sent.
use Rattle.bp_run.proofs.Common.{arith, rules, refl, sym, ◌∙◌, ap, subst, ◌≡◌, ℕ, ◌+◌, ◌<◌, cond, false, true, Bool, List, [], ◌∷◌, ◌++◌, None, length, length-append, Call, is_terminated, terminated_by, Stands, SessionOf, IsNextCall, AreSteps, IsInBooks, IsAsked, IsTurn, IsCutTurn, IsSendRefusal, IsDeskRefusal, DeskOf, SeatOf, desk_of, seat_of, not, inl, ◌≤◌, false≢true, threads}
use Rattle.bp_machine.specs.declared.calls.Reply.TheVariants.{Stepped}
use Rattle.bp_syntax.proofs.GrownLists.{regrouped}
use Rattle.bp_machine.specs.Sessions.{IsAskRefusal}
use Rattle.bp_machine.specs.declared.calls.Reply.{Reply}
use Rattle.bp_machine.specs.declared.calls.AskError.{AskError}
use Rattle.bp_run.specs.Turns.{AreMade, AreCut}
use Rattle.bp_run.proofs.TurnsWithCall.{desk_refusal, steps_more}
use Rattle.bp_run.proofs.GatheredBooks.{books_with}

-- the attempts so far are steps of thread i, which is live after them
pub record AreStepsMade (x : SessionOf) (h : List Call) (made live i : ℕ) (cs : List Call) : Type 0 where
  pub stepped : AreSteps i cs
  pub books : IsInBooks x (h ++ cs) (made + length cs) live
  pub still_live : is_terminated x.setup (h ++ cs) i ≡ false

-- One more attempt.
module _ (x new : SessionOf) (h : List Call) (made live i : ℕ) (cs : List Call) (call : Call) (before : AreStepsMade x h made live i cs)
    (next : IsNextCall x.code.tree x.setup (h ++ cs) i None call) (stands : Stands x.code.tree new ((h ++ cs) ++ call ∷ []))
    (code : new.code ≡ x.code) (setup : new.setup ≡ x.setup)
  where
    now : (h ++ cs) ++ call ∷ [] ≡ h ++ (cs ++ call ∷ [])
    now = simp regrouped

    books_now : (less : ℕ) → less + cond (is_terminated new.setup (h ++ (cs ++ call ∷ [])) i) 1 0 ≡ live
        → IsInBooks new (h ++ (cs ++ call ∷ [])) (made + length (cs ++ call ∷ [])) less
    books_now less left =
        let more = length-append cs (call ∷ []) in
        let same : is_terminated x.setup ((h ++ cs) ++ call ∷ []) call.thread ≡ is_terminated new.setup (h ++ (cs ++ call ∷ [])) i =
        ap (λ j. is_terminated x.setup ((h ++ cs) ++ call ∷ []) j) next.thread ∙ ap (λ g. is_terminated x.setup g i) now
        ∙ ap (λ s. is_terminated s (h ++ (cs ++ call ∷ [])) i) (sym setup) in
        let by : less + terminated_by x.setup (h ++ cs) call ≡ live = ap (λ b. less + cond b 1 0) same ∙ left in
        subst (λ g. IsInBooks new g (made + length (cs ++ call ∷ [])) less) now
        (books_with x new (h ++ cs) (made + length cs) live i call before.books next stands code setup
        (made + length (cs ++ call ∷ [])) less (omega (arith, more)) by)

    stands_now : Stands new.code.tree new (h ++ (cs ++ call ∷ []))
    stands_now = subst (λ k. Stands k.tree new (h ++ (cs ++ call ∷ []))) (sym code) (subst (λ g. Stands x.code.tree new g) now stands)

    pub made_stands : (ds : List Call) → ds ≡ cs ++ call ∷ [] → Stands new.code.tree new (h ++ ds)
    made_stands ds given1 = search (rules, stands_now)

    -- the thread is live after this step too
    pub made_more : (ds : List Call) → ds ≡ cs ++ call ∷ [] → call.reply ≡ Stepped → is_terminated new.setup (h ++ ds) i ≡ false
        → AreStepsMade new h made live i ds
    made_more ds are reply still = subst (λ es. is_terminated new.setup (h ++ es) i ≡ false → AreStepsMade new h made live i es) (sym are) go still
      where
        go : is_terminated new.setup (h ++ (cs ++ call ∷ [])) i ≡ false → AreStepsMade new h made live i (cs ++ call ∷ [])
        go still = record {
          stepped = steps_more i cs call before.stepped next.thread reply;
          books = books_now live (let none = ap (λ b. live + cond b 1 0) still in omega (arith, none));
          still_live = still;
        }

    pub made_last : (n : ℕ) (ds : List Call) → ds ≡ cs ++ call ∷ [] → length cs < n → AreMade new h made live i n ds call.reply
    made_last n ds are fewer = subst (λ es. AreMade new h made live i n es call.reply) (sym are) (record {
      steps = cs;
      last = call;
      are = refl;
      stepped = before.stepped;
      thread = next.thread;
      answered = refl;
      most = omega (arith, fewer);
      stands = stands_now;
      books = books_now;
    })

-- The last of some steps.
record EndsInStep (i : ℕ) (cs : List Call) : Type 0 where
  pub steps : List Call
  pub last : Call
  pub are : cs ≡ steps ++ last ∷ []
  pub stepped : AreSteps i steps
  pub thread : last.thread ≡ i
  pub reply : last.reply ≡ Stepped

ends_in_step : (i : ℕ) (x : Call) (cs : List Call) → AreSteps i (x ∷ cs) → EndsInStep i (x ∷ cs)
ends_in_step i x [] s = record { steps = []; last = x; are = refl; stepped = tt; thread = s.0.0; reply = s.0.1 }
ends_in_step i x (y ∷ ys) s =
    let rest = ends_in_step i y ys s.1 in record {
      steps = x ∷ rest.steps;
      last = rest.last;
      are = ap (λ zs. x ∷ zs) rest.are;
      stepped = (s.0, rest.stepped);
      thread = rest.thread;
      reply = rest.reply;
    }

-- all the attempts were made
pub made_all : (x : SessionOf) (h : List Call) (made live i n : ℕ) (cs : List Call) → AreStepsMade x h made live i cs → length cs ≡ n → 0 < n
    → AreMade x h made live i n cs Stepped
made_all x h made live i n [] s long some = absurd (omega (arith, long, some))
made_all x h made live i n (y ∷ ys) s long some =
    let end = ends_in_step i y ys s.stepped in
    let more = length-append end.steps (end.last ∷ []) in
    let same = ap length end.are in
    record {
      steps = end.steps;
      last = end.last;
      are = end.are;
      stepped = end.stepped;
      thread = end.thread;
      answered = end.reply;
      most = omega (arith, more, same, long);
      stands = s.books.stands;
      books = λ less left. let none = ap (λ b. less + cond b 1 0) s.still_live in subst (λ k. IsInBooks x (h ++ (y ∷ ys)) (made + length (y ∷ ys)) k) (omega (arith, none, left)) s.books;
    }

-- A turn at a desk begins with these attempts.

pub one_turn : (old new : DeskOf) (seat after : SeatOf) (reply : Reply) → IsAsked old new seat after reply → IsTurn old new seat after 1 reply
one_turn old new seat after reply asked = record {
  steps = [];
  last = asked.call;
  sent = asked.sent;
  room = asked.room;
  stepped = tt;
  thread = asked.thread;
  answered = asked.answered;
  most = omega arith;
  ended = inl refl;
  own = asked.own;
  counted = asked.counted;
  own_live = asked.own_live;
}

module _ (x y : SessionOf) (h : List Call) (made live i most : ℕ) (cs past : List Call) (sent : past ≡ h ++ cs)
    (free now calls k m : ℕ) (many : k ≡ length cs) (counted : m ≡ length cs) (room : free ≤ now + k) where
  -- the books of the desk once the attempts were sent
  pub books_begun : (reply : Reply) (all less : ℕ) → AreMade y h made live i most cs reply → all ≡ made + length cs
      → less + cond (is_terminated y.setup past i) 1 0 ≡ live → IsInBooks y past all less
  books_begun reply all less a total left =
      let own = ap (λ g. less + cond (is_terminated y.setup g i) 1 0) (sym sent) ∙ left in
      subst (λ g. IsInBooks y g all less) (sym sent) (subst (λ n. IsInBooks y (h ++ cs) n less) (sym total) (a.books less own))

  pub begun : (reply : Reply) (was is_open : Bool) → AreMade y h made live i most cs reply → is_open ≡ not (is_terminated y.setup past i)
      → IsTurn (desk_of x h free) (desk_of y past now) (seat_of i calls was) (seat_of i (calls + m) is_open) k reply
  begun reply was is_open given1 given2 = grind (arith, length-append)

  abbrev IsRefused : AskError → Type 0
  IsRefused f = IsAskRefusal y.code.tree y.setup (h ++ cs) i None f

  sent_refusal : (f : AskError) → IsRefused f → IsSendRefusal y.code.tree y.setup (h ++ cs) i f
  sent_refusal f given1 = grind (arith)

  pub books_cut : (f : AskError) (all : ℕ) → AreCut y h made live i most cs f → all ≡ made + length cs → IsInBooks y past all live
  books_cut f all given1 given2 = grind (arith)

  pub cut_begun : (f : AskError) (n : ℕ) (is_open : Bool) → AreCut y h made live i most cs f → most ≤ n → is_open ≡ true → i < threads y.setup
      → IsCutTurn (desk_of x h free) (desk_of y past now) (seat_of i calls is_open) (seat_of i (calls + m) is_open) n f
  cut_begun f n is_open cut few open_is within =
      let fewer = cut.fewer in record {
        steps = cs;
        sent = sent;
        room = omega (arith, room, many);
        stepped = cut.stepped;
        fewer = omega (arith, fewer, few);
        none = λ e. absurd (false≢true (sym cut.still_live ∙ (subst IsRefused e cut.refused).1));
        refused =
            subst (λ g. IsDeskRefusal (desk_of y g now) (seat_of i (calls + m) is_open) f) (sym sent)
            (desk_refusal y (h ++ cs) i within now (calls + m) is_open open_is cut.books.has_seed f
            (λ e. absurd (subst IsRefused e cut.refused)) (sent_refusal f cut.refused));
        own = refl;
        counted = ap (λ j. calls + j) counted;
      }
