use Rattle.bp_run.proofs.Common.{rules, arith, refl, sym, ◌∙◌, ap, subst, ◌≡◌, ◌+◌, ◌<◌, List, [], ◌∷◌, ◌++◌, length, Err, Bool, true, false, not, None, length-append, Program, Call, is_terminated, Stands, IsNextCall, threads, IsInRange, known_free, IsAsked, IsDeskRefusal, desk_of, seat_of}
use Rattle.bp_run.proofs.GatheredBooks.{books_when_terminated, books_when_live, few_made}
use Rattle.bp_run.proofs.TurnsWithCall.{still_live, desk_refusal, refused_where_shut, not_shut}
use Rattle.bp_run.proofs.desks.Desk.ask.Given.{Over}
use Rattle.bp_run.proofs.desks.Desk.ask.Goals.{In_ok-call, After-audit}
use Rattle.bp_run.proofs.desks.Desk.ask.Goals as goal

-- the facts once the attempt was sent
within : (g : Over) (c : In_ok-call g) → c.seat.inside.thread < threads c.self.inside.session.setup
within g c = rw c.self.invariant.2 c.seat.invariant.0

is_next : (g : Over) (c : In_ok-call g)
    → IsNextCall c.self.inside.session.code.tree c.self.inside.session.setup (c.self.inside.to.end.past) c.seat.inside.thread None c.in_ok-call.call
is_next g c = c.in_ok-call.ensures.answer c.self.invariant.0.stands

thread_is_live : (g : Over) (c : In_ok-call g) → is_terminated c.self.inside.session.setup c.self.inside.to.end.past c.seat.inside.thread ≡ false
thread_is_live g c = still_live c.self.inside.session c.self.inside.to.end.past c.seat.inside.thread (within g c) c.in_ok-call.call (is_next g c)

code_is : (g : Over) (c : After-audit g) → c.send.new.session.code ≡ c.self.inside.session.code
code_is g c = c.send.ensures.kept.0

setup_is : (g : Over) (c : After-audit g) → c.send.new.session.setup ≡ c.self.inside.session.setup
setup_is g c = c.send.ensures.kept.1

stands : (g : Over) (c : After-audit g)
    → Stands c.self.inside.session.code.tree c.send.new.session (c.self.inside.to.end.past ++ c.in_ok-call.call ∷ [])
stands g c = c.in_ok-call.ensures.stands c.self.invariant.0.stands

-- the history with the attempt
abbrev now : (g : Over) → After-audit g → List Call
now g c = c.self.inside.to.end.past ++ c.in_ok-call.call ∷ []

-- the thread has terminated after the attempt if the session says so
abbrev SaysTerminated : (g : Over) → After-audit g → Bool → Type 0
SaysTerminated g c b = (t : Program) (h : List Call) → Stands t c.send.new.session h → b ≡ is_terminated c.send.new.session.setup h c.seat.inside.thread

terminated_now : (g : Over) (c : After-audit g) (b : Bool) → SaysTerminated g c b
    → is_terminated c.send.new.session.setup (now g c) c.seat.inside.thread ≡ b
terminated_now g c b each = sym (each _ (now g c) (stands g c))

terminated_as : (g : Over) (c : After-audit g) (b : Bool) → SaysTerminated g c b
    → is_terminated c.self.inside.session.setup (now g c) c.in_ok-call.call.thread ≡ b
terminated_as g c b each =
    ap (λ i. is_terminated c.self.inside.session.setup (now g c) i) c.in_ok-call.ensures.asked
    ∙ ap (λ s. is_terminated s (now g c) c.seat.inside.thread) (sym (setup_is g c))
    ∙ terminated_now g c b each

one_more : (g : Over) (c : After-audit g) → c.audit.new.self.total ≡ c.self.inside.made.total + 1
one_more g c = c.audit.ensures.total ∙ c.add.ensures.total

pub returns-in_err-call-clause-terminated : goal.returns-in_err-call-clause-terminated
returns-in_err-call-clause-terminated g c =
    let x = c.self.inside.session in
    let h = c.self.inside.to.end.past in
    let within : c.seat.inside.thread < threads x.setup = rw c.self.invariant.2 c.seat.invariant.0 in
    let is : c.from_residual.result ≡ Err c.in_err-call.field-0.0 = search rules in
    rw (← c.self.view_is, ← c.seat.view_is)
    (refused_where_shut x h c.seat.inside.thread within c.seat.inside.is_open (search rules) c.in_err-call.field-0.0
    (c.in_err-call.ensures.answer c.self.invariant.0.stands) c.from_residual.result is)

pub overflow_add-seat : goal.overflow_add-seat
overflow_add-seat g c =
    let range : IsInRange c.self.inside.session.setup = rw (← c.setup.ensures) c.is_in_range.ensures in
    let few = few_made c.self.inside.session c.self.inside.to.end.past c.self.inside.made.total
    c.self.inside.live.total c.self.invariant.0 range in
    let bound = c.audit.ensures.bound in
    let amount = c.add.ensures.amount in
    let total = c.add.ensures.total in
    let own = c.seat.invariant.1.made_is in
    omega (arith, few, bound, amount, total, own)

pub invariant_of-self-then-is_terminated : goal.invariant_of-self-then-is_terminated
invariant_of-self-then-is_terminated g c =
    let d = (goal.at.invariant_of-self-then-is_terminated g c).After-audit in
    let k = (goal.at.invariant_of-self-then-is_terminated g c).In_ok-call in
    let terminated = terminated_as g d _ c.is_terminated.ensures ∙ c.if-is_terminated.true in
    let books = books_when_terminated c.self.inside.session c.send.new.session c.self.inside.to.end.past
    c.self.inside.made.total c.self.inside.live.total c.seat.inside.thread c.in_ok-call.call
    c.self.invariant.0 (is_next g k) (stands g d) (code_is g d)
    (setup_is g d) c.audit.new.self.total c.sub.new.self.total (one_more g d) c.sub.ensures.total terminated in (
      rw c.in_ok-call.ensures.sent.0 books,
      search rules,
      rw (setup_is g d) c.self.invariant.2,
      rw (setup_is g d) c.self.invariant.3,
      code_is g d ∙ c.self.invariant.4,
      setup_is g d ∙ c.self.invariant.5,
      c.self.invariant.6,
      c.self.invariant.7,
    )

pub invariant_of-self-else-is_terminated : goal.invariant_of-self-else-is_terminated
invariant_of-self-else-is_terminated g c =
    let d = (goal.at.invariant_of-self-else-is_terminated g c).After-audit in
    let k = (goal.at.invariant_of-self-else-is_terminated g c).In_ok-call in
    let still_live = terminated_as g d _ c.is_terminated.ensures ∙ c.if-is_terminated.false in
    let books = books_when_live c.self.inside.session c.send.new.session c.self.inside.to.end.past
    c.self.inside.made.total c.self.inside.live.total c.seat.inside.thread c.in_ok-call.call
    c.self.invariant.0 (is_next g k) (stands g d) (code_is g d) (setup_is g d) c.audit.new.self.total (one_more g d) still_live in (
      rw c.in_ok-call.ensures.sent.0 books,
      search rules,
      rw (setup_is g d) c.self.invariant.2,
      rw (setup_is g d) c.self.invariant.3,
      code_is g d ∙ c.self.invariant.4,
      setup_is g d ∙ c.self.invariant.5,
      c.self.invariant.6,
      c.self.invariant.7,
    )

pub returns-then-is_terminated-clause-terminated : goal.returns-then-is_terminated-clause-terminated
returns-then-is_terminated-clause-terminated g c =
    let d = (goal.at.returns-then-is_terminated-clause-terminated g c).In_ok-call in
    rw (← c.self.view_is, ← c.seat.view_is)
    (not_shut c.self.inside.session c.self.inside.to.end.past c.seat.inside.thread (within g d)
    c.seat.inside.is_open (search rules) _ (λ e. cc) (thread_is_live g d))

pub returns-else-is_terminated-clause-terminated : goal.returns-else-is_terminated-clause-terminated
returns-else-is_terminated-clause-terminated g c =
    let d = (goal.at.returns-else-is_terminated-clause-terminated g c).In_ok-call in
    rw (← c.self.view_is, ← c.seat.view_is)
    (not_shut c.self.inside.session c.self.inside.to.end.past c.seat.inside.thread (within g d)
    c.seat.inside.is_open (search rules) _ (λ e. cc) (thread_is_live g d))

pub returns-in_err-call-clause-answer : goal.returns-in_err-call-clause-answer
returns-in_err-call-clause-answer g c =
    let x = c.self.inside.session in
    let h = c.self.inside.to.end.past in
    let within : c.seat.inside.thread < threads x.setup = rw c.self.invariant.2 c.seat.invariant.0 in
    let is : c.from_residual.result ≡ Err c.in_err-call.field-0.0 = search rules in
    let free = known_free c.send.new.to in
    rw (is, c.in_err-call.ensures.same, ← c.seat.view_is)
    (subst (λ past. IsDeskRefusal (desk_of x past free) (seat_of c.seat.inside.thread c.seat.inside.calls c.seat.inside.is_open) c.in_err-call.field-0.0)
    (sym c.in_err-call.ensures.unsent.0) (desk_refusal x h c.seat.inside.thread within free c.seat.inside.calls
    c.seat.inside.is_open (search rules) c.self.invariant.0.has_seed c.in_err-call.field-0.0
    (λ e. c.send.ensures.full c.self.invariant.0.stands (search rules))
    (c.in_err-call.ensures.answer c.self.invariant.0.stands)))

-- the attempt that was made, if the thread has terminated or not
asked : (g : Over) (c : After-audit g) (b : Bool)
    → IsNextCall c.self.inside.session.code.tree c.self.inside.session.setup (c.self.inside.to.end.past) c.seat.inside.thread None
    c.in_ok-call.call
    → SaysTerminated g c b → (is_open : Bool) → is_open ≡ not b
    → IsAsked (desk_of c.self.inside.session c.self.inside.to.end.past (known_free c.self.inside.to))
    (desk_of c.send.new.session c.send.new.to.end.past (known_free c.send.new.to))
    (seat_of c.seat.inside.thread c.seat.inside.calls c.seat.inside.is_open)
    (seat_of c.seat.inside.thread (c.seat.inside.calls + 1) is_open) c.in_ok-call.call.reply
asked g c b next each is_open own_live =
    let sent : c.send.new.to.end.past ≡ now g c = c.in_ok-call.ensures.sent.0 in record {
      call = c.in_ok-call.call;
      next = next;
      sent = sent;
      room = c.in_ok-call.ensures.sent.1;
      thread = c.in_ok-call.ensures.asked;
      answered = refl;
      own = refl;
      counted = refl;
      within =
          let long = ap length sent ∙ length-append c.self.inside.to.end.past (c.in_ok-call.call ∷ []) in
          let made = c.self.invariant.0.made_is in
          let bound = c.audit.ensures.bound in
          let amount = c.add.ensures.amount in
          let total = c.add.ensures.total in
          let own = c.seat.invariant.1.made_is in
          omega (arith, long, made, bound, amount, total, own);
      own_live = own_live ∙ ap not (sym (terminated_now g c b each) ∙ ap (λ h. is_terminated c.send.new.session.setup h c.seat.inside.thread) (sym sent));
    }

pub returns-then-is_terminated-clause-answer : goal.returns-then-is_terminated-clause-answer
returns-then-is_terminated-clause-answer g c =
    let d = (goal.at.returns-then-is_terminated-clause-answer g c).After-audit in
    let k = (goal.at.returns-then-is_terminated-clause-answer g c).In_ok-call in
    rw (← c.self.view_is, ← c.seat.view_is) (asked g d _ (is_next g k) c.is_terminated.ensures false (ap not (sym c.if-is_terminated.true)))

pub returns-else-is_terminated-clause-answer : goal.returns-else-is_terminated-clause-answer
returns-else-is_terminated-clause-answer g c =
    let d = (goal.at.returns-else-is_terminated-clause-answer g c).After-audit in
    let k = (goal.at.returns-else-is_terminated-clause-answer g c).In_ok-call in
    let was : c.seat.inside.is_open ≡ true = search rules in
    rw (← c.self.view_is, ← c.seat.view_is) (asked g d _ (is_next g k) c.is_terminated.ensures
    c.seat.inside.is_open (was ∙ ap not (sym c.if-is_terminated.false)))
