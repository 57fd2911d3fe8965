use Rattle.bp_run.proofs.Common.{rules, arith, sym, ◌∙◌, ap, ◌≡◌, ◌+◌, ◌<◌, ◌≤◌, ◌++◌, length, Err, false, true, not, is_terminated, Stands, threads, IsInRange, known_free, vec_capacity, cond, []}
use Rattle.bp_run.specs.Desks.{producer_ring}
use Rattle.bp_run.specs.declared.limits.TheConstants.{MAX_TURN}
use Rattle.bp_run.proofs.GatheredBooks.{few_made}
use Rattle.bp_run.proofs.Batches.{one_turn, begun, books_begun, cut_begun, books_cut}
use Rattle.bp_run.proofs.desks.Desk.begin.Given.{Over}
use Rattle.bp_run.proofs.desks.Desk.begin.Goals.{After-audit}
use Rattle.bp_run.proofs.desks.Desk.begin.Goals as goal

-- the facts once the attempts were sent
still : (g : Over) (c : After-audit g) → is_terminated c.self.inside.session.setup c.self.inside.to.end.past c.seat.inside.thread ≡ false
still g c = sym (c.is_terminated.ensures _ _ c.self.invariant.0.stands) ∙ c.if-is_terminated.false

many : (g : Over) (c : After-audit g) → c.len-made.result ≡ length c.make-answer.new.calls.items
many g c = search rules

fits : (g : Over) (c : After-audit g) → c.min-most.result ≤ known_free c.slots-free.new.self
fits g c = search rules

sent_is : (g : Over) (c : After-audit g) → c.push_entire_slice-sent.new.self.end.past ≡ c.self.inside.to.end.past ++ c.make-answer.new.calls.items
sent_is g c = search (rules, fits g c)

room : (g : Over) (c : After-audit g) → known_free c.self.inside.to ≤ known_free c.push_entire_slice-sent.new.self + c.len-made.result
room g c = search (rules, fits g c)

total : (g : Over) (c : After-audit g) → c.audit.new.self.total ≡ c.self.inside.made.total + length c.make-answer.new.calls.items
total g c = search (rules, many g c)

-- the parts of the invariant that hold of each desk
kept : (g : Over) (c : After-audit g)
    → (producer_ring c.push_entire_slice-sent.new.self ≡ g.C.Calls.ring) × (threads c.make-answer.new.session.setup ≡ g.C.Ledger.parts)
    × (threads c.make-answer.new.session.setup ≡ g.O.Ledger.parts) × (c.make-answer.new.session.code ≡ g.C.Calls.code)
    × (c.make-answer.new.session.setup ≡ g.C.Calls.setup) × (c.clear.new.self.items ≡ []) × (MAX_TURN ≤ vec_capacity c.clear.new.self)
kept g c = search rules

pub returns-then-n-eq1-clause-answer : goal.returns-then-n-eq1-clause-answer
returns-then-n-eq1-clause-answer g c = one_turn _ _ _ _ _ c.in_ok-ask.ensures.answer

pub overflow_add-seat : goal.overflow_add-seat
overflow_add-seat g c =
    let range : IsInRange c.self.inside.session.setup = rw (← c.setup.ensures) c.is_in_range.ensures in
    let few = few_made c.self.inside.session c.self.inside.to.end.past c.self.inside.made.total
    c.self.inside.live.total c.self.invariant.0 range in
    let bound = c.audit.ensures.bound in
    let amount = c.add.ensures.amount in
    let total = c.add.ensures.total in
    let own = c.seat.invariant.1.made_is in
    let at_most : c.from-2.result ≤ c.args.n = search rules in
    let range_n = c.ranges.n.fits in
    omega (arith, few, bound, amount, total, own, at_most, range_n)

pub invariant_of-self-in_err-reply : goal.invariant_of-self-in_err-reply
invariant_of-self-in_err-reply g c =
    let d = (goal.at.invariant_of-self-in_err-reply g c).After-audit in
    let cut = c.in_err-reply.ensures.answer _ _ _ c.self.invariant.0 (still g d) in
    let books = books_cut c.self.inside.session _ _ _ _ _ _ _ _ (sent_is g d) _ _ c.seat.inside.calls _ _ (many g d) (many g d) (room g d) _ _ cut (total g d) in
    search (rules, books, kept g d)

pub invariant_of-self-then-is_terminated-2 : goal.invariant_of-self-then-is_terminated-2
invariant_of-self-then-is_terminated-2 g c =
    let d = (goal.at.invariant_of-self-then-is_terminated-2 g c).After-audit in
    let y = c.make-answer.new.session in
    let made = c.in_ok-reply.ensures.answer _ _ _ c.self.invariant.0 (still g d) in
    let stands : Stands y.code.tree y c.push_entire_slice-sent.new.self.end.past = rw (sent_is g d) made.stands in
    let terminated = sym (c.is_terminated-2.ensures _ _ stands) ∙ c.if-is_terminated-2.true in
    let books = books_begun c.self.inside.session _ _ _ _ _ _ _ _ (sent_is g d) _ _ c.seat.inside.calls _ _ (many g d) (many g d) (room g d) _ _ _ made (total g d)
    (ap (λ b. c.sub.new.self.total + cond b 1 0) terminated ∙ c.sub.ensures.total) in
    search (rules, books, kept g d)

pub invariant_of-self-else-is_terminated-2 : goal.invariant_of-self-else-is_terminated-2
invariant_of-self-else-is_terminated-2 g c =
    let d = (goal.at.invariant_of-self-else-is_terminated-2 g c).After-audit in
    let y = c.make-answer.new.session in
    let made = c.in_ok-reply.ensures.answer _ _ _ c.self.invariant.0 (still g d) in
    let stands : Stands y.code.tree y c.push_entire_slice-sent.new.self.end.past = rw (sent_is g d) made.stands in
    let live = ap (λ b. c.self.inside.live.total + cond b 1 0) (sym (c.is_terminated-2.ensures _ _ stands) ∙ c.if-is_terminated-2.false) in
    let books = books_begun c.self.inside.session _ _ _ _ _ _ _ _ (sent_is g d) _ _ c.seat.inside.calls _ _ (many g d) (many g d) (room g d) _ _ c.self.inside.live.total made (total g d)
    (omega (arith, live)) in
    search (rules, books, kept g d)

pub returns-in_err-reply-clause-answer : goal.returns-in_err-reply-clause-answer
returns-in_err-reply-clause-answer g c =
    let d = (goal.at.returns-in_err-reply-clause-answer g c).After-audit in
    let y = c.make-answer.new.session in
    let cut = c.in_err-reply.ensures.answer _ _ _ c.self.invariant.0 (still g d) in
    let is : c.from_residual-in_err-reply.result ≡ Err c.in_err-reply.field-0.0 = search rules in
    let within : c.seat.inside.thread < threads y.setup = rw (c.in_err-reply.ensures.kept.1, c.self.invariant.2) c.seat.invariant.0 in
    let counted : c.from-2.result ≡ length c.make-answer.new.calls.items = search (rules, many g d) in
    let few : c.min-most.result ≤ c.args.n = search rules in
    rw (is, ← c.self.view_is, ← c.seat.view_is)
    (cut_begun c.self.inside.session y _ _ _ _ _ _ _ (sent_is g d) _ _ c.seat.inside.calls _ _ (many g d) counted (room g d)
    _ c.args.n c.seat.inside.is_open cut few (search rules) within)

pub returns-then-is_terminated-2-clause-answer : goal.returns-then-is_terminated-2-clause-answer
returns-then-is_terminated-2-clause-answer g c =
    let d = (goal.at.returns-then-is_terminated-2-clause-answer g c).After-audit in
    let y = c.make-answer.new.session in
    let made = c.in_ok-reply.ensures.answer _ _ _ c.self.invariant.0 (still g d) in
    let stands : Stands y.code.tree y c.push_entire_slice-sent.new.self.end.past = rw (sent_is g d) made.stands in
    let counted : c.from-2.result ≡ length c.make-answer.new.calls.items = search (rules, many g d) in
    let terminated = sym (c.is_terminated-2.ensures _ _ stands) ∙ c.if-is_terminated-2.true in
    rw (← c.self.view_is, ← c.seat.view_is)
    (begun c.self.inside.session _ _ _ _ _ _ _ _ (sent_is g d) _ _ c.seat.inside.calls _ _ (many g d) counted (room g d)
    _ c.seat.inside.is_open false made (ap not (sym terminated)))

pub returns-else-is_terminated-2-clause-answer : goal.returns-else-is_terminated-2-clause-answer
returns-else-is_terminated-2-clause-answer g c =
    let d = (goal.at.returns-else-is_terminated-2-clause-answer g c).After-audit in
    let y = c.make-answer.new.session in
    let made = c.in_ok-reply.ensures.answer _ _ _ c.self.invariant.0 (still g d) in
    let stands : Stands y.code.tree y c.push_entire_slice-sent.new.self.end.past = rw (sent_is g d) made.stands in
    let counted : c.from-2.result ≡ length c.make-answer.new.calls.items = search (rules, many g d) in
    let live = sym (c.is_terminated-2.ensures _ _ stands) ∙ c.if-is_terminated-2.false in
    let was : c.seat.inside.is_open ≡ true = search rules in
    rw (← c.self.view_is, ← c.seat.view_is)
    (begun c.self.inside.session _ _ _ _ _ _ _ _ (sent_is g d) _ _ c.seat.inside.calls _ _ (many g d) counted (room g d)
    _ c.seat.inside.is_open c.seat.inside.is_open made (was ∙ ap not (sym live)))
