use Rattle.bp_run.proofs.Common.{rules, arith, ◌≡◌, ℕ, ◌+◌, List, [], ◌∷◌, ◌++◌, length, vec_len, refl, sym, ◌∙◌, ap, subst, sum_by, sum_by-append, received, known_items, threads, AreOnePerThread, calls_of_seats, open_seats, SeatOf, open_amount}
use Rattle.bp_run.proofs.GatheredBooks.{gathered, gathered_as}
use Rattle.bp_run.proofs.gatherings.joined.Given.{Over}
use Rattle.bp_run.proofs.gatherings.joined.Goals.{After-pop}
use Rattle.bp_run.proofs.gatherings.joined.Goals as goal

-- the seats are one for each thread of the desk's setup
own : (g : Over) (c : After-pop g) → AreOnePerThread (threads c.desk.inside.session.setup) c.args.seats.items
own g c = subst (λ s. AreOnePerThread (threads s) c.args.seats.items) (sym c.desk.invariant.5) c.requires

-- the sum of all, if that of the others and the amount of the last are known
with_last : {k n : ℕ} (f : SeatOf → ℕ) (all others : List SeatOf) (last : SeatOf) → all ≡ others ++ last ∷ []
    → k ≡ f last → k + sum_by f others ≡ n → sum_by f all ≡ n
with_last f all others last are own sum = ap (sum_by f) are ∙ (let more = sum_by-append f others (last ∷ []) in omega (arith, more, own, sum))

pub returns-clause-gathered : goal.returns-clause-gathered
returns-clause-gathered g c =
    let all = own g (goal.at.returns-clause-gathered g c).After-pop in
    let len : length c.args.seats.items ≡ vec_len c.args.seats = search rules in
    let parts : vec_len c.args.seats ≡ threads c.desk.inside.session.setup = sym len ∙ all.many in
    let calls_many : c.seat.inside.made.parts + vec_len c.pop.new.self ≡ vec_len c.args.seats =
    (let one = c.seat.invariant.1.one_of_calls in let less = c.in-Some.ensures.cases in omega (arith, one, less)) in
    let live_many : c.seat.inside.own_live.parts + vec_len c.pop.new.self ≡ vec_len c.args.seats =
    (let one = c.seat.invariant.1.one_of_live in let less = c.in-Some.ensures.cases in omega (arith, one, less)) in
    let calls : calls_of_seats c.args.seats.items ≡ c.desk.inside.made.total =
    with_last (λ s. s.calls) _ _ _ c.in-Some.ensures.items
    (c.seat.invariant.1.made_is ∙ ap (λ s. s.calls) c.seat.view_is)
    (c.audited-seats.ensures.calls (calls_many ∙ parts ∙ c.desk.invariant.2)) in
    let open_are : open_seats c.args.seats.items ≡ c.desk.inside.live.total =
    with_last (λ s. open_amount s.is_open) _ _ _ c.in-Some.ensures.items
    (c.seat.invariant.1.own_live_is ∙ ap (λ s. open_amount s.is_open) c.seat.view_is)
    (c.audited-seats.ensures.left (live_many ∙ parts ∙ c.desk.invariant.3)) in
    let same : c.as_slice.result.now ≡ c.args.seats.items = search rules in
    let agreement = rw same at c.agree-agree.ensures in
    let left = known_items c.slots_beside.new.self in
    let past : received c.slots_beside.new.self ++ left ≡ c.desk.inside.to.end.past = search rules in
    let taken : received c.slots_beside.new.self ≡ c.args.tap.taken = search rules in
    gathered_as (sym c.desk.invariant.4) (sym c.desk.invariant.5)
    (gathered c.desk.inside.session c.desk.inside.to.end.past c.desk.inside.made.total c.desk.inside.live.total
    c.desk.invariant.0 c.args.seats.items all c.report-report.result
    c.stopped_early-early.result c.agree-agree.result
    (c.report-report.ensures _) calls open_are c.stopped_early-early.ensures (agreement _) c.args.tap.taken left _ (ap (λ x. x ++ left) (sym taken) ∙ past) taken refl)
