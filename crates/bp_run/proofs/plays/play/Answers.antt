use Rattle.bp_run.proofs.Common.{rules, arith, ◌∙◌, ◌++◌, ◌≡◌, ap, sym, subst, length, vec_len, Given, One, head_text, lines_of, threads, AreOnePerThread}
use Rattle.bp_run.proofs.GatheredBooks.{gathered_as}
use Rattle.bp_run.proofs.Played.{one_each_kept, one_each_new, has_rest, played, stopped_early, cut, stopped}
use Rattle.bp_run.proofs.plays.play.Goals.{After-end}
use Rattle.bp_run.proofs.plays.play.Given.{Over}
use Rattle.bp_run.proofs.plays.play.Goals as goal

staged : (g : Over) (c : After-end g)
    → Given g.W.Write.contents c.args.writer.sink c.stage-writer.result.writer.sink
    (head_text One c.args.setup.now ++ lines_of c.stage-writer.result.tap.taken)
staged g c = rw c.if-not-all_started.false at c.stage-writer.ensures.written

pub write_rest-requires : goal.write_rest-requires
write_rest-requires g c =
    has_rest c.args.code.now.tree _ _ _ _ _ _ _ (gathered_as c.requires.code c.requires.setup c.gather-seats.ensures.gathered)

pub returns-then-has_failed-clause-answer : goal.returns-then-has_failed-clause-answer
returns-then-has_failed-clause-answer g c =
    let t = c.args.code.now.tree in
    let begun = rw c.if-not-all_started.false at c.stage-writer.ensures.written in
    let made = stopped g.W.Write.contents t _ _ _ _ c.stage-writer.result.seats.items _ _ _ _ c.requires.fresh begun (gathered_as c.requires.code c.requires.setup c.gather-seats.ensures.gathered) in
    rw (c.refused-then-has_failed.ensures.answer, c.refused-then-has_failed.ensures.same) made

pub returns-then-has_refused-clause-answer : goal.returns-then-has_refused-clause-answer
returns-then-has_refused-clause-answer g c =
    let t = c.args.code.now.tree in
    let d = (goal.at.returns-then-has_refused-clause-answer g c).After-end in
    let made =
    cut g.W.Write.contents t _ _ _ _ _ _ _ c.stage-writer.result.seats.items _ _ _ _ c.requires.fresh (staged g d)
    (gathered_as c.requires.code c.requires.setup c.gather-seats.ensures.gathered) c.write_rest.ensures.written c.write_rest.ensures.all c.end.ensures.given
    (sym c.has_refused.ensures ∙ c.if-has_refused.true) in
    rw (c.refused-then-has_refused.ensures.answer, c.refused-then-has_refused.ensures.same) made

pub returns-clause-answer : goal.returns-clause-answer
returns-clause-answer g c =
    let t = c.args.code.now.tree in
    let d = (goal.at.returns-clause-answer g c).After-end in
    let laws = c.histories_keep_their_laws.ensures in
    rw (c.counts_of.ensures, c.gather-seats.ensures.seats)
    (played g.W.Write.contents t _ _ _ _ _ _ _ c.stage-writer.result.seats.items _ _ _ _ c.requires.fresh (staged g d)
    (gathered_as c.requires.code c.requires.setup c.gather-seats.ensures.gathered) c.write_rest.ensures.written c.write_rest.ensures.all c.end.ensures.given
    laws.run laws.within laws.real (sym c.has_refused.ensures ∙ c.if-has_refused.false) (search rules))

pub gather-seats-requires : goal.gather-seats-requires
gather-seats-requires g c =
    subst (λ s. AreOnePerThread (threads s) c.stage-writer.result.seats.items) c.requires.setup
    (one_each_kept _ _ _ (c.stage-writer.ensures.seats c.if-not-all_started.false) (one_each_new _ _ c.in-Ok.ensures.seats))

pub returns-in-Some-clause-answer : goal.returns-in-Some-clause-answer
returns-in-Some-clause-answer g c =
    let t = c.args.code.now.tree in
    let d = (goal.at.returns-in-Some-clause-answer g c).After-end in
    let made =
    stopped_early g.W.Write.contents t _ _ _ _ _ _ _ c.stage-writer.result.seats.items _ _ _ _ c.requires.fresh (staged g d)
    (gathered_as c.requires.code c.requires.setup c.gather-seats.ensures.gathered) c.write_rest.ensures.written c.write_rest.ensures.all c.end.ensures.given
    c.in-Some.thread (sym c.has_refused.ensures ∙ c.if-has_refused.false) (search rules) in
    rw (c.refused-in-Some.ensures.answer, c.refused-in-Some.ensures.same) made

pub stage-writer-requires-clause-threads : goal.stage-writer-requires-clause-threads
stage-writer-requires-clause-threads g c κs within =
    let all = one_each_new _ _ c.in-Ok.ensures.seats in
    let many = all.many in
    let size : length c.in-Ok.seats.items ≡ vec_len c.in-Ok.seats = search rules in
    let few = c.is_in_range.ensures.few in
    omega (arith, many, size, few)

pub counts_of-requires-clause-many : goal.counts_of-requires-clause-many
counts_of-requires-clause-many g c =
    let all = one_each_new _ _ c.in-Ok.ensures.seats in
    let many = all.many in
    let kept = one_each_kept _ _ _ (c.stage-writer.ensures.seats c.if-not-all_started.false) all in
    let as_many = kept.many in
    let given = ap length c.gather-seats.ensures.seats in
    let before : length c.in-Ok.seats.items ≡ vec_len c.in-Ok.seats = search rules in
    let after : length c.gather-seats.result.seats.items ≡ vec_len c.gather-seats.result.seats = search rules in
    let room = c.in-Ok-Ok-Ok.ensures''.capacity in
    let count = c.len-3.ensures in
    omega (arith, many, as_many, given, before, after, room, count)
