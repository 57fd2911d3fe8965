use Rattle.bp_trace.proofs.Common.{◌∙◌, sym, rules, err_from_is_err_and}
use Rattle.bp_trace.proofs.LongestAccepted.{line_refused, playable_of, played_more, history_more}
use Rattle.bp_trace.proofs.plays.judge_line.Goals as goal

pub returns-in_err-judge-clause-refused : goal.returns-in_err-judge-clause-refused
returns-in_err-judge-clause-refused g c = search (rules, err_from_is_err_and, playable_of, line_refused)

pub loop-call-preserved : goal.loop-call-preserved
loop-call-preserved g c =
    let before = c.loop-call.invariant in
    let after = c.in_ok-judge.ensures in
    record {
      played =
          let old = before.played in
          let t = c.loop-call.session.code.tree in
          let rows = after.printed c.loop-call.played.history.items old.0 in (
            rw (sym c.judge.ensures.kept.0, sym after.history) at (after.stands c.loop-call.played.history.items old.0),
            rw (sym c.judge.ensures.kept.0, sym c.judge.ensures.kept.1) at (played_more t c.loop-call.session.setup
                c.loop-call.played.history.items c.judge.new.played.history.items _ _ _ after.history old.1 rows),
          );
      watched = λ first seen.
          let now = rw (sym before.code, sym before.setup) at (before.watched first seen) in
          rw (sym after.history, before.code, before.setup) at (after.watched first c.loop-call.played.history.items before.played.0 now);
      history =
          history_more c.args.played.now.history.items c.loop-call.played.history.items c.judge.new.played.history.items
          c.args.calls.now c.loop-call.call-index _ c.loop-call-test.true before.history after.history;
      code = c.judge.ensures.kept.0 ∙ before.code;
      setup = c.judge.ensures.kept.1 ∙ before.setup;
    }
