use Rattle.bp_trace.proofs.Common.{◌∙◌, sym, rules}
use Rattle.bp_trace.proofs.PiecesAreFewest.{line_below}
use Rattle.bp_trace.proofs.LongestAccepted.{playable_of, next_line, body_refused}
use Rattle.bp_trace.proofs.plays.play.Goals as goal

pub returns-in_default-clause-body : goal.returns-in_default-clause-body
returns-in_default-clause-body g c =
    let before = c.loop-calls.invariant in
    let none = rw (
      c.in_default.is,
      c.threads.ensures,
      c.last_thread-last.ensures,
      c.as_slice.ensures.value,
      c.text_from-rest.ensures,
    ) at c.in_ok-found.ensures in
    record {
      within = before.within;
      parts = before.parts;
      number = before.number;
      few = before.few;
      ends = none;
    }

pub judge_line-requires-clause-threads : goal.judge_line-requires-clause-threads
judge_line-requires-clause-threads g c =
    let at = rw (c.in-Some.is, c.threads.ensures, c.last_thread-last.ensures, c.as_slice.ensures.value, c.text_from-rest.ensures) at c.in_ok-found.ensures in
    let below = line_below c.args.version _ _ at.line c.body_line_at.new.calls.items at.is_line in
    rw (sym (c.loop-calls.invariant.setup ∙ c.requires.setup), sym c.as_slice-in-loop-calls.ensures.value) at below

pub returns-in-Err-clause-refused : goal.returns-in-Err-clause-refused
returns-in-Err-clause-refused g c = search (rules, playable_of, body_refused)

pub loop-calls-preserved : goal.loop-calls-preserved
loop-calls-preserved g c =
    let before = c.loop-calls.invariant in
    let at = rw (c.in-Some.is, c.threads.ensures, c.last_thread-last.ensures, c.as_slice.ensures.value, c.text_from-rest.ensures) at c.in_ok-found.ensures in
    let after = rw c.as_slice-in-loop-calls.ensures.value at c.in-Ok.ensures.history in
    let new = c.judge_line.new.played.history.items in
    let old = c.loop-calls.played.history.items in
    let (within, parts, number, few) = next_line c.args.version _ c.args.first c.args.text.now old c.loop-calls.size c.loop-calls.line
    before.within before.parts before.number c.body_line_at.new.calls.items new c.in-Some.more at after before.few in
    record {
      played = c.in-Ok.ensures.played;
      watched = λ first begun.
          let seen = rw (before.code, before.setup ∙ c.requires.setup) at (c.in-Ok.ensures.watched first) in
          seen (before.watched first begun);
      within = within;
      parts = parts;
      number = number;
      few = few;
      code = c.judge_line.ensures.kept.0 ∙ before.code;
      setup = c.judge_line.ensures.kept.1 ∙ before.setup;
    }
