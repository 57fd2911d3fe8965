use Rattle.bp_trace.proofs.Common.{◌≡◌, ◌≤◌, ◌+◌, ◌++◌, length, schedule_text, lines_of_history, Stands}
use Rattle.bp_trace.proofs.drives.play.Given as goal

abbrev pub invariant-loop-rest : goal.invariant-loop-rest
invariant-loop-rest l = record {
  few : length l.calls.items + length l.rest ≤ length l.schedule;
  stands : Stands l.session.code.tree l.session l.calls.items;
  front : l.schedule ≡ schedule_text (lines_of_history l.calls.items) ++ l.rest;
  code : l.session.code ≡ l.fn.session.code;
  setup : l.session.setup ≡ l.fn.session.setup;
}

abbrev pub decreases-loop-rest : goal.decreases-loop-rest
decreases-loop-rest l = length l.rest
