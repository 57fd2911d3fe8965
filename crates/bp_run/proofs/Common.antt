-- The imports of this crate's proofs: from std, the crates below and its own definitions.
pub use Rattle.bp_syntax.specs.Ast.{Program}
pub use Rattle.bp_machine.proofs.HistoryWithCall.{last_terminates, live_at_start, live_threads-append}
pub use Rattle.bp_machine.specs.Histories.{HasSeededBits, IsLegal, IsReport, terminated_by, is_terminated, is_last, live_threads}
pub use Rattle.bp_machine.specs.Sessions.{IsNextCall, SessionOf, Stands}
pub use Rattle.bp_machine.specs.Setups.{Fits, IsInRange, SetupOf, threads}
pub use Rattle.bp_machine.specs.declared.calls.Call.{Call}
pub use Rattle.bp_machine.specs.declared.calls.Report.{Report}
pub use Rattle.bp_run.specs.Desks.{AreNewSeats, DeskOf, IsInBooks, IsLegalDesk, IsTakenOf, SeatOf, TapOf, desk_of, new_seat, open_amount, seat_of}
pub use Rattle.bp_run.specs.Gatherings.{AreOnePerThread, AreSeatsOf, IsGathered, IsSeatOf, TellsEarly, TellsOfRefusal, calls_of_seats, is_at_call, open_seats}
pub use Rattle.bp_run.specs.Runs.{IsCutTrace, IsEarly, IsPlayedFrom, seat_of_worker}
pub use Rattle.bp_run.specs.Turns.{AreSteps, IsAsked, IsCutSeatTurn, IsCutTurn, IsDeskError, IsDeskRefusal, IsSeatTurn, IsSendRefusal, IsTurn}
pub use Rattle.bp_run.specs.Works.{IsRestWritten, AreCallsWritten, lines_of, rest_length}
pub use Rattle.bp_text.specs.Writing.{AppendsAll, AppendsPart, Given, HasTaken}
pub use Rattle.bp_trace.specs.TraceText.{call_line, end_line, head_text, trace_text}
pub use Rattle.bp_trace.specs.declared.traces.Version.TheVariants.{One}
pub use Rattle.rtrb.specs.Ring.{known_free, known_items, received}
pub use Rattle.std.proofs.Common.{Bool, Err, IfErr, IsTrue, List, MatchResult, None, Ok, Option, Result, Some, [], ap, arith, cond, false, inl, inr, is_some, length, length-append, map, not, refl, rules, subst, suc, sym, take, take_all, true, vec_capacity, vec_len, zero, ℕ, ◌*◌, ◌++◌, ◌+◌, ◌<◌, ◌==◌, ◌^◌, ◌↔◌, ◌∙◌, ◌∷◌, ◌≡◌, ◌≢◌, ◌≤◌, ◌⊎◌}
pub use Rattle.std.proofs.Crossing.{crosses}
pub use Rattle.std.proofs.lemmas.Bool.{false≢true}
pub use Rattle.std.proofs.lemmas.Grind.{common_steps, flat_map-append}
pub use Rattle.std.proofs.lemmas.List.Elements.{All-more, All-pop, All-push, All-same}
pub use Rattle.std.proofs.lemmas.List.FromFn.{length-map-range_with_len, map-range_with_len_more}
pub use Rattle.std.proofs.lemmas.List.Sums.{sum_by-append, sum_by-cons}
pub use Rattle.std.specs.List.{count_by, range_with_len, sum_by}
pub use Rattle.std.specs.Vec.Iter.{into_iter_items, into_iter_len}
