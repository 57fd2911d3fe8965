-- The imports of this crate's proofs: from std, the crates below and its own definitions.
pub use Rattle.bp_flat.specs.Moves.{Configuration}
pub use Rattle.bp_syntax.specs.Ast.{Program}
pub use Rattle.bp_syntax.specs.declared.limits.TheConstants.{TEXT_LIMIT}
pub use Rattle.bp_machine.proofs.HistoriesAreRuns.{AllBelow, all_below, legal_length}
pub use Rattle.bp_machine.proofs.SetupInRange.{entries_are_names, few_calls, few_threads, fits, range_of}
pub use Rattle.bp_machine.specs.Histories.{Answers, IsAllowed, IsBitOfCall, IsLeastWithin, IsLegal, IsLegalAfter, IsReport, calls_of_thread, choice_bit, configuration_after, configuration_after_call, configuration_after_calls, granted_threads, is_terminated, letter_of, live_below, live_threads, reply_of}
pub use Rattle.bp_machine.specs.Runs.{PrintedRow, history_of_run, printed_rows, rows_after, rows_of_call}
pub use Rattle.bp_machine.specs.Sessions.{IsAskRefusal, IsNextCall, SessionOf, Stands, contexts_opened, given_bit, last_thread}
pub use Rattle.bp_machine.specs.Setups.{IsInRange, SetupOf, setup_error, setup_of, start, threads}
pub use Rattle.bp_machine.specs.declared.calls.Call.{Call}
pub use Rattle.bp_machine.specs.declared.calls.Reply.{Reply}
pub use Rattle.bp_machine.specs.declared.limits.TheConstants.{MAX_CALLS, MAX_THREADS}
pub use Rattle.bp_text.proofs.Breaks.{breaks_after, has_none, lines_each, one_break}
pub use Rattle.bp_text.proofs.Givings.{IsLeft, and_then, flat_map_at, written_at_end}
pub use Rattle.bp_text.proofs.NumbersInTurn.{ends_at, no_digit_first, numerals}
pub use Rattle.bp_text.proofs.PartsOfTexts.{both_added, none_left, regrouped, some_left}
pub use Rattle.bp_text.proofs.Readings.{after_at, at_as, both_at, neither, no_feed, no_first, no_second, no_word_after, no_word_before, none_after, none_as, none_before, none_in_line, none_of_many, one_at, right_at, within}
pub use Rattle.bp_text.proofs.WholeTexts.{AreReadTo, all_read, few_values}
pub use Rattle.bp_text.specs.Formats.{BreaksAt, EachFits, Fits, Format, HasNone, IsAt, SpanFits, bit, lines_of}
pub use Rattle.bp_text.specs.Formats.Format.{After, As, Line, Many, Span, Then}
pub use Rattle.bp_text.specs.Writing.{Given}
pub use Rattle.bp_trace.specs.Drives.{DrivesUpTo, IsAfterFinish, IsDriven, IsLineRefusal, IsRefusal, IsScheduleRefusal, drive_error_of}
pub use Rattle.bp_trace.specs.HeadFormat.{after_byte, bits, entry, head, last_limits, limits, may_end, seed, seed_value, settings, version_word}
pub use Rattle.bp_trace.specs.Judgements.{ArePlayed, FitsText, HasRefusedBody, IsBody, IsBodyRefusal, IsCallRefusal, IsLineRefused, IsOpened, IsRefusedAfter, Watches, WatchesAll}
pub use Rattle.bp_trace.specs.Laws.{DrivesTo, LinesDriveAgain, OneRefusal, OneScheduleRefusal, RefusedDrivesNowhere, RefusedIsNoTrace, RunsDriveToHistories}
pub use Rattle.bp_trace.specs.Readings.{HasNoBodyLine, HasNoCall, HasNoEnd, HasNoSymbol, HasNoTail, HasSymbols, IsBodyLineAt, IsEndAt, IsEndRefusal, IsHeadOf, IsSymbolAt, after_digit, end_numbers, is_whole, more_digits, schedule_line, setup_of_head, symbols_after, thread_field}
pub use Rattle.bp_trace.specs.Replays.{HasMoreAfter, HasNoNextLine, HasOtherEnd, HasRefusedCall, HasRefusedRest, HasRefusedSetup, IsAccepted, IsBodyLine, IsCallError, IsDecimal, IsDue, IsEndLine, IsLongestAccepted, IsPlayable, IsRefusedAmong, IsReplayRefusal, IsRestRefused, IsTrace, Reaches, counts_of, line_count}
pub use Rattle.bp_trace.specs.TraceText.{HasHead, HasNoLine, IsEntryName, IsLineAt, IsWritable, Piece, Symbol, Without, bit_digit, call_line, call_of, calls_of_piece, calls_of_pieces, calls_text, end_line, entry_line, field_line, head_lines, head_text, init_digits, init_line, limit_lines, line_of_call, line_text, lines_of_history, piece_line, piece_of, pieces_of, schedule_text, seed_word, setting_lines, symbol_of, symbol_text, text_of, version_line, with_call}
pub use Rattle.bp_trace.specs.declared.drives.ScheduleLine.{ScheduleLine}
pub use Rattle.bp_trace.specs.declared.errors.DriveError.{DriveError}
pub use Rattle.bp_trace.specs.declared.errors.ReplayError.{ReplayError}
pub use Rattle.bp_trace.specs.declared.heads.Head.{Head}
pub use Rattle.bp_trace.specs.declared.limits.TheConstants.{MAX_SCHEDULE, MAX_TRACE}
pub use Rattle.bp_trace.specs.declared.traces.Version.{Version}
pub use Rattle.bp_trace.specs.declared.traces.Version.TheVariants.{One, Two}
pub use Rattle.std.proofs.Common.{Bool, IsTrue, List, None, Option, Some, [], ap, append-nil, append_assoc, arith, codes, cond, decimal, drop, false, flat_map, get_or, if◌then◌else◌, inl, inr, is_some, length, length-append, length-drop, map, refl, rules, slice_get, string_bytes, subst, suc, sym, take, true, zero, ℕ, ◌%◌, ◌*◌, ◌++◌, ◌+◌, ◌-◌, ◌/◌, ◌<◌, ◌==◌, ◌^◌, ◌↔◌, ◌∙◌, ◌∷◌, ◌≡◌, ◌≢◌, ◌≤◌, ◌⊎◌}
pub use Rattle.std.proofs.Math.Nat.{mul-le-mul_left, mul-le-mul_right}
pub use Rattle.std.proofs.lemmas.Bool.{cases_lt, false≢true, ne_eqb}
pub use Rattle.std.proofs.lemmas.Bool.Decides.{Decides-eqb, nat_tests}
pub use Rattle.std.proofs.lemmas.Fmt.{decimal_digit, decimal_nonempty, decimal_step, digits_decimal, first_decimal, length-decimal-le}
pub use Rattle.std.proofs.lemmas.Grind.{common_steps}
pub use Rattle.std.proofs.lemmas.List.{drop-drop, drop_at, length-map, map-append, take-append-drop, take_more}
pub use Rattle.std.proofs.lemmas.List.Concat.{flat_map-append}
pub use Rattle.std.proofs.lemmas.Result.{err_from_is_err_and}
pub use Rattle.std.proofs.lemmas.Str.Parse.{digit_from_value}
pub use Rattle.std.specs.List.{AllByRecursion, concat}
pub use Rattle.std.specs.Str.Parse.{AllDigits}
