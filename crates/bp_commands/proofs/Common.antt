-- The imports of this crate's proofs: from std, the crates below and its own definitions.
pub use Rattle.bp_code.specs.WellFormedTexts.{IsWellFormedText, IsProgramRefusal}
pub use Rattle.bp_commands.specs.Commands.{Answers, AnswersOf, Command, Inputs, IsDoneWith, IsNotDone, IsRefusedWith, Pair, bundle_alone, limit_of, text_alone, text_alone_of}
pub use Rattle.bp_commands.specs.Confirms.{IsOfSteps, choice_text, choices_text, confirmation_shown, confirms, line_as, verdict_word}
pub use Rattle.bp_commands.specs.Explores.{bound_of, trace_of}
pub use Rattle.bp_commands.specs.ErrorReports.{AnswerRule, AreReadOr, ExplainsPair, ExplainsText, HasSummary, IsConcluded, IsEndOf, IsFileOfPair, IsFileOfText, IsObjectIn, IsObjectRead, IsObjectWith, IsReported, IsSaid, IsSaidFor, IsSaidOfRead, IsTextOf, IsTold, of_report, of_run}
pub use Rattle.bp_commands.specs.Jobs.{Held, IsFinished, IsFlushed, pair_of_files, rest_of}
pub use Rattle.bp_commands.specs.Programs.{IsOpened, checks, lists, start_asked}
pub use Rattle.bp_commands.specs.Runs.{IsRunReport, IsRunnable, runs, seeded}
pub use Rattle.bp_commands.specs.Shows.{AreContextsOf, AreStepsOf, IsPart, IsShownWithLine, IsStateOf, IsViewText, OfPart, Refusal, last_line, on_screen, on_valid_calls, refusal_text, shows, shows_part}
pub use Rattle.bp_commands.specs.Tests.{AreListed, IsTestable, tests}
pub use Rattle.bp_commands.specs.Traces.{DeadlockAlike, FailAlike, HasNoFailure, HasNoSeparator, HasNoneBefore, IsEndRefusal, IsOfTrace, IsReplayText, IsScheduleRefused, IsSeparated, IsShrunkText, IsSplit, IsTraceOf, IsTraceReport, LacksMemory, TextRule, drives, ends_line, migrates, on_trace, shrinks}
pub use Rattle.bp_confirm.specs.OwnSteps.{listed_steps, own_steps_text}
pub use Rattle.bp_syntax.specs.Ast.{Program}
pub use Rattle.bp_machine.specs.Histories.{IsReport, is_failure, outcome_of}
pub use Rattle.bp_machine.specs.Setups.{IsSetupRefusal, SetupOf, StartOf, setup_from}
pub use Rattle.bp_machine.specs.declared.calls.Call.{Call}
pub use Rattle.bp_machine.specs.declared.calls.Report.{Report}
pub use Rattle.bp_messages.specs.ErrorObjects.{IsValueIn, ShownVerdict, error_object, name_in, verdict_object}
pub use Rattle.bp_messages.specs.ErrorTable.{error_of_migration, error_of_run, error_of_schedule, error_of_setup, error_of_test, error_of_trace, error_of_view}
pub use Rattle.bp_messages.specs.declared.errors.Error.{Error}
pub use Rattle.bp_messages.specs.declared.errors.Error.TheVariants.{Memory, Write}
pub use Rattle.bp_source.specs.NamedBits.{NamedBitOf, start_by_names}
pub use Rattle.bp_source.specs.RunOptions.{OptionsOf}
pub use Rattle.bp_source.specs.declared.limits.TheConstants.{MAX_JOBS}
pub use Rattle.bp_test.specs.Shrinks.{IsEnd, IsShrunk, with_contexts}
pub use Rattle.bp_test.specs.Tests.{IsDeadlock, IsFound, IsTest, IsTestRefusal, setup_of_run}
pub use Rattle.bp_text.proofs.Givings.{all_from, all_then, and_then, part_first, part_then, written_at_end}
pub use Rattle.bp_text.specs.Writing.{AppendsAll, AppendsPart, Writes}
pub use Rattle.bp_trace.specs.Replays.{IsAcceptedTrace, IsMigrateRefusal, IsMigrated, IsReplayRefusal, IsReplayed, IsTrace, row_of}
pub use Rattle.bp_trace.specs.TraceText.{text_of, trace_text, trace_text_2}
pub use Rattle.bp_trace.specs.declared.traces.Version.TheVariants.{One}
pub use Rattle.bp_view.proofs.BegunViews.{copied}
pub use Rattle.bp_view.specs.CallFacts.{AreProgramFacts}
pub use Rattle.bp_view.specs.FooterFacts.{condition_in, footer_in}
pub use Rattle.bp_view.specs.Views.{IsViewOfTrace, IsViewRefusal, IsViewed, outcome_text, waits_text}
pub use Rattle.std.proofs.Common.{Err, IfOk, List, None, Ok, Option, Result, Some, Vec, [], add-one, ap, append-nil, arith, drop, false, flat_map, get_or, if◌then◌else◌, inl, inr, length, length-append, length-take, length-take-le, map, nat_le, nat_lt, option_map, refl, rules, subst, sym, take, take-append-drop, take-suc, true, ℕ, ◌++◌, ◌+◌, ◌-◌, ◌<◌, ◌==◌, ◌^◌, ◌∙◌, ◌∷◌, ◌≡◌, ◌≢◌, ◌≤◌, ◌⊎◌}
pub use Rattle.std.proofs.KnownBytes.{Appends-nil, Consumes-trans, Keeps-refl}
pub use Rattle.std.proofs.lemmas.Grind.{common_steps}
pub use Rattle.std.proofs.lemmas.Result.{err_from_is_err_and}
pub use Rattle.std.specs.Io.Buffered.{writer_contents}
pub use Rattle.std.specs.Io.KnownBytes.{Appends, Consumes, Keeps}
