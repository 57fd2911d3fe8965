-- The imports of this crate's proofs: from std, the crates below and its own definitions.
pub use Rattle.btrun.specs.Commands.{IsOurs, arguments_error, btrun_app, command_app, row_rule, with_commands, with_rules}
pub use Rattle.btrun.specs.Misuses.{is_from_line, is_on_line, misuse_kinds, misuse_kind, misuse_of, option_name}
pub use Rattle.btrun.specs.NoTasks.{IsOfKind, IsOfOne, asks_for_json}
pub use Rattle.btrun.specs.Values.{IsNamed, bits_in, command_name, is_number_text, number_in, number_of}
pub use Rattle.btrun.specs.declared.arguments.table.Named.TheVariants.{Check, Code, Confirm, Drive, Explore, Migrate, Replay, Run, Show, Shrink, Test}
pub use Rattle.btrun.specs.declared.arguments.table.TheConstants.{NAMED}
pub use Rattle.clap.proofs.WalkLemmas.{both, find_row, first_value-rows, one_text-rows, raw_values-rows}
pub use Rattle.clap.specs.Faults.{fault_of, is_simple_and_free, step_fault, turn_fault, word_fault}
pub use Rattle.clap.specs.Kinds.{HasKind, IsAmong, Kinds, or_else}
pub use Rattle.clap.specs.Matches.{ReadsOne, found_of, matched_of}
pub use Rattle.clap.specs.Simple.{App, HasMatchesOf, Shape, app_of, argument_words, built, entered, is_simple, label_of, names_of, rows_at, subcommand_of, subcommand_rows_of, with_subcommand}
pub use Rattle.clap.specs.Walk.{Held, Names, Row, Rule, Step, Text, Waiting, Walk, after_step, answers_to, arg_by_index, next, nothing_held, one_of, row_of, rows_of, stop_after, subcommand, to_positional, trailing, value, walk_from, walked_from, word_met}
pub use Rattle.clap.specs.declared.builder.command.Command.{Command}
pub use Rattle.clap.specs.declared.builder.command.Command.TheViews.{out-Command}
pub use Rattle.std.proofs.Common.{Bool, Bor, IfOk, List, None, Option, Result, Some, [], ap, ap₂, arith, codes, cond, drop, false, find, get_or, if◌then◌else◌, inl, inr, is_some, length, lt-ltb, ltb-true, map, nat_lt, option_and_then, option_map, refl, rules, string_bytes, subst, sym, take, true, unwrap_or, ℕ, ◌+◌, ◌<◌, ◌^◌, ◌||◌, ◌∙◌, ◌∷◌, ◌≡◌, ◌⊎◌}
pub use Rattle.std.proofs.lemmas.List.{drop_more}
pub use Rattle.std.proofs.lemmas.Slice.Eq.{bytes_eq-Decides}
pub use Rattle.std.specs.List.{fold, list_all}
pub use Rattle.std.specs.Str.{bytes_eq}
