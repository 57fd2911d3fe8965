-- The imports of this crate's proofs: from std, the crates below and its own definitions.
pub use Rattle.bp_messages.specs.ReplayLines.{printed_line, row_line}
pub use Rattle.bp_messages.specs.Summaries.{names_text, unreached_text, wait_objects, waits_after, waits_text}
pub use Rattle.bp_text.proofs.Givings.{IsLeft, and_then, written_at_end}
pub use Rattle.bp_text.specs.Writing.{Given}
pub use Rattle.std.proofs.Common.{Bool, List, Option, [], arith, codes, flat_map, length, map, string_bytes, take, ℕ, ◌≡◌}
