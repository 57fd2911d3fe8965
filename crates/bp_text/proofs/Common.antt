-- The imports of this crate's proofs: from std, the crates below and its own definitions.
pub use Rattle.bp_text.specs.Formats.{AreAll, BreaksAt, EachFits, EitherFits, EndsNumber, FindsAfter, Fits, Format, HasNone, IsAt, IsBad, IsReadInOneWay, Lacks, SpanFits, Stops, lines_of, text_of, text_of_either}
pub use Rattle.bp_text.specs.Formats.Format.{After, As, Before, Chain, Either, Letter, Line, Many, Number, Span, Then, Word}
pub use Rattle.bp_text.specs.Lines.{Adds, AddsOneLine, IsInParts, IsOneLine, first_line, on_one_line, position_after}
pub use Rattle.bp_text.specs.Pieces.{HasNoControl, IsNoNumber, IsReadAs, bit_text, control_bytes, control_size, displayed, displayed_after, displayed_byte, ends, hex_digit, is_control, is_marked, marked, numbered, piece_text, plain, spaces, string_byte}
pub use Rattle.bp_text.specs.Writing.{AppendsAll, AppendsPart, Given, HasTaken, IsBegun, IsCutShort, IsFresh, IsWritten, Writes, result_of}
pub use Rattle.std.proofs.Common.{Bool, Bor, List, MatchOption, None, Option, Result, Some, [], add-one, ap, append-nil, append_assoc, arith, codes, cond, decimal, drop, drop-cons, eq-eqb, false, flat_map, fold, get_or, if◌then◌else◌, inl, inr, length, length-append, length-drop, map, not, refl, reverse, rules, subst, suc, sym, take, take_all, true, zero, ℕ, ◌%◌, ◌*◌, ◌++◌, ◌+◌, ◌-◌, ◌/◌, ◌<◌, ◌==◌, ◌^◌, ◌∙◌, ◌∷◌, ◌≡◌, ◌≢◌, ◌≤◌, ◌⊎◌}
pub use Rattle.std.proofs.Math.Seq.{get_or-append_seam, take-add, take-append-add, take-length, take-suc}
pub use Rattle.std.proofs.lemmas.Bool.{cases_lt, false≢true}
pub use Rattle.std.proofs.lemmas.Bool.Decides.{Decides-eqb}
pub use Rattle.std.proofs.lemmas.Grind.{common_steps, flat_map-append}
pub use Rattle.std.proofs.lemmas.List.{append_cancel_left, drop-take, ext_get_or, flat_map_more, get_or_append_left, length-reverse, length-take, nil_from_length, take-append-drop, take-append-le, take-take, take_at, take_more}
pub use Rattle.std.proofs.lemmas.List.Sums.{count_by-le-length, length-filter, position_or_len_is}
pub use Rattle.std.proofs.lemmas.Option.{get_or_from_slice_get, slice_get-get_or, slice_get_past, slice_get_within}
pub use Rattle.std.specs.Io.KnownBytes.{Appends, Keeps}
pub use Rattle.std.specs.List.{concat, position_or_len, prefix_len, slice_index, take_while}
