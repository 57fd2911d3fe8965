use Rattle.bp_source.proofs.Common.{◌≡◌, ◌+◌, ◌≤◌, false, length, drop, piece_size}
use Rattle.bp_source.proofs.names.piece_size.Given as goal

abbrev pub invariant-loop-i : goal.invariant-loop-i
invariant-loop-i l = record {
  within : l.i ≤ length l.text;
  size : piece_size false l.text ≡ l.i + piece_size l.braced (drop l.i l.text);
}
