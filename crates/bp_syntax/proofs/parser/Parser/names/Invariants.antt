use Rattle.bp_syntax.proofs.Common.{◌≡◌, ◌<◌, List, length, Name, Wanted, NamesThen, MoreNames, parse_result}
use Rattle.bp_syntax.proofs.parser.Parser.names.Given as goal

abbrev pub invariant-loop-alloc : goal.invariant-loop-alloc
invariant-loop-alloc l = record {
  reads : (next : List Name → Wanted) → parse_result (NamesThen l.fn.names.items next) l.fn.self ≡ parse_result (MoreNames l.names.items next) l.self;
  shorter : length l.self < length l.fn.self;
}

abbrev pub decreases-loop-alloc : goal.decreases-loop-alloc
decreases-loop-alloc l = length l.self
