use Rattle.bp_advice.proofs.Common.{◌≤◌, [], ℕ, List, IsTrue, length, take, arith, rules, length-take, HasTokens}
use Rattle.bp_advice.proofs.read_sentences.semicolon_place.Goals as goal

within : (size at : ℕ) (text : List ℕ) → size ≤ length (take at text) → size ≤ at
within size at text short = let is = length-take at text in omega (arith, is, short)

pub returns : goal.returns
returns c =
    let front = c.part_before-front.ensures in
    let is_gap : IsTrue c.is_gap.result = search rules in
    let gap : HasTokens c.part_from.result.now [] = c.is_gap.ensures is_gap in
    let follows : IsTrue c.in_ok-may_follow.field-0 = search rules in
    record {
      before = within _ c.args.at c.args.text.now (rw front at c.size_to_last_token-end.ensures);
      gap = rw (c.part_from.ensures, front) at gap;
      follows = rw c.part_before.ensures at (c.in_ok-may_follow.ensures.0 follows);
    }
