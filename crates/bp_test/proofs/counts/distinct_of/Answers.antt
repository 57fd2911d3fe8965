use Rattle.bp_test.proofs.Common.{length, ap, ◌∙◌, IsNonDecreasingBy-from_sort, length_permutation, IsStrictlyIncreasing-dedup, alone_before}
use Rattle.std.proofs.lemmas.List.Filters.{dedup_is}
use Rattle.bp_test.proofs.DistinctKeys.{once_in_order, runs_in_order}
use Rattle.bp_test.proofs.counts.distinct_of.Goals as goal

pub returns : goal.returns
returns g c =
    let moved = c.sort_keys.ensures.permutation in
    let up = IsNonDecreasingBy-from_sort (λ k. k) _ c.sort_keys.ensures.sorted in
    let is = dedup_is _ _ _ c.dedup.ensures.filtered in record {
      runs = c.len-runs.ensures ∙ (c.dedup.new.self.ok.0 ∙ runs_in_order _ _ moved _ is (IsStrictlyIncreasing-dedup _ c.sort_keys.ensures.sorted));
      of = c.len-of.ensures ∙ (c.sort_keys.new.keys.ok.0 ∙ length_permutation _ _ moved);
      once = c.count_alone-once.ensures ∙ (ap (λ l. alone_before l (length l)) c.as_slice.ensures.value ∙ once_in_order _ _ moved up);
    }
