use Rattle.bp_test.proofs.Common.{length, ap, ◌∙◌, count_by}
use Rattle.bp_test.proofs.ContextLemmas.{exact_runs}
use Rattle.bp_test.proofs.tallies.Tally.counts.Goals as goal

pub returns : goal.returns
returns c = λ s runs few is.
    let share = c.share_of.ensures in record {
      count = exact_runs s runs c.args.self.now few is;
      calls = is.calls;
      longest = is.longest;
      ends = is.ends;
      contexts = c.contexts_used.ensures s runs few is;
      threads = record {
        marks = c.args.self.now.stepped.items;
        are = is.stepped;
        all = ap (λ x. x.all) share ∙ (ap length c.as_slice-2.ensures.value ∙ is.stepped.size);
        reached = ap (λ x. x.reached) share ∙ ap (λ v. count_by (λ is_set. is_set) v) c.as_slice-2.ensures.value;
      };
    }
