use Rattle.bp_view.proofs.Common.{◌≡◌, ◌+◌, ◌++◌, ◌∷◌, [], map, length, subst, sym, arith, rules, length-map, map-append, thread_in, AreThreadsFacts}
use Rattle.std.proofs.lemmas.List.{length-append}
use Rattle.bp_view.proofs.WholeFacts.{one_thread_more}
use Rattle.bp_view.proofs.state_facts.threads_of.Goals as goal

pub loop-thread-preserved : goal.loop-thread-preserved
loop-thread-preserved c =
    let before = c.loop-thread.threads.items in
    let n = c.loop-thread.thread in
    let x = c.in_ok-facts_of_thread.field-0 in
    let pushed : c.push.new.self.items ≡ before ++ x ∷ [] = search rules in
    let said : map thread_in c.push.new.self.items ≡ map thread_in before ++ thread_in x ∷ [] = search (rules, map-append) in
    let last : n ≡ 0 + length (map thread_in before) = omega (arith, c.loop-thread.invariant.all, length-map before thread_in) in
    let one_more : length c.push.new.self.items ≡ n + 1 = rw pushed (omega (arith, c.loop-thread.invariant.all, length-append before (x ∷ []))) in
    record {
      all = one_more;
      are = λ text set stands.
          let t = c.args.session.now.code.tree in
          let s = c.args.session.now.setup in
          let h = c.args.history.now in
          let so_far = c.loop-thread.invariant.are text set stands in
          let own = c.in_ok-facts_of_thread.ensures text set stands in
          subst (AreThreadsFacts t text s h 0) (sym said) (one_thread_more t text s h 0 n (map thread_in before) (thread_in x) last so_far own);
    }
