use Rattle.bp_test.proofs.Common.{rules, ◌≡◌, ◌++◌, ◌∷◌, [], configuration_after}
use Rattle.bp_test.proofs.Plays.{waits_not, waits_more}
use Rattle.bp_test.proofs.waits.waiting_threads.Goals.{in-Some+in_ok-push, in_default}
use Rattle.bp_test.proofs.waits.waiting_threads.Goals as goal

pub loop-thread-preserved : goal.loop-thread-preserved
loop-thread-preserved c = λ h stands.
    let t = c.args.session.now.code.tree in
    let now = configuration_after t c.args.session.now.setup h in
    let n = c.loop-thread.thread in
    let was = c.loop-thread.invariant h stands in elim c.match-waiting_at.branch [
      | in-Some+in_ok-push w ↦
          let pushed : w.push.new.self.items ≡ c.loop-thread.waiting.items ++ w.in-Some.found ∷ [] = search rules in
          rw w.waiting-is (rw pushed (waits_more t now n _ was w.in-Some.found (w.in-Some.ensures h stands)))
      | in_default w ↦ rw w.waiting-is (waits_not t now n _ was (w.in_default.ensures h stands))
    ]
