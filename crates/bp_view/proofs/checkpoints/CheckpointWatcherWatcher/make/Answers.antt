use Rattle.bp_view.proofs.Common.{◌≡◌, ◌∙◌, ◌++◌, ◌∷◌, [], arith, length, ap, rules, Flat}
use Rattle.bp_view.proofs.RecordedCalls.{one_more, still_kept, whole, next_number}
use Rattle.bp_view.proofs.checkpoints.CheckpointWatcherWatcher.make.Goals as goal

pub returns-in_ok-session-clause-sees : goal.returns-in_ok-session-clause-sees
returns-in_ok-session-clause-sees c = λ first h stands seen.
    let t = c.args.session.now.code.tree in
    let s = c.args.session.now.setup in
    let y = c.in_ok-call.call in
    let asked = c.in_ok-call.ensures in
    let copied = c.in_ok-session.ensures in
    let counted = seen.1.made in
    let few = next_number t s h stands.state.legal (rw c.setup.ensures at c.is_in_range.ensures) in
    let made : c.saturating_add-self.result ≡ length (h ++ y ∷ []) = omega (arith, c.saturating_add-self.ensures, counted, few, one_more t s h y) in
    let last = c.last_step-self.ensures h seen.1.last in
    let code = copied.kept.0 ∙ asked.kept.0 in
    let setup = copied.kept.1 ∙ asked.kept.1 in (
      seen.0,
      record {
        made = made;
        last = last;
        kept = (whole t s _ _ made (ap (λ (k : Flat). k.tree) code) setup (copied.stands t _ (asked.stands h stands)) last, c.if-self.true);
      },
    )

pub returns-else-self-clause-sees : goal.returns-else-self-clause-sees
returns-else-self-clause-sees c = search (rules, next_number, one_more, still_kept)
