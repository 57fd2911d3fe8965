use Rattle.bp_machine.proofs.Common.{◌++◌, ◌∷◌, [], Stands, subst, rules, StepsAlike, slice_get_within, err_from_is_err_and, SessionOf, IsInOrder, session_of, IsJudged}
use Rattle.bp_machine.proofs.SessionAnswers.{judged_next, refused_after, refused_for_memory, within, made_stands, made_in_order}
use Rattle.bp_machine.proofs.sessions.Session.make_given.Goals.{In_ok-made}
use Rattle.bp_machine.proofs.sessions.Session.make_given.Goals as goal

-- the judged attempt, of the session as it is kept
judged : (c : In_ok-made)
    → IsJudged
    (session_of c.self.inside.code c.self.inside.setup c.self.inside.machine c.self.inside.choices.items)
    c.args.thread c.args.given c.in_ok-made.made
judged c = rw (← c.self.view_is) at c.in_ok-made.ensures

pub returns-in_err-made : goal.returns-in_err-made
returns-in_err-made c = record {
  answer = search (rules, err_from_is_err_and, refused_after);
  asked = search rules;
  stands = search rules;
  kept = search rules;
  same = search rules;
}

pub reserve-requires : goal.reserve-requires
reserve-requires c = search (rules, slice_get_within)

pub invariant_of-self : goal.invariant_of-self
invariant_of-self c = rw c.in_err-reserve.ensures.err c.self.invariant

pub returns-in_err-reserve : goal.returns-in_err-reserve
returns-in_err-reserve c = record {
  answer = search (rules, err_from_is_err_and, refused_for_memory);
  asked = search rules;
  stands = search rules;
  kept = search rules;
  same = search rules;
}

pub make-requires-clause-within : goal.make-requires-clause-within
make-requires-clause-within c = search (rules, within, judged)

pub invariant_of-self-2 : goal.invariant_of-self-2
invariant_of-self-2 c =
    let d = (goal.at.invariant_of-self-2 c).In_ok-made in
    made_in_order c.self.inside.code c.self.inside.setup c.self.inside.machine c.reserve.new.self
    c.in_ok-reserve.ensures.state c.self.inside.choices.items c.args.thread c.args.given
    c.in_ok-made.made c.self.invariant (judged d)
    c.make.new.self c.make.ensures c.draw.new.choices.items c.draw.ensures c.steps_alike.ensures

pub returns : goal.returns
returns c =
    let d = (goal.at.returns c).In_ok-made in
    record {
      answer = λ h stands.
          let order = subst IsInOrder c.self.view_is c.self.invariant in
          let alike = subst (λ (x : SessionOf). StepsAlike x.code x.code.tree) c.self.view_is c.steps_alike.ensures in
          judged_next c.args.self.now.code.tree c.args.self.now h stands order.choice_count c.args.thread c.args.given alike c.in_ok-made.made c.in_ok-made.ensures;
      asked = search rules;
      stands = λ h stands.
          let stood = rw (← c.self.view_is) at stands in
          subst (λ (x : SessionOf). Stands x.code.tree (session_of c.self.inside.code c.self.inside.setup c.make.new.self c.draw.new.choices.items)
          (h ++ c.in_ok-made.made.call ∷ [])) c.self.view_is
          (made_stands c.self.inside.code c.self.inside.setup c.self.inside.machine c.reserve.new.self
          c.in_ok-reserve.ensures.state c.self.inside.choices.items c.args.thread c.args.given
          c.in_ok-made.made c.self.invariant (judged d)
          c.make.new.self c.make.ensures c.draw.new.choices.items c.draw.ensures c.self.inside.code.tree h c.steps_alike.ensures stood);
      kept = search rules;
      same = search rules;
    }
