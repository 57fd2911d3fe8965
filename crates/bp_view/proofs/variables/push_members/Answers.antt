use Rattle.bp_view.proofs.Common.{◌++◌, ◌∷◌, [], codes, decimal, subst, Grown, facts_in}
use Rattle.bp_text.specs.Pieces.{bit_or_null, key_text, string_text, truth_text}
use Rattle.bp_view.specs.CallFacts.{choice_of}
use Rattle.bp_view.specs.Lines.{reply_name}
use Rattle.bp_view.proofs.Growth.{nothing}
use Rattle.bp_view.proofs.ShownLines.{with_ready}
use Rattle.bp_view.proofs.variables.push_members.Goals as goal

pub returns : goal.returns
returns c = λ ready.
    let f = facts_in c.args.facts.now in
    let rest = key_text (codes "choice") ∷ bit_or_null (choice_of f) ∷ key_text (codes "reply") ∷ string_text (reply_name f.call.reply) ∷ [] in
    let end = rw (c.choice_member.ensures, c.choice.ensures, c.reply_text.ensures) at (c.put_three.ensures.followed _ _ nothing) in
    let all = rw c.switch_member.ensures at (c.put_two.ensures.followed _ _ (c.put_two-2.ensures.followed _ _ end)) in
    subst (Grown c.args.line.now c.put_three.new.self) (with_ready f.next (key_text (codes "switch") ++ truth_text f.switch) (decimal f.next.depth) rest ready) all
