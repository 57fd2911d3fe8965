use Rattle.bp_machine.proofs.Common.{◌∙◌, ap, map, sym, subst, bits_from, first_thread, Fits, AreFirstChoices}
use Rattle.bp_machine.proofs.SessionsInOrder.{stands_at_start, in_order_at_start, fits_anew, in_range_anew}
use Rattle.bp_machine.proofs.sessions.Session.restart.Goals as goal

pub invariant_of-self : goal.invariant_of-self
invariant_of-self c = rw c.in_err-restart_choices.ensures.same c.self.invariant

pub invariant_of-self-2 : goal.invariant_of-self-2
invariant_of-self-2 c =
    let x = c.self.view_is in
    let z = c.set_seed.new.self in
    let choices = c.restart_choices.new.choices.items in
    let word = c.word_of-word.ensures ∙ ap bits_from c.bits.ensures in
    let threads = ap (map (first_thread c.self.inside.code)) c.entries.ensures in
    let fitted = subst (λ y. Fits y.code.tree y.setup) (sym x) c.requires in
    let fits = fits_anew c.self.inside.code.tree c.self.inside.setup z _ c.set_seed.ensures fitted in
    let first = subst (λ s. AreFirstChoices s choices) (sym c.set_seed.ensures) c.in_ok-restart_choices.ensures.first in
    let range = in_range_anew c.self.inside.setup z _ c.set_seed.ensures c.is_in_range.ensures in
    in_order_at_start c.self.inside.code z c.restart.new.self choices _ _
    c.restart.ensures word threads fits first range c.is_of_a_program.ensures

pub returns-clause-stands : goal.returns-clause-stands
returns-clause-stands c =
    let x = c.self.view_is in
    let z = c.set_seed.new.self in
    let choices = c.restart_choices.new.choices.items in
    let word = c.word_of-word.ensures ∙ ap bits_from c.bits.ensures in
    let threads = ap (map (first_thread c.self.inside.code)) c.entries.ensures in
    let fitted = subst (λ y. Fits y.code.tree y.setup) (sym x) c.requires in
    let fits = fits_anew c.self.inside.code.tree c.self.inside.setup z _ c.set_seed.ensures fitted in
    let first = subst (λ s. AreFirstChoices s choices) (sym c.set_seed.ensures) c.in_ok-restart_choices.ensures.first in
    rw (← x) (stands_at_start c.self.inside.code z c.restart.new.self choices _ _
    c.restart.ensures word threads fits first c.is_of_a_program.ensures.stands)
