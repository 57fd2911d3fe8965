use Rattle.bp_machine.proofs.Common.{◌≡◌, ◌∙◌, ap, length, map, string_bytes, rules, initial_bits, setup_of, setup_from}
use Rattle.bp_machine.proofs.SetupInRange.{bits_given, bits_not_given}
use Rattle.bp_machine.proofs.starts.Start.setup.Goals as goal
use Rattle.bp_machine.proofs.starts.Start.setup.Goals.{in-Some, in-None}

-- the bits that are handed on are those of the start
bits_are : (c : goal.After-new) → let t = c.args.code.now.tree in c.match-self.init.now ≡ initial_bits c.args.self.now.init (length t.globals)
bits_are c =
    let t = c.args.code.now.tree in
    let few = c.has_few_globals.ensures in
    let view = ap (λ s. initial_bits s.init (length t.globals)) c.self.view_is in
    elim c.match-self.branch [
      | in-Some w ↦
          bits_given (λ v. v.items) c.self.inside.init _ (length t.globals) w.in-Some.bits w.in-Some.is
          (ap (λ b. b.now) w.init-is ∙ w.as_slice-init.ensures.value) ∙ view
      | in-None w ↦
          bits_not_given (λ v. v.items) c.self.inside.init _ (length t.globals) w.globals.result w.in-None.is
          (ap (λ b. b.now) w.init-is) (rw w.globals.ensures.value few) w.globals.ensures.program ∙ view
    ]

setup_is : (c : goal.After-new)
    → setup_of (map string_bytes c.deref.result.now) c.match-self.init.now c.self.inside.contexts c.self.inside.calls
    c.args.seed ≡ setup_from c.args.self.now c.args.seed c.args.code.now.tree
setup_is c = search (rules, string_bytes, bits_are)

pub returns-clause-answer : goal.returns-clause-answer
returns-clause-answer c = search (rules, setup_is)
