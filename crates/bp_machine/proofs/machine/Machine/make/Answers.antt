use Rattle.bp_machine.proofs.Common.{◌<◌, ap, arith, length, rules}
use Rattle.bp_machine.proofs.TransitionIsAnswer.{counted, guest_here, room_here, stays_after, fails_after, steps_after}
use Rattle.bp_machine.proofs.machine.Machine.make.Goals as goal

within : (c : goal.After-index_mut) → c.args.thread < length c.self.inside.threads.items
within c = omega (arith, counted c.args.self.now c.self.inside.threads.items (ap (λ m. m.state.threads) c.self.view_is), c.requires.within)

pub make-requires-clause-calls : goal.make-requires-clause-calls
make-requires-clause-calls c = search (rules, guest_here, within)

pub make-requires-clause-room : goal.make-requires-clause-room
make-requires-clause-room c = search (rules, room_here, within)

pub returns-in-Stays : goal.returns-in-Stays
returns-in-Stays c = λ guest has.
    stays_after c.args.self.now.state c.self.inside.globals c.self.inside.threads.items c.self.inside.contexts
    c.self.inside.outcome (ap (λ m. m.state) c.self.view_is) c.args.thread guest c.index_mut.result.now
    c.make.new.self c.args.transition has (omega (
      arith,
      counted c.args.self.now c.self.inside.threads.items (ap (λ m. m.state.threads) c.self.view_is),
      c.requires.within,
    )) c.index_mut.ensures.value c.make.ensures c.in-Stays.field-0 c.in-Stays.is

pub returns-in-Fails : goal.returns-in-Fails
returns-in-Fails c = λ guest has.
    fails_after c.args.self.now.state c.self.inside.globals c.self.inside.threads.items c.self.inside.contexts
    c.self.inside.outcome (ap (λ m. m.state) c.self.view_is) c.args.thread guest c.index_mut.result.now
    c.make.new.self c.args.transition has (omega (
      arith,
      counted c.args.self.now c.self.inside.threads.items (ap (λ m. m.state.threads) c.self.view_is),
      c.requires.within,
    )) c.index_mut.ensures.value c.make.ensures c.in-Fails.is c.add.new.self
    c.add.ensures.value

pub returns-in-Steps : goal.returns-in-Steps
returns-in-Steps c = λ guest has.
    steps_after c.args.self.now.state c.self.inside.globals c.self.inside.threads.items c.self.inside.contexts
    c.self.inside.outcome (ap (λ m. m.state) c.self.view_is) c.args.thread guest c.index_mut.result.now
    c.make.new.self c.args.transition has (omega (
      arith,
      counted c.args.self.now c.self.inside.threads.items (ap (λ m. m.state.threads) c.self.view_is),
      c.requires.within,
    )) c.index_mut.ensures.value c.make.ensures c.in-Steps.effect c.in-Steps.is c.add-in-Steps.new.self
    c.add-in-Steps.ensures.value c.globals_after-self-inside.result c.globals_after-self-inside.ensures
