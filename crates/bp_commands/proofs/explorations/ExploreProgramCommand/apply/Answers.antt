use Rattle.bp_commands.proofs.Common.{common_steps, ◌∙◌, ap, refl, subst, arith, rules, err_from_is_err_and, bound_of, trace_of}
use Rattle.bp_explore.specs.Explorations.{IsExploration}
use Rattle.bp_commands.proofs.Answered.{cut_short, refused_with}
use Rattle.bp_commands.proofs.explorations.ExploreProgramCommand.apply.Goals as goal

pub returns-in_err-opened : goal.returns-in_err-opened
returns-in_err-opened g c = grind (arith, common_steps, err_from_is_err_and, refused_with)

pub returns-in_err-explored : goal.returns-in_err-explored
returns-in_err-explored g c = search (rules, err_from_is_err_and, refused_with)

pub returns-in_err-said : goal.returns-in_err-said
returns-in_err-said g c = search (rules, err_from_is_err_and, refused_with)

pub returns-in_err-write_found : goal.returns-in_err-write_found
returns-in_err-write_found g c = search (rules, err_from_is_err_and, cut_short)

pub returns : goal.returns
returns g c =
    let task = c.args.self.now.task.now in
    let x = c.in_ok-opened.opened in
    let stands = c.is_of_a_program.ensures.stands in
    let e = c.in_ok-explored.explored in
    let bound = c.bound_of-bound.ensures ∙ ap (bound_of task.options.bound) c.contexts.ensures in
    let explored = subst (λ b. IsExploration x.code x.code.tree x.setup b task.options.with_deadlock e.ending) bound
    c.in_ok-explored.ensures in
    record {
      text = trace_of e.ending;
      reports = record {
        trace = record {
          program = x.code.tree;
          setup = x.setup;
          opened = c.in_ok-opened.ensures.answer;
          code = x.code;
          stands_for = stands;
          ending = e.ending;
          explored = explored;
          is = refl;
        };
        task = refl;
        facts = c.facts_of_ending.ensures;
        steps = refl;
        said = c.in_ok-said.ensures;
      };
      written = c.in_ok-write_found.ensures;
    }
