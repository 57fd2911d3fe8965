use Rattle.bp_commands.proofs.Common.{common_steps, ◌≡◌, ◌∙◌, ℕ, List, Option, ap, arith, inl, inr, refl, subst, sym, err_from_is_err_and, listed_steps, Program, SetupOf, Memory, Pair, bound_of}
use Rattle.bp_confirm.specs.Steps.{StepLineOf}
use Rattle.bp_explore.specs.declared.explorations.ThroughEnding.{ThroughEnding}
use Rattle.bp_explore.specs.ThroughExplorations.{IsThrough}
use Rattle.bp_flat.specs.Flat.{Flat}
use Rattle.bp_flat.specs.StandsFor.{StandsFor}
use Rattle.bp_source.specs.declared.tasks.ExploreTask.{ExploreTask}
use Rattle.bp_commands.specs.Throughs.{explores_through, trace_through, AreListed, IsThroughRefused, IsThroughTrace}
use Rattle.bp_commands.proofs.Answered.{cut_short, refused_with}
use Rattle.bp_commands.proofs.explorations.ExplorePairCommand.apply.Goals as goal

-- the program accepts the setup, and these are the steps
module _ (x : ExploreTask) (given : Pair) (t : Program) (s : SetupOf) (lines : List StepLineOf) (listed : AreListed x given t s lines) where
  lacks_memory : IsThroughRefused x given Memory
  lacks_memory = inr (inr (record { program = t; setup = s; lines = lines; listed = listed; is = refl }))

  -- a run through the steps is searched for, as they were read
  through : (c : Flat) (own : Program) (text : List ℕ) (bound : Option ℕ) (ending : ThroughEnding) → StandsFor c t → own ≡ t → text ≡ given.text
      → bound ≡ bound_of x.options.bound s.contexts → IsThrough c t s (listed_steps own text lines) bound ending → IsThroughTrace x given (trace_through ending)
  through c own text bound ending stands same read within is = record {
    program = t;
    setup = s;
    lines = lines;
    listed = listed;
    code = c;
    stands_for = stands;
    ending = ending;
    through =
        subst (λ b. IsThrough c t s (listed_steps t given.text lines) b ending) within
        (subst (λ w. IsThrough c t s (listed_steps t w lines) bound ending) read
        (subst (λ p. IsThrough c t s (listed_steps p text lines) bound ending) same is));
    is = refl;
  }

pub returns-in_err-opened : goal.returns-in_err-opened
returns-in_err-opened g c = grind (arith, common_steps, err_from_is_err_and, refused_with)

pub returns-in_err-lines : goal.returns-in_err-lines
returns-in_err-lines g c =
    let p = err_from_is_err_and c.from_residual-in_err-lines.result c.from_residual-in_err-lines.ensures.1 in
    let given : Pair = record { text = c.args.text.now; input = c.args.steps.now } in
    let x = c.in_ok-opened.opened in
    rw (p.1, p.2) (refused_with (explores_through c.args.self.now.task.now) given _ _ (inr (inl (record {
      program = x.code.tree;
      setup = x.setup;
      opened = c.in_ok-opened.ensures.answer;
      cause = c.in_err-lines.field-0.0;
      why = rw c.checked.ensures at c.in_err-lines.ensures.told;
      is = refl;
    }))))

pub returns-in_err-explored : goal.returns-in_err-explored
returns-in_err-explored g c =
    let p = err_from_is_err_and c.from_residual-in_err-explored.result c.from_residual-in_err-explored.ensures.1 in
    let given : Pair = record { text = c.args.text.now; input = c.args.steps.now } in
    let task = c.args.self.now.task.now in
    let x = c.in_ok-opened.opened in
    let told = rw c.checked.ensures at c.in_ok-lines.ensures.told in
    rw (p.1, p.2) (refused_with (explores_through task) given _ _
    (lacks_memory task given x.code.tree x.setup c.in_ok-lines.lines.lines (record { opened = c.in_ok-opened.ensures.answer; told = told })))

pub returns-in_err-said : goal.returns-in_err-said
returns-in_err-said g c =
    let p = err_from_is_err_and c.from_residual-in_err-said.result c.from_residual-in_err-said.ensures.1 in
    let given : Pair = record { text = c.args.text.now; input = c.args.steps.now } in
    let task = c.args.self.now.task.now in
    let x = c.in_ok-opened.opened in
    let told = rw c.checked.ensures at c.in_ok-lines.ensures.told in
    rw (p.1, p.2) (refused_with (explores_through task) given _ _
    (lacks_memory task given x.code.tree x.setup c.in_ok-lines.lines.lines (record { opened = c.in_ok-opened.ensures.answer; told = told })))

pub returns-in_err-write_through : goal.returns-in_err-write_through
returns-in_err-write_through g c =
    let p = err_from_is_err_and c.from_residual-in_err-write_through.result c.from_residual-in_err-write_through.ensures.1 in
    let given : Pair = record { text = c.args.text.now; input = c.args.steps.now } in
    let task = c.args.self.now.task.now in
    let x = c.in_ok-opened.opened in
    let lines = c.in_ok-lines.lines in
    let read = c.in_ok-lines.ensures in
    let own = read.of.0 ∙ c.checked.ensures in
    let listed : AreListed task given x.code.tree x.setup lines.lines = record { opened = c.in_ok-opened.ensures.answer; told = rw c.checked.ensures at read.told } in
    let bound = c.bound_of-bound.ensures ∙ ap (bound_of task.options.bound) c.contexts.ensures in
    rw (p.1, p.2) (cut_short (explores_through task) given _ _ (trace_through c.in_ok-explored.explored.ending)
    (through task given x.code.tree x.setup lines.lines listed x.code _ lines.text.now _ _ c.is_of_a_program.ensures.stands own read.of.1 bound
    (c.in_ok-explored.ensures (sym own))) c.in_err-write_through.ensures)

pub returns : goal.returns
unfolding through
returns g c =
    let given : Pair = record { text = c.args.text.now; input = c.args.steps.now } in
    let task = c.args.self.now.task.now in
    let x = c.in_ok-opened.opened in
    let lines = c.in_ok-lines.lines in
    let read = c.in_ok-lines.ensures in
    let own = read.of.0 ∙ c.checked.ensures in
    let listed : AreListed task given x.code.tree x.setup lines.lines = record { opened = c.in_ok-opened.ensures.answer; told = rw c.checked.ensures at read.told } in
    let bound = c.bound_of-bound.ensures ∙ ap (bound_of task.options.bound) c.contexts.ensures in
    record {
      text = trace_through c.in_ok-explored.explored.ending;
      reports = record {
        trace =
            through task given x.code.tree x.setup lines.lines listed x.code _ lines.text.now _ _ c.is_of_a_program.ensures.stands own read.of.1 bound
            (c.in_ok-explored.ensures (sym own));
        task = refl;
        facts = c.facts_through.ensures;
        steps = rw (c.made_through-made.ensures, c.count-count.ensures) refl;
        said = c.in_ok-said.ensures;
      };
      written = c.in_ok-write_through.ensures;
    }
