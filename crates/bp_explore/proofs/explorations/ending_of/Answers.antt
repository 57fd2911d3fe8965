use Rattle.bp_explore.proofs.Common.{subst, rules, failures, IsSearchEnd, SearchEnd}
use Rattle.bp_explore.specs.declared.explorations.Finding.TheVariants.{Failure, Deadlock}
use Rattle.bp_explore.proofs.MadeSteps.{none_below_of, none_of, safe_of}
use Rattle.bp_explore.proofs.PlayedRuns.{played_answer}
use Rattle.bp_explore.proofs.explorations.ending_of.Goals as goal

pub returns-in-Closed : goal.returns-in-Closed
returns-in-Closed c = λ bound b end k.
    let t = c.args.code.now.tree in
    let found = subst (λ (e : SearchEnd). IsSearchEnd t c.args.setup.now failures bound b c.args.space.now.nodes.items e) c.in-Closed.is end in
    none_of t c.args.setup.now b k (found.1 k).neither

pub returns-in-Bound : goal.returns-in-Bound
returns-in-Bound c = search (rules, none_of)

pub returns-in-Short : goal.returns-in-Short
returns-in-Short c = λ bound b end.
    let t = c.args.code.now.tree in
    let found = subst (λ (e : SearchEnd). IsSearchEnd t c.args.setup.now failures bound b c.args.space.now.nodes.items e) c.in-Short.is end in
    (none_below_of t c.args.setup.now b c.in-Short.contexts found.0, found.1)

pub returns-in_ok-played-in-Deadlocked : goal.returns-in_ok-played-in-Deadlocked
returns-in_ok-played-in-Deadlocked c = λ bound b end.
    let t = c.args.code.now.tree in
    let s = c.args.setup.now in
    let found = subst (λ (e : SearchEnd). IsSearchEnd t s failures bound b c.args.space.now.nodes.items e) c.in-Deadlocked.is end in
    played_answer c.args.code.now t s bound b c.in-Deadlocked.contexts Deadlock
    (none_below_of t s b c.in-Deadlocked.contexts found.0, (found.1, safe_of t s c.in-Deadlocked.contexts found.2)) found.3 c.in_ok-played-in-Deadlocked.field-0
    c.in_ok-played-in-Deadlocked.ensures

pub returns-in_ok-played-in-Found : goal.returns-in_ok-played-in-Found
returns-in_ok-played-in-Found c = λ bound b end.
    let t = c.args.code.now.tree in
    let s = c.args.setup.now in
    let found = subst (λ (e : SearchEnd). IsSearchEnd t s failures bound b c.args.space.now.nodes.items e) c.in-Found.is end in
    played_answer c.args.code.now t s bound b c.in-Found.contexts Failure
    (none_below_of t s b c.in-Found.contexts found.0, tt) found.1 c.in_ok-played-in-Found.field-0 c.in_ok-played-in-Found.ensures
