-- The first found run of some runs, with more of them, and in a test.
use Rattle.bp_test.proofs.Common.{◌≡◌, ℕ, suc, ◌+◌, ◌<◌, ◌≤◌, ◌^◌, Bool, true, List, [], ◌∷◌, ◌++◌, length, Option, None, Some, refl, ap, sym, ◌∙◌, subst, arith, MatchOption, min, false, is_some, rules, length_push, Program, Call, Outcome, Clean, SetupOf, outcome_of, is_failure, FailsAt, setup_of_run, found_by, found_in, IsCleanRun, AreCleanRuns, IsFirstFound, IsFoundRun, IsWrittenRun, IsFound, IsCutRun, HasFailed, IsBlock, IsTallied, MadeRun, IsTally, Plan, Tally}
use Rattle.std.proofs.Common.{length-append}
use Rattle.bp_text.specs.Writing.{AppendsAll, AppendsPart}
use Rattle.bp_text.proofs.PartsOfTexts.{regrouped}
use Rattle.bp_trace.specs.TraceText.{trace_text}
use Rattle.bp_source.specs.declared.options.TestOptions.{TestOptions}
use Rattle.bp_test.specs.declared.batches.Block.{Block}
use Rattle.bp_test.specs.declared.batches.FoundRun.{FoundRun}
use Rattle.bp_test.specs.Tests.{IsEnd}

module _ (t : Program) (s : SetupOf) (with_deadlock : Bool) (seed : ℕ) where
  -- runs and those after them
  pub clean_both : (n : ℕ) (xs ys : List MadeRun) → AreCleanRuns t s with_deadlock seed n xs
      → AreCleanRuns t s with_deadlock seed (n + length xs) ys → AreCleanRuns t s with_deadlock seed n (xs ++ ys)
  clean_both n [] ys first later = let none : n + 0 ≡ n = omega arith in subst (λ k. AreCleanRuns t s with_deadlock seed k ys) none later
  clean_both n (x ∷ xs) ys first later =
      let next : n + length (x ∷ xs) ≡ suc n + length xs = omega arith in
      (first.0, clean_both (suc n) xs ys first.1 (subst (λ k. AreCleanRuns t s with_deadlock seed k ys) next later))

  pub clean_one : (n : ℕ) (xs : List MadeRun) (x : MadeRun) → AreCleanRuns t s with_deadlock seed n xs
      → IsCleanRun t (setup_of_run s seed (n + length xs)) with_deadlock x
      → AreCleanRuns t s with_deadlock seed n (xs ++ x ∷ [])
  clean_one n xs x first last = clean_both n xs (x ∷ []) first (last, tt)

  -- the finding after runs that are not searched for is the first of all
  module _ (a b c : ℕ) (before : List MadeRun) (count : a + length before ≡ b) (clean : AreCleanRuns t s with_deadlock seed a before) where
    then_clean : (ys : List MadeRun) → AreCleanRuns t s with_deadlock seed b ys → AreCleanRuns t s with_deadlock seed a (before ++ ys)
    then_clean ys later = clean_both a before ys clean (subst (λ k. AreCleanRuns t s with_deadlock seed k ys) (sym count) later)

    pub found_later : b ≤ c → (o : Option FoundRun) (runs : List MadeRun)
        → IsFirstFound t s with_deadlock seed b c o runs → IsFirstFound t s with_deadlock seed a c o (before ++ runs)
    found_later le None runs later = search (rules, length-append, then_clean)
    found_later le (Some f) runs later = record {
      others = before ++ later.others;
      deadlocked = later.deadlocked;
      returned = later.returned;
      whole = ap (λ ys. before ++ ys) later.whole ∙ simp regrouped;
      number = (let here = later.number in rw length-append (omega (arith, here, count)));
      below = later.below;
      clean = then_clean later.others later.clean;
      found = later.found;
      at = later.at;
      waiting = later.waiting;
    }

  -- and of more runs
  pub found_among_more : (a b c : ℕ) → b ≤ c → (f : FoundRun) (runs : List MadeRun)
      → IsFoundRun t s with_deadlock seed a b f runs → IsFoundRun t s with_deadlock seed a c f runs
  found_among_more a b c given1 f runs given2 = grind (arith)

-- the finding of a plan of a test is that of the test
pub as_asked : (t : Program) (s : SetupOf) (x : TestOptions) (end seed : ℕ) → seed ≡ x.seed → (with_deadlock : Bool)
    → with_deadlock ≡ x.with_deadlock → (o found : Option FoundRun) → o ≡ found → (runs : List MadeRun)
    → IsFirstFound t s with_deadlock seed 0 end o runs → IsFirstFound t s x.with_deadlock x.seed 0 end found runs
as_asked t s x end seed given1 with_deadlock given2 o found given3 runs given4 = grind (arith)

-- there are no more runs than were asked for
pub few_with : (t : Program) (s : SetupOf) (with_deadlock : Bool) (seed count : ℕ) → count < 2 ^ 64
    → (f : FoundRun) (runs : List MadeRun) → IsFoundRun t s with_deadlock seed 0 count f runs → length runs < 2 ^ 64
few_with t s with_deadlock seed count given1 f runs given2 = search (rules, length_push)

-- the test's result, from the first found run of all
module _ (t : Program) (s : SetupOf) (x : TestOptions) (f : FoundRun) (runs : List MadeRun)
    (first : IsFoundRun t s x.with_deadlock x.seed 0 x.runs f runs) (z : SetupOf)
    (setup : z ≡ setup_of_run s x.seed f.run) (old new : Option (List ℕ)) where
  count : length first.others ≡ f.run
  count = let here = first.number in omega (arith, here)

  written_run : (Holds : SetupOf → List Call → Type 0) → Holds (setup_of_run s x.seed f.run) f.history.items
      → AppendsAll old new (trace_text z f.history.items) → IsWrittenRun t s x old new Holds f.run f.report runs
  written_run Holds holds written = record {
    history = f.history.items;
    others = first.others;
    deadlocked = first.deadlocked;
    returned = first.returned;
    whole = first.whole;
    number = count;
    below = first.below;
    clean = first.clean;
    found = first.found;
    holds = holds;
    written = subst (λ y. AppendsAll old new (trace_text y f.history.items)) setup written;
  }

  own_outcome : f.report.outcome ≡ outcome_of f.history.items
  own_outcome = first.found.made.report.outcome

  -- at which instruction it fails, if it does
  abbrev At : Option ℕ → Type 0
  At number = MatchOption number (outcome_of f.history.items ≡ Clean) (FailsAt t (setup_of_run s x.seed f.run) f.history.items)

  failed_at : (number : Option ℕ) → At number → is_failure (outcome_of f.history.items) ≡ true
      → HasFailed t (setup_of_run s x.seed f.run) f.history.items number
  failed_at number given1 given2 = grind (arith)

  failed_nowhere : (number : Option ℕ) → At number → outcome_of f.history.items ≡ Clean → number ≡ None
  failed_nowhere number given1 given2 = grind (arith)

  found_as : (o : Outcome) → f.report.outcome ≡ o → AppendsAll old new (trace_text z f.history.items)
      → IsFound t s x old new (found_by f.run f.report o) f.number f.waiting.items runs
  found_as o given1 given2 = search (rules, written_run, failed_at, own_outcome, failed_nowhere)

  pub found_of_run : AppendsAll old new (trace_text z f.history.items) → IsFound t s x old new (found_in f.run f.report) f.number f.waiting.items runs
  found_of_run written = found_as f.report.outcome refl written

  pub cut_run : AppendsPart old new (trace_text z f.history.items) → IsCutRun t s x old new
  cut_run written = record {
    run = f.run;
    history = f.history.items;
    report = f.report;
    deadlocked = first.deadlocked;
    returned = first.returned;
    others = first.others;
    number = count;
    below = first.below;
    clean = first.clean;
    found = first.found;
    written = subst (λ y. AppendsPart old new (trace_text y f.history.items)) setup written;
  }

pub none_of : (o : Option FoundRun) → is_some o ≡ false → o ≡ None
none_of o given1 = grind (arith)

pub some_of : (o : Option FoundRun) → is_some o ≡ true → o ≡ None → ⊥
some_of o given1 given2 = grind (arith)

-- a block after runs that are not looked for
pub after_block : (t : Program) (s : SetupOf) (with_deadlock : Bool) (seed from end : ℕ) → from ≤ end
    → (o : Option FoundRun) (old block new : Tally)
    → ((t : Program) (s : SetupOf) (runs more : List MadeRun) → IsTally t s runs old → IsTally t s more block → IsTally t s (runs ++ more) new)
    → IsTallied t s with_deadlock seed 0 from None old
    → IsTallied t s with_deadlock seed from end o block
    → IsTallied t s with_deadlock seed 0 end o new
after_block t s with_deadlock seed from end le o old block new adds was here = record {
  runs = was.runs ++ here.runs;
  first =
      let count = was.first.0 in
      found_later t s with_deadlock seed 0 from end was.runs (omega (arith, count)) was.first.1 le o here.runs here.first;
  tallied = adds t s was.runs here.runs was.tallied here.tallied;
}

-- the block of these runs
pub block_of_runs : (t : Program) (s : SetupOf) (p : Plan) (size to start end : ℕ) → end ≡ min (start + size) to
    → (block : Block) → block.from ≡ start → IsEnd p.deadline start end block.found block.end
    → IsTallied t s p.with_deadlock p.seed start block.end block.found block.tally
    → IsBlock t s p size to block
block_of_runs t s p size to start end e block from ends tallied = record {
  end = rw (from, ← e) ends;
  tallied = rw from tallied;
}
