-- The answer of the command `test`, from the result of testing a program.
use Rattle.bp_commands.proofs.Common.{◌≡◌, refl, sym, subst, inl, inr, ℕ, ◌<◌, ◌≤◌, ◌^◌, length, List, [], ◌∷◌, ◌++◌, Option, Some, map, arith, Appends, Appends-nil, Keeps-refl, Program, AppendsAll, SetupOf, trace_text, MAX_JOBS, setup_of_run, IsFound, IsTest, IsTestRefusal, IsDoneWith, IsRefusedWith, IsOpened, error_of_setup, error_of_test, Memory, tests, AreListed, IsTestable}
use Rattle.bp_flat.specs.StandsFor.{places_of}
use Rattle.bp_machine.specs.declared.setup_errors.SetupError.TheVariants.{OutOfRange}
use Rattle.bp_test.specs.declared.tests.TestError.{TestError}
use Rattle.bp_test.specs.declared.tests.TestError.TheVariants as error
use Rattle.bp_source.specs.declared.options.TestOptions.{TestOptions}
use Rattle.bp_source.specs.declared.tasks.TestTask.{TestTask}
use Rattle.bp_test.specs.declared.tests.Found.{Found}
use Rattle.bp_test.specs.declared.tests.Found.TheVariants.{Nothing, Failed, Deadlock}
use Rattle.bp_test.specs.declared.tests.Tested.{Tested as Made}
use Rattle.bp_test.specs.declared.waits.Waiting.{Waiting}
use Rattle.bp_test.specs.Tallies.{AreCounts, AreDistinct, MadeRun, made as made_of, HasReached, IsCounted}
use Rattle.bp_messages.specs.declared.summaries.TestReport.{TestReport}
use Rattle.bp_source.specs.SourceStatements.{AreStatements}
use Rattle.bp_source.specs.StatementLines.{positions_of}

-- the program takes this setup
module _ (task : TestTask) (text : List ℕ) (t : Program) (taken : SetupOf) (opened : IsOpened task.start task.named text t taken) where
  abbrev x : TestOptions
  x = task.options

  module _ (few : x.jobs ≤ MAX_JOBS) (old new : Option (List ℕ)) where
    abbrev testable : IsTestable task text
    testable = record { program = t; setup = taken; opened = opened; few = few }

    -- the text of an empty output after the test, if this one has more
    record IsAlone (f : Found) (at : Option ℕ) (ws : List Waiting) (runs : List MadeRun) : Type 0 where
      text_is : List ℕ
      found : IsFound t taken x (Some []) (Some text_is) f at ws runs
      written : AppendsAll old new text_is

    alone : (f : Found) (at : Option ℕ) (ws : List Waiting) (runs : List MadeRun) → IsFound t taken x old new f at ws runs → IsAlone f at ws runs
    alone Nothing at ws runs (same, nowhere, none, count, clean) = record {
      text_is = [];
      found = (refl, nowhere, none, count, clean);
      written = record { grown = subst (λ y. Appends old y []) (sym same) (Appends-nil old) };
    }
    alone (Failed run r) at ws runs is = grind (arith)
    alone (Deadlock run r) at ws runs (asked, nowhere, is) = grind (arith)

    pub done : (made : Made) → IsTest t taken x old new made → (tested : TestReport) → tested.found ≡ made.found
        → tested.failed ≡ made.failed → tested.waiting ≡ made.waiting → tested.positions.items ≡ positions_of text t
        → AreStatements text (places_of t.procedures) (map (λ v. v.items) tested.statements.items)
        → tested.reached ≡ made.tally.reached
        → AreDistinct made.tally.keys.items tested.distinct
        → ((z : SetupOf) (runs : List MadeRun) → length runs < 2 ^ 64 → IsCounted z runs made.tally → AreCounts z runs tested.counts)
        → tested.file.items ≡ task.program.now → tested.options ≡ x → tested.setup ≡ taken → tested.json ≡ task.json
        → AreListed task text t (map (λ v. v.items) tested.lines.items)
        → IsDoneWith (tests task) old new text tested
    done made test tested found_is failed_is waiting_is positions statements reached_is distinct counts file_is options setup_is form lines =
        let found = alone tested.found tested.failed tested.waiting.items test.runs
        (subst (λ v. IsFound t taken x old new tested.found tested.failed v.items test.runs) (sym waiting_is)
        (subst (λ n. IsFound t taken x old new tested.found n made.waiting.items test.runs) (sym failed_is)
        (subst (λ f. IsFound t taken x old new f made.failed made.waiting.items test.runs)
        (sym found_is) test.found))) in
        record {
          text = found.text_is;
          reports = record {
            testable = testable;
            runs = test.runs;
            found = found.found;
            counted = counts taken test.runs test.few test.tallied.counted;
            reached = subst (λ v. HasReached t taken test.runs v.items) (sym reached_is) test.tallied.reached;
            distinct = record { keys = made.tally.keys.items; are = test.tallied.keys; distinct = distinct };
            positions_are = positions;
            statements_are = statements;
            file_is = file_is;
            options_are = options;
            setup_is = setup_is;
            json_is = form;
            lines = lines;
          };
          written = found.written;
        }

    pub refused : (f : TestError) → IsTestRefusal t taken x old new f → IsRefusedWith (tests task) old new text (error_of_test f)
    refused error.Memory same = grind (arith)
    refused error.Write cut = inr (inl (
      refl,
      record {
        text = trace_text (setup_of_run taken x.seed cut.run) cut.history;
        writes = record {
          testable = testable;
          run = cut.run;
          report = cut.report;
          runs = cut.others ++ made_of cut.history cut.report cut.deadlocked cut.returned ∷ [];
          first = record {
            history = cut.history;
            others = cut.others;
            deadlocked = cut.deadlocked;
            returned = cut.returned;
            whole = refl;
            number = cut.number;
            below = cut.below;
            clean = cut.clean;
            found = cut.found;
            holds = cut.found.sought;
            written = record { grown = refl };
          };
        };
        written = cut.written;
      },
    ))

    pub lacks_memory : (out : Option (List ℕ)) → IsRefusedWith (tests task) out out text Memory
    lacks_memory out = inl (Keeps-refl out, inr (inr (refl, testable)))

  -- the number of jobs is over the maximum
  pub many_jobs : (out : Option (List ℕ)) → MAX_JOBS < x.jobs → IsRefusedWith (tests task) out out text (error_of_setup OutOfRange)
  many_jobs out given1 = grind (arith)
