-- The answer of the command `run`, from the result of running a code.
use Rattle.bp_commands.proofs.Common.{◌≡◌, refl, sym, subst, inl, inr, List, ℕ, Option, true, false, Keeps, Keeps-refl, Program, SetupOf, NamedBitOf, OptionsOf, trace_text, IsDoneWith, IsOpened, IsRefusedWith, error_of_run, error_of_setup, runs, seeded, IsRunnable, IsRunReport}
use Rattle.bp_machine.specs.declared.setup_errors.SetupError.TheVariants.{OutOfRange}
use Rattle.bp_run.specs.declared.answers.RunReport.{RunReport}
use Rattle.bp_run.specs.declared.answers.RunError.{RunError}
use Rattle.bp_run.specs.declared.answers.RunError.TheVariants as run
use Rattle.bp_run.specs.Options.{has_bad_turn_or_ring}
use Rattle.bp_run.specs.Runs.{IsPlayedBy, IsPlayRefusal}

-- the program takes this setup
module _ (o : OptionsOf) (named : List NamedBitOf) (text : List ℕ) (t : Program) (s : SetupOf) (opened : IsOpened o.start named text t s) where
  module _ (fine : has_bad_turn_or_ring o ≡ false) (old new : Option (List ℕ)) where
    abbrev runnable : IsRunnable o named text
    runnable = record { program = t; setup = s; opened = opened; in_range = fine }

    pub done : (r : RunReport) → IsPlayedBy t (seeded o s) old new r → IsDoneWith (runs o named) old new text r
    done r from =
        let played = from.played in
        let written = trace_text (seeded o s) played.history in
        let reports : IsRunReport o named text written r = record {
          runnable = runnable;
          played = record {
            played = record {
              history = played.history;
              written = refl;
              report = played.report;
              legal = played.legal;
              seeded = played.seeded;
              steps = played.steps;
              within = played.within;
              failure = played.failure;
              stopped = played.stopped;
            };
            one_each = from.one_each;
            made = from.made;
            left = from.left;
            agreement = from.agreement;
          };
        } in
        record { text = written; reports = reports; written = record { grown = played.written } }

    kept : new ≡ old → Keeps old new
    kept same = subst (Keeps old) (sym same) (Keeps-refl old)

    pub refused : (f : RunError) → IsPlayRefusal t (seeded o s) old new f → IsRefusedWith (runs o named) old new text (error_of_run f)
    refused (run.Program f) found = absurd found
    refused (run.Setup f) found = absurd found
    refused run.Memory same = inl (kept same, inr (inr (inl refl, runnable)))
    refused run.Start same = inl (kept same, inr (inr (inr refl, runnable)))
    refused (run.Early i) early =
        inr (inr (record {
          text = trace_text (seeded o s) early.history;
          spoils = record {
            runnable = runnable;
            thread = i;
            early = record { history = early.history; legal = early.legal; seeded = early.seeded; written = refl; early = early.early };
            is = refl;
          };
          written = record { grown = early.written };
        }))
    refused run.Write cut =
        inr (inl (
          refl,
          record {
            text = trace_text (seeded o s) cut.history;
            writes = record { runnable = runnable; history = cut.history; legal = cut.legal; bits = cut.seeded; is = refl };
            written = cut.written;
          },
        ))

  -- the turn or the ring is out of range
  pub bad_numbers : (out : Option (List ℕ)) → has_bad_turn_or_ring o ≡ true → IsRefusedWith (runs o named) out out text (error_of_setup OutOfRange)
  bad_numbers out bad = inl (Keeps-refl out, inr (inl (record { program = t; setup = s; opened = opened; out_of_range = bad; is = refl })))
