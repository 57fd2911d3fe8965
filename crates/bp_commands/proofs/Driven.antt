-- The answer of the command `drive`, from the result of driving a program.
use Rattle.bp_commands.proofs.Common.{◌≡◌, refl, sym, subst, inl, inr, List, ℕ, Option, arith, [], ◌∷◌, ◌∙◌, ap, ◌+◌, ◌-◌, ◌<◌, ◌≤◌, ◌==◌, true, false, ◌++◌, length, take, drop, get_or, add-one, take-suc, take-append-drop, length-take-le, rules, Keeps, Keeps-refl, all_from, Program, IsWellFormedText, Report, SetupOf, StartOf, NamedBitOf, trace_text, trace_text_2, IsMigrated, IsMigrateRefusal, error_of_schedule, error_of_migration, IsDoneWith, IsRefusedWith, Pair, IsOpened, drives, migrates, ends_line, HasNoSeparator, HasNoneBefore, IsScheduleRefused, IsSeparated, IsSplit}
use Rattle.std.proofs.Math.Seq.{take-append_seam, drop-append_seam}
use Rattle.std.proofs.lemmas.Bool.{cases_lt, true≢false}
use Rattle.bp_trace.specs.declared.errors.DriveError.{DriveError}
use Rattle.bp_trace.specs.declared.errors.DriveError.TheVariants.{TooLong, Line, AfterFinish, Memory, Write}
use Rattle.bp_trace.specs.Drives.{DrivesTo, IsRefusal, IsScheduleRefusal}
use Rattle.bp_trace.specs.declared.errors.MigrateError.{MigrateError}

module _ (start : StartOf) (named : List NamedBitOf) (given : Pair) (t : Program) (s : SetupOf) (opened : IsOpened start named given.text t s)
    (old new : Option (List ℕ)) where
  pub driven : (r : Report) → DrivesTo t s given.input old new r → IsDoneWith (drives start named) old new given r
  driven r played = record {
    text = trace_text s played.history;
    reports = record {
      trace = record {
        program = t;
        setup = s;
        opened = opened;
        history = played.history;
        driven = played.driven;
        is = refl;
      };
      reported = played.report;
    };
    written = played.written;
  }

  unplayed : (f : DriveError) → IsScheduleRefusal t s given.input f → IsScheduleRefused start named given (error_of_schedule f)
  unplayed f why = record { program = t; setup = s; opened = opened; cause = f; why = why; is = refl }

  kept : new ≡ old → Keeps old new
  kept same = subst (Keeps old) (sym same) (Keeps-refl old)

  pub not_driven : (f : DriveError) → IsRefusal t s given.input old new f → IsRefusedWith (drives start named) old new given (error_of_schedule f)
  not_driven TooLong found = inl (kept found.0, inr (unplayed TooLong found.1))
  not_driven (Line n) found = inl (kept found.0, inr (unplayed (Line n) found.1))
  not_driven (AfterFinish n) found = inl (kept found.0, inr (unplayed (AfterFinish n) found.1))
  not_driven Memory found = inl (kept found.0, inr (unplayed Memory found.1))
  not_driven Write (history, is, part) = inr (inl (
    refl,
    record {
      text = trace_text s history;
      writes = record {
        program = t;
        setup = s;
        opened = opened;
        history = history;
        driven = is;
        is = refl;
      };
      written = part;
    },
  ))

-- The answer of the command `migrate`, from the result of migrating a trace.

module _ (given : Pair) (t : Program) (of : IsWellFormedText given.text t) (old new : Option (List ℕ)) where
  pub migrated : (r : Report) → IsMigrated t given.input old new r → IsDoneWith migrates old new given r
  migrated r is = record {
    text = trace_text_2 is.setup is.history;
    reports = record {
      trace = record {
        program = t;
        setup = is.setup;
        history = is.history;
        legal = record { of = of; version = is.version; is = is.trace };
        is = refl;
      };
      reported = is.report;
    };
    written = is.written;
  }

  pub not_migrated : (f : MigrateError) → IsMigrateRefusal t given.input old new f → IsRefusedWith migrates old new given (error_of_migration f)
  not_migrated f given1 = grind (arith)

-- The first line that is a separator, found one place after the other.

ends_line-append : (bs : List ℕ) (b : ℕ) → ends_line (bs ++ b ∷ []) ≡ (b == 10)
ends_line-append [] b = refl
ends_line-append (c ∷ []) b = refl
ends_line-append (c ∷ d ∷ bs) b = ends_line-append (d ∷ bs) b

-- the first bytes end a line if the last of them is a line feed
pub line_next : (input : List ℕ) (at : ℕ) → at < length input → ends_line (take (at + 1) input) ≡ (get_or input at 0 == 10)
line_next input at within =
    ap (λ n. ends_line (take n input)) (add-one at) ∙ ap ends_line (take-suc input at 0 within) ∙ ends_line-append (take at input) (get_or input at 0)

-- no separator is at this place
abbrev pub HasNoneAt : List ℕ → ℕ → Type 0
HasNoneAt input at = (front bytes rest : List ℕ) → ends_line front ≡ true → IsSeparated bytes rest → input ≡ front ++ bytes → length front ≡ at → ⊥

pub none_next : (input : List ℕ) (at : ℕ) → HasNoneBefore input at → HasNoneAt input at → HasNoneBefore input (at + 1)
none_next input at before here front bytes rest line separated whole =
    let least = before front bytes rest line separated whole in
    elim (cases_lt at (length front)) [
      | inl less ↦ omega arith
      | inr more ↦ absurd (here front bytes rest line separated whole (omega arith))
    ]

-- a front of this length is the text before the place
front_is : (input front bytes : List ℕ) (at : ℕ) → input ≡ front ++ bytes → length front ≡ at → take at input ≡ front
front_is input front bytes at whole here = ap (λ n. take n input) (sym here) ∙ (ap (take (length front)) whole ∙ take-append_seam front bytes)

bytes_are : (input front bytes : List ℕ) (at : ℕ) → input ≡ front ++ bytes → length front ≡ at → drop at input ≡ bytes
bytes_are input front bytes at whole here = ap (λ n. drop n input) (sym here) ∙ (ap (drop (length front)) whole ∙ drop-append_seam front bytes)

-- a line does not begin here
pub none_within : (input : List ℕ) (at : ℕ) → ends_line (take at input) ≡ false → HasNoneAt input at
none_within input at given1 = search (rules, true≢false, front_is)

-- something else begins here
pub none_other : (input : List ℕ) (at : ℕ) → HasNoSeparator (take (length input - at) (drop at input)) → HasNoneAt input at
none_other input at other front bytes rest line separated whole here =
    other rest (subst (λ bs. IsSeparated bs rest) (sym (all_from input at ∙ bytes_are input front bytes at whole here)) separated)

-- a separator begins here, at the start of a line
pub split_at : (input rest : List ℕ) (at : ℕ) → at ≤ length input → ends_line (take at input) ≡ true
    → IsSeparated (take (length input - at) (drop at input)) rest → HasNoneBefore input at → IsSplit input (take at input) rest
split_at input rest at given1 given2 given3 given4 = search (rules, take-append-drop, all_from, length-take-le)
