-- If arguments have no error, the command that they name is one of ours: at `help` a parse ends.
use Rattle.btrun.proofs.Common.{◌≡◌, refl, false, Result, IfOk, codes, ◌||◌, cond, option_map, inl, inr, ◌⊎◌, ℕ, Bool, List, Option, Some, None, is_some, [], ◌∷◌, arith, subst, find, rules, Rule, Held, Names, Row, Step, next, trailing, subcommand, value, Text, Waiting, Walk, arg_by_index, answers_to, word_met, to_positional, after_step, walked_from, walk_from, nothing_held, stop_after, App, app_of, with_subcommand, Shape, built, entered, names_of, label_of, rows_at, subcommand_of, argument_words, Command, out-Command, fold, bytes_eq, bytes_eq-Decides, Kinds, or_else, IsAmong, word_fault, step_fault, turn_fault, fault_of, btrun_app, IsOurs, IsNamed, IsOfKind, IsOfOne}
use Rattle.clap.specs.Built.{AddsSubcommand}
use Rattle.clap.specs.Walk.{walked}
use Rattle.clap.specs.Faults.{walk_fault}
use Rattle.clap.proofs.OnLiterals.{clap_on_literals}
use Rattle.clap.specs.declared.error.kind.ErrorKind.{ErrorKind}
use Rattle.clap.specs.declared.error.kind.ErrorKind.TheVariants.{OutOfMemory}
use Rattle.btrun.specs.declared.arguments.table.Named.TheVariants as name
use Rattle.btrun.specs.declared.arguments.no_tasks.NoTask.{NoTask}
use Rattle.btrun.specs.declared.arguments.no_tasks.NoTask.TheVariants.{Memory}

-- A command after one more argument, or one more subcommand.

-- the command has this shape, and no argument for all subcommands
abbrev pub HasShape : App → Command → Type 0
HasShape app c = (app_of c ≡ app) × ((out-Command c).has_globals ≡ false)

pub with_command : (old new sub : Command) (app below : App) → app_of old ≡ app → HasShape below sub
    → AddsSubcommand old sub new → app_of new ≡ with_subcommand app below.top
with_command old new sub app below given1 given2 given3 = grind (arith)

pub if_ok : {X E : Type 0} (r : Result X E) (P Q : X → Type 0) → ((x : X) → P x → Q x) → IfOk r P → IfOk r Q
if_ok given1 given2 = grind (arith)

-- the step enters no `help`, and the walk did not stop there
abbrev NoHelpStep : Step → Type 0
NoHelpStep (subcommand name) = bytes_eq name (codes "help") ≡ false
NoHelpStep s = Unit {0}

abbrev NoHelp : Option (Text × List Text) → Type 0
NoHelp None = Unit {0}
NoHelp (Some p) = bytes_eq p.0 (codes "help") ≡ false

or_left : (xs ys : Kinds) → or_else xs ys ≡ [] → xs ≡ []
or_left xs ys given1 = grind (arith)

or_right : (xs ys : Kinds) → or_else xs ys ≡ [] → ys ≡ []
or_right xs ys given1 = grind (arith)

module _ (s : Shape) (enabled : s.disable_help_subcommand ≡ false) (names : Names) where
  word_fine : (is_trailing : Bool) (waiting : Waiting) (position : ℕ) (word : Text) (h : Held) → word_fault s names is_trailing waiting word h ≡ []
      → NoHelpStep (word_met s.rules names is_trailing waiting position word h).1
  word_fine is_trailing waiting position word h given1 = grind (arith)

  after_fine : (word : Text) (w : Walk) (h : Held) (step : Step) → NoHelp w.stopped → NoHelpStep step → NoHelp (after_step s.rules word w h step).stopped
  after_fine word w h (next waiting) before fine = before
  after_fine word w h (trailing position) before fine = before
  after_fine word w h (subcommand name) before fine = fine
  after_fine word w h value before fine = to_fine (arg_by_index s.rules w.position)
    where
      to_fine : (o : Option Rule) → NoHelp (to_positional s.rules o word w h).stopped
      to_fine None = before
      to_fine (Some a) = tt

  walked_fine : (w : Walk) (word : Text) → NoHelp w.stopped → turn_fault s names w word ≡ [] → NoHelp (walked s.rules names w word).stopped
  unfolding walked
  walked_fine w word before e = by_stop w.stopped before e
    where
      by_stop : (o : Option (Text × List Text)) → NoHelp o
          → cond (is_some o) [] (or_else (word_fault s names w.is_trailing w.waiting word w.held)
          (step_fault s w.position (word_met s.rules names w.is_trailing w.waiting w.position word w.held).0
          (word_met s.rules names w.is_trailing w.waiting w.position word w.held).1)) ≡ []
          → NoHelp (walked_from s.rules names o w word).stopped
      by_stop (Some p) fine e = fine
      by_stop None fine e =
          after_fine word w (word_met s.rules names w.is_trailing w.waiting w.position word w.held).0
          (word_met s.rules names w.is_trailing w.waiting w.position word w.held).1 before
          (word_fine w.is_trailing w.waiting w.position word w.held (or_left _ _ e))

  all_fine : (arguments : List Text) (w : Walk) → NoHelp w.stopped → walk_fault s names w arguments ≡ []
      → NoHelp (fold (walked s.rules names) w arguments).stopped
  unfolding walk_fault
  all_fine [] w before e = before
  all_fine (word ∷ rest) w before e = search (rules, (all_fine rest (walked s.rules names w word) (walked_fine w word before (or_left _ _ e)) (or_right (turn_fault s names w word) _ e)), walked_fine, or_left, or_right)

-- the subcommand that a stop enters
module _ (p : Text × List Text) where
  abbrev enter : Option Shape → Option (Text × List Row)
  enter = option_map (λ s. rows_at s p.1)

  abbrev IsOursOrNone : Shape → Type 0
  IsOursOrNone s = (answers_to p.0 (label_of s) ≡ false) ⊎ IsNamed s.name

  abbrev AllOurs : List Shape → Type 0
  AllOurs [] = Unit {0}
  AllOurs (s ∷ ss) = IsOursOrNone s × AllOurs ss

  pick : (b : Bool) (s : Shape) (o : Option Shape) → (b ≡ false) ⊎ IsNamed s.name → IsOurs (enter o) → IsOurs (enter (cond b (Some s) o))
  pick b s o given1 given2 = grind (arith)

  found_ours : (subs : List Shape) → AllOurs subs → IsOurs (enter (find (λ s. answers_to p.0 (label_of s)) subs))
  found_ours [] ours = tt
  found_ours (s ∷ ss) (first, others) = pick (answers_to p.0 (label_of s)) s _ first (found_ours ss others)

also : {A B : Type 0} → A → B → A × B
also a b = (a, b)

other_way : (a b : Text) → bytes_eq a b ≡ false → (bytes_eq b a || false) ≡ false
other_way a b e = grind (arith, bytes_eq-Decides a b, bytes_eq-Decides b a, e)

entered_ours : (stop : Option (Text × List Text)) → NoHelp stop → IsOurs (entered (built btrun_app) stop)
unfolding clap_on_literals
entered_ours None fine = tt
entered_ours (Some p) fine =
    found_ours p (built btrun_app).subs
    (also (inr (name.Check, refl)) (also (inr (name.Code, refl)) (also (inr (name.Drive, refl)) (also (inr (name.Confirm, refl)) (also (inr (name.Run, refl))
    (also (inr (name.Test, refl)) (also (inr (name.Explore, refl)) (also (inr (name.Replay, refl)) (also (inr (name.Show, refl)) (also (inr (name.Migrate, refl))
    (also (inr (name.Shrink, refl)) (inl (other_way p.0 (codes "help") fine), tt))))))))))))

enabled : (built btrun_app).top.disable_help_subcommand ≡ false
unfolding clap_on_literals
enabled = refl

-- arguments without an error name a command of ours, or nothing
pub named_ours : (arguments : List Text) → fault_of btrun_app arguments ≡ [] → IsOurs (subcommand_of btrun_app arguments)
named_ours arguments clean =
    entered_ours (stop_after (built btrun_app).top.rules (names_of (built btrun_app)) (argument_words btrun_app arguments))
    (all_fine (built btrun_app).top enabled (names_of (built btrun_app)) (argument_words btrun_app arguments) (walk_from nothing_held) tt (or_left _ _ clean))

-- The answer in place of a task is for one of the kinds of errors that come.

of_one : (kinds : Kinds) (k : ErrorKind) (none : NoTask) → IsAmong k kinds → IsOfKind k none → IsOfOne kinds none
of_one [] k none is of = is
of_one (x ∷ xs) k none (inl is) of = inl (subst (λ y. IsOfKind y none) is of)
of_one (x ∷ xs) k none (inr is) of = inr (of_one xs k none is of)

of_memory : (k : ErrorKind) (none : NoTask) → k ≡ OutOfMemory → (none ≡ Memory) ⊎ IsOfKind k none → none ≡ Memory
of_memory k none given1 given2 = grind (arith)

pub of_kinds : (kinds : Kinds) (k : ErrorKind) (none : NoTask) → (k ≡ OutOfMemory) ⊎ IsAmong k kinds
    → (none ≡ Memory) ⊎ IsOfKind k none → (none ≡ Memory) ⊎ IsOfOne kinds none
of_kinds kinds k none given1 given2 = search (rules, of_memory, of_one)
