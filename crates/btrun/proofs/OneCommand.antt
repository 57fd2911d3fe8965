-- If the first argument after the program's name names a command, the program with this command alone reads the arguments as the one
-- with all commands does.
use Rattle.std.specs.Prelude.{◌++◌}
use Rattle.btrun.proofs.Common.{◌≡◌, ◌∙◌, ap, ap₂, refl, sym, true, List, Option, [], ◌∷◌, Some, map, fold, get_or, is_some, length, nat_lt, subst, App, Names, Rule, Shape, Text, Walk, built, entered, names_of, nothing_held, walk_from, is_simple_and_free, Kinds, or_else, btrun_app, command_app, with_commands, command_name, Check, Code, Drive, Confirm, Run, Test, Explore, Replay, Show, Migrate, Shrink}
use Rattle.clap.specs.Faults.{check_fault, defaults_fault, entered_fault, settle_fault, turn_fault, walk_fault}
use Rattle.clap.specs.Walk.{walk, walked, settled, finished}
use Rattle.clap.proofs.OnLiterals.{clap_on_literals}
use Rattle.btrun.specs.Commands.{program_app, ReadsAlike}
use Rattle.btrun.specs.declared.arguments.table.Named.{Named}

-- A walk that has stopped goes on alike with any names, and without an error.
module _ (c : List Rule) (w : Walk) where
  abbrev stopped_at : Text × List Text → Walk
  stopped_at p = record w { stopped = Some p }

  walks_on : (m n : Names) (p : Text × List Text) (words : List Text) → fold (walked c m) (stopped_at p) words ≡ fold (walked c n) (stopped_at p) words
  unfolding walked
  walks_on m n p [] = refl
  walks_on m n p (x ∷ xs) = walks_on m n (p.0, p.1 ++ x ∷ []) xs

  stays : (n : Names) (p : Text × List Text) (words : List Text) → (rest : List Text) × ((fold (walked c n) (stopped_at p) words).stopped ≡ Some (p.0, rest))
  unfolding walked
  stays n p [] = (p.1, refl)
  stays n p (x ∷ xs) = stays n (p.0, p.1 ++ x ∷ []) xs

fails_not : (s : Shape) (w : Walk) (n : Names) (p : Text × List Text) (words : List Text) → walk_fault s n (record w { stopped = Some p }) words ≡ []
unfolding walked walk_fault
fails_not s w n p [] = refl
fails_not s w n p (x ∷ xs) = fails_not s w n (p.0, p.1 ++ x ∷ []) xs

-- the program with one command
abbrev one_app : Named → App
one_app n = with_commands program_app (map command_app (n ∷ []))

abbrev top : Shape
top = (built btrun_app).top

abbrev all_names : Names
all_names = names_of (built btrun_app)

module _ (n : Named) where
  abbrev names : Names
  names = names_of (built (one_app n))

  -- the walk stops at the command's name
  abbrev stopped : Walk
  stopped = stopped_at top.rules (walk_from nothing_held) (command_name n, [])

  -- a walk over a command's name stops there without an error, and the command is found
  record IsMet : Type 0 where
    pub exact : is_simple_and_free (one_app n) ≡ true
    pub meets : walked top.rules names (walk_from nothing_held) (command_name n) ≡ stopped
    pub meets_among : walked top.rules all_names (walk_from nothing_held) (command_name n) ≡ stopped
    pub fine : turn_fault top names (walk_from nothing_held) (command_name n) ≡ []
    pub fine_among : turn_fault top all_names (walk_from nothing_held) (command_name n) ≡ []
    pub enters : (r : List Text) → entered (built (one_app n)) (Some (command_name n, r)) ≡ entered (built btrun_app) (Some (command_name n, r))
    pub below : (r : List Text) → entered_fault (built (one_app n)) (Some (command_name n, r)) ≡ entered_fault (built btrun_app) (Some (command_name n, r))

met : (n : Named) → IsMet n
unfolding clap_on_literals
met Check = record { exact = refl; meets = refl; meets_among = refl; fine = refl; fine_among = refl; enters = λ r. refl; below = λ r. refl }
met Code = record { exact = refl; meets = refl; meets_among = refl; fine = refl; fine_among = refl; enters = λ r. refl; below = λ r. refl }
met Drive = record { exact = refl; meets = refl; meets_among = refl; fine = refl; fine_among = refl; enters = λ r. refl; below = λ r. refl }
met Confirm = record { exact = refl; meets = refl; meets_among = refl; fine = refl; fine_among = refl; enters = λ r. refl; below = λ r. refl }
met Run = record { exact = refl; meets = refl; meets_among = refl; fine = refl; fine_among = refl; enters = λ r. refl; below = λ r. refl }
met Test = record { exact = refl; meets = refl; meets_among = refl; fine = refl; fine_among = refl; enters = λ r. refl; below = λ r. refl }
met Explore = record { exact = refl; meets = refl; meets_among = refl; fine = refl; fine_among = refl; enters = λ r. refl; below = λ r. refl }
met Replay = record { exact = refl; meets = refl; meets_among = refl; fine = refl; fine_among = refl; enters = λ r. refl; below = λ r. refl }
met Show = record { exact = refl; meets = refl; meets_among = refl; fine = refl; fine_among = refl; enters = λ r. refl; below = λ r. refl }
met Migrate = record { exact = refl; meets = refl; meets_among = refl; fine = refl; fine_among = refl; enters = λ r. refl; below = λ r. refl }
met Shrink = record { exact = refl; meets = refl; meets_among = refl; fine = refl; fine_among = refl; enters = λ r. refl; below = λ r. refl }

clean : (m : Names) (n : Named) (rest : List Text) → turn_fault top m (walk_from nothing_held) (command_name n) ≡ []
    → walked top.rules m (walk_from nothing_held) (command_name n) ≡ stopped n → walk_fault top m (walk_from nothing_held) (command_name n ∷ rest) ≡ []
unfolding walk_fault
clean m n rest none met =
    ap₂ or_else none (ap (λ w. walk_fault top m w rest) met ∙ fails_not top (walk_from nothing_held) m (command_name n, []) rest)

-- the errors of arguments, by the walk over them, its stop and its errors
abbrev failing : App → Walk → Option (Text × List Text) → Kinds → Kinds
failing a w stop first =
    or_else first
    (or_else (entered_fault a stop)
    (or_else (settle_fault top.rules top.args_override_self w.held)
    (or_else (defaults_fault (settled top.rules w.held).rows top.rules)
    (check_fault top (finished top.rules w.held) (is_some (entered a stop))))))

module _ (n : Named) (rest : List Text) where
  -- the walk over the arguments, with any names
  abbrev end : Walk
  end = fold (walked top.rules all_names) (stopped n) rest

  one_walk : walk top.rules (names n) nothing_held (command_name n ∷ rest) ≡ end
  one_walk =
      ap (λ w. fold (walked top.rules (names n)) w rest) (met n).meets
      ∙ walks_on top.rules (walk_from nothing_held) (names n) all_names (command_name n, []) rest

  all_walk : walk top.rules all_names nothing_held (command_name n ∷ rest) ≡ end
  all_walk = ap (λ w. fold (walked top.rules all_names) w rest) (met n).meets_among

  alike : (program : Text) → ReadsAlike (one_app n) btrun_app (program ∷ command_name n ∷ rest)
  alike program =
      let (r, at) = stays top.rules (walk_from nothing_held) all_names (command_name n, []) rest in
      let one = built (one_app n) in
      let all = built btrun_app in
      record {
        exact = (met n).exact;
        kinds =
            ap₂ (λ (w : Walk) first. failing one w w.stopped first) one_walk (clean (names n) n rest (met n).fine (met n).meets)
            ∙ ap (λ stop. failing one end stop []) at
            ∙ ap₂ (λ below found. or_else below (or_else (settle_fault top.rules top.args_override_self end.held)
            (or_else (defaults_fault (settled top.rules end.held).rows top.rules)
            (check_fault top (finished top.rules end.held) (is_some found))))) ((met n).below r) ((met n).enters r)
            ∙ sym (ap (λ stop. failing all end stop []) at)
            ∙ sym (ap₂ (λ (w : Walk) first. failing all w w.stopped first) all_walk (clean all_names n rest (met n).fine_among (met n).meets_among));
        rows =
            ap (λ (w : Walk). entered one w.stopped) one_walk
            ∙ ap (entered one) at ∙ (met n).enters r ∙ sym (ap (entered all) at)
            ∙ sym (ap (λ (w : Walk). entered all w.stopped) all_walk);
      }

-- the program with the command that the second of these names
pub named_second : {X : Type 0} (f : X → Text) (xs : List X) (x : X) (n : Named) → true ≡ nat_lt 1 (length xs) → x ≡ get_or xs 1 x → f x ≡ command_name n
    → ReadsAlike (one_app n) btrun_app (map f xs)
named_second f [] x n some is name = absurd cc
named_second f (a ∷ []) x n some is name = absurd cc
named_second f (a ∷ b ∷ ys) x n some is name =
    subst (λ t. ReadsAlike (one_app n) btrun_app (f a ∷ t ∷ map f ys)) (sym name ∙ ap f is) (alike n (map f ys) (f a))

-- the program with all commands reads as itself
pub itself : (arguments : List Text) → ReadsAlike btrun_app btrun_app arguments
itself arguments = record { exact = refl; kinds = refl; rows = refl }
