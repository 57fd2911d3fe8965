-- The setup of a program under the options of a run, and when they are refused.
use Rattle.std.specs.Prelude.{◌≡◌, ◌<◌, ◌≤◌, ◌==◌, Bool, true, ◌||◌, nat_lt, [], ◌∷◌, Option, None, Some, is_some}
use Rattle.bp_syntax.specs.Ast.{Program}
use Rattle.bp_flat.specs.Flat.{Flat}
use Rattle.bp_machine.specs.declared.setup_errors.SetupError.{SetupError}
use Rattle.bp_machine.specs.declared.setup_errors.SetupError.TheVariants.{OutOfRange, Memory}
use Rattle.bp_machine.specs.Setups.{SetupOf, setup_error, error_if, first_of, Fits, setup_from}
use Rattle.bp_source.specs.RunOptions.{OptionsOf}
use Rattle.bp_run.specs.declared.limits.TheConstants.{MAX_TURN, MAX_RING}

-- the setup of a program under the options, with their seed
abbrev pub setup_under : OptionsOf → Program → SetupOf
setup_under o t = setup_from o.start (Some o.seed) t

-- a turn has no attempt or too many, or the ring has no room or too much
abbrev pub has_bad_turn_or_ring : OptionsOf → Bool
has_bad_turn_or_ring o =
    (o.turn == 0 || nat_lt MAX_TURN o.turn) || (o.ring == 0 || nat_lt MAX_RING o.ring)

-- the first error of the options for a program: those of the setup come first
abbrev pub options_error : OptionsOf → Program → Option SetupError
options_error o t = first_of (
    setup_error t (setup_under o t)
    ∷ error_if (has_bad_turn_or_ring o) OutOfRange
    ∷ [])

-- why the options are refused for a program: their first error, or memory if they have none
abbrev pub IsOptionsRefusal : OptionsOf → Program → SetupError → Type 0
IsOptionsRefusal o t Memory = options_error o t ≡ None
IsOptionsRefusal o t f = options_error o t ≡ Some f

-- the setup of a program under the options, which have no error
pub record IsSetupUnder (o : OptionsOf) (t : Program) (s : SetupOf) : Type 0 where
  pub is : s ≡ setup_under o t
  pub fine : options_error o t ≡ None

-- the setup fits the code and has a seed, and the turn and the ring of the options are in range
pub record FitsOptions (o : OptionsOf) (c : Flat) (s : SetupOf) : Type 0 where
  pub fits : Fits c.tree s
  pub has_seed : is_some s.seed ≡ true
  pub turn_some : 0 < o.turn
  pub turn_few : o.turn ≤ MAX_TURN
  pub ring_some : 0 < o.ring
  pub ring_within : o.ring ≤ MAX_RING
