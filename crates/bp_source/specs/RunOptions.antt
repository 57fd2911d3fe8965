-- The start of a run by real threads.
use Rattle.std.specs.Prelude.{ℕ}
use Rattle.bp_machine.specs.Setups.{StartOf, default_start}
use Rattle.bp_source.specs.declared.limits.TheConstants.{DEFAULT_RING, DEFAULT_SEED, DEFAULT_TURN}

-- the start of each run, the attempts of a turn, the seed of the choice bits, and the attempts that
-- the ring holds
pub record OptionsOf : Type 0 where
  pub start : StartOf
  pub turn : ℕ
  pub seed : ℕ
  pub ring : ℕ

abbrev pub options_of : StartOf → ℕ → ℕ → ℕ → OptionsOf
options_of start turn seed ring = record { start = start; turn = turn; seed = seed; ring = ring }

-- a run starts from the defaults, a turn is one attempt, and the seed is 42
abbrev pub default_options : OptionsOf
default_options = options_of default_start DEFAULT_TURN DEFAULT_SEED DEFAULT_RING
