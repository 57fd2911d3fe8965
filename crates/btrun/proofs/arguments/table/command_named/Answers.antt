use Rattle.btrun.proofs.Common.{◌≡◌, ℕ, List, true, arith, rules, bytes_eq-Decides, Check, Code, Drive, Confirm, Run, Test, Explore, Replay, Show, Migrate, Shrink}
use Rattle.std.proofs.Common.{bytes_eq}
use Rattle.btrun.proofs.arguments.table.command_named.Goals as goal

same : (a b : List ℕ) → bytes_eq a b ≡ true → a ≡ b
same a b alike = grind (arith, bytes_eq-Decides a b, alike)

pub returns : goal.returns
returns c Check is = c.loop-command.invariant 0 (omega (arith, c.loop-command-test.false)) is
returns c Code is = c.loop-command.invariant 1 (omega (arith, c.loop-command-test.false)) is
returns c Drive is = c.loop-command.invariant 2 (omega (arith, c.loop-command-test.false)) is
returns c Confirm is = c.loop-command.invariant 3 (omega (arith, c.loop-command-test.false)) is
returns c Run is = c.loop-command.invariant 4 (omega (arith, c.loop-command-test.false)) is
returns c Test is = c.loop-command.invariant 5 (omega (arith, c.loop-command-test.false)) is
returns c Explore is = c.loop-command.invariant 6 (omega (arith, c.loop-command-test.false)) is
returns c Replay is = c.loop-command.invariant 7 (omega (arith, c.loop-command-test.false)) is
returns c Show is = c.loop-command.invariant 8 (omega (arith, c.loop-command-test.false)) is
returns c Migrate is = c.loop-command.invariant 9 (omega (arith, c.loop-command-test.false)) is
returns c Shrink is = c.loop-command.invariant 10 (omega (arith, c.loop-command-test.false)) is

pub returns-then-eq : goal.returns-then-eq
returns-then-eq c = search (rules, bytes_eq, same)
