-- Laws of facts.
use Rattle.std.specs.Prelude.{if◌then◌else◌, ◌≡◌, ◌≢◌, ◌==◌, nat_lt, ℕ, Bool, List, [], ◌∷◌, ◌++◌, Option, None, Some, flat_map, length, map}
use Rattle.bp_syntax.specs.Ast.{Procedure, Program}
use Rattle.bp_syntax.specs.Errors.{HasDistinctNames}
use Rattle.bp_flat.specs.Moves.{Frame, Configuration, Valuation, binding, update}
use Rattle.bp_machine.specs.Histories.{stack_of, configuration_after}
use Rattle.bp_machine.specs.declared.calls.Call.{Call}
use Rattle.bp_machine.specs.Setups.{SetupOf}
use Rattle.bp_view.specs.CallFacts.{Entry, changes_by}

-- The values after an attempt, from its changes and the values before it.

-- the globals with a change; one of a local leaves them
abbrev pub global_with : Option Procedure → Valuation → List ℕ → Bool → Valuation
global_with None g x b = update g x b
global_with (Some p) g x b = g

abbrev pub globals_with : Valuation → List Entry → Valuation
globals_with g [] = g
globals_with g (e ∷ es) = globals_with (global_with e.owner g e.name e.value) es

-- the locals with a change; one of a global leaves them
abbrev pub local_with : Option Procedure → Valuation → List ℕ → Bool → Valuation
local_with None l x b = l
local_with (Some p) l x b = update l x b

abbrev pub locals_with : Valuation → List Entry → Valuation
locals_with l [] = l
locals_with l (e ∷ es) = locals_with (local_with e.owner l e.name e.value) es

-- the locals that changes name, with their values
abbrev pub local_in : Option Procedure → List ℕ → Bool → Valuation
local_in None x b = []
local_in (Some p) x b = (x, b) ∷ []

abbrev pub locals_in : List Entry → Valuation
locals_in es = flat_map (λ e. local_in e.owner e.name e.value) es

-- the procedures of a stack's frames, with their locals
abbrev pub variables_of : List Frame → List (Procedure × Valuation)
variables_of fs = map (λ f. (f.procedure, f.locals)) fs

-- The frames of a stack after an attempt with these changes, if it then has depth n, with a frame
-- of p at its top. A frame that the attempt entered has the formals that the changes name, and 0
-- for each declared local. A top frame that stays has the changes. A frame that was left is gone.
-- Those below have their values.
abbrev pub variables_with
    : List (Procedure × Valuation) → (n : ℕ) → Procedure → List Entry
    → List (Procedure × Valuation)
variables_with [] n p es = []
variables_with (f ∷ fs) n p es =
    if nat_lt (length (f ∷ fs)) n then (p, locals_in es ++ binding p.locals []) ∷ f ∷ fs
    else if length (f ∷ fs) == n then (f.0, locals_with f.1 es) ∷ fs
    else fs

abbrev pub AreVariablesWith : (before after : List Frame) → List Entry → Type 0
AreVariablesWith [] after es = after ≡ []
AreVariablesWith (f ∷ fs) [] es = fs ≡ []
AreVariablesWith (f ∷ fs) (g ∷ gs) es =
    let before = variables_of (f ∷ fs) in
    variables_of (g ∷ gs) ≡ variables_with before (length (g ∷ gs)) g.procedure es

-- these changes of an attempt of thread i lead from the values of one configuration to those of the
-- other
pub record AreReplayed (c d : Configuration) (i : ℕ) (es : List Entry) : Type 0 where
  pub globals : d.globals ≡ globals_with c.globals es
  pub own : AreVariablesWith (stack_of c i) (stack_of d i) es
  pub others : (j : ℕ) → j ≢ i → stack_of d j ≡ stack_of c j

-- The changes of an attempt lead from the values before it to those after it, in a program in which
-- no two names of a kind have the same text.
abbrev pub ChangesReplay : Type 0
ChangesReplay =
    (t : Program) (s : SetupOf) (h : List Call) (x : Call)
    → HasDistinctNames t
    → let before = configuration_after t s h in
    let after = configuration_after t s (h ++ x ∷ []) in
    AreReplayed before after x.thread (changes_by t s h x)
