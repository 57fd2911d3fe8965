use Rattle.bp_commands.proofs.Common.{◌≡◌, ◌≢◌, ◌∙◌, [], ◌∷◌, inl, inr, List, None, refl, subst, err_from_is_err_and, Program, IsSetupRefusal, StartOf, setup_from, NamedBitOf, start_by_names, start_asked}
use Rattle.bp_commands.proofs.programs.open.Goals as goal

-- if globals are named, the start is that with their bits
asked : (start : StartOf) (named : List NamedBitOf) (t : Program) → named ≢ [] → start_by_names start named t ≡ start_asked start named t
asked start [] t some = absurd (some refl)
asked start (n ∷ ns) t some = refl

pub returns-in_err-setup-2-clause-answer : goal.returns-in_err-setup-2-clause-answer
returns-in_err-setup-2-clause-answer c =
    let p = err_from_is_err_and c.from_residual-in_err-setup-2.result c.from_residual-in_err-setup-2.ensures.1 in
    let t = c.in_ok-code.code.tree in
    let f = c.in_err-setup-2.field-0.0 in
    let start = (rw c.checked-checked.ensures at c.in_ok-start.ensures) ∙ asked c.args.start.now c.args.named.now t (λ none. let empty = c.if-is_empty.ensures.1 none in cc) in
    let why = subst (λ s. IsSetupRefusal t (setup_from s None t) f) start c.in_err-setup-2.ensures.answer in
    rw (p.1, p.2) (inr (inr (inl (record {
      program = t;
      of = record { well_formed = c.in_ok-code.ensures; known = rw c.checked-checked.ensures at c.in_default.ensures };
      cause = f;
      why = why;
      is = refl;
    }))))
