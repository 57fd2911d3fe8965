-- The answer of the command `show`, from a view of a trace.
use Rattle.bp_commands.proofs.Common.{◌++◌, ℕ, List, Option, refl, sym, inl, inr, subst, Some, arith, Keeps, Keeps-refl, AppendsAll, AppendsPart, all_then, part_first, part_then, Program, Report, IsReport, IsAcceptedTrace, IsWellFormedText, IsViewed, IsViewOfTrace, IsViewRefusal, error_of_view, error_of_trace, Error, Write, IsDoneWith, IsRefusedWith, Pair, Command, IsOfTrace, IsTraceReport, shows, IsViewText, last_line, on_valid_calls, refusal_text, IsPart, IsShownWithLine, OfPart, Refusal}
use Rattle.bp_trace.specs.declared.replays.AcceptedTrace.{AcceptedTrace}
use Rattle.bp_source.specs.declared.options.ViewOptions.{ViewOptions}
use Rattle.bp_source.specs.declared.options.ViewFormat.{ViewFormat}
use Rattle.bp_view.specs.declared.errors.ViewError.{ViewError}
use Rattle.bp_view.specs.declared.errors.ViewError.TheVariants as view

module _ (o : ViewOptions) (file : List ℕ) (given : Pair) (t : Program) (of : IsWellFormedText given.text t) where
  -- a view of a trace is the text and the report of the command
  module _ (written : List ℕ) (r : Report) (is : IsViewOfTrace t given.text given.input o file written r) where
    reported_of : IsReport is.replayed.setup is.replayed.history.items r
    reported_of = subst (IsReport is.replayed.setup is.replayed.history.items) (sym is.report_is) is.is.report

    shown : IsOfTrace (IsViewText o file) given written
    shown = record {
      program = t;
      setup = is.replayed.setup;
      history = is.replayed.history.items;
      legal = record { of = of; version = is.is.version; is = is.is.trace };
      is = record { report = r; reported = reported_of; there = is.there; declared = is.declared; is = is.view_is };
    }

    reported : IsTraceReport (IsViewText o file) given written r
    unfolding shown
    reported = record { trace = shown; reported = reported_of }

  module _ (old new : Option (List ℕ)) where
    pub viewed : (r : Report) → IsViewed t given.text given.input o file old new r → IsDoneWith (shows o file) old new given r
    viewed r done = record { text = done.text; reports = reported done.text r done.is; written = done.written }

    pub not_viewed : (f : ViewError) → IsViewRefusal t given.text given.input o file old new f → IsRefusedWith (shows o file) old new given (error_of_view f)
    not_viewed (view.Replay f) found = inl (
      subst (Keeps old) (sym found.0) (Keeps-refl old),
      inr (inl (record { program = t; well_formed = of; cause = f; why = found.1; is = refl })),
    )
    not_viewed (view.NoThread i) found = grind (arith)
    not_viewed (view.NoVariable n) found = grind (arith)
    not_viewed view.Memory found = inr (inr (record {
      text = found.begun;
      spoils = record { rest = found.rest; whole = shown (found.begun ++ found.rest) found.is.0 found.is.1; is = refl };
      written = found.written;
    }))
    not_viewed view.Write found = grind (arith)

-- The answer of a command on the accepted attempts of a trace, from the command on a part of it.

module _ (format : ViewFormat) (command : Command Pair Report) (given : Pair) where
  abbrev whole : Command Pair Report
  whole = on_valid_calls format command

  module _ (part : Pair) (refusal : Refusal) (is : IsPart given part refusal) where
    of_part : (Holds : Pair → Refusal → Type 0) → Holds part refusal → OfPart given Holds
    of_part Holds holds = record { part = part; refusal = refusal; is = is; holds = holds }

    -- a refusal of the command on the part is one of the whole
    refused_part : (old new : Option (List ℕ)) (f : Error) → IsRefusedWith command old new part f → IsRefusedWith whole old new given f
    refused_part old new f (inl (keeps, why)) = inl (keeps, inr (inr (of_part _ why)))
    refused_part old new f (inr (inl (write, cut))) = inr (inl (
      write,
      record {
        text = cut.text ++ last_line format refusal;
        writes = of_part (IsShownWithLine format command (cut.text ++ last_line format refusal)) (cut.text, inl cut.writes, refl);
        written = part_first old new cut.text (last_line format refusal) cut.written;
      },
    ))
    refused_part old new f (inr (inr spoilt)) = grind (arith)

  -- the trace is refused after some attempts
  module _ (p : Program) (well_formed : IsWellFormedText given.text p) (x : AcceptedTrace) (accepted : IsAcceptedTrace p given.input x) where
    abbrev before : Pair
    before = record { text = given.text; input = x.trace.items }

    abbrev refusal : Refusal
    refusal = Some (x.calls, error_of_trace x.error)

    is_before : IsPart given before refusal
    is_before = record {
      program = p;
      well_formed = well_formed;
      accepted = x;
      is = accepted;
      part_is = refl;
      calls_are = refl;
      refused = refl;
    }

    -- the command refuses the trace of these attempts, or is cut short
    pub part_refused : (old new : Option (List ℕ)) (f : Error) → IsRefusedWith command old new before f → IsRefusedWith whole old new given f
    part_refused old new f is = refused_part before refusal is_before old new f is

    -- the attempts were shown, but not the last line
    pub line_cut : (old mid new : Option (List ℕ)) (r : Report) → IsDoneWith command old mid before r → AppendsPart mid new (refusal_text format x.calls)
        → IsRefusedWith whole old new given Write
    line_cut old mid new r done part = inr (inl (
      refl,
      record {
        text = done.text ++ refusal_text format x.calls;
        writes = of_part before refusal is_before (IsShownWithLine format command (done.text ++ refusal_text format x.calls)) (done.text, inr (r, done.reports), refl);
        written = part_then old mid new done.text (refusal_text format x.calls) done.written part;
      },
    ))

    -- the attempts were shown, and the last line
    pub line_shown : (old mid new : Option (List ℕ)) (r : Report) → IsDoneWith command old mid before r → AppendsAll mid new (refusal_text format x.calls)
        → IsRefusedWith whole old new given (error_of_trace x.error)
    line_shown old mid new r done all = inr (inr (record {
      text = done.text ++ refusal_text format x.calls;
      spoils = of_part before refusal is_before _ (inr ((done.text, inr (r, done.reports), refl), refl));
      written = all_then old mid new done.text (refusal_text format x.calls) done.written all;
    }))
