-- The context of a replayed trace is one in which a view can be made, and its view is one of the
-- trace.
use Rattle.bp_view.proofs.Common.{◌≡◌, ℕ, List, Option, refl, subst, sym, suc, None, length, arith, rules, IsWritten, Adds, IsInParts, begun_as, cut_as, written_as, Program, Flat, StandsFor, Call, SetupOf, threads, SourceStatement, AreSourceStatements, texts_are, shown_texts, ViewOptions, watched_names, AreDeclared, IsUndeclared, Memory, NoThread, NoVariable, Replay, Write, Span, AreSpans, contexts_head, AreContextLines, IsContextLine, ViewContext, IsViewContextOf, IsShownTrace, IsMissing, IsStopped, IsThere, IsView, IsViewOfTrace, IsViewRefusal, IsViewable, IsViewed, extent_of, AreWidths, under_headings, IsPlayable, outcome_of}
use Rattle.bp_flat.specs.StandsFor.{IsOfProgram}
use Rattle.bp_machine.proofs.SetupInRange.{stands_for_own}
use Rattle.bp_trace.specs.declared.replays.Replayed.{Replayed}
use Rattle.bp_view.specs.declared.errors.ViewError.{ViewError}
use Rattle.bp_view.specs.declared.view_contexts.ShownTrace.{ShownTrace}
use Rattle.bp_view.proofs.BegunViews.{places_are}

-- a code by another name, whose program is t, stands for t
pub stands_at : {c d : Flat} {t : Program} → d ≡ c → IsOfProgram d → c.tree ≡ t → StandsFor c t
stands_at {c} e of same = subst (StandsFor c) same (stands_for_own e of)

module _ {t : Program} {text trace : List ℕ} {shown : ShownTrace} (is : IsShownTrace t text trace shown) where
  abbrev r : Replayed
  r = shown.replayed

  played : {h : List Call} → h ≡ r.history.items → IsPlayable t r.setup h × (r.report.outcome ≡ outcome_of h)
  played given1 = grind (arith)

  pub viewable : {c : Flat} {x : ViewContext} {statements : List SourceStatement} → StandsFor c t → statements ≡ shown.statements.items
      → (AreSourceStatements text t statements → IsViewContextOf t text x)
      → AreWidths r.setup (extent_of x) x.widths → x.history.now ≡ r.history.items
      → IsViewable c t text r.setup r.report (record x { widths = under_headings x.widths })
  viewable {x = x} code same known widths history =
      let context = known (subst (AreSourceStatements text t) (sym same) is.statements) in
      record {
        code = code;
        known = record { program = context.program; filter = context.filter; names = context.names };
        widths = record { plain = x.widths; are = widths; is = refl };
        playable = (played history).0;
        outcome = (played history).1;
      }

  module _ (o : ViewOptions) (file : List ℕ) (a : Option (List ℕ)) where
    pub missing : (f : ViewError) → IsMissing o.thread (threads r.setup) f → IsViewRefusal t text trace o file a a f
    missing f (i, asked, past, same) =
        subst (IsViewRefusal t text trace o file a a) (sym same) (refl, record { replayed = r; is = is.is; asked = asked; past = past })

    pub unnamed : IsThere o.thread (threads r.setup) → (n : ℕ) → IsUndeclared t (watched_names o.watch) n → IsViewRefusal t text trace o file a a (NoVariable n)
    unnamed there n undeclared = (refl, record { replayed = r; is = is.is; there = there; undeclared = undeclared })

  -- the history of a view is that of the trace
  module _
      {o : ViewOptions} {file : List ℕ} (there : IsThere o.thread (threads r.setup)) (declared : AreDeclared t (watched_names o.watch))
      {s : SetupOf} {h : List Call} {p : ViewOptions} (setup : s ≡ r.setup) (history : h ≡ r.history.items) (same : p ≡ o)
      {named : List ℕ} (name : named ≡ file) where
    of_trace : (view : List ℕ) → IsView t text s h r.report p named view → IsViewOfTrace t text trace o file view r.report
    of_trace view view_is = record {
      replayed = r;
      is = is.is;
      view_is = rw (setup, history, same, name) at view_is;
      report_is = refl;
      there = there;
      declared = declared;
    }

    pub viewed : {a b : Option (List ℕ)} → IsWritten (IsView t text s h r.report p named) a b → IsViewed t text trace o file a b r.report
    viewed done = written_as of_trace done

    pub stopped : (a b : Option (List ℕ)) (f : ViewError) → IsStopped (IsView t text s h r.report p named) a b f → IsViewRefusal t text trace o file a b f
    stopped a b (Replay f) why = absurd why
    stopped a b (NoThread i) why = absurd why
    stopped a b (NoVariable n) why = absurd why
    stopped a b Memory why = begun_as (λ view is. (r.report, of_trace view is)) why
    stopped a b Write why = cut_as (λ view is. (r.report, of_trace view is)) why

-- The lines of all spans of a history are those of its contexts.

module _ (t : Program) (text : List ℕ) (s : SetupOf) (h : List Call) (context : ViewContext) where
  abbrev Lines : ℕ → List ℕ → Type 0
  Lines n said = IsInParts (λ k part. IsContextLine context.options.format t text s h context.widths (suc k) part) n said

  pub all_contexts : IsViewContextOf t text context → AreWidths s (extent_of context) context.widths → context.options.columns ≡ None
      → length context.history.now ≡ length h
      → (spans : List Span) → AreSpans t s h spans → (said : List ℕ)
      → Adds (Lines (length spans)) (contexts_head context.options.format (length context.history.now) (length spans)) said
      → AreContextLines context.options.format t text s h said
  all_contexts given1 given2 given3 given4 spans given5 said given6 = search (rules, shown_texts, texts_are, places_are)
