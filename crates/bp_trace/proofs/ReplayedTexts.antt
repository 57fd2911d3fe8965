-- A text whose head and lines of attempts were read is a trace, or is refused.
use Rattle.bp_trace.proofs.Common.{◌≡◌, ◌⊎◌, ℕ, ◌+◌, ◌≤◌, List, [], ◌∷◌, ◌++◌, length, flat_map, drop, None, ap, sym, ◌∙◌, subst, arith, inl, inr, length-append, rules, Program, Call, IsReport, SetupOf, setup_error, MAX_TRACE, ReplayError, Version, IsEndRefusal, setup_of_head, IsHeadOf, Head, HasHead, version_line, entry_line, init_line, head_lines, head_text, calls_text, IsLongestAccepted, IsPlayable, line_count, Reaches, IsRestRefused, HasRefusedRest, IsReplayRefusal, IsBody, IsBodyRefusal, HasRefusedBody, FitsText, IsOpened}
use Rattle.std.proofs.Common.{drop_at}
use Rattle.bp_machine.specs.declared.calls.Report.{Report}
use Rattle.bp_trace.specs.declared.plays.Body.{Body}
use Rattle.bp_trace.specs.declared.errors.ReplayError.TheVariants as error
use Rattle.bp_trace.specs.declared.replays.Opened.{Opened}
use Rattle.bp_trace.proofs.HeadsRead.{limits_text, setup_text, head_joined}
use Rattle.bp_trace.proofs.LongestAccepted.{longest_before_no_line, longest_before_refused}
use Rattle.bp_trace.proofs.HeadsRead.{line_total}

-- ---- each line of a head has a byte

entries_long : (es : List (List ℕ)) → length es ≤ length (flat_map entry_line es)
entries_long [] = omega arith
entries_long (e ∷ es) = omega (arith, entries_long es, length-append (entry_line e) (flat_map entry_line es))

version_long : (v : Version) → length (version_line v) ≡ 9
version_long v = grind (arith)

pub lines_within : (v : Version) (s : SetupOf) → length (head_lines v s) ≤ length (head_text v s)
lines_within v s =
    let whole = ap length (head_joined v s) ∙ length-append (version_line v) (setup_text s) in
    let setup = length-append (flat_map entry_line s.entries) (init_line s.init ++ limits_text s) in
    omega (arith, line_total v s, whole, setup, version_long v, entries_long s.entries)

-- a head that begins the text, with its own numbers
module _ (text : List ℕ) (head : Head) (o : Opened) (at : IsHeadOf text head) (size : o.size ≡ head.size) (lines : o.lines ≡ head.lines) where
  rest_read : drop o.size text ≡ at.rest
  rest_read = search (rules, drop_at)

  pub head_fits : length text ≤ MAX_TRACE → FitsText text o
  head_fits short =
      let whole = ap length at.parts ∙ length-append (head_text head.version (setup_of_head head)) at.rest in
      record {
        short = short;
        within = omega (arith, whole, at.size, size);
        few = omega (arith, whole, at.lines, lines, ap length rest_read, lines_within head.version (setup_of_head head));
      }

  pub head_opened : o.version ≡ head.version → o.setup ≡ setup_of_head head → IsOpened text o
  head_opened given1 given2 = search (rules, rest_read)

module _ (t : Program) (text : List ℕ) (short : length text ≤ MAX_TRACE) (v : Version) (s : SetupOf) (rest : List ℕ)
    (has : HasHead s) (parts : text ≡ head_text v s ++ rest) where
  module _ (fine : setup_error t s ≡ None) (first : ℕ) (first_is : first ≡ length (head_lines v s) + 1) where
    module _ (h : List Call) (after : List ℕ) (playable : IsPlayable t s h) (body : rest ≡ calls_text v h ++ after) where
      reaches : Reaches t text v s h (first + line_count v h) after
      reaches = grind (arith)

      refused_rest : (f : ReplayError) → IsRestRefused t v s h (first + line_count v h) after f → HasRefusedRest t text f
      refused_rest f r = record { version = v; setup = s; history = h; number = first + line_count v h; rest = after; reached = reaches; refused = r }

    -- an attempt is refused
    call_refused : (played : List Call) (f : ReplayError) (r : HasRefusedBody t v s rest first played f) → IsReplayRefusal t text f
    call_refused played (error.AfterFinish m made) r = (short, refused_rest r.history r.rest r.playable r.parts (error.AfterFinish m made) r.refused)
    call_refused played (error.Bit m d) r = (short, refused_rest r.history r.rest r.playable r.parts (error.Bit m d) r.refused)
    call_refused played (error.Reply m d) r = (short, refused_rest r.history r.rest r.playable r.parts (error.Reply m d) r.refused)
    call_refused played f r = absurd r.refused.among.refused

    pub body_refuses : (played : List Call) (f : ReplayError) → IsBodyRefusal t v s rest first played f → IsReplayRefusal t text f
    body_refuses played f (inl memory) = subst (IsReplayRefusal t text) (sym memory) short
    body_refuses played f (inr r) = call_refused played f r

    -- those before it are the longest that are accepted
    pub body_keeps : (played : List Call) (f : ReplayError) → IsBodyRefusal t v s rest first played f
        → (f ≡ error.Memory) ⊎ IsLongestAccepted t text v s played
    body_keeps played f (inl memory) = inl memory
    body_keeps played f (inr r) =
        let whole = parts ∙ ap (λ z. head_text v s ++ z) r.parts in
        let longest = longest_before_refused t text v s has fine r.history r.playable r.rest whole
        (first + line_count v r.history) f r.refused in
        inr (subst (IsLongestAccepted t text v s) (sym r.are) longest)

    module _ {O : Type 0} (b : Body O) (body : IsBody v s rest first b)
        (playable : IsPlayable t s b.played.history.items) (r : Report)
        (report : IsReport s b.played.history.items r) where
      abbrev h : List Call
      h = b.played.history.items

      abbrev after : List ℕ
      after = drop b.size rest

      -- the text after the attempts is refused
      pub end_refuses : (f : ReplayError) → IsEndRefusal after r.calls r.left_live b.line f → IsReplayRefusal t text f
      end_refuses f given1 = grind (arith)

      -- all attempts of the lines are the longest that are accepted
      pub end_keeps : IsLongestAccepted t text v s h
      end_keeps =
          longest_before_no_line t text v s has fine h playable after
          (parts ∙ ap (λ z. head_text v s ++ z) body.parts) body.ends
