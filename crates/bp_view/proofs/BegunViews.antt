-- The text written of a view, attempt by attempt, is the beginning of a whole one.
use Rattle.bp_view.proofs.Common.{◌≡◌, ◌∙◌, ◌<◌, ◌≤◌, ◌++◌, ◌-◌, ℕ, zero, suc, Bool, true, false, cond, List, [], ◌∷◌, codes, take, length, length-append, length-take, get_or, map, max, min, ap, refl, arith, slice_get, Some, ◌+◌, Option, drop, add-one, sym, subst, drop-cons, take-append-drop, ◌&&◌, ◌⊎◌, inl, inr, None, nat_le, unwrap_or, append-nil, add-zero, Bor, nat_lt, option_map, rules, nat_tests, take_all, take_more, length-take-le, slice_get-get_or, Adds, AppendsAll, AppendsPart, IsBegun, IsCutShort, IsWritten, append_assoc, part_of_each, both_added, IsInParts, Buffer, Gains, IsSent, Procedure, Program, Name, Place, StandsFor, places_of, Flat, binding, Call, Report, configuration_after, IsLegal, outcome_of, SetupOf, Stands, IsPlayable, front, SourceStatement, place_text, AreSourceStatementsAt, AreSourceStatements, shown_texts, texts_are, ViewFormat, ViewOptions, Columns, printed_by, calls_of, before_last, is_asked, is_between, is_late, is_of_thread, skipped, CallFilter, shortened, longest, variables_text, Widths, filter_of, footer_text, IsFooter, has_line, line_in, IsShownLine, IsViewLine, IsViewLineIf, after_footer, IsEnd, IsStateIf, IsViewContextOf, HasMade, HaveMembers, IsView, IsViewable, state_text, IsStateText, ViewContext, view_head, globals_line, thread_line, thread_lines}
use Rattle.std.proofs.KnownBytes.{Appends-nil, Appends-trans}
use Rattle.std.specs.Io.KnownBytes.{Appends}
use Rattle.bp_text.proofs.Givings.{AppendsPart_within, part_then}
use Rattle.bp_text.proofs.PartsOfTexts.{no_parts, parts_go_on, parts_then, regrouped}
use Rattle.std.specs.Option.{option_copied}
use Rattle.bp_flat.proofs.ProceduresOfPlaces.{starts}
use Rattle.bp_view.proofs.WholeFacts as facts
use Rattle.bp_view.specs.declared.writers.ViewWriter.{ViewWriter}

-- The longest place of the source statements of a program.

abbrev pub place_items : List SourceStatement → List (List ℕ)
place_items statements = map (λ s. s.place.items) statements

pub longest_more : (n : ℕ) (statements : List SourceStatement) (x : SourceStatement) → n < length statements
    → longest (place_items (take (suc n) statements)) ≡ max (longest (place_items (take n statements))) (length (get_or statements n x).place.items)
longest_more n [] x h = absurd (omega arith)
longest_more zero (y ∷ statements) x h = omega arith
longest_more (suc n) (y ∷ statements) x h =
    let within : n < length statements = omega arith in
    let here = longest_more n statements x within in
    omega (arith, here)

-- a statement has at most `room` bytes in its column
pub shortened_length : (room : ℕ) (statement : List ℕ) → 2 ≤ room → length (shortened room statement) ≡ min (length statement) room
shortened_length room statement least = by_size (nat_lt room (length statement)) refl
  where
    by_size : (b : Bool) → nat_lt room (length statement) ≡ b → length (cond b (take (room - 2) statement ++ codes "..") statement)
        ≡ min (length statement) room
    by_size true long =
        let more : room < length statement = grind (arith, nat_tests, long) in
        let size = length-append (take (room - 2) statement) (codes "..") in
        let front : length (take (room - 2) statement) ≡ room - 2 = simp length-take (omega (arith, more)) in
        omega (arith, more, size, front, least)
    by_size false short = let most : length statement ≤ room = grind (arith, nat_tests, short) in omega (arith, most)

pub longest_statement_more : (room n : ℕ) (statements : List SourceStatement) (x : SourceStatement) → n < length statements
    → longest (map (shortened room) (shown_texts (take (suc n) statements)))
    ≡ max (longest (map (shortened room) (shown_texts (take n statements)))) (length (shortened room (get_or statements n x).excerpt.text.items))
longest_statement_more room n [] x h = absurd (omega arith)
longest_statement_more room zero (y ∷ statements) x h = omega arith
longest_statement_more room (suc n) (y ∷ statements) x h =
    let within : n < length statements = omega arith in
    let here = longest_statement_more room n statements x within in
    omega (arith, here)

-- the places of the source statements are those of the statements
pub places_are : (text : List ℕ) (ps : List Procedure) (xs : List Place) (statements : List SourceStatement) → AreSourceStatementsAt text ps xs statements
    → place_items statements ≡ map (place_text text) (starts xs)
places_are text ps [] [] are = refl
places_are text ps [] (x ∷ statements) are = elim are [ ]
places_are text ps (s ∷ xs) [] are = elim are [ ]
places_are text ps (s ∷ xs) (x ∷ statements) are = search (rules, (places_are text ps xs statements are.1))

-- Each history of a program has a view, and the text written of one can be extended to a whole one.

module _ (c : Flat) (t : Program) (code : StandsFor c t) (text : List ℕ) (statements : List SourceStatement)
    (are : AreSourceStatements text t statements) (s : SetupOf) where
  module _ (o : ViewOptions) (w : Widths) (whole : List Call) where
    view_line : (h : List Call) (x : Call) → (line : List ℕ) × IsViewLine t text s o w whole h x line
    view_line h x =
        let (f, f_are) = facts.some_call c t code text statements are s h x in
        let printed = printed_by (configuration_after t s h) x in
        (line_in o.format o.has_colour w f (calls_of (filter_of o) whole h x) printed, record { facts = f; facts_are = f_are; is = refl })

    shown_line : (h : List Call) (x : Call) → (line : List ℕ) × IsShownLine t text s o w whole h x line
    shown_line h x = by_shown (has_line t text s o w whole h x)
      where
        by_shown : (b : Bool) → (line : List ℕ) × IsViewLineIf t text s o w whole b h x line
        by_shown true = view_line h x
        by_shown false = ([], refl)

    -- each attempt of the history has a line
    pub each_line : (k : ℕ) → k < length whole
        → (line : List ℕ) × ((x : Call) → slice_get whole k ≡ Some x → IsShownLine t text s o w whole (take k whole) x line)
    each_line = part_of_each (λ k x line. IsShownLine t text s o w whole (take k whole) x line) whole (λ k x at. shown_line (take k whole) x)

  pub some_footer : (h : List Call) (format : ViewFormat) (file : List ℕ) → IsLegal t s h → (r : Report) → r.outcome ≡ outcome_of h
      → (footer : List ℕ) × IsFooter format file t text s h r footer
  some_footer h format file legal r is =
      let (x, x_are) = facts.some_footer c t code text statements are s h legal r is in
      (footer_text format file x, record { facts = x; facts_are = x_are; is = refl })

-- Each history has an end of a view, since its state and its footer have facts.

module _ (c : Flat) (t : Program) (code : StandsFor c t) (text : List ℕ) (statements : List SourceStatement)
    (are : AreSourceStatements text t statements) (s : SetupOf) where
  module _ (h : List Call) where
    some_state : (format : ViewFormat) → (said : List ℕ) × IsStateText format t text s h (length h) said
    some_state format =
        let (x, x_are) = facts.some_state c t code text statements are s h in
        (state_text format x, record { facts = x; facts_are = x_are; is = refl })

    state_if : (format : ViewFormat) (asked : Bool) → (said : List ℕ) × IsStateIf format t text s h asked said
    state_if format true = let (state, state_is) = some_state format in (after_footer format state, (state, refl, state_is))
    state_if format false = ([], refl)

  pub some_end : (o : ViewOptions) (file : List ℕ) (h : List Call) → IsLegal t s h → (r : Report) → r.outcome ≡ outcome_of h → (end : List ℕ) × IsEnd o file t text s h r end
  some_end o file h legal r is =
      let (footer, footer_is) = some_footer c t code text statements are s h o.format file legal r is in
      let (state, state_is) = state_if h o.format o.has_state in
      (footer ++ state, record { footer = footer; footer_is = footer_is; state = state; state_is = state_is; is = refl })

module _ (t : Program) (text : List ℕ) (s : SetupOf) (x : ViewContext) where
  abbrev pub head : List ℕ
  head = view_head x.options x.program.globals.now s x.widths

  abbrev pub IsLine : ℕ → List ℕ → Type 0
  IsLine k line =
      (call : Call) → slice_get x.history.now k ≡ Some call → IsShownLine t text s x.options x.widths x.history.now (take k x.history.now) call line

  -- this is the head and the lines of the first i attempts
  pub record HasLines (i : ℕ) (said : List ℕ) : Type 0 where
    pub lines : List ℕ
    pub are : IsInParts IsLine i lines
    pub is : said ≡ head ++ lines

  -- the writer has made the first i attempts, and the head and the lines of these were written, but
  -- for the text that it has
  pub record HasWritten (i : ℕ) (w : ViewWriter) (a b : Option (List ℕ)) : Type 0 where
    pub made : HasMade t (take i x.history.now) w
    pub setup : w.session.setup ≡ s
    pub context : w.context ≡ x
    pub few : i ≤ length x.history.now
    pub members : HaveMembers x.options.format x.program w.statements.items
    pub begun : List ℕ
    pub grown : Appends a b begun
    pub lines : HasLines i (begun ++ w.text.bytes.items)

  line_more : {i : ℕ} {said : List ℕ} → HasLines i said → (line : List ℕ) → IsLine i line → HasLines (suc i) (said ++ line)
  line_more has line is = record {
    lines = has.lines ++ line;
    are = parts_then has.are line is;
    is = ap (λ z. z ++ line) has.is ∙ append_assoc head has.lines line;
  }

module _ {c : Flat} {t : Program} {text : List ℕ} {s : SetupOf} {r : Report} {x : ViewContext} (can : IsViewable c t text s r x) where
  abbrev h : List Call
  h = x.history.now

  abbrev IsWhole : List ℕ → Type 0
  IsWhole = IsView t text s h r x.options x.file.now

  -- the head, all lines and an end are a view
  whole : (lines end : List ℕ) → IsInParts (IsLine t text s x) (length h) lines → IsEnd x.options x.file.now t text s h r end
      → IsWhole (head t text s x ++ lines ++ end)
  whole lines end lines_are end_is = record {
    widths = x.widths;
    statements = shown_texts x.program.statements.now;
    statements_are = texts_are text t.procedures (places_of t.procedures) x.program.statements.now can.known.program.statements;
    widths_are =
        let places = places_are text t.procedures (places_of t.procedures) x.program.statements.now can.known.program.statements in
        rw (places, can.known.program.procedures) at can.widths;
    lines = lines;
    end = end;
    is = ap (λ g. view_head x.options g s x.widths ++ lines ++ end) can.known.program.globals;
    end_is = end_is;
    lines_are = lines_are;
  }

  module _ {i : ℕ} {said : List ℕ} (has : HasLines t text s x i said) where
    -- the first lines can be extended to a view
    goes_on : i ≤ length h → (rest : List ℕ) × IsWhole (said ++ rest)
    goes_on few =
        let each = each_line c t can.code text x.program.statements.now can.known.program.statements s x.options x.widths h in
        let (more, all) = parts_go_on (length h) each (length h - i) i (omega (arith, few)) has.lines has.are in
        let (end, end_is) = some_end c t can.code text x.program.statements.now can.known.program.statements s x.options x.file.now h can.playable.legal r can.outcome in
        (more ++ end, rw has.is (simp regrouped (simp regrouped at (whole (has.lines ++ more) end all end_is))))

    ended : i ≡ length h → {end : List ℕ} → IsEnd x.options x.file.now t text s h r end → IsWhole (said ++ end)
    ended all {end = end} end_is =
        let lines_are = subst (λ k. IsInParts (IsLine t text s x) k has.lines) all has.are in
        rw has.is (simp regrouped (simp regrouped at (whole has.lines end lines_are end_is)))

  -- nothing was written
  pub none_begun : {a : Option (List ℕ)} → IsBegun IsWhole a a
  none_begun {a = a} =
      let none : HasLines t text s x 0 (head t text s x) = record { lines = []; are = no_parts; is = sym (append-nil (head t text s x)) } in
      let (rest, is) = goes_on none (omega arith) in
      record { begun = []; rest = head t text s x ++ rest; is = is; written = record { grown = Appends-nil a } }

  -- of the head and the lines of the first i attempts, a beginning was written, and not this rest
  module _ {i : ℕ} (begun left : List ℕ) (a b : Option (List ℕ)) (grown : Appends a b begun) (has : HasLines t text s x i (begun ++ left)) where
    module _ (few : i ≤ length h) where
      rest : (more : List ℕ) × IsWhole (begun ++ (left ++ more))
      rest = let (more, is) = goes_on has few in (more, subst IsWhole (append_assoc begun left more) is)

      pub begun_so_far : IsBegun IsWhole a b
      begun_so_far = record { begun = begun; rest = left ++ rest.0; is = rest.1; written = record { grown = grown } }

      pub rest_cut : (e : Option (List ℕ)) → AppendsPart b e left → IsCutShort IsWhole a e
      rest_cut e part = record {
        text = begun ++ (left ++ rest.0);
        is = rest.1;
        written = AppendsPart_within a b e begun left rest.0 grown part;
      }

    -- and the end of the view was added
    module _ (all : i ≡ length h) (given : List ℕ) (end : Adds (IsEnd x.options x.file.now t text s h r) left given) where
      is_whole : IsWhole (begun ++ given)
      is_whole = subst IsWhole (append_assoc begun left end.more ∙ ap (λ y. begun ++ y) (sym end.is)) (ended has all end.more_are)

      pub whole_written : (e : Option (List ℕ)) → AppendsAll b e given → IsWritten IsWhole a e
      whole_written e done =
          record { text = begun ++ given; is = is_whole; written = record { grown = Appends-trans a b e begun given grown done.grown } }

      pub whole_cut : (e : Option (List ℕ)) → AppendsPart b e given → IsCutShort IsWhole a e
      whole_cut e part =
          record { text = begun ++ given; is = is_whole; written = part_then a b e begun given (record { grown = grown }) part }

  module _ {i : ℕ} {w : ViewWriter} {a b : Option (List ℕ)} (has : HasWritten t text s x i w a b) where
    known_there : IsViewContextOf t text w.context
    known_there = subst (IsViewContextOf t text) (sym has.context) can.known

    -- all attempts were made: the end that follows is one of the view
    pub end_there : (u v : Buffer) → length h ≤ i
        → ((text : List ℕ) (g : List Call) → let t = w.session.code.tree in IsViewContextOf t text w.context → Stands t w.session g
        → w.context.history.now ≡ g → r.outcome ≡ outcome_of g → Gains (IsEnd w.context.options w.context.file.now t text w.session.setup g r) u v)
        → Gains (IsEnd x.options x.file.now t text s h r) u v
    end_there u v past end =
        let made = subst (λ g. HasMade t g w) (take_all i h past) has.made in
        rw (made.program, has.context, has.setup) at (end text h (rw (sym made.program) at known_there) (rw (sym made.program) at made.stands) (ap (λ (y : ViewContext). y.history.now) has.context) can.outcome)

    -- one line more was made
    pub lines_then : (given : List ℕ) → Adds (IsLine t text s x i) w.text.bytes.items given → HasLines t text s x (suc i) (has.begun ++ given)
    lines_then given line =
        let same = append_assoc has.begun w.text.bytes.items line.more ∙ ap (λ y. has.begun ++ y) (sym line.is) in
        subst (HasLines t text s x (suc i)) same (line_more t text s x has.lines line.more line.more_are)

    module _ (d : Call) (within : i < length h) where
      abbrev next : List Call
      next = take i h ++ get_or h i d ∷ []

      -- the attempts up to the next one may be played
      pub playable_next : IsPlayable t w.session.setup next
      playable_next =
          let all = both_added (take i h) _ _ (get_or h i d ∷ []) (drop (suc i) h) _ refl refl (sym (drop-cons h i d within)) ∙ take-append-drop i h in
          subst (λ y. IsPlayable t y next) (sym has.setup) (front t s next (drop (suc i) h) (subst (IsPlayable t s) (sym all) can.playable))

      -- the line that is made of it is one of the view
      pub line_there : {before after : List ℕ}
          → ((t : Program) (text : List ℕ) (g : List Call) → HasMade t g w
          → IsPlayable t w.session.setup (g ++ get_or h i d ∷ []) → IsViewContextOf t text w.context → HaveMembers w.context.options.format w.context.program w.statements.items
          → Adds (IsShownLine t text w.session.setup w.context.options w.context.widths w.context.history.now g (get_or h i d)) before after)
          → Adds (IsLine t text s x i) before after
      line_there {before = before} {after = after} made =
          let there : Adds (IsShownLine t text s x.options x.widths h (take i h) (get_or h i d)) before after =
          rw (has.context, has.setup) at (made t text (take i h) has.made playable_next known_there (rw (sym has.context) at has.members)) in
          record {
            more = there.more;
            is = there.is;
            more_are = λ call at. let here : get_or h i d ≡ call = let own = slice_get-get_or h i d within in cc in rw here at there.more_are;
          }

      pub line_written : {v : ViewWriter} {left : Buffer} {e : Option (List ℕ)} → Adds (IsLine t text s x i) w.text.bytes.items v.text.bytes.items → HasMade t next v
          → (v.session.setup ≡ w.session.setup) × (v.context ≡ w.context) × (v.statements ≡ w.statements) → IsSent b e v.text.bytes.items left.bytes.items
          → HasWritten t text s x (i + 1) (record v { text = left }) a e
      line_written {v = v} {left = left} {e = e} line made kept batch = record {
        made =
            let all = subst (λ g. HasMade t g v) (sym (take_more h i d within)) made in
            record { program = all.program; stands = all.stands; last = all.last; made = all.made };
        setup = kept.0 ∙ has.setup;
        context = kept.1 ∙ has.context;
        few = omega (arith, within);
        members = rw kept.2 has.members;
        begun = has.begun ++ batch.sent;
        grown = Appends-trans a b e has.begun batch.sent has.grown batch.grown;
        lines =
            let same = ap (λ y. has.begun ++ y) batch.is ∙ sym (append_assoc has.begun batch.sent left.bytes.items) in
            rw (add-one i, ← same) (lines_then _ line);
      }

-- The attempts before those that are asked for have no lines.

either : (m n a : ℕ) → a ≤ max m n → (a ≤ m) ⊎ (a ≤ n)
either m n a few = by_test (nat_le a m) refl
  where
    by_test : (b : Bool) → nat_le a m ≡ b → (a ≤ m) ⊎ (a ≤ n)
    by_test true e = inl (grind (arith, nat_tests))
    by_test false e = inr (let more : m < a = grind (arith, nat_tests) in omega (arith, more, few))

-- an attempt before the first that is asked for, or before the last ones
early : (f : CallFilter) (count n : ℕ) → n < unwrap_or f.from 0 → is_between f.from f.to n ≡ false
early f count n given1 = grind (arith)

not_late : (last : Option ℕ) (count n : ℕ) → 0 < n → n ≤ before_last last count → is_late last count n ≡ false
not_late last count n given1 given2 = grind (arith)

and_false : (a b : Bool) → b ≡ false → a && b ≡ false
and_false a b given1 = grind (arith)

not_asked : (f : CallFilter) (count n i : ℕ) → 0 < n → n ≤ skipped f count → is_asked f count n i ≡ false
not_asked f count n i some few = by_reason (either _ _ n few)
  where
    by_reason : (n ≤ unwrap_or f.from 0 - 1) ⊎ (n ≤ before_last f.last count) → is_asked f count n i ≡ false
    by_reason (inl before) =
        and_false (is_of_thread f.thread i) _ (and_false (is_late f.last count n) _ (early f count n (omega (arith, some, before))))
    by_reason (inr before) =
        and_false (is_of_thread f.thread i) _ (ap (λ b. b && is_between f.from f.to n) (not_late f.last count n some before))

module _ (t : Program) (text : List ℕ) (s : SetupOf) (x : ViewContext) where
  abbrev calls : List Call
  calls = x.history.now

  -- attempt k, from 0, is one of those before
  no_line : (k : ℕ) → k < length calls → suc k ≤ skipped (filter_of x.options) (length calls) → IsLine t text s x k []
  no_line k given1 given2 = search (rules, length-take-le, early, not_asked)

  -- so the head is a text with the lines of these attempts
  pub none_before : {said : List ℕ} → HasLines t text s x 0 said → (m : ℕ) → m ≤ length calls → m ≤ skipped (filter_of x.options) (length calls)
      → HasLines t text s x m said
  none_before has zero few before = has
  none_before {said = said} has (suc m) few before =
      let more = line_more t text s x (none_before has m (omega (arith, few)) (omega (arith, before))) [] (no_line m (omega (arith, few)) before) in
      subst (HasLines t text s x (suc m)) (append-nil said) more

-- so a writer of the head has written the lines of these attempts, but for its text
pub written_before : {t : Program} {text : List ℕ} {w : ViewWriter} {a : Option (List ℕ)} → let x = w.context in
    HasMade t (take w.made x.history.now) w → w.made ≤ length x.history.now → w.made ≤ skipped (filter_of x.options) (length x.history.now)
    → w.text.bytes.items ≡ head t text w.session.setup x → HaveMembers x.options.format x.program w.statements.items → HasWritten t text w.session.setup x w.made w a a
written_before {t = t} {text = text} {w = w} {a = a} made few before same members = record {
  made = made;
  setup = refl;
  context = refl;
  few = few;
  members = members;
  begun = [];
  grown = Appends-nil a;
  lines =
      let none : HasLines t text w.session.setup w.context 0 w.text.bytes.items = record { lines = []; are = no_parts; is = same ∙ sym (append-nil (head t text w.session.setup w.context)) } in
      none_before t text w.session.setup w.context none w.made few before;
}

-- One thread more, and the line of globals if there are some.

pub thread_more : (i n : ℕ) (es : List (List ℕ)) → n < length es
    → thread_lines i (take (suc n) es) ≡ thread_lines i (take n es) ++ thread_line (i + n) (unwrap_or (slice_get es n) [])
thread_more i n [] h = absurd (omega arith)
thread_more i zero (x ∷ es) h = append-nil (thread_line i x) ∙ ap (λ k. thread_line k x) (sym (add-zero i))
thread_more i (suc n) (x ∷ es) h =
    let within : n < length es = omega arith in
    let place : suc i + n ≡ i + suc n = omega arith in
    let entry = unwrap_or (slice_get es n) [] in
    let others = thread_lines (suc i) (take n es) in
    let more = thread_more (suc i) n es within ∙ ap (λ k. others ++ thread_line k entry) place in
    sym (both_added (thread_line i x) _ _ others (thread_line (i + suc n) entry) _ refl refl (sym more))

-- there is a line if there is a global
pub line_of_some : (xs : List Name) (bits : List Bool) → 0 < length xs
    → globals_line (binding xs bits) ≡ (codes "globals" ++ variables_text Columns None (binding xs bits)) ++ codes "\n"
line_of_some [] bits h = absurd (omega arith)
line_of_some (x ∷ xs) [] h = refl
line_of_some (x ∷ xs) (b ∷ bits) h = refl

-- Mapping over an option of references is mapping over the option of their values.

pub copied : {A B : Type 0} (f : A → B) (x : Option (Bor A))
    → option_map (λ r. f r.now) x ≡ option_map f (option_copied x)
copied = grind (arith)
