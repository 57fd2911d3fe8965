-- A history has one view, one state, and one list of its contexts, since the facts that they show are single.
use Rattle.bp_view.proofs.Common.{◌≡◌, ◌∙◌, ℕ, List, ap, sym, ◌<◌, ◌++◌, Bool, true, false, Some, length, map, slice_get, take, ap₂, subst, refl, suc, None, if◌then◌else◌, [], ◌∷◌, Option, IsTrue, ◌↔◌, arith, rules, IsInParts, item_at, one_of_parts, Program, places_of, starts_of, Call, Report, SetupOf, threads, configuration_after, granted_threads, stack_of, least_opened, place_text, one_list_of_statements, ViewFormat, ViewOptions, IsNextOf, footer_text, IsFooter, after_footer, IsEnd, IsStateIf, has_line, AreLines, IsShownLine, IsView, IsViewLineIf, state_text, IsStateText, Widths, view_head, extent, AreHeaded, AreWidths, under_headings, Extent, context_text, contexts_head, AreContextLines, IsContextLine, changes_within, AreContextFacts, IsContextOf, ShownContext, All, All-head, All-tail, Configuration, Outcome, Clean, Failed, waiting, AreFailureFacts, AreFooterFacts, AreStandingFacts, ShownCondition, ShownFooter}
use Rattle.bp_view.proofs.SingleFacts as states
use Rattle.bp_view.proofs.SingleFacts.{one_call, one_next}
use Rattle.bp_view.proofs.FailedConditions.{one_assertion, one_condition, one_decision, one_frame, one_place, same_condition}

-- The facts of a context are single.

-- a context has one thread, one first and one last attempt
record OneContext (i j first last other next : ℕ) : Type 0 where
  thread : i ≡ j
  first_is : first ≡ other
  last_is : last ≡ next

same_context : (n : ℕ) (h : List Call) (i j first last other next : ℕ) → IsContextOf n h i first last → IsContextOf n h j other next
    → OneContext i j first last other next
same_context n h i j first last other next given1 given2 = grind (arith)

module _ (t : Program) (text : List ℕ) (s : SetupOf) (h : List Call) (n : ℕ) where
  pub one_context : (f g : ShownContext) → AreContextFacts t text s h n f → AreContextFacts t text s h n g → f ≡ g
  one_context f g a b =
      let same = same_context n h f.thread g.thread a.first a.last b.first b.last a.context b.context in
      let before = ap₂ (λ k i. stack_of (configuration_after t s (take k h)) i) same.first_is same.thread in
      let after = ap₂ (λ k i. stack_of (configuration_after t s (take (suc k) h)) i) same.last_is same.thread in
      let from = one_next text _ f.from g.from (subst (λ stack. IsNextOf text stack f.from) before a.from) b.from in
      let to = one_next text _ f.to g.to (subst (λ stack. IsNextOf text stack f.to) after a.to) b.to in
      let changes = a.changes ∙ changed_alike same ∙ sym b.changes in
      λ i. record {
        number = (a.number ∙ sym b.number) i;
        thread = same.thread i;
        first = (a.first_is ∙ ap suc same.first_is ∙ sym b.first_is) i;
        last = (a.last_is ∙ ap suc same.last_is ∙ sym b.last_is) i;
        from = from i;
        to = to i;
        changes = changes i;
      }
    where
      changed_alike : OneContext f.thread g.thread a.first a.last b.first b.last → changes_within t s h a.first a.last ≡ changes_within t s h b.first b.last
      changed_alike same = ap₂ (changes_within t s h) same.first_is same.last_is

-- The facts of an end are single: a thread is at one condition, and whether the threads are
-- deadlocked is decided.

one_answer : (P : Type 0) (a b : Bool) → IsTrue a ↔ P → IsTrue b ↔ P → a ≡ b
one_answer P a b given1 given2 = grind (arith)

module _ (text : List ℕ) (c : Configuration) where
  one_standing : (x y : ShownCondition) → x.thread ≡ y.thread → AreStandingFacts text c x → AreStandingFacts text c y → x ≡ y
  one_standing x y same a b =
      let place = one_place c x.thread y.thread same a.stands b.stands in
      let decision = one_decision c x.thread y.thread same a.stands b.stands in
      let frame = one_frame c x.thread y.thread same a.stands b.stands in
      one_condition text _ _ _ _ x y same (same_condition text _ _ _ _ _ _ _ _ x place decision frame refl a.are) b.are

  one_waits : (xs ys : List ShownCondition) → map (λ x. x.thread) xs ≡ map (λ y. y.thread) ys
      → All (AreStandingFacts text c) xs → All (AreStandingFacts text c) ys → xs ≡ ys
  one_waits [] [] same a b = refl
  one_waits [] (y ∷ ys) same a b = absurd cc
  one_waits (x ∷ xs) [] same a b = absurd cc
  one_waits (x ∷ xs) (y ∷ ys) same a b =
      let first : x.thread ≡ y.thread = cc in
      let others : map (λ (z : ShownCondition). z.thread) xs ≡ map (λ (z : ShownCondition). z.thread) ys = cc in
      let P = AreStandingFacts text c in
      ap₂ (λ z (zs : List ShownCondition). z ∷ zs) (one_standing x y first (All-head P x xs a) (All-head P y ys b))
      (one_waits xs ys others (All-tail P x xs a) (All-tail P y ys b))

module _ (t : Program) (text : List ℕ) (s : SetupOf) (h : List Call) where
  one_failure : (o : Outcome) (x y : Option ShownCondition) → AreFailureFacts t text s h o x → AreFailureFacts t text s h o y → x ≡ y
  one_failure Clean x y a b = a ∙ sym b
  one_failure (Failed i) None y a b = elim a [ ]
  one_failure (Failed i) (Some x) None a b = elim b [ ]
  one_failure (Failed i) (Some x) (Some y) a b = ap Some (one_assertion t s h text x y (a.0 ∙ sym b.0) a.1 b.1)

  pub one_footer_facts : (r : Report) (x y : ShownFooter) → AreFooterFacts t text s h r x → AreFooterFacts t text s h r y → x ≡ y
  one_footer_facts r x y a b =
      let now = configuration_after t s h in
      let deadlocked = one_answer _ x.deadlocked y.deadlocked a.decides b.decides in
      let failure = one_failure r.outcome x.failure y.failure a.failure b.failure in
      let stuck : Bool → List ℕ = λ d. if d then waiting t now (threads s) else [] in
      let of = a.waits_are.of ∙ ap stuck deadlocked ∙ sym b.waits_are.of in
      let stand = one_waits text now x.waits y.waits of a.waits_are.each b.waits_are.each in
      λ i. record {
        report = (a.report ∙ sym b.report) i;
        deadlocked = deadlocked i;
        failure = failure i;
        waits = stand i;
      }

-- A footer has one text, since it has one set of facts.

pub one_footer : (format : ViewFormat) (file : List ℕ) (t : Program) (text : List ℕ) (s : SetupOf) (h : List Call) (r : Report) (v w : List ℕ)
    → IsFooter format file t text s h r v → IsFooter format file t text s h r w → v ≡ w
one_footer format file t text s h r v w x y = x.is ∙ ap (footer_text format file) (one_footer_facts t text s h r x.facts y.facts x.facts_are y.facts_are) ∙ sym y.is

-- A state has one text, since it has one set of facts.

pub one_state : (format : ViewFormat) (t : Program) (text : List ℕ) (s : SetupOf) (h : List Call) (count : ℕ) (v w : List ℕ)
    → IsStateText format t text s h count v → IsStateText format t text s h count w → v ≡ w
one_state format t text s h count v w x y = x.is ∙ ap (state_text format) (states.one_state t text s h count x.facts y.facts x.facts_are y.facts_are) ∙ sym y.is

pub one_widths : (s : SetupOf) (e : Extent) (a b : Widths) → AreWidths s e a → AreWidths s e b → a ≡ b
one_widths s e a b given1 given2 = grind (arith)

pub one_headed : (s : SetupOf) (e : Extent) (a b : Widths) → AreHeaded s e a → AreHeaded s e b → a ≡ b
one_headed s e a b x y = x.is ∙ ap under_headings (one_widths s e x.plain y.plain x.are y.are) ∙ sym y.is

module _ (t : Program) (text : List ℕ) (s : SetupOf) (o : ViewOptions) (w : Widths) (whole : List Call) where
  line_if : (b : Bool) (h : List Call) (x : Call) (p q : List ℕ) → IsViewLineIf t text s o w whole b h x p → IsViewLineIf t text s o w whole b h x q → p ≡ q
  line_if b h x p q given1 given2 = search (rules, one_call)

  one_lines : (n : ℕ) → n ≡ length whole → (p q : List ℕ) → AreLines t text s o w whole n p → AreLines t text s o w whole n q → p ≡ q
  one_lines n count = one_of_parts n each
    where
      each : (k : ℕ) (p q : List ℕ) → k < n → ((x : Call) → slice_get whole k ≡ Some x → IsShownLine t text s o w whole (take k whole) x p)
          → ((x : Call) → slice_get whole k ≡ Some x → IsShownLine t text s o w whole (take k whole) x q) → p ≡ q
      each k p q few a b =
          let (x, at) = item_at whole k (subst (λ m. k < m) count few) in
          line_if (has_line t text s o w whole (take k whole) x) (take k whole) x p q (a x at) (b x at)

module _ (t : Program) (text : List ℕ) (s : SetupOf) (h : List Call) (r : Report) (o : ViewOptions) (file : List ℕ) where
  state_if : (asked : Bool) (v w : List ℕ) → IsStateIf o.format t text s h asked v → IsStateIf o.format t text s h asked w → v ≡ w
  state_if false v w x y = x ∙ sym y
  state_if true v w (a, v_is, a_is) (b, w_is, b_is) = v_is ∙ ap (after_footer o.format) (one_state o.format t text s h (length h) a b a_is b_is) ∙ sym w_is

  one_end : (v w : List ℕ) → IsEnd o file t text s h r v → IsEnd o file t text s h r w → v ≡ w
  one_end v w x y =
      let footer = one_footer o.format file t text s h r x.footer y.footer x.footer_is y.footer_is in
      x.is ∙ ap₂ (λ a b. a ++ b) footer (state_if o.has_state x.state y.state x.state_is y.state_is) ∙ sym y.is

pub one_view : (t : Program) (text : List ℕ) (s : SetupOf) (h : List Call) (r : Report) (o : ViewOptions) (file : List ℕ) (v w : List ℕ)
    → IsView t text s h r o file v → IsView t text s h r o file w → v ≡ w
one_view t text s h r o file v w x y =
    let statements = one_list_of_statements text (places_of t.procedures) x.statements y.statements x.statements_are y.statements_are in
    let places = map (place_text text) (starts_of t) in
    let extent_of_y = λ (texts : List (List ℕ)). extent (length h) places texts (length t.procedures) o.columns in
    let widths_are = subst (λ texts. AreHeaded s (extent_of_y texts) x.widths) statements x.widths_are in
    let widths = one_headed s (extent_of_y y.statements) x.widths y.widths widths_are y.widths_are in
    let lines_are = subst (λ z. AreLines t text s o z h (length h) x.lines) widths x.lines_are in
    let lines = one_lines t text s o y.widths h (length h) refl x.lines y.lines lines_are y.lines_are in
    let end = one_end t text s h r o file x.end y.end x.end_is y.end_is in
    x.is
    ∙ ap (λ z. view_head o t.globals s z ++ x.lines ++ x.end) widths
    ∙ ap₂ (λ a b. view_head o t.globals s y.widths ++ a ++ b) lines end
    ∙ sym y.is

-- A history has one list of its contexts, since each context has one set of facts.

pub one_list : (format : ViewFormat) (t : Program) (text : List ℕ) (s : SetupOf) (h : List Call) (v w : List ℕ)
    → AreContextLines format t text s h v → AreContextLines format t text s h w → v ≡ w
one_list format t text s h v w x y =
    let statements = one_list_of_statements text (places_of t.procedures) x.statements y.statements x.statements_are y.statements_are in
    let places = map (place_text text) (starts_of t) in
    let widths_are =
    subst (λ texts. AreWidths s (extent (length h) places texts (length t.procedures) None) x.widths) statements x.widths_are in
    let widths = one_widths s (extent (length h) places y.statements (length t.procedures) None) x.widths y.widths widths_are y.widths_are in
    let count = least_opened x.count (granted_threads h) x.count_is ∙ sym (least_opened y.count (granted_threads h) y.count_is) in
    let in_widths = subst (λ z. IsInParts (λ k line. IsContextLine format t text s h z (suc k) line) x.count x.lines) widths x.lines_are in
    let in_count = subst (λ n. IsInParts (λ k line. IsContextLine format t text s h y.widths (suc k) line) n x.lines) count in_widths in
    let lines = one_of_parts y.count (each y.widths) x.lines y.lines in_count y.lines_are in
    x.is ∙ ap₂ (λ n lines. contexts_head format (length h) n ++ lines) count lines ∙ sym y.is
  where
    each : (z : Widths) (k : ℕ) (p q : List ℕ) → k < y.count → IsContextLine format t text s h z (suc k) p → IsContextLine format t text s h z (suc k) q → p ≡ q
    each z k p q few a b = a.is ∙ ap (context_text format z) (one_context t text s h (suc k) a.facts b.facts a.facts_are b.facts_are) ∙ sym b.is
