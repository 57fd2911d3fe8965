-- Counts and statistics of the runs of a test.
use Rattle.std.specs.Prelude.{◌≡◌, ◌==◌, ◌^◌, ◌+◌, ◌-◌, if◌then◌else◌, ℕ, min, max, Bool, true, false, not, ◌&&◌, nat_le, List, [], ◌∷◌, Some, length, take, fold, count_by, sum_by, slice_index_or, Any, ◌/◌, ◌≤◌, nat_lt, zero, suc, cond, nat_eq, ◌||◌}
use Rattle.std.specs.List.{list_any}
use Rattle.std.specs.Set.{distinct_count}
use Rattle.bp_syntax.specs.Ast.{Program}
use Rattle.bp_flat.specs.StandsFor.{places_of}
use Rattle.bp_machine.specs.declared.calls.Call.{Call}
use Rattle.bp_machine.specs.declared.calls.Reply.{Reply}
use Rattle.bp_machine.specs.declared.calls.Reply.TheVariants.{Full}
use Rattle.bp_machine.specs.declared.calls.Report.{Report}
use Rattle.bp_machine.specs.Histories.{is_failure}
use Rattle.bp_machine.specs.Setups.{SetupOf, threads}
use Rattle.bp_test.specs.declared.tallies.Ends.{Ends}
use Rattle.bp_test.specs.declared.tallies.Tally.{Tally}
use Rattle.bp_test.specs.declared.limits.TheConstants.{MAX_KEYS}
use Rattle.bp_test.specs.Reach.{IsRunKey, has_refusal, place_of, AreMarks, HasStep, Reaches}
use Rattle.bp_test.specs.declared.counts.Counts.{Counts}
use Rattle.bp_test.specs.declared.counts.Share.{Share}
use Rattle.bp_test.specs.declared.tallies.ContextsUsed.{ContextsUsed}
use Rattle.bp_test.specs.declared.counts.Distinct.{Distinct}

-- a run that was made: its history and report, whether it ended in a deadlock, and whether each
-- thread then was at the end of its program
pub record MadeRun : Type 0 where
  pub history : List Call
  pub report : Report
  pub deadlocked : Bool
  pub returned : Bool

abbrev pub made : List Call → Report → (deadlocked returned : Bool) → MadeRun
made h r deadlocked returned =
    record { history = h; report = r; deadlocked = deadlocked; returned = returned }

-- a count as stored, in 64 bits
abbrev pub capped : ℕ → ℕ
capped n = min n (2 ^ 64 - 1)

-- Each run ended in one of these ways, the first that applies: an assertion failed; its threads are
-- deadlocked; some threads are live; a thread was refused a context; each thread reached its end;
-- none of these.
abbrev pub fails : MadeRun → Bool
fails r = is_failure r.report.outcome

abbrev pub leaves_live : MadeRun → Bool
leaves_live r = nat_le 1 r.report.left_live

abbrev pub lacks_contexts : MadeRun → Bool
lacks_contexts r = has_refusal r.history

abbrev pub is_deadlocked_run : MadeRun → Bool
is_deadlocked_run r = not (fails r) && r.deadlocked

-- no assertion failed, and its threads are not deadlocked
abbrev pub lives : MadeRun → Bool
lives r = not (fails r) && not r.deadlocked

abbrev pub is_starved : MadeRun → Bool
is_starved r = lives r && leaves_live r

abbrev pub is_out_of_contexts : MadeRun → Bool
is_out_of_contexts r = lives r && (not (leaves_live r) && lacks_contexts r)

abbrev pub is_finished_run : MadeRun → Bool
is_finished_run r =
    lives r && (not (leaves_live r) && (not (lacks_contexts r) && r.returned))

abbrev pub is_cut_off : MadeRun → Bool
is_cut_off r =
    lives r && (not (leaves_live r) && (not (lacks_contexts r) && not r.returned))

-- the stack of a thread was full
abbrev pub is_full : Reply → Bool
is_full Full = true
is_full r = false

abbrev pub has_full_stack : List Call → Bool
has_full_stack h = list_any (λ x. is_full x.reply) h

-- The resource that a run lacked which ended too early, neither deadlocked nor finished: the first
-- of contexts, room on a stack, and attempts.
abbrev pub is_early : MadeRun → Bool
is_early r = lives r && not (is_finished_run r)

abbrev pub is_without_contexts : MadeRun → Bool
is_without_contexts r = is_early r && lacks_contexts r

abbrev pub is_without_frames : MadeRun → Bool
is_without_frames r = is_early r && (not (lacks_contexts r) && has_full_stack r.history)

abbrev pub is_without_calls : MadeRun → Bool
is_without_calls r = is_early r && (not (lacks_contexts r) && not (has_full_stack r.history))

-- the number of runs that ended in each way, and that lacked each resource
abbrev pub ends_of : List MadeRun → Ends
ends_of runs =
    record {
      finished = capped (count_by is_finished_run runs);
      out_of_contexts = capped (count_by is_out_of_contexts runs);
      cut_off = capped (count_by is_cut_off runs);
      starved = capped (count_by is_starved runs);
      deadlocked = capped (count_by is_deadlocked_run runs);
      lacking_contexts = capped (count_by is_without_contexts runs);
      lacking_frames = capped (count_by is_without_frames runs);
      lacking_calls = capped (count_by is_without_calls runs);
    }

-- the number of attempts of a run
abbrev pub calls_of : MadeRun → ℕ
calls_of r = r.report.calls

abbrev pub longest_of : List MadeRun → ℕ
longest_of runs = fold (λ most r. max most (calls_of r)) 0 runs

-- the number of runs that used k contexts
abbrev pub using_contexts : ℕ → List MadeRun → ℕ
using_contexts k runs = count_by (λ r. r.report.contexts == k) runs

-- the tally of these runs, except for the instructions that they reached
pub record IsCounted (s : SetupOf) (runs : List MadeRun) (x : Tally) : Type 0 where
  pub count : x.runs ≡ capped (length runs)
  pub calls : x.calls ≡ capped (sum_by calls_of runs)
  pub longest : x.longest ≡ longest_of runs
  pub ends : x.ends ≡ ends_of runs
  pub contexts : (k : ℕ) → slice_index_or x.contexts.items k 0 ≡ capped (using_contexts k runs)
  pub stepped :
      AreMarks (λ i. Some i) (λ i. Any (λ r. HasStep r.history i) runs) (threads s) x.stepped.items

-- these marks of instructions are of the places that these runs reached
abbrev pub HasReached : Program → SetupOf → List MadeRun → List Bool → Type 0
HasReached t s runs marks =
    AreMarks (place_of t)
    (λ p. Any (λ r. Reaches t s r.history p) runs)
    (length (places_of t.procedures))
    marks

-- the keys of these runs
abbrev pub AreKeys : Program → SetupOf → List MadeRun → List ℕ → Type 0
AreKeys t s [] [] = Unit {0}
AreKeys t s [] (key ∷ keys) = ⊥
AreKeys t s (run ∷ runs) [] = ⊥
AreKeys t s (run ∷ runs) (key ∷ keys) = IsRunKey t s run.history key × AreKeys t s runs keys

-- the tally of these runs, and the keys of the first of them
pub record IsTally (t : Program) (s : SetupOf) (runs : List MadeRun) (x : Tally) : Type 0 where
  pub counted : IsCounted s runs x
  pub reached : HasReached t s runs x.reached.items
  pub keys : AreKeys t s (take MAX_KEYS runs) x.keys.items

-- The rest are devices of the proofs.

-- the sums of two counts of runs
abbrev pub ends_sum : Ends → Ends → Ends
ends_sum a b =
    record {
      finished = capped (a.finished + b.finished);
      out_of_contexts = capped (a.out_of_contexts + b.out_of_contexts);
      cut_off = capped (a.cut_off + b.cut_off);
      starved = capped (a.starved + b.starved);
      deadlocked = capped (a.deadlocked + b.deadlocked);
      lacking_contexts = capped (a.lacking_contexts + b.lacking_contexts);
      lacking_frames = capped (a.lacking_frames + b.lacking_frames);
      lacking_calls = capped (a.lacking_calls + b.lacking_calls);
    }

-- the counts with the resource that one more run lacked
abbrev pub with_lack : (refused full : Bool) → Ends → Ends
with_lack true full x = record x { lacking_contexts = capped (x.lacking_contexts + 1) }
with_lack false true x = record x { lacking_frames = capped (x.lacking_frames + 1) }
with_lack false false x = record x { lacking_calls = capped (x.lacking_calls + 1) }

-- count k after `runs` runs used `used` contexts
abbrev pub count_with : (used runs : ℕ) → List ℕ → ℕ → ℕ
count_with used runs counts k =
    if used == k then capped (slice_index_or counts k 0 + runs) else slice_index_or counts k 0

-- The counts of the runs of a test as people read them.

-- the number of runs that used at most k contexts
abbrev pub within_contexts : ℕ → List MadeRun → ℕ
within_contexts k runs = count_by (λ r. nat_le r.report.contexts k) runs

-- k is the least number of contexts that n runs or more did not exceed
pub record IsLeastFor (runs : List MadeRun) (n k : ℕ) : Type 0 where
  pub enough : n ≤ within_contexts k runs
  pub least : (m : ℕ) → n ≤ within_contexts m runs → k ≤ m

-- the least, the middle and the greatest number of contexts: one run used no more, at least half of
-- them did not, and none used more; each 0 if there is no run
pub record AreContextsUsed (runs : List MadeRun) (x : ContextsUsed) : Type 0 where
  pub least : IsLeastFor runs (min 1 (length runs)) x.least
  pub middle : IsLeastFor runs ((length runs + 1) / 2) x.middle
  pub most : IsLeastFor runs (length runs) x.most

-- the number of `count` threads that made a step in some run
pub record IsShareOfThreads (count : ℕ) (runs : List MadeRun) (x : Share) : Type 0 where
  pub marks : List Bool
  pub are : AreMarks (λ i. Some i) (λ i. Any (λ r. HasStep r.history i) runs) count marks
  pub all : x.all ≡ count
  pub reached : x.reached ≡ count_by (λ is_set. is_set) marks

-- the counts of these runs, except for the shares of statements and assertions
pub record AreCounts (s : SetupOf) (runs : List MadeRun) (x : Counts) : Type 0 where
  pub count : x.runs ≡ length runs
  pub calls : x.calls ≡ capped (sum_by calls_of runs)
  pub longest : x.longest ≡ longest_of runs
  pub ends : x.ends ≡ ends_of runs
  pub contexts : AreContextsUsed runs x.contexts
  pub threads : IsShareOfThreads (threads s) runs x.threads

-- The rest are devices of the proofs.

-- the numbers after some runs used this number of contexts, if `before` runs used fewer
abbrev pub contexts_with : (contexts before half : ℕ) → ContextsUsed → ContextsUsed
contexts_with contexts before half x =
    record {
      least = if before == 0 then contexts else x.least;
      middle = if nat_lt before half then contexts else x.middle;
      most = contexts;
    }

abbrev pub share_of_marks : List Bool → Share
share_of_marks marks =
    record { reached = count_by (λ is_set. is_set) marks; all = length marks }

-- The number of different runs of a test, by their keys.

-- the number of these keys that are this one
abbrev pub count_of : ℕ → List ℕ → ℕ
count_of key keys = count_by (λ k. k == key) keys

-- the numbers of keys, of different ones, and of those that occur once
pub record AreDistinct (keys : List ℕ) (x : Distinct) : Type 0 where
  pub runs : x.runs ≡ distinct_count nat_eq keys
  pub of : x.of ≡ length keys
  pub once : x.once ≡ count_by (λ key. count_of key keys == 1) keys

-- these counts for the first runs of a test, by their keys
pub record AreDistinctRuns (t : Program) (s : SetupOf) (runs : List MadeRun) (x : Distinct)
    : Type 0 where
  pub keys : List ℕ
  pub are : AreKeys t s (take MAX_KEYS runs) keys
  pub distinct : AreDistinct keys x

-- The rest are devices of the proofs.

-- neither neighbour of the key at this place is that key
abbrev pub is_alone : List ℕ → ℕ → Bool
is_alone keys n =
    let key = slice_index_or keys n 0 in
    (n == 0 || not (slice_index_or keys (n - 1) 0 == key))
    && (n + 1 == length keys || not (slice_index_or keys (n + 1) 0 == key))

-- the number of the first n places with such a key
abbrev pub alone_before : List ℕ → ℕ → ℕ
alone_before keys zero = 0
alone_before keys (suc n) = alone_before keys n + cond (is_alone keys n) 1 0
