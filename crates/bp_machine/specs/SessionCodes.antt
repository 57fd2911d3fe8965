-- Encodings of the values of sessions, each record as the tuple of its fields. No public clause
-- names one.
use Rattle.std.specs.Prelude.{◌≡◌, ℕ, zero, suc, Bool, List, Option, None, Some, refl}
use Rattle.std.specs.Coded.{Coded, code_by, coded×, coded_ℕ, coded_bool, coded_list, coded_option}
use Rattle.bp_flat.specs.Flat.{Flat}
use Rattle.bp_flat.specs.Codes.{coded_flat}
use Rattle.bp_machine.specs.declared.contexts.ContextCount.{ContextCount}
use Rattle.bp_machine.specs.declared.calls.Call.{Call}
use Rattle.bp_machine.specs.declared.calls.Reply.{Reply}
use Rattle.bp_machine.specs.declared.calls.Reply.TheVariants.{Stopped, Ended, NoContexts, Full, Blocked, Stepped}
use Rattle.bp_machine.specs.declared.calls.Reply.TheVariants as replies
use Rattle.bp_machine.specs.declared.calls.Outcome.{Outcome}
use Rattle.bp_machine.specs.declared.calls.Outcome.TheVariants.{Clean, Failed}
use Rattle.bp_machine.specs.declared.stacks.ActivationRecord.{ActivationRecord}
use Rattle.bp_machine.specs.Setups.{SetupOf, setup_of}
use Rattle.bp_machine.specs.Sessions.{GuestThreadOf, State, MachineOf, SessionOf}
use Rattle.bp_machine.specs.Histories.{ChoicesOf}

abbrev pub coded_setup : Coded SetupOf
coded_setup =
    code_by ((List (List ℕ) × List Bool) × ((ℕ × ℕ) × Option ℕ))
    (coded×
    (coded× (coded_list (coded_list coded_ℕ)) (coded_list coded_bool))
    (coded× (coded× coded_ℕ coded_ℕ) (coded_option coded_ℕ)))
    (λ s. ((s.entries, s.init), ((s.contexts, s.calls), s.seed)))
    (λ p. setup_of p.0.0 p.0.1 p.1.0.0 p.1.0.1 p.1.1)
    (λ _. refl)

abbrev pub coded_activation_record : Coded ActivationRecord
coded_activation_record =
    code_by (ℕ × ℕ) (coded× coded_ℕ coded_ℕ)
    (λ f. (f.number, f.locals))
    (λ p. record { number = p.0; locals = p.1 })
    (λ _. refl)

abbrev pub coded_thread : Coded GuestThreadOf
coded_thread =
    code_by (List ActivationRecord × (ℕ × Bool))
    (coded× (coded_list coded_activation_record) (coded× coded_ℕ coded_bool))
    (λ l. (l.stack, (l.calls, l.ended)))
    (λ p. record { stack = p.0; calls = p.1.0; ended = p.1.1 })
    (λ _. refl)

abbrev pub coded_count : Coded ContextCount
coded_count =
    code_by (ℕ × Option ℕ) (coded× coded_ℕ (coded_option coded_ℕ))
    (λ k. (k.used, k.last))
    (λ p. record { used = p.0; last = p.1 })
    (λ _. refl)

abbrev failed_thread : Outcome → Option ℕ
failed_thread Clean = None
failed_thread (Failed i) = Some i

abbrev outcome_from : Option ℕ → Outcome
outcome_from None = Clean
outcome_from (Some i) = Failed i

abbrev outcome_again : (o : Outcome) → outcome_from (failed_thread o) ≡ o
outcome_again Clean = refl
outcome_again (Failed i) = refl

abbrev pub coded_outcome : Coded Outcome
coded_outcome =
    code_by (Option ℕ) (coded_option coded_ℕ) failed_thread outcome_from outcome_again

abbrev pub coded_state : Coded State
coded_state =
    code_by ((ℕ × List GuestThreadOf) × (ContextCount × Outcome))
    (coded× (coded× coded_ℕ (coded_list coded_thread)) (coded× coded_count coded_outcome))
    (λ x. ((x.globals, x.threads), (x.contexts, x.outcome)))
    (λ p. record { globals = p.0.0; threads = p.0.1; contexts = p.1.0; outcome = p.1.1 })
    (λ _. refl)

abbrev pub coded_machine : Coded MachineOf
coded_machine =
    code_by (State × List ℕ) (coded× coded_state (coded_list coded_ℕ))
    (λ m. (m.state, m.rooms))
    (λ p. record { state = p.0; rooms = p.1 })
    (λ _. refl)

abbrev pub coded_choices : Coded ChoicesOf
coded_choices =
    code_by ((ℕ × ℕ) × (ℕ × ℕ)) (coded× (coded× coded_ℕ coded_ℕ) (coded× coded_ℕ coded_ℕ))
    (λ c. ((c.word, c.place), (c.generator.state, c.generator.increment)))
    (λ p. record {
      word = p.0.0;
      place = p.0.1;
      generator = record { state = p.1.0; increment = p.1.1 };
    })
    (λ _. refl)

abbrev reply_number : Reply → ℕ
reply_number Stopped = 0
reply_number Ended = 1
reply_number NoContexts = 2
reply_number Full = 3
reply_number Blocked = 4
reply_number replies.Failed = 5
reply_number Stepped = 6

abbrev reply_from : ℕ → Reply
reply_from zero = Stopped
reply_from (suc zero) = Ended
reply_from (suc (suc zero)) = NoContexts
reply_from (suc (suc (suc zero))) = Full
reply_from (suc (suc (suc (suc zero)))) = Blocked
reply_from (suc (suc (suc (suc (suc zero))))) = replies.Failed
reply_from (suc (suc (suc (suc (suc (suc n)))))) = Stepped

abbrev reply_again : (r : Reply) → reply_from (reply_number r) ≡ r
reply_again Stopped = refl
reply_again Ended = refl
reply_again NoContexts = refl
reply_again Full = refl
reply_again Blocked = refl
reply_again replies.Failed = refl
reply_again Stepped = refl

abbrev pub coded_call : Coded Call
coded_call =
    code_by (ℕ × (Bool × ℕ)) (coded× coded_ℕ (coded× coded_bool coded_ℕ))
    (λ x. (x.thread, (x.bit, reply_number x.reply)))
    (λ p. record { thread = p.0; bit = p.1.0; reply = reply_from p.1.1 })
    (λ x i. record { thread = x.thread; bit = x.bit; reply = reply_again x.reply i })

abbrev pub coded_session : Coded SessionOf
coded_session =
    code_by ((Flat × SetupOf) × (MachineOf × List ChoicesOf))
    (coded× (coded× coded_flat coded_setup) (coded× coded_machine (coded_list coded_choices)))
    (λ x. ((x.code, x.setup), (x.machine, x.choices)))
    (λ p. record { code = p.0.0; setup = p.0.1; machine = p.1.0; choices = p.1.1 })
    (λ _. refl)
