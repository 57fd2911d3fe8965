use Rattle.bp_view.proofs.Common.{◌≡◌, ◌∙◌, ◌++◌, ◌∷◌, [], ℕ, List, Bool, Option, Some, None, map, ap, append-nil, refl, sym, rules, option_map, map-append, Name, Procedure, bits_of, named_store, variables, Bits, first_index, value_of_slot, entry_of, Entry, named_entry, resolved}
use Rattle.bp_view.proofs.footer_facts.add_variable.Goals as goal

-- the variable that a name means, by the slots of the local and of the global of that name
by_slots : (globals : List Name) (p : Procedure) (a b : Bits) (name : List ℕ) (l g : Option ℕ)
    → l ≡ first_index (variables p) name → g ≡ first_index globals name
    → resolved p name (option_map b l) (option_map a g) ≡ named_entry p (named_store globals p (record { globals = a; locals = b })) name
by_slots globals p a b name l g given1 given2 = search (rules, value_of_slot)

pub returns-in-Some : goal.returns-in-Some
returns-in-Some c =
    let p = c.args.proc.now in
    let old = map entry_of c.args.values.now.items in
    let a = bits_of c.args.store.globals in
    let b = bits_of c.args.store.locals in
    let own : Bool → Entry = λ v. record { owner = Some p; name = c.args.name.now; value = v } in
    let pushed : map entry_of c.push.new.self.items ≡ old ++ own c.bit_of-value.result ∷ [] = search (rules, map-append) in
    pushed
    ∙ ap (λ v. old ++ own v ∷ []) c.bit_of-value.ensures
    ∙ ap (λ es. old ++ es) (by_slots c.args.globals.now p a b c.args.name.now _ _ (sym c.in-Some.is ∙ c.local_slot_of.ensures) refl)

pub returns-in_default-slot_of : goal.returns-in_default-slot_of
returns-in_default-slot_of c =
    let old = map entry_of c.args.values.now.items in
    let a = bits_of c.args.store.globals in
    let b = bits_of c.args.store.locals in
    let local = sym c.in_default.is ∙ c.local_slot_of.ensures in
    let global = sym c.in_default-slot_of.is ∙ c.slot_of.ensures.slot in
    sym (append-nil old) ∙ ap (λ es. old ++ es) (by_slots c.args.globals.now c.args.proc.now a b c.args.name.now _ _ local global)

pub returns : goal.returns
returns c =
    let old = map entry_of c.args.values.now.items in
    let a = bits_of c.args.store.globals in
    let b = bits_of c.args.store.locals in
    let own : Bool → Entry = λ v. record { owner = None; name = c.args.name.now; value = v } in
    let pushed : map entry_of c.push-2.new.self.items ≡ old ++ own c.bit_of-value-2.result ∷ [] = search (rules, map-append) in
    let local = sym c.in_default.is ∙ c.local_slot_of.ensures in
    let global = sym c.in-Some-slot_of.is ∙ c.slot_of.ensures.slot in
    pushed
    ∙ ap (λ v. old ++ own v ∷ []) c.bit_of-value-2.ensures
    ∙ ap (λ es. old ++ es) (by_slots c.args.globals.now c.args.proc.now a b c.args.name.now _ _ local global)
