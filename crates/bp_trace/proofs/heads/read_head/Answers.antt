use Rattle.bp_trace.proofs.Common.{inl, refl, arith, length-map, breaks_after, at_as, both_at, last_limits, limits, seed}
use Rattle.bp_trace.proofs.HeadsRead.{breaks_after_entries, few_entries, is_head}
use Rattle.bp_trace.proofs.heads.read_head.Goals as goal

pub overflow_cast-line : goal.overflow_cast-line
overflow_cast-line c = let few = few_entries c.in-Some.ensures c.in_ok-entries.ensures in let size = length-map c.in_ok-entries.entries.items (λ n. n.now) in omega arith

pub overflow_add-line : goal.overflow_add-line
overflow_add-line c = let few = few_entries c.in-Some.ensures c.in_ok-entries.ensures in let size = length-map c.in_ok-entries.entries.items (λ n. n.now) in omega arith

pub overflow_add-result : goal.overflow_add-result
overflow_add-result c = let few = few_entries c.in-Some.ensures c.in_ok-entries.ensures in let size = length-map c.in_ok-entries.entries.items (λ n. n.now) in omega arith

pub overflow_add-result-in_default-number_line_at-2 : goal.overflow_add-result-in_default-number_line_at-2
overflow_add-result-in_default-number_line_at-2 c = let few = few_entries c.in-Some.ensures c.in_ok-entries.ensures in let size = length-map c.in_ok-entries.entries.items (λ n. n.now) in omega arith

pub overflow_add-result-in_default-seed_at : goal.overflow_add-result-in_default-seed_at
overflow_add-result-in_default-seed_at c = let few = few_entries c.in-Some.ensures c.in_ok-entries.ensures in let size = length-map c.in_ok-entries.entries.items (λ n. n.now) in omega arith

pub overflow_add-result-2 : goal.overflow_add-result-2
overflow_add-result-2 c = let few = few_entries c.in-Some.ensures c.in_ok-entries.ensures in let size = length-map c.in_ok-entries.entries.items (λ n. n.now) in omega arith

pub returns-in_default-2 : goal.returns-in_default-2
returns-in_default-2 c =
    let size = length-map c.in_ok-entries.entries.items (λ n. n.now) in
    breaks_after_entries c.in-Some.ensures c.in_ok-entries.ensures _ 1 (inl (rw c.in_default-2.is at c.in_ok-init.ensures, refl)) (omega arith)

pub returns-in_default-number_line_at : goal.returns-in_default-number_line_at
returns-in_default-number_line_at c =
    let size = length-map c.in_ok-entries.entries.items (λ n. n.now) in
    let init = rw c.in-Some-2.is at c.in_ok-init.ensures in
    let breaks = breaks_after limits 2 1 init (inl (c.in_default-number_line_at.ensures, refl)) refl in
    breaks_after_entries c.in-Some.ensures c.in_ok-entries.ensures _ 2 breaks (omega arith)

pub returns-in_default-number_line_at-2 : goal.returns-in_default-number_line_at-2
returns-in_default-number_line_at-2 c =
    let size = length-map c.in_ok-entries.entries.items (λ n. n.now) in
    let init = rw c.in-Some-2.is at c.in_ok-init.ensures in
    let last = breaks_after last_limits 2 1 c.in-Some-number_line_at.ensures (inl (c.in_default-number_line_at-2.ensures, refl)) refl in
    let breaks = breaks_after limits 3 2 init last refl in
    breaks_after_entries c.in-Some.ensures c.in_ok-entries.ensures _ 3 breaks (omega arith)

pub returns-in_default-seed_at : goal.returns-in_default-seed_at
returns-in_default-seed_at c =
    let size = length-map c.in_ok-entries.entries.items (λ n. n.now) in
    let init = rw c.in-Some-2.is at c.in_ok-init.ensures in
    let seed = breaks_after seed 2 1 c.in-Some-number_line_at-2.ensures (c.in_default-seed_at.ensures, refl) refl in
    let last = breaks_after last_limits 3 2 c.in-Some-number_line_at.ensures seed refl in
    let breaks = breaks_after limits 4 3 init last refl in
    breaks_after_entries c.in-Some.ensures c.in_ok-entries.ensures _ 4 breaks (omega arith)

pub returns : goal.returns
returns c =
    let init = rw c.in-Some-2.is at c.in_ok-init.ensures in
    let size = length-map c.in_ok-entries.entries.items (λ n. n.now) in
    is_head c.args.text.now c.in-Some-seed_at.rest.now _
    (at_as (both_at c.in-Some.ensures (both_at c.in_ok-entries.ensures (both_at init
    (both_at c.in-Some-number_line_at.ensures (both_at c.in-Some-number_line_at-2.ensures c.in-Some-seed_at.ensures))))))
    (omega arith) (omega (arith, size))
