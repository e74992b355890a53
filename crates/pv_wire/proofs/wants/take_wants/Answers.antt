-- The count, and then so many items.
use Rattle.std.proofs.Common.{◌≡◌, ℕ, length, sym, subst}
use Rattle.std.proofs.lemmas.Result.{err_from_is_err_and, IfErr-weaker}
use Rattle.pv_format.specs.Layout.{Layout, counted_layout, entries_layout, truth_layout}
use Rattle.pv_format.specs.Spelling.{◌followed_by◌, IsAllowed, SpellsEntriesFrom, is_count_from}
use Rattle.pv_fields.specs.Decoding.{Passes, Stops}
use Rattle.pv_fields.proofs.PartLemmas.{ok_from_both, passes_after_number, stops_after_number, stops_at_number}
use Rattle.pv_base.specs.Want.{Want}
use Rattle.pv_format.specs.Spelling.{IsTruth}
use Rattle.pv_replay.specs.Faults.{fault_of}
use Rattle.pv_wire.proofs.wants.take_wants.Goals as goal

abbrev after_count : ℕ → Layout → Layout
after_count count next = entries_layout count truth_layout 0 next

pub returns-in_err-count-clause-stops : goal.returns-in_err-count-clause-stops
returns-in_err-count-clause-stops c =
    let p = err_from_is_err_and c.from_residual.result c.from_residual.ensures.1 in
    rw (p.1, p.2)
    (stops_at_number 1 (is_count_from 1) after_count c.args.take.now (fault_of c.in_err-count.field-0.0) c.in_err-count.ensures.stops)

pub returns-clause-passes : goal.returns-clause-passes
returns-clause-passes c =
    ok_from_both c.take_counted_wants.result (λ wants. length wants.items ≡ c.in_ok-count.count)
    (λ wants. Passes (SpellsEntriesFrom (λ (entry : Want). IsTruth entry.exclusive) (λ entry. entry.item) 0 wants.items) (entries_layout c.in_ok-count.count truth_layout 0) c.take_count.new.take c.take_counted_wants.new.take) _
    (λ wants counted passes.
    subst (λ (n : ℕ). Passes (IsAllowed 1 (is_count_from 1) n followed_by SpellsEntriesFrom (λ (entry : Want). IsTruth entry.exclusive) (λ entry. entry.item) 0 wants.items) (counted_layout 1 truth_layout)
    c.args.take.now c.take_counted_wants.new.take) (sym counted)
    (passes_after_number (IsAllowed 1 (is_count_from 1) c.in_ok-count.count) 1 (is_count_from 1) c.in_ok-count.count after_count c.args.take.now c.take_count.new.take
    c.in_ok-count.ensures.passes (SpellsEntriesFrom (λ (entry : Want). IsTruth entry.exclusive) (λ entry. entry.item) 0 wants.items) c.take_counted_wants.new.take passes))
    c.take_counted_wants.ensures.counted c.take_counted_wants.ensures.passes

pub returns-clause-stops : goal.returns-clause-stops
returns-clause-stops c =
    IfErr-weaker c.take_counted_wants.result (λ e. Stops (entries_layout c.in_ok-count.count truth_layout 0) c.take_count.new.take (fault_of e)) _
    (λ e stops.
    stops_after_number (IsAllowed 1 (is_count_from 1) c.in_ok-count.count) 1 (is_count_from 1) c.in_ok-count.count after_count c.args.take.now c.take_count.new.take
    c.in_ok-count.ensures.passes (fault_of e) stops)
    c.take_counted_wants.ensures.stops
