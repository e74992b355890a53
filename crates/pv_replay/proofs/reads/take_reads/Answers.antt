-- The count, and then so many items.
use Rattle.std.proofs.Common.{◌≡◌, ℕ, length, sym, subst}
use Rattle.std.proofs.lemmas.Result.{err_from_is_err_and, IfErr-weaker}
use Rattle.pv_format.specs.Layout.{Layout, counted_layout, entries_layout, polyvalue_then}
use Rattle.pv_format.specs.Form.{Form, SpellsIn}
use Rattle.pv_format.specs.Spelling.{◌followed_by◌, IsAllowed, SpellsEntriesFrom, is_count_from}
use Rattle.pv_fields.specs.Decoding.{Passes, Stops}
use Rattle.pv_fields.proofs.PartLemmas.{ok_from_both, passes_after_number, stops_after_number, stops_at_number}
use Rattle.pv_model.specs.Alternatives.{Read}
use Rattle.pv_replay.specs.Faults.{fault_of}
use Rattle.pv_replay.specs.Values.{form_of}
use Rattle.pv_replay.proofs.LeftLemmas.{gone_further}
use Rattle.pv_replay.proofs.reads.take_reads.Goals as goal

abbrev after_count : Form → ℕ → Layout → Layout
after_count form count next = entries_layout count (polyvalue_then form) 0 next

pub returns-in_err-count-clause-stops : goal.returns-in_err-count-clause-stops
returns-in_err-count-clause-stops c =
    let p = err_from_is_err_and c.from_residual.result c.from_residual.ensures.1 in
    rw (p.1, p.2)
    (stops_at_number 1 (is_count_from c.args.fewest) (after_count (form_of c.args.form)) c.args.take.now (fault_of c.in_err-count.field-0.0) c.in_err-count.ensures.stops)

pub returns-clause-passes : goal.returns-clause-passes
returns-clause-passes c =
    ok_from_both c.take_counted_reads.result (λ reads. length reads.items ≡ c.in_ok-count.count)
    (λ reads. Passes (SpellsEntriesFrom (λ (entry : Read). SpellsIn (form_of c.args.form) entry.cases) (λ entry. entry.item) 0 reads.items) (entries_layout c.in_ok-count.count (polyvalue_then (form_of c.args.form)) 0) c.take_count.new.take c.take_counted_reads.new.take) _
    (λ reads counted passes.
    subst (λ (n : ℕ). Passes (IsAllowed 1 (is_count_from c.args.fewest) n followed_by SpellsEntriesFrom (λ (entry : Read). SpellsIn (form_of c.args.form) entry.cases) (λ entry. entry.item) 0 reads.items) (counted_layout c.args.fewest (polyvalue_then (form_of c.args.form)))
    c.args.take.now c.take_counted_reads.new.take) (sym counted)
    (passes_after_number (IsAllowed 1 (is_count_from c.args.fewest) c.in_ok-count.count) 1 (is_count_from c.args.fewest) c.in_ok-count.count (after_count (form_of c.args.form)) c.args.take.now c.take_count.new.take
    c.in_ok-count.ensures.passes (SpellsEntriesFrom (λ (entry : Read). SpellsIn (form_of c.args.form) entry.cases) (λ entry. entry.item) 0 reads.items) c.take_counted_reads.new.take passes))
    c.take_counted_reads.ensures.counted c.take_counted_reads.ensures.passes

pub returns-clause-stops : goal.returns-clause-stops
returns-clause-stops c =
    IfErr-weaker c.take_counted_reads.result (λ e. Stops (entries_layout c.in_ok-count.count (polyvalue_then (form_of c.args.form)) 0) c.take_count.new.take (fault_of e)) _
    (λ e stops.
    stops_after_number (IsAllowed 1 (is_count_from c.args.fewest) c.in_ok-count.count) 1 (is_count_from c.args.fewest) c.in_ok-count.count (after_count (form_of c.args.form)) c.args.take.now c.take_count.new.take
    c.in_ok-count.ensures.passes (fault_of e) stops)
    c.take_counted_reads.ensures.stops

pub returns-clause-left : goal.returns-clause-left
returns-clause-left c = gone_further c.args.take.now c.take_count.new.take c.take_counted_reads.new.take c.take_count.ensures.left c.take_counted_reads.ensures.left
