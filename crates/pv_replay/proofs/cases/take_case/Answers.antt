-- The count, so many literals, and the value.
use Rattle.std.proofs.Common.{Some, ℕ, ℤ, sym, subst, rules, arith}
use Rattle.std.proofs.lemmas.Int.{to_z-of_z}
use Rattle.std.proofs.lemmas.Result.{err_from_is_err_and}
use Rattle.std.specs.Int.{w64}
use Rattle.std.specs.Int.RustNames.{FitsSigned}
use Rattle.pv_base.specs.BigEndian.{IsNumber, IsSigned}
use Rattle.pv_bytes.specs.Reading.{Rest}
use Rattle.pv_format.specs.FirstFault.{short}
use Rattle.pv_format.specs.Layout.{Layout, any, number_then, repeated, literal_layout, case_layout}
use Rattle.pv_format.specs.OldSpelling.{SpellsLiteral, SpellsCase}
use Rattle.pv_format.specs.Spelling.{◌followed_by◌, SpellsEach}
use Rattle.pv_fields.specs.Decoding.{Passes}
use Rattle.pv_replay.specs.Faults.{fault_of}
use Rattle.pv_fields.proofs.PartLemmas.{number_any, passes_both, passes_after_number, stops_first, stops_second, stops_after_number, stops_at_number, stops_any, stops_short}
use Rattle.pv_fields.proofs.PolyvalueLemmas.{passes_signed}
use Rattle.pv_replay.proofs.LeftLemmas.{gone_further, gone_nowhere}
use Rattle.pv_replay.proofs.cases.take_case.Goals as goal

-- What comes after the count of the literals.
abbrev after_count : ℕ → Layout → Layout
after_count count next = repeated count literal_layout (number_then 8 any (λ _. next))

abbrev value_layout : Layout → Layout
value_layout next = number_then 8 any (λ _. next)

pub returns-in_err-count-clause-stops : goal.returns-in_err-count-clause-stops
returns-in_err-count-clause-stops c =
    let p = err_from_is_err_and c.from_residual.result c.from_residual.ensures.1 in
    rw (p.1, p.2)
    (stops_at_number 1 any after_count c.args.take.now (Some (short c.in_err-count.field-0.0.0))
    (stops_short 1 any c.args.take.now c.u8.new.self c.in_err-count.field-0.0 c.in_err-count.ensures.short))

pub returns-in_err-when-clause-stops : goal.returns-in_err-when-clause-stops
returns-in_err-when-clause-stops c =
    let p = err_from_is_err_and c.from_residual-in_err-when.result c.from_residual-in_err-when.ensures.1 in
    rw (p.1, p.2)
    (stops_after_number (IsNumber 1 c.in_ok-count.count) 1 any c.in_ok-count.count after_count c.args.take.now c.u8.new.self
    (number_any 1 c.in_ok-count.count c.args.take.now c.u8.new.self c.in_ok-count.ensures.taken (omega arith)) (fault_of c.in_err-when.field-0.0)
    (stops_first (repeated c.in_ok-count.count literal_layout) value_layout c.u8.new.self (fault_of c.in_err-when.field-0.0) c.in_err-when.ensures.stops))

pub returns-in_err-value-clause-stops : goal.returns-in_err-value-clause-stops
returns-in_err-value-clause-stops c =
    let p = err_from_is_err_and c.from_residual-in_err-value.result c.from_residual-in_err-value.ensures.1 in
    rw (p.1, p.2)
    (stops_after_number (IsNumber 1 c.in_ok-count.count) 1 any c.in_ok-count.count after_count c.args.take.now c.u8.new.self
    (number_any 1 c.in_ok-count.count c.args.take.now c.u8.new.self c.in_ok-count.ensures.taken (omega arith)) (Some (short c.in_err-value.field-0.0.0))
    (stops_second (SpellsEach SpellsLiteral c.in_ok-when.when.items) (repeated c.in_ok-count.count literal_layout) value_layout c.u8.new.self c.take_literals.new.take
    (Some (short c.in_err-value.field-0.0.0)) c.in_ok-when.ensures.passes
    (stops_any 8 c.take_literals.new.take c.i64.new.self c.in_err-value.field-0.0 c.in_err-value.ensures.short)))

pub returns-clause-passes : goal.returns-clause-passes
returns-clause-passes c =
    let fits : FitsSigned w64 c.in_ok-value.value = search rules in
    let old : Rest = c.args.take.now in
    let new : Rest = c.i64.new.self in
    let passes = passes_after_number (IsNumber 1 c.in_ok-count.count) 1 any c.in_ok-count.count after_count old c.u8.new.self
    (number_any 1 c.in_ok-count.count old c.u8.new.self c.in_ok-count.ensures.taken (omega arith))
    (SpellsEach SpellsLiteral c.in_ok-when.when.items followed_by IsSigned c.in_ok-value.value) new
    (passes_both (SpellsEach SpellsLiteral c.in_ok-when.when.items) (IsSigned c.in_ok-value.value) (repeated c.in_ok-count.count literal_layout) value_layout
    c.u8.new.self c.take_literals.new.take new c.in_ok-when.ensures.passes
    (passes_signed c.in_ok-value.value c.take_literals.new.take new c.in_ok-value.ensures.taken fits)) in
    subst (λ (value : ℤ). Passes (SpellsCase (record { when = c.in_ok-when.when.items; value = value })) case_layout old new) (sym (to_z-of_z w64 c.in_ok-value.value fits))
    (subst (λ (n : ℕ). Passes (IsNumber 1 n followed_by SpellsEach SpellsLiteral c.in_ok-when.when.items followed_by IsSigned c.in_ok-value.value) case_layout old new)
    (sym c.in_ok-when.ensures.counted) passes)

pub returns-in_err-when-clause-left : goal.returns-in_err-when-clause-left
returns-in_err-when-clause-left c = gone_further c.args.take.now c.u8.new.self c.take_literals.new.take (_, c.in_ok-count.ensures.taken) c.take_literals.ensures.left

pub returns-in_err-value-clause-left : goal.returns-in_err-value-clause-left
returns-in_err-value-clause-left c =
    gone_further c.args.take.now c.u8.new.self c.i64.new.self (_, c.in_ok-count.ensures.taken)
    (gone_further c.u8.new.self c.take_literals.new.take c.i64.new.self c.take_literals.ensures.left
    (gone_nowhere c.take_literals.new.take c.i64.new.self c.in_err-value.ensures.short.stays))

pub returns-clause-left : goal.returns-clause-left
returns-clause-left c =
    gone_further c.args.take.now c.u8.new.self c.i64.new.self (_, c.in_ok-count.ensures.taken)
    (gone_further c.u8.new.self c.take_literals.new.take c.i64.new.self c.take_literals.ensures.left (_, c.in_ok-value.ensures.taken))
