-- The entries are taken one after another, up to the end or to the first fault.
use Rattle.std.proofs.Common.{◌<◌, Ok, Err, length, map, inr, ap, ◌∙◌, arith}
use Rattle.std.proofs.lemmas.Result.{err_from_is_err_and}
use Rattle.pv_audit.specs.Views.{part_of, refused_entry, trace_of}
use Rattle.pv_audit.specs.declared.trace.TraceError.TheVariants.{Malformed}
use Rattle.pv_audit.proofs.LoopLemmas.{fault-there, nothing-so-far, one-entry, printed-there}
use Rattle.pv_audit.proofs.PlanLemmas.{fewer-left}
use Rattle.pv_audit.proofs.ReadLemmas.{gives-trace, nothing-read, refuses-text, trace-read}
use Rattle.pv_script.specs.ReaderView.{before_by}
use Rattle.pv_script.specs.declared.schedule.LineCause.TheVariants.{SitesExpected}
use Rattle.pv_audit.proofs.read.read_trace.Goals as goal

pub loop-entry-init : goal.loop-entry-init
loop-entry-init c =
    let first =
    nothing-so-far c.args.text.now c.new-entries.result (before_by c.new-reader.result) c.new-parts.result.items c.new-entries.ensures c.new-reader.ensures.first c.new-parts.ensures.items in
    (c.new-reader.ensures.limited, first.0, first.1, first.2)

-- ---- one entry

pub loop-entry-smaller : goal.loop-entry-smaller
loop-entry-smaller c =
    let all = ap length (rw c.in-Said.is at c.in-Some.ensures.some) in
    let fewer = fewer-left c.in_ok-read_said-in-Said.ensures.takes.2 in
    let less : length c.read_said.new.entries.numbered < length c.loop-entry.entries.numbered = omega (arith, all, fewer) in
    less

pub loop-entry-preserved : goal.loop-entry-preserved
loop-entry-preserved c =
    let more =
    one-entry c.args.text.now c.loop-entry.entries.numbered (before_by c.loop-entry.reader) c.in-Said.line.number c.in-Said.line.text.now c.next.new.self.numbered (before_by c.read_said.new.reader)
    c.read_said.new.entries.numbered c.loop-entry.parts.items c.read_said.new.parts.items c.loop-entry.invariant.1 c.loop-entry.invariant.2 (rw c.in-Said.is at c.in-Some.ensures.some)
    c.in_ok-read_said-in-Said.ensures.takes c.in_ok-read_said-in-Said.ensures.plans in
    (c.in_ok-read_said-in-Said.ensures.limited, more.0, more.1, c.in_ok-read_said-in-Said.ensures.after_last ∙ c.in-Some.ensures.after_last ∙ c.loop-entry.invariant.3)

-- ---- a printed line that comes first

pub returns-in-Printed-clause-refused : goal.returns-in-Printed-clause-refused
returns-in-Printed-clause-refused c =
    printed-there c.args.text.now c.loop-entry.entries.numbered (before_by c.loop-entry.reader) (map part_of c.loop-entry.parts.items) c.in-Printed.line.number c.in-Printed.line.text.now
    c.next.new.self.numbered _ c.loop-entry.invariant.1 (rw c.in-Printed.is at c.in-Some.ensures.some) c.not_a_trace.ensures

pub returns-in-Printed-clause-gives : goal.returns-in-Printed-clause-gives
returns-in-Printed-clause-gives c =
    gives-trace c.args.text.now trace_of refused_entry (Err c.not_a_trace.result) tt (returns-in-Printed-clause-refused c)

pub returns-in-Printed-clause-refuses : goal.returns-in-Printed-clause-refuses
returns-in-Printed-clause-refuses c =
    refuses-text c.args.text.now trace_of refused_entry (Err c.not_a_trace.result) tt (returns-in-Printed-clause-refused c)

-- ---- a fault

pub returns-in_err-read_said-in-Said-clause-refused : goal.returns-in_err-read_said-in-Said-clause-refused
returns-in_err-read_said-in-Said-clause-refused c =
    let p = err_from_is_err_and c.from_residual.result c.from_residual.ensures.1 in
    rw (p.1, p.2)
    (fault-there c.args.text.now c.loop-entry.entries.numbered (before_by c.loop-entry.reader) (map part_of c.loop-entry.parts.items) c.in-Said.line.number c.in-Said.line.text.now
    c.next.new.self.numbered (refused_entry c.in_err-read_said-in-Said.field-0.0) c.loop-entry.invariant.1 (rw c.in-Said.is at c.in-Some.ensures.some) c.in_err-read_said-in-Said.ensures.fault)

pub returns-in_err-read_said-in-Said-clause-gives : goal.returns-in_err-read_said-in-Said-clause-gives
returns-in_err-read_said-in-Said-clause-gives c =
    let p = err_from_is_err_and c.from_residual.result c.from_residual.ensures.1 in
    gives-trace c.args.text.now trace_of refused_entry c.from_residual.result (rw p.1 tt) (returns-in_err-read_said-in-Said-clause-refused c)

pub returns-in_err-read_said-in-Said-clause-refuses : goal.returns-in_err-read_said-in-Said-clause-refuses
returns-in_err-read_said-in-Said-clause-refuses c =
    let p = err_from_is_err_and c.from_residual.result c.from_residual.ensures.1 in
    refuses-text c.args.text.now trace_of refused_entry c.from_residual.result (rw p.1 tt) (returns-in_err-read_said-in-Said-clause-refused c)

-- ---- a text without entries

pub returns-in_default-into_catalog-clause-refused : goal.returns-in_default-into_catalog-clause-refused
returns-in_default-into_catalog-clause-refused c =
    inr (nothing-read c.args.text.now c.loop-entry.entries.numbered (before_by c.loop-entry.reader) (map part_of c.loop-entry.parts.items) c.after_last.result c.loop-entry.invariant.1
    c.in_default.ensures.none c.in_default-into_catalog.ensures.none (c.after_last.ensures ∙ c.in_default.ensures.after_last ∙ c.loop-entry.invariant.3))

pub returns-in_default-into_catalog-clause-gives : goal.returns-in_default-into_catalog-clause-gives
returns-in_default-into_catalog-clause-gives c =
    gives-trace c.args.text.now trace_of refused_entry (Err (Malformed c.after_last.result SitesExpected)) tt (returns-in_default-into_catalog-clause-refused c)

pub returns-in_default-into_catalog-clause-refuses : goal.returns-in_default-into_catalog-clause-refuses
returns-in_default-into_catalog-clause-refuses c =
    refuses-text c.args.text.now trace_of refused_entry (Err (Malformed c.after_last.result SitesExpected)) tt (returns-in_default-into_catalog-clause-refused c)

-- ---- the end

pub returns-clause-given : goal.returns-clause-given
returns-clause-given c =
    trace-read c.args.text.now c.loop-entry.entries.numbered (before_by c.loop-entry.reader) (map part_of c.loop-entry.parts.items) c.in-Some-into_catalog.catalog c.in-Some-into_catalog.catalog.sites
    c.loop-entry.invariant.1 c.in_default.ensures.none c.in-Some-into_catalog.ensures.some.1 c.in-Some-into_catalog.ensures.some.0

pub returns-clause-gives : goal.returns-clause-gives
returns-clause-gives c =
    gives-trace c.args.text.now trace_of refused_entry (Ok (record { catalog = c.in-Some-into_catalog.catalog; parts = c.loop-entry.parts })) (returns-clause-given c) tt

pub returns-clause-refuses : goal.returns-clause-refuses
returns-clause-refuses c =
    refuses-text c.args.text.now trace_of refused_entry (Ok (record { catalog = c.in-Some-into_catalog.catalog; parts = c.loop-entry.parts })) (returns-clause-given c) tt
