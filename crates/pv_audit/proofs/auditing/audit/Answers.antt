-- One part after another, up to the first report in which something is found.
use Rattle.std.proofs.Common.{◌≡◌, ◌+◌, ◌<◌, ◌≤◌, ℕ, List, [], ◌++◌, length, map, take, drop, get_or, sym, ap, subst, ◌∙◌, arith, length-append}
use Rattle.std.specs.Prelude.{All}
use Rattle.std.proofs.lemmas.List.{length-map, take_all}
use Rattle.std.proofs.lemmas.List.Elements.{All-append}
use Rattle.pv_audit.specs.Findings.{IsFine, IsVerdict}
use Rattle.pv_audit.specs.Kept.{KeepsFirst}
use Rattle.pv_audit.specs.Reports.{Report, report_in, reports_after}
use Rattle.pv_audit.specs.VerdictView.{verdict_of}
use Rattle.pv_audit.specs.Views.{part_of, trace_of}
use Rattle.pv_audit.specs.declared.trace.TracePart.{TracePart}
use Rattle.pv_audit.proofs.FindingLemmas.{all-fine, fine-says, one-verdict}
use Rattle.pv_audit.proofs.FitLemmas.{parts-few, trace-fits}
use Rattle.pv_audit.proofs.PartSteps.{fits-items, fits-polyvalues, next-fits, next-holds, next-mapped, next-split, one-report}
use Rattle.pv_audit.proofs.ReportCounts.{all-agree, begun-more, begun_after, next-finding, reports-more}
use Rattle.pv_model.specs.Serial.{Ordered}
use Rattle.pv_script.specs.ScheduleView.{HasPlan}
use Rattle.pv_audit.proofs.auditing.audit.Goals as goal

inside : (parts listed : List TracePart) (i : ℕ) → listed ≡ parts → i < length listed → i < length parts
inside parts listed i same within = subst (λ (l : List TracePart). i < length l) same within

standing : (parts listed : List TracePart) (i : ℕ) (part : TracePart) → listed ≡ parts → part ≡ get_or listed i part → part ≡ get_or parts i part
standing parts listed i part same at = at ∙ ap (λ (l : List TracePart). get_or l i part) same

pub audit_part-requires-clause-items : goal.audit_part-requires-clause-items
audit_part-requires-clause-items c =
    let trace = c.args.trace.now in
    let i = c.loop-part.part-index in
    let part = c.part-item.result in
    let within = inside trace.parts.items c.deref-part-items.result.now i c.deref-part-items.ensures.value c.loop-part-test.true in
    let at = standing trace.parts.items c.deref-part-items.result.now i part c.deref-part-items.ensures.value c.part-item.is in
    fits-items (length trace.catalog.items) (part_of part).lines
    (next-fits trace.parts.items i part within at (length trace.catalog.items) (trace-fits c.requires.read.0 (trace_of trace) c.requires.read.2))

pub audit_part-requires-clause-polyvalues : goal.audit_part-requires-clause-polyvalues
audit_part-requires-clause-polyvalues c =
    let trace = c.args.trace.now in
    let i = c.loop-part.part-index in
    let part = c.part-item.result in
    let within = inside trace.parts.items c.deref-part-items.result.now i c.deref-part-items.ensures.value c.loop-part-test.true in
    let at = standing trace.parts.items c.deref-part-items.result.now i part c.deref-part-items.ensures.value c.part-item.is in
    fits-polyvalues (length trace.catalog.items) (part_of part).lines
    (next-fits trace.parts.items i part within at (length trace.catalog.items) (trace-fits c.requires.read.0 (trace_of trace) c.requires.read.2))

pub audit_part-requires-clause-few : goal.audit_part-requires-clause-few
audit_part-requires-clause-few c =
    let trace = c.args.trace.now in
    let within = inside trace.parts.items c.deref-part-items.result.now c.loop-part.part-index c.deref-part-items.ensures.value c.loop-part-test.true in
    let few = parts-few c.requires.read.0 (trace_of trace) c.requires.read.1 c.requires.read.2 in
    let long = length-map trace.parts.items part_of in
    let counted = c.loop-part.invariant.few in
    omega (arith, within, few, long, counted)

pub returns-in-Some-clause-verdict : goal.returns-in-Some-clause-verdict
returns-in-Some-clause-verdict c =
    let trace = c.args.trace.now in
    let i = c.loop-part.part-index in
    let part = c.part-item.result in
    let within = inside trace.parts.items c.deref-part-items.result.now i c.deref-part-items.ensures.value c.loop-part-test.true in
    let at = standing trace.parts.items c.deref-part-items.result.now i part c.deref-part-items.ensures.value c.part-item.is in
    let front = map part_of (take i trace.parts.items) in
    let found = rw c.in-Some.is at (c.in_ok-verdict.ensures (begun_after [] front) c.loop-part.invariant.first) in
    subst (IsVerdict (trace_of trace)) (sym found.3)
    (next-finding (trace_of trace) front (map part_of (drop (i + 1) trace.parts.items)) (part_of part) found.0 found.1 (c.loop-part.reports + 1)
    (next-split trace.parts.items i part within at) found.2 (ap (λ (n : ℕ). n + 1) c.loop-part.invariant.counted) c.loop-part.invariant.fine found.4)

pub returns-in-Some-clause-agrees : goal.returns-in-Some-clause-agrees
returns-in-Some-clause-agrees c = λ count same. all-fine (trace_of c.args.trace.now) (verdict_of c.in-Some.verdict) count (returns-in-Some-clause-verdict c) same

pub returns-in-Some-clause-says_so : goal.returns-in-Some-clause-says_so
returns-in-Some-clause-says_so c = λ fine. fine-says (trace_of c.args.trace.now) (verdict_of c.in-Some.verdict) (returns-in-Some-clause-verdict c) fine

pub returns-in-Some-clause-only : goal.returns-in-Some-clause-only
returns-in-Some-clause-only c = λ other is. one-verdict (trace_of c.args.trace.now) (verdict_of c.in-Some.verdict) other (returns-in-Some-clause-verdict c) is

pub loop-part-preserved : goal.loop-part-preserved
loop-part-preserved c =
    let trace = c.args.trace.now in
    let i = c.loop-part.part-index in
    let part = c.part-item.result in
    let within = inside trace.parts.items c.deref-part-items.result.now i c.deref-part-items.ensures.value c.loop-part-test.true in
    let at = standing trace.parts.items c.deref-part-items.result.now i part c.deref-part-items.ensures.value c.part-item.is in
    let front = map part_of (take i trace.parts.items) in
    let requests = begun_after [] front in
    let told = report_in requests (part_of part).event (part_of part).lines in
    let found = rw c.in_default.is at (c.in_ok-verdict.ensures requests c.loop-part.invariant.first) in
    let next = next-mapped trace.parts.items i part within at in
    let more : reports_after [] (map part_of (take (i + 1) trace.parts.items)) ≡ reports_after [] front ++ told = ap (reports_after []) next ∙ reports-more front (part_of part) in
    record {
      first = subst (λ (kept : List Ordered). KeepsFirst c.take.new.self kept) (sym (ap (begun_after []) next ∙ begun-more [] front (part_of part)))
          (c.in_ok-take.ensures.first requests c.loop-part.invariant.first);
      plans = c.in_ok-take.ensures.plans trace.catalog c.loop-part.invariant.plans
          (next-holds trace.parts.items i part within at (λ (p : TracePart). HasPlan trace.catalog p.event) c.requires.plans);
      few = let one = one-report requests (part_of part).event (part_of part).lines in
          let before = c.loop-part.invariant.few in
          let counted = found.0 in
          omega (arith, one, before, counted);
      counted = found.0
          ∙ ap (λ (n : ℕ). n + length told) c.loop-part.invariant.counted
          ∙ sym (ap (λ (l : List Report). length l) more ∙ length-append (reports_after [] front) told);
      fine = subst (λ (l : List Report). All (IsFine trace.catalog) l) (sym more) (All-append (IsFine trace.catalog) (reports_after [] front) told c.loop-part.invariant.fine found.1);
    }

pub returns-clause-verdict : goal.returns-clause-verdict
returns-clause-verdict c =
    let trace = c.args.trace.now in
    let all : take c.loop-part.part-index trace.parts.items ≡ trace.parts.items =
    take_all c.loop-part.part-index trace.parts.items (subst (λ (l : List TracePart). length l ≤ c.loop-part.part-index) c.deref-part-items.ensures.value c.loop-part-test.false) in
    all-agree (trace_of trace) c.loop-part.reports
    (subst (λ (l : List TracePart). c.loop-part.reports ≡ length (reports_after [] (map part_of l))) all c.loop-part.invariant.counted)
    (subst (λ (l : List TracePart). All (IsFine trace.catalog) (reports_after [] (map part_of l))) all c.loop-part.invariant.fine)

pub returns-clause-agrees : goal.returns-clause-agrees
returns-clause-agrees c = λ count same. all-fine (trace_of c.args.trace.now) _ count (returns-clause-verdict c) same

pub returns-clause-says_so : goal.returns-clause-says_so
returns-clause-says_so c = λ fine. fine-says (trace_of c.args.trace.now) _ (returns-clause-verdict c) fine

pub returns-clause-only : goal.returns-clause-only
returns-clause-only c = λ other is. one-verdict (trace_of c.args.trace.now) _ other (returns-clause-verdict c) is
