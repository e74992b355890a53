-- A line declares something, or is an event with what stands below it.
use Rattle.std.proofs.Common.{[], ◌∷◌, inr, map, sym, ap, ◌∙◌, append-nil}
use Rattle.pv_audit.specs.Reading.{TakesEntry}
use Rattle.pv_audit.specs.Views.{part_of}
use Rattle.pv_audit.proofs.BelowLemmas.{map-push}
use Rattle.pv_audit.proofs.SaidLemmas.{broken-said, cut-short-said, said-fault, takes-said}
use Rattle.pv_script.specs.LineView.{line_of}
use Rattle.pv_script.specs.ReaderView.{before_by}
use Rattle.pv_script.specs.ScheduleView.{event_of}
use Rattle.pv_audit.proofs.read.read_said.Goals as goal

pub returns-in-Ok-None-clause-takes : goal.returns-in-Ok-None-clause-takes
returns-in-Ok-None-clause-takes c = (
  [],
  sym (append-nil (map part_of c.args.parts.now.items)),
  TakesEntry.declared (before_by c.read-read.new.self) (rw c.in-Ok-None.field-0-is at c.in-Ok-None.ensures.declares),
)

pub returns-in-Err-clause-fault : goal.returns-in-Err-clause-fault
returns-in-Err-clause-fault c =
    rw c.into.ensures (said-fault (before_by c.args.reader.now) c.args.line.number c.args.line.text.now c.args.entries.now.numbered c.in-Err.error c.in-Err.ensures.fault)

pub returns-then-not-is_whole-clause-fault : goal.returns-then-not-is_whole-clause-fault
returns-then-not-is_whole-clause-fault c =
    let found = rw c.in-Ok-Some.field-0-is at c.in-Ok-Some.ensures.declares in
    let below = c.in_ok-below.ensures.below in
    let other = rw c.if-not-is_whole.true at c.is_whole.ensures in
    cut-short-said (before_by c.args.reader.now) (before_by c.read-read.new.self) c.args.line.number c.args.line.text.now below.0 c.args.entries.now.numbered c.read_below.new.entries.numbered
    c.in-Some.catalog.now (event_of c.in-Ok-Some.event) found.0 found.1 c.in-Some.ensures.some below.1 _ (other below.0 below.2) c.not_a_trace.ensures

pub returns-in-Some-broken-clause-fault : goal.returns-in-Some-broken-clause-fault
returns-in-Some-broken-clause-fault c =
    let found = rw c.in-Ok-Some.field-0-is at c.in-Ok-Some.ensures.declares in
    let below = c.in_ok-below.ensures.below in
    let whole = rw c.if-not-is_whole.false at c.is_whole.ensures in
    broken-said (before_by c.args.reader.now) (before_by c.read-read.new.self) c.args.line.number c.args.line.text.now below.0 c.args.entries.now.numbered c.read_below.new.entries.numbered
    c.in-Some.catalog.now (event_of c.in-Ok-Some.event) found.0 found.1 c.in-Some.ensures.some below.1 (map line_of c.in_ok-below.below.lines.items) c.in_ok-below.below.broken c.in_ok-below.below.more
    c.in-Some-broken.number _ (whole below.0 below.2) below.2 c.in-Some-broken.is c.not_a_trace-in-Some-broken.ensures

pub returns-clause-takes : goal.returns-clause-takes
returns-clause-takes c =
    let found = rw c.in-Ok-Some.field-0-is at c.in-Ok-Some.ensures.declares in
    let below = c.in_ok-below.ensures.below in
    let whole = rw c.if-not-is_whole.false at c.is_whole.ensures in (
      record { event = event_of c.in-Ok-Some.event; lines = map line_of c.in_ok-below.below.lines.items } ∷ [],
      ap (map part_of) c.in_ok-push.ensures.items ∙ map-push part_of c.args.parts.now.items _,
      takes-said (before_by c.args.reader.now) (before_by c.read-read.new.self) c.args.line.number c.args.line.text.now below.0 c.args.entries.now.numbered c.read_below.new.entries.numbered
          c.in-Some.catalog.now (event_of c.in-Ok-Some.event) found.0 found.1 c.in-Some.ensures.some below.1 (map line_of c.in_ok-below.below.lines.items) c.in_ok-below.below.broken c.in_ok-below.below.more
          (whole below.0 below.2) below.2 c.in_default-broken.is,
    )

pub returns-clause-plans : goal.returns-clause-plans
returns-clause-plans c = inr (_, c.in_ok-push.ensures.items, rw c.in-Ok-Some.field-0-is at c.in-Ok-Some.ensures.plan)
