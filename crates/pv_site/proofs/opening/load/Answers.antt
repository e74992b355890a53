-- What was read is in range, and the log is by as many bytes longer as was read.
use Rattle.std.proofs.Common.{◌∙◌, ap, ℕ}
use Rattle.pv_format.specs.Range.{IsRecordInRange}
use Rattle.pv_law_step.proofs.Lists.{all-from}
use Rattle.pv_replay.specs.Values.{records_of}
use Rattle.pv_site.proofs.OpenLemmas.{records-in-range}
use Rattle.pv_site.proofs.opening.load.Goals as goal

pub of_longer-requires-clause-range : goal.of_longer-requires-clause-range
of_longer-requires-clause-range g c =
    let reads = c.in-Ok.ensures.read.0.0 in
    all-from IsRecordInRange (records_of c.in-Ok.found.past.records.items) (records-in-range (records_of c.in-Ok.found.past.records.items) reads.contents reads.spelled)

pub returns-in-Ok-of_longer-clause-loaded : goal.returns-in-Ok-of_longer-clause-loaded
returns-in-Ok-of_longer-clause-loaded g c =
    let records = records_of c.in-Ok.found.past.records.items in
    let read = c.in-Ok.ensures.read.0 in
    let taken = c.in-Ok-of_longer.ensures in (
      records,
      (
        read.0,
        read.1,
        taken.0 ∙ ap (λ (surplus : ℕ). record { me = c.args.site.0; catalog = c.args.catalog.now; records = records; surplus = surplus }) read.2,
      ),
      taken.1,
    )
