-- A text with an event is the schedule of what was read.
use Rattle.std.proofs.Common.{map}
use Rattle.pv_script.specs.ScheduleView.{event_of}
use Rattle.pv_script.proofs.CatalogTextLemmas.{some-events}
use Rattle.pv_script.proofs.ScheduleLemmas.{IsSchedule-read}
use Rattle.pv_script.proofs.catalog_text.CatalogText.read.Goals as goal

pub returns-then-not-is_empty-clause-events : goal.returns-then-not-is_empty-clause-events
returns-then-not-is_empty-clause-events c =
    let said = c.in_ok-said.said in
    let events = c.in_ok-said.events in (
      record { catalog = said.catalog; events = map event_of events.items },
      IsSchedule-read c.args.text.now said (map event_of events.items) c.in_ok-said.ensures.limited c.in_ok-said.ensures.are,
      λ none. some-events events.items events.len c.is_empty.result events.ok.0 c.is_empty.ensures c.if-not-is_empty.true none,
    )
