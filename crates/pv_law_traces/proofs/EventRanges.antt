-- Each number in what an event prints is within its type.
use Rattle.std.proofs.Common.{◌≡◌, ℕ, ◌+◌, ◌<◌, ◌≤◌, ◌^◌, Bool, true, false, Some, None, Option, All, List, [], ◌∷◌, refl, arith}
use Rattle.std.specs.Prelude.{nat_le, nat_lt, slice_get}
use Rattle.std.proofs.lemmas.Bool.{leb-false}
use Rattle.std.proofs.lemmas.List.Elements.{All-contains, All-map, All-nil}
use Rattle.std.proofs.lemmas.Option.{get_or_from_slice_get, slice_get_within}
use Rattle.pv_audit.specs.Printed.{IsWithin}
use Rattle.pv_base.specs.declared.limits.TheConstants.{NEVER_GIVEN}
use Rattle.pv_format.specs.Checkpoint.{greatest_number}
use Rattle.pv_format.specs.Contents.{greatest_epoch}
use Rattle.pv_format.specs.Message.{Envelope}
use Rattle.pv_format.specs.Range.{IsEnvelopeWithin}
use Rattle.pv_format.specs.Record.{Record, epoch_begun}
use Rattle.pv_law_step.proofs.StepCases.{if_case}
use Rattle.pv_law_traces.specs.Ranges.{HaveTakenFew, IsNumbered, IsPrintable}
use Rattle.pv_law_traces.proofs.LineRanges.{here-is, here_in, messages-within, one, report-within, site-is, total-within}
use Rattle.pv_law_traces.proofs.NoteRanges.{notes-within}
use Rattle.pv_law_world.specs.Ranges.{IsWorldInRange}
use Rattle.pv_model.specs.Events.{Event}
use Rattle.pv_protocol.specs.Arms.{Reached, attempted, broken_line, calls_of, fires, reached, waits}
use Rattle.pv_protocol.specs.Attempt.{Attempt, Begun, begun, delivered, given, halted, lost, of_checkpoint, of_start, of_step, opened, packed}
use Rattle.pv_protocol.specs.Lines.{Line, line_of}
use Rattle.pv_protocol.specs.Records.{journal_bytes, longer_journal, record_bytes}
use Rattle.pv_protocol.specs.Sound.{IsHereInRange, IsInputInRange, IsSetupInRange}
use Rattle.pv_protocol.specs.Start.{Started, site_start}
use Rattle.pv_protocol.specs.State.{Input, Running, Setup, receive, submit, tick}
use Rattle.pv_protocol.specs.Step.{site_step, step_on}
use Rattle.pv_protocol.specs.WellFormed.{IsWellFormed}
use Rattle.pv_protocol.specs.World.{World, site_at, with_done}
use Rattle.pv_protocol.specs.WorldStep.{ended, transition_of}

module _ (setup : Setup) (setup_fine : IsSetupInRange setup) where
  broken-within : (n : ℕ) (stops : Bool) → n < setup.catalog.sites → All IsWithin (broken_line n stops ∷ [])
  broken-within n true below = one setup setup_fine (Line.stopped n) (site-is setup setup_fine n below)
  broken-within n false below = one setup setup_fine (Line.fault n) (site-is setup setup_fine n below)

  attempted-within : (world : World) (n : ℕ) (attempt : Attempt) (left : Reached) → n < setup.catalog.sites → All IsWithin attempt.lines → All IsWithin (attempted world n attempt left).0
  attempted-within world n attempt (waits arm) below are = are
  attempted-within world n attempt (fires arm) below are = broken-within n arm.stops below

  -- what a site that is up needs to take an input
  record Takes (world : World) (n : ℕ) (input : Input) (running : Running) : Type 0 where
    sound : IsHereInRange setup.catalog.sites (here_in setup setup_fine world n running)
    few : HaveTakenFew running.entries
    good : IsInputInRange setup.catalog.sites (here_in setup setup_fine world n running) input

  given-within : (world : World) (n : ℕ) (input : Input) → n < setup.catalog.sites → (running : Option Running) → ((up : Running) → running ≡ Some up → Takes world n input up)
      → All IsWithin (ended (given setup world n input running)).0
  given-within world n input below None each = one setup setup_fine (Line.down n) (site-is setup setup_fine n below)
  given-within world n input below (Some running) each =
      let takes = each running refl in
      let here = here_in setup setup_fine world n running in
      let attempt = of_step n (site_step setup n (site_at world n).records running input) in
      attempted-within world n attempt (reached (calls_of attempt) (site_at world n).arm) below
      (All-map IsWithin (line_of n) (step_on here input).notes (notes-within setup.catalog.sites here takes.sound takes.few input takes.good))

  start-within : (n : ℕ) (records : List Record) → n < setup.catalog.sites → journal_bytes records ≤ setup.catalog.journal → All IsWithin (of_start n (site_start setup 0 records)).lines
  unfolding site_start
  start-within n records below room =
      let epoch = greatest_epoch records + 1 in
      let site = site-is setup setup_fine n below in
      let Fine = λ (started : Started). All IsWithin (of_start n started).lines in
      if_case Fine (nat_le NEVER_GIVEN epoch) (λ none. one setup setup_fine (Line.spent n) site)
      (λ some.
      let small : epoch < NEVER_GIVEN = leb-false NEVER_GIVEN epoch some in
      if_case Fine (nat_lt setup.catalog.journal (longer_journal 0 records + record_bytes (epoch_begun epoch)))
      (λ long. one setup setup_fine (Line.full n (longer_journal 0 records + record_bytes (epoch_begun epoch))) (site, omega (arith, room, setup_fine.journal)))
      (λ short. one setup setup_fine (Line.started n epoch) (site, omega (arith, small))))

  module _ (world : World) (fine : IsWorldInRange setup world) (printable : IsPrintable setup world) where
    up-takes : (n : ℕ) (input : Input) → ((running : Running) → IsInputInRange setup.catalog.sites (here_in setup setup_fine world n running) input)
        → (up : Running) → (site_at world n).running ≡ Some up → Takes world n input up
    up-takes n input good up is = record { sound = here-is setup setup_fine world fine n up is; few = printable.taken n up is; good = good up }

    delivered-within : (n : ℕ) → n < 2 ^ 64 → (envelope : Option Envelope) → slice_get world.sent n ≡ envelope → All IsWithin (ended (delivered setup world n envelope)).0
    delivered-within n small None is = one setup setup_fine (Line.no_message n) small
    delivered-within n small (Some envelope) is =
        let was : IsEnvelopeWithin setup.catalog.sites envelope =
        All-contains (IsEnvelopeWithin setup.catalog.sites) world.sent envelope fine.sent (n, slice_get_within world.sent n envelope is, get_or_from_slice_get world.sent n envelope envelope is) in
        given-within (with_done world n) envelope.to (receive envelope.from envelope.message) was.to (site_at world envelope.to).running
        (λ up same. let takes = up-takes envelope.to (receive envelope.from envelope.message) (λ running. was) up same in record { sound = takes.sound; few = takes.few; good = takes.good })

    lost-within : (n : ℕ) → n < 2 ^ 64 → (envelope : Option Envelope) → All IsWithin (ended (lost world n envelope)).0
    lost-within n small None = one setup setup_fine (Line.no_message n) small
    lost-within n small (Some envelope) = All-nil IsWithin

    halted-within : (n : ℕ) → n < setup.catalog.sites → (running : Option Running) → All IsWithin (ended (halted world n running)).0
    halted-within n below None = one setup setup_fine (Line.down n) (site-is setup setup_fine n below)
    halted-within n below (Some running) = one setup setup_fine (Line.stopped n) (site-is setup setup_fine n below)

    opened-within : (n : ℕ) → n < setup.catalog.sites → (running : Option Running) → All IsWithin (ended (opened setup world n running)).0
    opened-within n below (Some running) = one setup setup_fine (Line.up n) (site-is setup setup_fine n below)
    opened-within n below None =
        let attempt = of_start n (site_start setup 0 (site_at world n).records) in
        attempted-within world n attempt (reached (calls_of attempt) (site_at world n).arm) below (start-within n (site_at world n).records below (fine.sites n below).room)

    packed-within : (n : ℕ) → n < setup.catalog.sites → (running : Option Running) → All IsWithin (ended (packed world n running)).0
    packed-within n below None = one setup setup_fine (Line.down n) (site-is setup setup_fine n below)
    packed-within n below (Some running) =
        if_case (λ (b : Begun). All IsWithin (ended b).0) (nat_lt (site_at world n).standing.number greatest_number)
        (λ left. let attempt = of_checkpoint (site_at world n).standing running in
        attempted-within world n attempt (reached (calls_of attempt) (site_at world n).arm) below (All-nil IsWithin))
        (λ spent. one setup setup_fine (Line.spent n) (site-is setup setup_fine n below))

    begun-within : (event : Event) → IsWellFormed setup.catalog event → IsNumbered event → All IsWithin (ended (begun setup world event)).0
    unfolding begun
    begun-within (Event.submit n query text program) good numbered =
        given-within world n (submit program) good.0 (site_at world n).running (up-takes n (submit program) (λ running. good.1))
    begun-within (Event.deliver n) good numbered = delivered-within n numbered (slice_get world.sent n) refl
    begun-within (Event.pump most) good numbered = All-nil IsWithin
    begun-within (Event.lose n) good numbered = lost-within n numbered (slice_get world.sent n)
    begun-within (Event.drop n) good numbered = All-nil IsWithin
    begun-within (Event.tick n) good numbered = given-within world n tick good (site_at world n).running (up-takes n tick (λ running. tt))
    begun-within (Event.stop n) good numbered = halted-within n good (site_at world n).running
    begun-within (Event.start n) good numbered = opened-within n good (site_at world n).running
    begun-within (Event.arm n call mode stops) good numbered = All-nil IsWithin
    begun-within (Event.mend n) good numbered = All-nil IsWithin
    begun-within (Event.checkpoint n) good numbered = packed-within n good (site_at world n).running
    begun-within Event.sent good numbered = messages-within setup setup_fine world fine printable.few
    begun-within Event.report good numbered = report-within setup setup_fine world fine printable.ordered
    begun-within Event.total good numbered = total-within setup setup_fine world fine

    pub transition-within : (event : Event) → IsWellFormed setup.catalog event → IsNumbered event → All IsWithin (transition_of setup world event).lines
    unfolding transition_of
    transition-within event good numbered = begun-within event good numbered
