-- The lines of a run name only items of its catalog.
use Rattle.std.proofs.Common.{ℕ, ℤ, zero, suc, ◌+◌, ◌≤◌, ◌<◌, Bool, true, false, Some, None, Option, All, List, [], ◌∷◌, ◌++◌, filter, length, arith}
use Rattle.std.specs.Prelude.{nat_lt, if◌then◌else◌, slice_get}
use Rattle.std.specs.List.{flat_map}
use Rattle.std.proofs.lemmas.List.Elements.{All-append, All-cons, All-map, All-nil}
use Rattle.pv_base.specs.Catalog.{Item}
use Rattle.pv_base.specs.Named.{names_of}
use Rattle.pv_base.specs.Polyvalue.{Case}
use Rattle.pv_base.specs.declared.txn.TxnId.{TxnId}
use Rattle.pv_format.specs.Checkpoint.{greatest_number}
use Rattle.pv_format.specs.Message.{Envelope, txn_of}
use Rattle.pv_law_lines.proofs.NoteItems.{note-fine}
use Rattle.pv_law_step.proofs.Lists.{all-from}
use Rattle.pv_law_step.proofs.StepCases.{if_case}
use Rattle.pv_law_world.proofs.EventView.{by-beginning}
use Rattle.pv_law_world.specs.EventView.{Beginning, Printed, lines_printed, begun_by}
use Rattle.pv_model.specs.Events.{Event}
use Rattle.pv_model.specs.PossibleAnswers.{sums}
use Rattle.pv_protocol.specs.Arms.{broken_line, Reached, waits, fires, reached, calls_of, attempted}
use Rattle.pv_protocol.specs.Attempt.{Attempt, Begun, begun, given, delivered, lost, halted, opened, packed, of_start, of_step, of_checkpoint}
use Rattle.pv_protocol.specs.Committed.{is_committed, is_open}
use Rattle.pv_format.specs.Record.{Record}
use Rattle.pv_protocol.specs.Here.{Here}
use Rattle.pv_protocol.specs.Lines.{Line, kind_of, line_of, lines_of}
use Rattle.pv_protocol.specs.Pump.{deliveries, next_fresh, enough, with_fresh}
use Rattle.pv_protocol.specs.Report.{Reading, cases, locked, down, item_line, item_lines, readings_from, reading_of, total_from, total_of, report_of, sent_from, sent_lines, readings, txns_in_order}
use Rattle.pv_protocol.specs.Run.{transitions_of, lines_of_transitions}
use Rattle.pv_protocol.specs.Start.{Started, starts, too_long, no_epoch, site_start}
use Rattle.pv_protocol.specs.State.{Setup, Running, Input, receive}
use Rattle.pv_protocol.specs.Step.{site_step, step_on}
use Rattle.pv_protocol.specs.World.{World, site_at, with_done}
use Rattle.pv_protocol.specs.WorldStep.{transition_of, ended}
use Rattle.pv_report.specs.NamesOnlyItems.{NamesOnlyItems}

module _ (setup : Setup) where
  abbrev Fine : Line → Type 0
  Fine line = NamesOnlyItems setup.catalog line

  fine-one : (line : Line) → Fine line → All Fine (line ∷ [])
  fine-one line is = All-cons Fine line [] is (All-nil Fine)

  step-fine : (n : ℕ) (records : List Record) (running : Running) (input : Input) → All Fine (lines_of n (site_step setup n records running input).notes)
  step-fine n records running input =
      let here : Here = record { me = n; setup = setup; records = records; surplus = 0; running = running } in
      All-map Fine (line_of n) (step_on here input).notes (all-from (λ note. Fine (line_of n note)) (step_on here input).notes (note-fine here input n))

  -- Reports, totals and lists of messages.

  item-fine : (n : ℕ) (reading : Reading) → n < length setup.catalog.items → Fine (item_line n reading)
  item-fine n (cases value) below = below
  item-fine n (locked holder) below = below
  item-fine n (down site) below = below

  items-fine : (world : World) (n : ℕ) (items : List Item) → n + length items ≤ length setup.catalog.items → All Fine (item_lines n (readings_from setup world n items))
  items-fine world n [] within = All-nil Fine
  items-fine world n (item ∷ items) within =
      All-cons Fine (item_line n (reading_of setup world n item)) (item_lines (n + 1) (readings_from setup world (n + 1) items))
      (item-fine n (reading_of setup world n item) (omega (arith, within))) (items-fine world (n + 1) items (omega (arith, within)))

  three-fine : (ordered done open_ones : List TxnId) (rest : List Line) → All Fine rest → All Fine (Line.order ordered ∷ (Line.committed done ∷ (Line.open_ones open_ones ∷ rest)))
  three-fine ordered done open_ones rest are =
      All-cons Fine (Line.order ordered) (Line.committed done ∷ (Line.open_ones open_ones ∷ rest)) tt
      (All-cons Fine (Line.committed done) (Line.open_ones open_ones ∷ rest) tt (All-cons Fine (Line.open_ones open_ones) rest tt are))

  report-fine : (world : World) → All Fine (report_of setup world)
  unfolding report_of
  report-fine world =
      three-fine (txns_in_order world.order) (txns_in_order (filter (λ placed. is_committed world placed.txn) world.order)) (txns_in_order (filter (is_open world) world.order))
      (item_lines 0 (readings setup world) ++ Line.end ∷ [])
      (All-append Fine (item_lines 0 (readings setup world)) (Line.end ∷ []) (items-fine world 0 setup.catalog.items (omega arith)) (fine-one Line.end tt))

  within-fine : (values : List (List (Case ℤ))) (names : List TxnId) (b : Bool) → Fine (if b then Line.total_limit (length names) else Line.total (sums values names))
  within-fine values names true = tt
  within-fine values names false = tt

  total-reading : (limit : ℕ) (world : World) (values : List (List (Case ℤ))) (n : ℕ) (item : Item) (items : List Item) (reading : Reading)
      → ((now : List (List (Case ℤ))) → Fine (total_from limit now (n + 1) (readings_from setup world (n + 1) items)))
      → n < length setup.catalog.items → Fine (total_from limit values n (reading ∷ readings_from setup world (n + 1) items))
  total-reading limit world values n item items (cases value) behind below = behind (values ++ value ∷ [])
  total-reading limit world values n item items (locked holder) behind below = below
  total-reading limit world values n item items (down site) behind below = tt

  total-fine : (limit : ℕ) (world : World) (values : List (List (Case ℤ))) (n : ℕ) (items : List Item) → n + length items ≤ length setup.catalog.items
      → Fine (total_from limit values n (readings_from setup world n items))
  total-fine limit world values n [] within =
      let names = names_of (flat_map (λ value. value) values) in within-fine values names (nat_lt limit (length names))
  total-fine limit world values n (item ∷ items) within =
      total-reading limit world values n item items (reading_of setup world n item) (λ now. total-fine limit world now (n + 1) items (omega (arith, within))) (omega (arith, within))

  totals-fine : (world : World) → All Fine (total_of setup world)
  unfolding total_of
  totals-fine world = fine-one (total_from setup.held_names [] 0 (readings setup world)) (total-fine setup.held_names world [] 0 setup.catalog.items (omega arith))

  sent-fine : (n : ℕ) (sent : List Envelope) → All Fine (sent_from n sent)
  sent-fine n [] = All-nil Fine
  sent-fine n (envelope ∷ sent) =
      All-cons Fine (Line.sent n envelope.from envelope.to (kind_of envelope.message) (txn_of envelope.message)) (sent_from (n + 1) sent) tt (sent-fine (n + 1) sent)

  sents-fine : (world : World) → All Fine (sent_lines world)
  unfolding sent_lines
  sents-fine world = sent-fine 0 world.sent

  -- What is begun ends with such lines.

  start-fine : (n : ℕ) (started : Started) → All Fine (of_start n started).lines
  start-fine n (starts running epoch) = fine-one (Line.started n running.epoch) tt
  start-fine n (too_long bytes) = fine-one (Line.full n bytes) tt
  start-fine n no_epoch = fine-one (Line.spent n) tt

  broken-fine : (n : ℕ) (stops : Bool) → All Fine (broken_line n stops ∷ [])
  broken-fine n true = fine-one (Line.stopped n) tt
  broken-fine n false = fine-one (Line.fault n) tt

  attempted-fine : (world : World) (n : ℕ) (attempt : Attempt) (left : Reached) → All Fine attempt.lines → All Fine (attempted world n attempt left).0
  attempted-fine world n attempt (waits arm) are = are
  attempted-fine world n attempt (fires arm) are = broken-fine n arm.stops

  abbrev EndsFine : Begun → Type 0
  EndsFine now = All Fine (ended now).0

  given-fine : (world : World) (n : ℕ) (input : Input) (running : Option Running) → EndsFine (given setup world n input running)
  given-fine world n input None = fine-one (Line.down n) tt
  given-fine world n input (Some running) =
      let attempt = of_step n (site_step setup n (site_at world n).records running input) in
      attempted-fine world n attempt (reached (calls_of attempt) (site_at world n).arm) (step-fine n (site_at world n).records running input)

  delivered-fine : (world : World) (n : ℕ) (envelope : Option Envelope) → EndsFine (delivered setup world n envelope)
  delivered-fine world n None = fine-one (Line.no_message n) tt
  delivered-fine world n (Some envelope) = given-fine (with_done world n) envelope.to (receive envelope.from envelope.message) (site_at world envelope.to).running

  lost-fine : (world : World) (n : ℕ) (envelope : Option Envelope) → EndsFine (lost world n envelope)
  lost-fine world n None = fine-one (Line.no_message n) tt
  lost-fine world n (Some envelope) = All-nil Fine

  halted-fine : (world : World) (n : ℕ) (running : Option Running) → EndsFine (halted world n running)
  halted-fine world n None = fine-one (Line.down n) tt
  halted-fine world n (Some running) = fine-one (Line.stopped n) tt

  opened-fine : (world : World) (n : ℕ) (running : Option Running) → EndsFine (opened setup world n running)
  opened-fine world n (Some running) = fine-one (Line.up n) tt
  opened-fine world n None =
      let attempt = of_start n (site_start setup 0 (site_at world n).records) in
      attempted-fine world n attempt (reached (calls_of attempt) (site_at world n).arm) (start-fine n (site_start setup 0 (site_at world n).records))

  packed-fine : (world : World) (n : ℕ) (running : Option Running) → EndsFine (packed world n running)
  packed-fine world n None = fine-one (Line.down n) tt
  packed-fine world n (Some running) =
      if_case EndsFine (nat_lt (site_at world n).standing.number greatest_number)
      (λ left. let attempt = of_checkpoint (site_at world n).standing running in
      attempted-fine world n attempt (reached (calls_of attempt) (site_at world n).arm) (All-nil Fine))
      (λ spent. fine-one (Line.spent n) tt)

  printed-fine : (world : World) (printed : Printed) → All Fine (lines_printed setup world printed)
  printed-fine world Printed.nothing = All-nil Fine
  printed-fine world Printed.messages = sents-fine world
  printed-fine world Printed.reported = report-fine world
  printed-fine world Printed.summed = totals-fine world

  beginning-fine : (world : World) (beginning : Beginning) → EndsFine (begun_by setup world beginning)
  beginning-fine world (Beginning.gives n input) = given-fine world n input (site_at world n).running
  beginning-fine world (Beginning.delivers n) = delivered-fine world n (slice_get world.sent n)
  beginning-fine world (Beginning.loses n) = lost-fine world n (slice_get world.sent n)
  beginning-fine world (Beginning.drops n) = All-nil Fine
  beginning-fine world (Beginning.halts n) = halted-fine world n (site_at world n).running
  beginning-fine world (Beginning.opens n) = opened-fine world n (site_at world n).running
  beginning-fine world (Beginning.packs n) = packed-fine world n (site_at world n).running
  beginning-fine world (Beginning.arms n arm) = All-nil Fine
  beginning-fine world (Beginning.prints printed) = printed-fine world printed

  begun-fine : (world : World) (event : Event) → EndsFine (begun setup world event)
  begun-fine world event = by-beginning EndsFine setup world event (λ beginning guard. beginning-fine world beginning)

  transition-fine : (world : World) (event : Event) → All Fine (transition_of setup world event).lines
  unfolding transition_of
  transition-fine world event = begun-fine world event

  -- A pump's deliveries print such lines, and so does every event.

  next-fine : (more : ℕ) (world : World) (next : Option ℕ) → ((now : World) → All Fine (lines_of_transitions (deliveries more setup now)))
      → All Fine (lines_of_transitions (with_fresh next (λ n. let transition = transition_of setup world (Event.deliver n) in transition ∷ deliveries more setup transition.world)))
  next-fine more world None behind = All-nil Fine
  next-fine more world (Some n) behind =
      let transition = transition_of setup world (Event.deliver n) in
      All-append Fine transition.lines (lines_of_transitions (deliveries more setup transition.world)) (transition-fine world (Event.deliver n)) (behind transition.world)

  deliveries-fine : (most : ℕ) (world : World) → All Fine (lines_of_transitions (deliveries most setup world))
  deliveries-fine zero world = All-nil Fine
  deliveries-fine (suc more) world = next-fine more world (next_fresh world) (deliveries-fine more)

  one-fine : (world : World) (event : Event) → All Fine (lines_of_transitions (transition_of setup world event ∷ []))
  one-fine world event = All-append Fine (transition_of setup world event).lines [] (transition-fine world event) (All-nil Fine)

  pub lines-name-items : (world : World) (event : Event) → All (NamesOnlyItems setup.catalog) (lines_of_transitions (transitions_of setup world event))
  unfolding transitions_of
  lines-name-items world (Event.pump None) = deliveries-fine (enough world) world
  lines-name-items world (Event.pump (Some most)) = deliveries-fine most world
  lines-name-items world event = one-fine world event
