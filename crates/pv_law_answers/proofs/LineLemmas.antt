-- Each line on a transaction's fate is of a note.
use Rattle.std.proofs.Common.{◌≡◌, ⊎_elim, ℕ, ℤ, ◌+◌, Bool, true, false, Some, None, Option, List, [], ◌∷◌, ◌++◌, filter, length, refl, sym, ap, subst}
use Rattle.std.specs.Prelude.{nat_lt, if◌then◌else◌, slice_get}
use Rattle.std.specs.List.{Contains, flat_map}
use Rattle.std.proofs.lemmas.List.Elements.{Contains-append_cases}
use Rattle.pv_base.proofs.ContainsLemmas.{Contains-nil, Contains-cases}
use Rattle.pv_base.proofs.MapLemmas.{Contains-unmap}
use Rattle.pv_base.specs.Named.{names_of}
use Rattle.pv_base.specs.Polyvalue.{Case}
use Rattle.pv_base.specs.declared.txn.TxnId.{TxnId}
use Rattle.pv_format.specs.Checkpoint.{Standing, greatest_number}
use Rattle.pv_format.specs.Message.{Envelope}
use Rattle.pv_law_answers.proofs.Origin.{IsTxnLine, Gives, request, delivery, time, Ends, at_once_done, whole, broken, IsNoted}
use Rattle.pv_law_step.proofs.StepCases.{if_case}
use Rattle.pv_law_world.proofs.EventView.{by-beginning}
use Rattle.pv_law_world.specs.EventView.{Beginning, Printed, lines_printed, begun_by, IsAsked, IsGuarded}
use Rattle.pv_model.specs.Events.{Event}
use Rattle.pv_model.specs.PossibleAnswers.{sums}
use Rattle.pv_protocol.specs.Anywhere as anywhere
use Rattle.pv_protocol.specs.Anywhere.{MayEnd, MayCome}
use Rattle.pv_protocol.specs.Arms.{broken_line, completed, Reached, waits, fires, reached, calls_of, attempted}
use Rattle.pv_protocol.specs.Attempt.{Attempt, Begun, at_once, attempts, begun, given, delivered, lost, halted, opened, packed, of_start, of_step, of_checkpoint}
use Rattle.pv_protocol.specs.Committed.{is_committed, is_open}
use Rattle.pv_protocol.specs.Lines.{Line, line_of}
use Rattle.pv_protocol.specs.Report.{Reading, cases, locked, down, item_line, item_lines, total_from, total_of, report_of, sent_from, sent_lines, readings, txns_in_order}
use Rattle.pv_protocol.specs.Start.{Started, starts, too_long, no_epoch, site_start}
use Rattle.pv_protocol.specs.State.{Setup, Running, Input, submit, receive, tick}
use Rattle.pv_protocol.specs.Step.{site_step}
use Rattle.pv_protocol.specs.World.{World, site_at, with_done}
use Rattle.pv_protocol.specs.WorldStep.{ended}

-- None of the lines says what becomes of a transaction.
abbrev pub AreQuiet : List Line → Type 0
AreQuiet lines = (line : Line) → Contains lines line → IsTxnLine line → ⊥

quiet-nil : AreQuiet []
quiet-nil line h decides = Contains-nil line h

quiet-cons : (first : Line) (lines : List Line) → (IsTxnLine first → ⊥) → AreQuiet lines → AreQuiet (first ∷ lines)
quiet-cons first lines here rest line h decides =
    ⊎_elim (λ same. here (subst IsTxnLine (sym same) decides)) (λ behind. rest line behind decides) (Contains-cases first lines line h)

quiet-one : (first : Line) → (IsTxnLine first → ⊥) → AreQuiet (first ∷ [])
quiet-one first here = quiet-cons first [] here quiet-nil

quiet-append : (lines more : List Line) → AreQuiet lines → AreQuiet more → AreQuiet (lines ++ more)
quiet-append lines more first second line h decides =
    ⊎_elim (λ front. first line front decides) (λ behind. second line behind decides) (Contains-append_cases lines more line h)

-- Reports, totals and lists of messages.

item-quiet : (n : ℕ) (reading : Reading) → IsTxnLine (item_line n reading) → ⊥
item-quiet n (cases value) decides = decides
item-quiet n (locked holder) decides = decides
item-quiet n (down site) decides = decides

items-quiet : (n : ℕ) (readings : List Reading) → AreQuiet (item_lines n readings)
items-quiet n [] = quiet-nil
items-quiet n (reading ∷ more) = quiet-cons (item_line n reading) (item_lines (n + 1) more) (item-quiet n reading) (items-quiet (n + 1) more)

three-quiet : (ordered done open_ones : List TxnId) (rest : List Line) → AreQuiet rest → AreQuiet (Line.order ordered ∷ (Line.committed done ∷ (Line.open_ones open_ones ∷ rest)))
three-quiet ordered done open_ones rest quiet =
    quiet-cons (Line.order ordered) (Line.committed done ∷ (Line.open_ones open_ones ∷ rest)) (λ d. d)
    (quiet-cons (Line.committed done) (Line.open_ones open_ones ∷ rest) (λ d. d) (quiet-cons (Line.open_ones open_ones) rest (λ d. d) quiet))

report-quiet : (setup : Setup) (world : World) → AreQuiet (report_of setup world)
unfolding report_of
report-quiet setup world =
    three-quiet (txns_in_order world.order) (txns_in_order (filter (λ placed. is_committed world placed.txn) world.order)) (txns_in_order (filter (is_open world) world.order))
    (item_lines 0 (readings setup world) ++ Line.end ∷ [])
    (quiet-append (item_lines 0 (readings setup world)) (Line.end ∷ []) (items-quiet 0 (readings setup world)) (quiet-one Line.end (λ d. d)))

within-quiet : (limit : ℕ) (values : List (List (Case ℤ))) (names : List TxnId) (b : Bool) → IsTxnLine (if b then Line.total_limit (length names) else Line.total (sums values names)) → ⊥
within-quiet limit values names true decides = decides
within-quiet limit values names false decides = decides

total-quiet : (limit : ℕ) (values : List (List (Case ℤ))) (n : ℕ) (readings : List Reading) → IsTxnLine (total_from limit values n readings) → ⊥
total-quiet limit values n [] decides = within-quiet limit values (names_of (flat_map (λ value. value) values)) (nat_lt limit (length (names_of (flat_map (λ value. value) values)))) decides
total-quiet limit values n (cases value ∷ more) decides = total-quiet limit (values ++ value ∷ []) (n + 1) more decides
total-quiet limit values n (locked holder ∷ more) decides = decides
total-quiet limit values n (down site ∷ more) decides = decides

totals-quiet : (setup : Setup) (world : World) → AreQuiet (total_of setup world)
unfolding total_of
totals-quiet setup world = quiet-one _ (total-quiet setup.held_names [] 0 (readings setup world))

sent-quiet : (n : ℕ) (sent : List Envelope) → AreQuiet (sent_from n sent)
sent-quiet n [] = quiet-nil
sent-quiet n (envelope ∷ sent) = quiet-cons _ (sent_from (n + 1) sent) (λ d. d) (sent-quiet (n + 1) sent)

sents-quiet : (world : World) → AreQuiet (sent_lines world)
unfolding sent_lines
sents-quiet world = sent-quiet 0 world.sent

start-quiet : (n : ℕ) (started : Started) → AreQuiet (of_start n started).lines
start-quiet n (starts running epoch) = quiet-one _ (λ d. d)
start-quiet n (too_long length) = quiet-one _ (λ d. d)
start-quiet n no_epoch = quiet-one _ (λ d. d)

broken-quiet : (n : ℕ) (stops : Bool) → AreQuiet (broken_line n stops ∷ [])
broken-quiet n true = quiet-one _ (λ d. d)
broken-quiet n false = quiet-one _ (λ d. d)

-- What has begun ends so in a run, with armed faults and with faults anywhere.

attempted-ends : (world : World) (n : ℕ) (attempt : Attempt) (left : Reached) → Ends (attempts world n attempt) (attempted world n attempt left).0 (attempted world n attempt left).1
attempted-ends world n attempt (waits arm) = whole world n attempt arm
attempted-ends world n attempt (fires arm) = broken world _ n attempt arm.stops

pub ended-ends : (b : Begun) → Ends b (ended b).0 (ended b).1
ended-ends (at_once lines world) = at_once_done lines world
ended-ends (attempts world n attempt) = attempted-ends world n attempt (reached (calls_of attempt) (site_at world n).arm)

end-ends : (world : World) (n : ℕ) (attempt : Attempt) (lines : List Line) (after : World) → MayEnd world n attempt lines after → Ends (attempts world n attempt) lines after
end-ends world n attempt lines after anywhere.whole = whole world n attempt None
end-ends world n attempt lines after (anywhere.without stops some standing may) = broken world _ n attempt stops
end-ends world n attempt lines after (anywhere.with_record stops appended is standing may) = broken world _ n attempt stops

pub come-ends : (b : Begun) (lines : List Line) (after : World) → MayCome b lines after → Ends b lines after
come-ends b lines after (anywhere.without_attempt lines' after') = at_once_done lines after
come-ends b lines after (anywhere.by_attempt world after' n attempt lines' ends) = end-ends world n attempt lines after ends

-- What an event comes to.

module _ (setup : Setup) (world : World) (line : Line) (decides : IsTxnLine line) where
  -- a step that ends
  step-noted : (event : Event) (n : ℕ) (input : Input) (found : World) → Gives world event n input found → (site_at found n).records ≡ (site_at world n).records → (running : Running) → (site_at world n).running ≡ Some running
      → (lines : List Line) (after : World) → Ends (attempts found n (of_step n (site_step setup n (site_at found n).records running input))) lines after → Contains lines line
      → IsNoted setup world event line after
  step-noted event n input found gives same running up lines after (whole found' n' attempt' arm) h =
      let step = site_step setup n (site_at found n).records running input in
      let back = Contains-unmap (line_of n) step.notes line h in
      record {
        n = n;
        input = input;
        found = found;
        gives = gives;
        running = running;
        up = up;
        note = back.0;
        noted = subst (λ rs. Contains (site_step setup n rs running input).notes back.0) same back.1.0;
        printed = back.1.1;
        arm = arm;
        whole = ap (λ rs. completed found n (of_step n (site_step setup n rs running input)) arm) same;
      }
  step-noted event n input found gives same running up lines after (broken found' after' n' attempt' stops) h = absurd (broken-quiet n stops line h decides)

  start-quietly : (n : ℕ) (started : Started) (lines : List Line) (after : World) → Ends (attempts world n (of_start n started)) lines after → Contains lines line → ⊥
  start-quietly n started lines after (whole found' n' attempt' arm) h = start-quiet n started line h decides
  start-quietly n started lines after (broken found' after' n' attempt' stops) h = broken-quiet n stops line h decides

  once-quiet : (reported : List Line) (left : World) (lines : List Line) (after : World) → Ends (at_once reported left) lines after → AreQuiet reported → Contains lines line → ⊥
  once-quiet reported left lines after (at_once_done reported' left') quiet h = quiet line h decides

  given-noted : (event : Event) (n : ℕ) (input : Input) (found : World) → Gives world event n input found → (site_at found n).records ≡ (site_at world n).records → (running : Option Running) → (site_at world n).running ≡ running
      → (lines : List Line) (after : World) → Ends (given setup found n input running) lines after → Contains lines line → IsNoted setup world event line after
  given-noted event n input found gives same None up lines after ends h = absurd (once-quiet (Line.down n ∷ []) found lines after ends (quiet-one (Line.down n) (λ d. d)) h)
  given-noted event n input found gives same (Some running) up lines after ends h = step-noted event n input found gives same running up lines after ends h

  delivered-noted : (event : Event) (number : ℕ) → event ≡ Event.deliver number → (envelope : Option Envelope) → slice_get world.sent number ≡ envelope → (lines : List Line) (after : World) → Ends (delivered setup world number envelope) lines after
      → Contains lines line → IsNoted setup world event line after
  delivered-noted event number is None there lines after ends h = absurd (once-quiet (Line.no_message number ∷ []) world lines after ends (quiet-one (Line.no_message number) (λ d. d)) h)
  delivered-noted event number is (Some envelope) there lines after ends h =
      given-noted event envelope.to (receive envelope.from envelope.message) (with_done world number)
      (subst (λ (e : Event). Gives world e envelope.to (receive envelope.from envelope.message) (with_done world number)) (sym is) (delivery number envelope there)) refl (site_at world envelope.to).running refl lines after ends h

  lost-quiet : (number : ℕ) (envelope : Option Envelope) (lines : List Line) (after : World) → Ends (lost world number envelope) lines after → Contains lines line → ⊥
  lost-quiet number None lines after ends h = once-quiet (Line.no_message number ∷ []) world lines after ends (quiet-one (Line.no_message number) (λ d. d)) h
  lost-quiet number (Some envelope) lines after ends h = once-quiet [] (with_done world number) lines after ends quiet-nil h

  halted-quiet : (n : ℕ) (running : Option Running) (lines : List Line) (after : World) → Ends (halted world n running) lines after → Contains lines line → ⊥
  halted-quiet n None lines after ends h = once-quiet (Line.down n ∷ []) world lines after ends (quiet-one (Line.down n) (λ d. d)) h
  halted-quiet n (Some running) lines after ends h = once-quiet (Line.stopped n ∷ []) _ lines after ends (quiet-one (Line.stopped n) (λ d. d)) h

  opened-quiet : (n : ℕ) (running : Option Running) (lines : List Line) (after : World) → Ends (opened setup world n running) lines after → Contains lines line → ⊥
  opened-quiet n (Some running) lines after ends h = once-quiet (Line.up n ∷ []) world lines after ends (quiet-one (Line.up n) (λ d. d)) h
  opened-quiet n None lines after ends h = start-quietly n (site_start setup 0 (site_at world n).records) lines after ends h

  packing-quietly : (n : ℕ) (standing : Standing) (running : Running) (lines : List Line) (after : World) → Ends (attempts world n (of_checkpoint standing running)) lines after
      → Contains lines line → ⊥
  packing-quietly n standing running lines after (whole found' n' attempt' arm) h = quiet-nil line h decides
  packing-quietly n standing running lines after (broken found' after' n' attempt' stops) h = broken-quiet n stops line h decides

  packed-quiet : (n : ℕ) (running : Option Running) (lines : List Line) (after : World) → Ends (packed world n running) lines after → Contains lines line → ⊥
  packed-quiet n None lines after ends h = once-quiet (Line.down n ∷ []) world lines after ends (quiet-one (Line.down n) (λ d. d)) h
  packed-quiet n (Some running) lines after ends h =
      if_case (λ (b : Begun). Ends b lines after → ⊥) (nat_lt (site_at world n).standing.number greatest_number)
      (λ left done. packing-quietly n (site_at world n).standing running lines after done h)
      (λ spent done. once-quiet (Line.spent n ∷ []) world lines after done (quiet-one (Line.spent n) (λ d. d)) h)
      ends

  asked-gives : (event : Event) (n : ℕ) (input : Input) → IsAsked event n input → Gives world event n input world
  asked-gives event n (submit program) (query, (text, is)) = subst (λ (e : Event). Gives world e n (submit program) world) (sym is) (request n query text program)
  asked-gives event n (receive from message) never = absurd never
  asked-gives event n tick is = subst (λ (e : Event). Gives world e n tick world) (sym is) (time n)

  printed-quiet : (printed : Printed) → AreQuiet (lines_printed setup world printed)
  printed-quiet Printed.nothing = quiet-nil
  printed-quiet Printed.messages = sents-quiet world
  printed-quiet Printed.reported = report-quiet setup world
  printed-quiet Printed.summed = totals-quiet setup world

  beginning-noted : (event : Event) (beginning : Beginning) → IsGuarded event beginning → (lines : List Line) (after : World) → Ends (begun_by setup world beginning) lines after → Contains lines line
      → IsNoted setup world event line after
  beginning-noted event (Beginning.gives n input) guard lines after ends h =
      given-noted event n input world (asked-gives event n input guard) refl (site_at world n).running refl lines after ends h
  beginning-noted event (Beginning.delivers number) guard lines after ends h = delivered-noted event number guard (slice_get world.sent number) refl lines after ends h
  beginning-noted event (Beginning.loses number) guard lines after ends h = absurd (lost-quiet number (slice_get world.sent number) lines after ends h)
  beginning-noted event (Beginning.drops n) guard lines after ends h = absurd (once-quiet [] _ lines after ends quiet-nil h)
  beginning-noted event (Beginning.halts n) guard lines after ends h = absurd (halted-quiet n (site_at world n).running lines after ends h)
  beginning-noted event (Beginning.opens n) guard lines after ends h = absurd (opened-quiet n (site_at world n).running lines after ends h)
  beginning-noted event (Beginning.packs n) guard lines after ends h = absurd (packed-quiet n (site_at world n).running lines after ends h)
  beginning-noted event (Beginning.arms n arm) guard lines after ends h = absurd (once-quiet [] _ lines after ends quiet-nil h)
  beginning-noted event (Beginning.prints printed) guard lines after ends h = absurd (once-quiet (lines_printed setup world printed) world lines after ends (printed-quiet printed) h)

  -- A line that says so is of a note of a step that ended.
  pub line-noted : (event : Event) (lines : List Line) (after : World) → Ends (begun setup world event) lines after → Contains lines line → IsNoted setup world event line after
  line-noted event =
      by-beginning (λ (b : Begun). (lines : List Line) (after : World) → Ends b lines after → Contains lines line → IsNoted setup world event line after) setup world event
      (beginning-noted event)
