-- What an event leaves at work and in the order has its program, where what it begins has.
use Rattle.std.proofs.Common.{◌≡◌, ℕ, Bool, Some, None, Option, List, [], ◌∷◌, ◌++◌, refl, sym, ap, subst, ◌∙◌}
use Rattle.std.specs.Prelude.{All, ⊤, nat_lt, option_to_list, slice_get}
use Rattle.std.specs.List.{Contains}
use Rattle.std.proofs.lemmas.List.Elements.{All-append, All-cons, All-nil}
use Rattle.std.proofs.lemmas.Option.{none-some}
use Rattle.pv_base.proofs.Basics.{Some_inj}
use Rattle.pv_base.specs.declared.txn.TxnId.{TxnId}
use Rattle.pv_format.specs.Checkpoint.{greatest_number}
use Rattle.pv_format.specs.Message.{Envelope}
use Rattle.pv_format.specs.Record.{Record}
use Rattle.pv_law_acts.proofs.ListLemmas.{put-each}
use Rattle.pv_law_acts.proofs.PassedLemmas.{opening-each}
use Rattle.pv_law_answers.proofs.BeginNotes.{begin-noted}
use Rattle.pv_law_step.proofs.ProgramSteps.{BeginsOwn, IsPlaced, Works, step-own}
use Rattle.pv_law_step.proofs.Lists.{OfSome}
use Rattle.pv_law_step.proofs.StartLemmas.{start-case}
use Rattle.pv_law_step.proofs.StepCases.{if_case}
use Rattle.pv_law_step.specs.StartCases as of_starts
use Rattle.pv_law_step.specs.StartCases.{StartCase}
use Rattle.pv_law_world.proofs.DisarmLemmas.{site-disarmed}
use Rattle.pv_law_world.proofs.EventView.{by-beginning}
use Rattle.pv_law_world.specs.EventView.{Beginning, IsAsked, IsGuarded, begun_by}
use Rattle.pv_model.specs.Events.{Event}
use Rattle.pv_model.specs.Syntax.{Program}
use Rattle.pv_protocol.specs.Anywhere as anywhere
use Rattle.pv_protocol.specs.Anywhere.{MayCome, MayEnd, MayFollow, disarmed}
use Rattle.pv_protocol.specs.Arms.{Reached, attempted, calls_of, fires, reached, waits}
use Rattle.pv_protocol.specs.Attempt.{Attempt, Begun, at_once, attempts, begun, delivered, given, halted, lost, of_start, of_step, opened, packed}
use Rattle.pv_protocol.specs.Here.{Here}
use Rattle.pv_protocol.specs.Lines.{Line, lines_of}
use Rattle.pv_protocol.specs.Start.{Started, site_start}
use Rattle.pv_protocol.specs.State.{Input, Placed, Running, Setup, Site, Step, began, receive, submit, tick}
use Rattle.pv_protocol.specs.Step.{site_step, step_on}
use Rattle.pv_protocol.specs.World.{World, opening, site_at, with_done, with_site}
use Rattle.pv_protocol.specs.WorldStep.{Transition, ended, transition_of}

module _ (P : TxnId → Program → Type 0) where
  -- It holds of all that this memory works on.
  abbrev IsMemoryOwn : Option Running → Type 0
  IsMemoryOwn memory = (running : Running) → memory ≡ Some running → All (Works P) running.entries

  -- It holds of all that the sites of the world work on, and of all of its order.
  pub record AreOwn (world : World) : Type 0 where
    pub works : (n : ℕ) → IsMemoryOwn (site_at world n).running
    pub order : All (IsPlaced P) world.order

  -- What an event that prints these lines begins has the program that it asks for.
  abbrev pub BeginsSo : Event → List Line → Type 0
  BeginsSo event lines =
      (n : ℕ) (query : Bool) (text : List ℕ) (program : Program) (txn : TxnId) → event ≡ Event.submit n query text program → lines ≡ Line.txn txn ∷ [] → P txn program

  none-own : IsMemoryOwn None
  none-own running is = absurd (none-some running is)

  put-own : (world : World) (n : ℕ) (site : Site) → AreOwn world → IsMemoryOwn site.running → AreOwn (with_site world n site)
  put-own world n site own new = record { works = put-each (λ k (s : Site). IsMemoryOwn s.running) world.sites n site new own.works; order = own.order }

  pub opening-own : (setup : Setup) → AreOwn (opening setup)
  opening-own setup = record {
    works = opening-each setup (λ (s : Site). IsMemoryOwn s.running)
        (λ running is. subst (λ (r : Running). All (Works P) r.entries) (Some_inj is) (All-nil (Works P))) none-own;
    order = All-nil (IsPlaced P);
  }

  -- It holds of what an attempt leaves where all of it is written.
  record IsAttemptOwn (attempt : Attempt) : Type 0 where
    memory : IsMemoryOwn attempt.running
    placed : OfSome (IsPlaced P) attempt.placed

  -- It holds of what the event comes to.
  data IsBegunOwn (event : Event) : Begun → Type 0 where
    settles : (lines : List Line) (after : World) → AreOwn after → IsBegunOwn event (at_once lines after)
    goes_on : (before : World) (n : ℕ) (attempt : Attempt) → AreOwn before → (BeginsSo event attempt.lines → IsAttemptOwn attempt) → IsBegunOwn event (attempts before n attempt)

  -- The event asks the site for this, if it is a request.
  abbrev Asks : Event → ℕ → Input → Type 0
  Asks event n (submit program) = (query : Bool) × ((text : List ℕ) × (event ≡ Event.submit n query text program))
  Asks event n (receive from message) = ⊤
  Asks event n tick = ⊤

  asked-asks : (event : Event) (n : ℕ) (input : Input) → IsAsked event n input → Asks event n input
  asked-asks event n (submit program) asked = asked
  asked-asks event n (receive from message) never = tt
  asked-asks event n tick asked = tt

  module _ (event : Event) (n : ℕ) (here : Here) where
    -- A request that begins a transaction prints its number, and nothing besides.
    begins-line : (program : Program) (txn : TxnId) → Contains (step_on here (submit program)).notes (began txn)
        → lines_of n (step_on here (submit program)).notes ≡ Line.txn txn ∷ []
    begins-line program txn noted =
        let is = begin-noted here txn (submit program) noted in
        ap (λ (step : Step). lines_of n step.notes) is.step ∙ ap (λ (t : TxnId). Line.txn t ∷ []) (sym is.own)

    begins-own : (input : Input) → Asks event n input → BeginsSo event (lines_of n (step_on here input).notes) → BeginsOwn P here input
    begins-own (submit program) asks begins = λ txn noted. begins n asks.0 asks.1.0 program txn asks.1.1 (begins-line program txn noted)
    begins-own (receive from message) asks begins = tt
    begins-own tick asks begins = tt

  module _ (setup : Setup) where
    start-own : (n : ℕ) (records : List Record) (started : Started) → StartCase setup 0 records started → IsAttemptOwn (of_start n started)
    start-own n records started (of_starts.no_epoch_left h) = record { memory = none-own; placed = tt }
    start-own n records started (of_starts.no_room h i) = record { memory = none-own; placed = tt }
    start-own n records started (of_starts.begins h i) = record {
      memory = λ running is. subst (λ (r : Running). All (Works P) r.entries) (Some_inj is) (All-nil (Works P));
      placed = tt;
    }

    module _ (event : Event) (world : World) (own : AreOwn world) where
      marked-own : (fresh : List Bool) → AreOwn (record world { fresh = fresh })
      marked-own fresh = record { works = own.works; order = own.order }

      given-own : (fresh : List Bool) (n : ℕ) (input : Input) → Asks event n input → (running : Option Running) → (site_at world n).running ≡ running
          → IsBegunOwn event (given setup (record world { fresh = fresh }) n input running)
      given-own fresh n input asks None is = settles _ _ (marked-own fresh)
      given-own fresh n input asks (Some running) is =
          let here : Here = record { me = n; setup = setup; records = (site_at world n).records; surplus = 0; running = running } in
          goes_on (record world { fresh = fresh }) n (of_step n (site_step setup n (site_at world n).records running input)) (marked-own fresh)
          (λ begins.
          let made = step-own P here (own.works n running is) input (begins-own event n here input asks begins) in
          record { memory = λ after same. subst (λ (r : Running). All (Works P) r.entries) (Some_inj same) made.entries; placed = made.placed })

      delivered-own : (number : ℕ) (envelope : Option Envelope) → IsBegunOwn event (delivered setup world number envelope)
      delivered-own number None = settles _ world own
      delivered-own number (Some envelope) =
          given-own (with_done world number).fresh envelope.to (receive envelope.from envelope.message) tt (site_at world envelope.to).running refl

      lost-own : (number : ℕ) (envelope : Option Envelope) → IsBegunOwn event (lost world number envelope)
      lost-own number None = settles _ world own
      lost-own number (Some envelope) = settles _ _ (marked-own (with_done world number).fresh)

      halted-own : (n : ℕ) (running : Option Running) → IsBegunOwn event (halted world n running)
      halted-own n None = settles _ world own
      halted-own n (Some running) = settles _ _ (put-own world n _ own none-own)

      opened-own : (n : ℕ) (running : Option Running) → IsBegunOwn event (opened setup world n running)
      opened-own n (Some running) = settles _ world own
      opened-own n None =
          let records = (site_at world n).records in
          goes_on world n _ own (λ begins. start-own n records (site_start setup 0 records) (start-case setup 0 records))

      packed-own : (n : ℕ) (running : Option Running) → (site_at world n).running ≡ running → IsBegunOwn event (packed world n running)
      packed-own n None is = settles _ world own
      packed-own n (Some running) is =
          if_case (IsBegunOwn event) (nat_lt (site_at world n).standing.number greatest_number)
          (λ left. goes_on world n _ own (λ begins. record { memory = λ same here. own.works n same (is ∙ here); placed = tt }))
          (λ spent. settles _ world own)

      beginning-own : (beginning : Beginning) → IsGuarded event beginning → IsBegunOwn event (begun_by setup world beginning)
      beginning-own (Beginning.gives n input) guard = given-own world.fresh n input (asked-asks event n input guard) (site_at world n).running refl
      beginning-own (Beginning.delivers number) guard = delivered-own number (slice_get world.sent number)
      beginning-own (Beginning.loses number) guard = lost-own number (slice_get world.sent number)
      beginning-own (Beginning.drops n) guard = settles _ _ (marked-own _)
      beginning-own (Beginning.halts n) guard = halted-own n (site_at world n).running
      beginning-own (Beginning.opens n) guard = opened-own n (site_at world n).running
      beginning-own (Beginning.packs n) guard = packed-own n (site_at world n).running refl
      beginning-own (Beginning.arms n arm) guard = settles _ _ (put-own world n _ own (own.works n))
      beginning-own (Beginning.prints printed) guard = settles _ world own

      begun-own : IsBegunOwn event (begun setup world event)
      begun-own = by-beginning (IsBegunOwn event) setup world event beginning-own

    -- How it ends.

    placed-own : (placed : Option Placed) → OfSome (IsPlaced P) placed → All (IsPlaced P) (option_to_list placed)
    placed-own None own = All-nil (IsPlaced P)
    placed-own (Some placed) own = All-cons (IsPlaced P) placed [] own (All-nil (IsPlaced P))

    module _ (before : World) (n : ℕ) (attempt : Attempt) (own : AreOwn before) where
      completed-own : (site : Site) → site.running ≡ attempt.running → IsAttemptOwn attempt
          → AreOwn (record (with_site before n site) { order = before.order ++ option_to_list attempt.placed })
      completed-own site same new = record {
        works = put-each (λ k (s : Site). IsMemoryOwn s.running) before.sites n site (λ running is. new.memory running (sym same ∙ is)) own.works;
        order = All-append (IsPlaced P) before.order (option_to_list attempt.placed) own.order (placed-own attempt.placed new.placed);
      }

      sent-own : (world after : World) → world.sites ≡ after.sites → world.order ≡ after.order → AreOwn world → AreOwn after
      sent-own world after sites order all = record {
        works = subst (λ (s : List Site). (k : ℕ) → IsMemoryOwn (site_at (record world { sites = s }) k).running) sites all.works;
        order = subst (All (IsPlaced P)) order all.order;
      }

      attempted-own : (event : Event) → (BeginsSo event attempt.lines → IsAttemptOwn attempt) → (left : Reached) → BeginsSo event (attempted before n attempt left).0
          → AreOwn (attempted before n attempt left).1
      attempted-own event new (waits arm) begins = sent-own _ _ refl refl (completed-own _ refl (new begins))
      attempted-own event new (fires arm) begins = put-own before n _ own none-own

      end-own : (event : Event) → (BeginsSo event attempt.lines → IsAttemptOwn attempt) → (lines : List Line) (after : World) → MayEnd before n attempt lines after
          → BeginsSo event lines → AreOwn after
      end-own event new lines after anywhere.whole begins = sent-own _ _ refl refl (completed-own _ refl (new begins))
      end-own event new lines after (anywhere.without stops some standing may) begins = put-own before n _ own none-own
      end-own event new lines after (anywhere.with_record stops appended is standing may) begins = put-own before n _ own none-own

    ended-own : (event : Event) (b : Begun) → IsBegunOwn event b → BeginsSo event (ended b).0 → AreOwn (ended b).1
    ended-own event b (settles lines after own) begins = own
    ended-own event b (goes_on before n attempt own new) begins = attempted-own before n attempt own event new (reached (calls_of attempt) (site_at before n).arm) begins

    come-own : (event : Event) (b : Begun) (lines : List Line) (after : World) → IsBegunOwn event b → MayCome b lines after → BeginsSo event lines → AreOwn after
    come-own event b lines after (settles reported world own) (anywhere.without_attempt reported' world') begins = own
    come-own event b lines after (goes_on before n attempt own new) (anywhere.by_attempt before' after' n' attempt' lines' ends) begins =
        end-own before n attempt own event new lines after ends begins

    pub transition-own : (world : World) (event : Event) → AreOwn world → BeginsSo event (transition_of setup world event).lines → AreOwn (transition_of setup world event).world
    unfolding transition_of
    transition-own world event own begins = ended-own event (begun setup world event) (begun-own event world own) begins

    disarmed-own : (world : World) → AreOwn world → AreOwn (disarmed world)
    disarmed-own world own = record {
      works = λ n running is. own.works n running (sym (ap (λ (site : Site). site.running) (site-disarmed world n)) ∙ is);
      order = own.order;
    }

    pub follow-own : (world : World) (transition : Transition) → AreOwn world → MayFollow setup world transition → BeginsSo transition.event transition.lines → AreOwn transition.world
    follow-own world transition own follows begins =
        subst AreOwn (sym follows.after)
        (disarmed-own follows.left
        (come-own transition.event (begun setup world transition.event) transition.lines follows.left (begun-own transition.event world own) follows.comes begins))
