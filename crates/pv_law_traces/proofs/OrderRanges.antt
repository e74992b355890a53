-- Each transaction of a world's order is in range, in every world of a run.
use Rattle.std.proofs.Common.{◌≡◌, ℕ, Some, None, Option, All, List, [], ◌∷◌, refl, sym, subst}
use Rattle.std.specs.Option.{option_to_list}
use Rattle.std.specs.Prelude.{nat_lt, slice_get}
use Rattle.std.proofs.lemmas.List.Elements.{All-append, All-cons, All-nil}
use Rattle.pv_format.specs.Checkpoint.{greatest_number}
use Rattle.pv_format.specs.Message.{Envelope}
use Rattle.pv_format.specs.Range.{IsTxnWithin}
use Rattle.pv_law_step.proofs.Lists.{OfSome, all-head, all-tail}
use Rattle.pv_law_step.proofs.StepCases.{if_case}
use Rattle.pv_law_traces.specs.Ranges.{IsPrintable, SendsFew, TakesFew}
use Rattle.pv_law_traces.proofs.LineRanges.{here-is, here_in}
use Rattle.pv_law_traces.proofs.PlacedRanges.{placed-within}
use Rattle.pv_law_traces.proofs.TakenRanges.{run-taken}
use Rattle.pv_law_world.proofs.EventView.{by-beginning}
use Rattle.pv_law_world.proofs.TransitionLemmas.{run-transitions}
use Rattle.pv_law_world.specs.EventView.{Beginning, begun_by}
use Rattle.pv_law_world.specs.Ranges.{IsWorldInRange}
use Rattle.pv_law_world.specs.Transitions.{AreTransitions, one_more}
use Rattle.pv_model.specs.Events.{Event}
use Rattle.pv_protocol.specs.Arms.{Reached, attempted, calls_of, fires, reached, waits}
use Rattle.pv_protocol.specs.Attempt.{Attempt, Begun, delivered, given, halted, lost, of_checkpoint, of_start, of_step, opened, packed}
use Rattle.pv_protocol.specs.Run.{run, worlds_of}
use Rattle.pv_protocol.specs.Sound.{IsRunningInRange, IsSetupInRange}
use Rattle.pv_protocol.specs.Start.{Started, no_epoch, site_start, starts, too_long}
use Rattle.pv_protocol.specs.State.{Input, Placed, Running, Setup, receive}
use Rattle.pv_protocol.specs.Step.{site_step}
use Rattle.pv_protocol.specs.World.{World, opening, site_at, with_done}
use Rattle.pv_protocol.specs.WorldStep.{Transition, ended, transition_of}

module _ (setup : Setup) (setup_fine : IsSetupInRange setup) where
  abbrev IsIn : Placed → Type 0
  IsIn placed = IsTxnWithin setup.catalog.sites placed.txn

  abbrev IsOrdered : World → Type 0
  IsOrdered world = All IsIn world.order

  placed-list : (placed : Option Placed) → OfSome IsIn placed → All IsIn (option_to_list placed)
  placed-list None is = All-nil IsIn
  placed-list (Some placed) is = All-cons IsIn placed [] is (All-nil IsIn)

  attempted-ordered : (world : World) (n : ℕ) (attempt : Attempt) (left : Reached) → IsOrdered world → OfSome IsIn attempt.placed → IsOrdered (attempted world n attempt left).1
  attempted-ordered world n attempt (waits arm) ordered is = All-append IsIn world.order (option_to_list attempt.placed) ordered (placed-list attempt.placed is)
  attempted-ordered world n attempt (fires arm) ordered is = ordered

  given-ordered : (world : World) (n : ℕ) (input : Input) (running : Option Running) → IsOrdered world
      → ((up : Running) → running ≡ Some up → IsRunningInRange setup.catalog.sites setup.catalog n up) → IsOrdered (ended (given setup world n input running)).1
  given-ordered world n input None ordered each = ordered
  given-ordered world n input (Some running) ordered each =
      let attempt = of_step n (site_step setup n (site_at world n).records running input) in
      attempted-ordered world n attempt (reached (calls_of attempt) (site_at world n).arm) ordered
      (placed-within setup.catalog.sites (here_in setup setup_fine world n running) (each running refl) input)

  start-places : (n : ℕ) (started : Started) → OfSome IsIn (of_start n started).placed
  start-places n (starts running epoch) = tt
  start-places n (too_long bytes) = tt
  start-places n no_epoch = tt

  module _ (world : World) (fine : IsWorldInRange setup world) (ordered : IsOrdered world) where
    up-is : (n : ℕ) (up : Running) → (site_at world n).running ≡ Some up → IsRunningInRange setup.catalog.sites setup.catalog n up
    up-is n up is = (here-is setup setup_fine world fine n up is).running

    delivered-ordered : (n : ℕ) (envelope : Option Envelope) → IsOrdered (ended (delivered setup world n envelope)).1
    delivered-ordered n None = ordered
    delivered-ordered n (Some envelope) =
        given-ordered (with_done world n) envelope.to (receive envelope.from envelope.message) (site_at world envelope.to).running ordered (up-is envelope.to)

    lost-ordered : (n : ℕ) (envelope : Option Envelope) → IsOrdered (ended (lost world n envelope)).1
    lost-ordered n None = ordered
    lost-ordered n (Some envelope) = ordered

    halted-ordered : (n : ℕ) (running : Option Running) → IsOrdered (ended (halted world n running)).1
    halted-ordered n None = ordered
    halted-ordered n (Some running) = ordered

    opened-ordered : (n : ℕ) (running : Option Running) → IsOrdered (ended (opened setup world n running)).1
    opened-ordered n (Some running) = ordered
    opened-ordered n None =
        let attempt = of_start n (site_start setup 0 (site_at world n).records) in
        attempted-ordered world n attempt (reached (calls_of attempt) (site_at world n).arm) ordered (start-places n (site_start setup 0 (site_at world n).records))

    packed-ordered : (n : ℕ) (running : Option Running) → IsOrdered (ended (packed world n running)).1
    packed-ordered n None = ordered
    packed-ordered n (Some running) =
        if_case (λ (b : Begun). IsOrdered (ended b).1) (nat_lt (site_at world n).standing.number greatest_number)
        (λ left. let attempt = of_checkpoint (site_at world n).standing running in
        attempted-ordered world n attempt (reached (calls_of attempt) (site_at world n).arm) ordered tt)
        (λ spent. ordered)

    beginning-ordered : (beginning : Beginning) → IsOrdered (ended (begun_by setup world beginning)).1
    beginning-ordered (Beginning.gives n input) = given-ordered world n input (site_at world n).running ordered (up-is n)
    beginning-ordered (Beginning.delivers n) = delivered-ordered n (slice_get world.sent n)
    beginning-ordered (Beginning.loses n) = lost-ordered n (slice_get world.sent n)
    beginning-ordered (Beginning.drops n) = ordered
    beginning-ordered (Beginning.halts n) = halted-ordered n (site_at world n).running
    beginning-ordered (Beginning.opens n) = opened-ordered n (site_at world n).running
    beginning-ordered (Beginning.packs n) = packed-ordered n (site_at world n).running
    beginning-ordered (Beginning.arms n arm) = ordered
    beginning-ordered (Beginning.prints printed) = ordered

    transition-ordered : (event : Event) → IsOrdered (transition_of setup world event).world
    unfolding transition_of
    transition-ordered event = by-beginning (λ (b : Begun). IsOrdered (ended b).1) setup world event (λ beginning guard. beginning-ordered beginning)

  worlds-ordered : (world : World) (transitions : List Transition) → AreTransitions setup world transitions → IsOrdered world
      → All (IsWorldInRange setup) (worlds_of world transitions) → All IsOrdered (worlds_of world transitions)
  worlds-ordered world [] are ordered fine = All-cons IsOrdered world [] ordered (All-nil IsOrdered)
  worlds-ordered world (transition ∷ transitions) (one_more world' transition' transitions' is rest) ordered fine =
      let worlds = worlds_of transition.world transitions in
      let next : IsOrdered transition.world =
      subst (λ (t : Transition). IsOrdered t.world) (sym is) (transition-ordered world (all-head (IsWorldInRange setup) world worlds fine) ordered transition.event) in
      All-cons IsOrdered world worlds ordered (worlds-ordered transition.world transitions rest next (all-tail (IsWorldInRange setup) world worlds fine))

  pub run-ordered : (events : List Event) → All (IsWorldInRange setup) (worlds_of (opening setup) (run setup (opening setup) events))
      → All IsOrdered (worlds_of (opening setup) (run setup (opening setup) events))
  run-ordered events fine = worlds-ordered (opening setup) (run setup (opening setup) events) (run-transitions setup (opening setup) events) (All-nil IsIn) fine

  printables : (worlds : List World) → All TakesFew worlds → All IsOrdered worlds → All SendsFew worlds → All (IsPrintable setup) worlds
  printables [] taken ordered few = All-nil (IsPrintable setup)
  printables (world ∷ worlds) taken ordered few =
      All-cons (IsPrintable setup) world worlds
      (record { taken = all-head TakesFew world worlds taken; ordered = all-head IsOrdered world worlds ordered; few = all-head SendsFew world worlds few })
      (printables worlds (all-tail TakesFew world worlds taken) (all-tail IsOrdered world worlds ordered) (all-tail SendsFew world worlds few))

  pub run-printable : (events : List Event) → All (IsWorldInRange setup) (worlds_of (opening setup) (run setup (opening setup) events))
      → All SendsFew (worlds_of (opening setup) (run setup (opening setup) events)) → All (IsPrintable setup) (worlds_of (opening setup) (run setup (opening setup) events))
  run-printable events fine few = printables (worlds_of (opening setup) (run setup (opening setup) events)) (run-taken setup setup_fine events) (run-ordered events fine) few
