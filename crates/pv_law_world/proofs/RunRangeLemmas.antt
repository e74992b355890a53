-- Every world of a run is in range.
use Rattle.std.proofs.Common.{arith, ℕ, zero, suc, Some, None, Option, List, [], ◌∷◌, sym, subst}
use Rattle.std.specs.Prelude.{All}
use Rattle.std.proofs.lemmas.List.{get_or-replicate, length-replicate}
use Rattle.std.proofs.lemmas.List.Elements.{All-append, All-cons, All-nil, All-head, All-tail}
use Rattle.pv_base.proofs.Basics.{Some_inj}
use Rattle.pv_format.specs.Range.{IsRecordWithin}
use Rattle.pv_format.specs.Record.{epoch_begun}
use Rattle.pv_law_world.proofs.RangeLemmas.{SendsInRange, StaysSound, StartsSound, transition-range}
use Rattle.pv_law_world.proofs.TransitionLemmas.{run-transitions}
use Rattle.pv_law_world.specs.Ranges.{IsSiteInRange, IsWorldInRange}
use Rattle.pv_law_world.specs.Transitions.{AreTransitions, one_more}
use Rattle.pv_model.specs.Events.{Event, deliver}
use Rattle.pv_protocol.specs.Pump.{next_fresh, with_fresh, deliveries, enough}
use Rattle.pv_protocol.specs.Records.{journal_bytes}
use Rattle.pv_protocol.specs.Run.{transitions_of, world_after, worlds_of, run}
use Rattle.pv_protocol.specs.Sound.{IsRunningInRange, IsSetupInRange}
use Rattle.pv_protocol.specs.State.{Setup}
use Rattle.pv_protocol.specs.WellFormed.{IsWellFormed}
use Rattle.pv_protocol.specs.Width.{IsNarrow}
use Rattle.pv_protocol.specs.World.{World, no_site, first_site, opening}
use Rattle.pv_protocol.specs.WorldStep.{Transition, transition_of}

module _ (setup : Setup) where
  -- The transition's event is well formed.
  abbrev pub HasGoodEvent : Transition → Type 0
  HasGoodEvent transition = IsWellFormed setup.catalog transition.event

  one-good : (world : World) (event : Event) → IsWellFormed setup.catalog event → HasGoodEvent (transition_of setup world event)
  unfolding transition_of
  one-good world event good = good

  fresh-good : (more : ℕ) → ((after : World) → All HasGoodEvent (deliveries more setup after)) → (world : World) (next : Option ℕ)
      → All HasGoodEvent (with_fresh next (λ n. let transition = transition_of setup world (deliver n) in transition ∷ deliveries more setup transition.world))
  fresh-good more rest world None = All-nil HasGoodEvent
  fresh-good more rest world (Some n) =
      All-cons HasGoodEvent (transition_of setup world (deliver n)) _ (one-good world (deliver n) tt) (rest (transition_of setup world (deliver n)).world)

  deliveries-good : (more : ℕ) (world : World) → All HasGoodEvent (deliveries more setup world)
  deliveries-good zero world = All-nil HasGoodEvent
  deliveries-good (suc more) world = fresh-good more (λ after. deliveries-good more after) world (next_fresh world)

  event-good : (world : World) (event : Event) → IsWellFormed setup.catalog event → All HasGoodEvent (transitions_of setup world event)
  unfolding transitions_of
  event-good world (Event.pump None) good = deliveries-good (enough world) world
  event-good world (Event.pump (Some most)) good = deliveries-good most world
  event-good world event good = All-cons HasGoodEvent (transition_of setup world event) [] (one-good world event good) (All-nil HasGoodEvent)

  pub run-good : (world : World) (events : List Event) → All (IsWellFormed setup.catalog) events → All HasGoodEvent (run setup world events)
  run-good world [] good = All-nil HasGoodEvent
  run-good world (event ∷ events) good =
      All-append HasGoodEvent (transitions_of setup world event) (run setup (world_after world (transitions_of setup world event)) events)
      (event-good world event (All-head (IsWellFormed setup.catalog) event events good))
      (run-good (world_after world (transitions_of setup world event)) events (All-tail (IsWellFormed setup.catalog) event events good))

module _ (sends_stay : SendsInRange) (sound_stays : StaysSound) (starts_sound : StartsSound) (setup : Setup) (setup_fine : IsSetupInRange setup) where
  worlds-range : (world : World) → IsWorldInRange setup world → (transitions : List Transition) → AreTransitions setup world transitions
      → All (HasGoodEvent setup) transitions → All (IsWorldInRange setup) (worlds_of world transitions)
  worlds-range world fine [] are good = All-cons (IsWorldInRange setup) world [] fine (All-nil (IsWorldInRange setup))
  worlds-range world fine (transition ∷ transitions) (one_more world' transition' transitions' is rest) good =
      let next : IsWorldInRange setup transition.world =
      subst (λ (t : Transition). IsWorldInRange setup t.world) (sym is)
      (transition-range sends_stay sound_stays starts_sound setup setup_fine world fine transition.event (All-head (HasGoodEvent setup) transition transitions good)) in
      All-cons (IsWorldInRange setup) world (worlds_of transition.world transitions) fine
      (worlds-range transition.world next transitions rest (All-tail (HasGoodEvent setup) transition transitions good))

  module _ (narrow : (n : ℕ) → IsNarrow setup.held_names setup.catalog n (epoch_begun 1 ∷ [])) where
    first-fine : (n : ℕ) → IsSiteInRange setup n first_site
    unfolding journal_bytes
    first-fine n = record {
      records = All-cons (IsRecordWithin setup.catalog.sites) (epoch_begun 1) [] (omega arith, omega arith) (All-nil (IsRecordWithin setup.catalog.sites));
      narrow = narrow n;
      room = omega (arith, setup_fine.least);
      running = λ running is. subst (IsRunningInRange setup.catalog.sites setup.catalog n) (Some_inj is) (record {
        epoch = omega arith;
        next_txn = omega arith;
        next_grant = omega arith;
        grants = All-nil _;
        entries = All-nil _;
      });
    }

    pub opening-fine : IsWorldInRange setup (opening setup)
    opening-fine = record {
      count = length-replicate setup.catalog.sites first_site;
      sites = λ n below. rw (get_or-replicate setup.catalog.sites n first_site no_site below) (first-fine n);
      sent = All-nil _;
    }

    pub run-range : (events : List Event) → All (IsWellFormed setup.catalog) events
        → All (IsWorldInRange setup) (worlds_of (opening setup) (run setup (opening setup) events))
    run-range events good =
        worlds-range (opening setup) opening-fine (run setup (opening setup) events) (run-transitions setup (opening setup) events)
        (run-good setup (opening setup) events good)
