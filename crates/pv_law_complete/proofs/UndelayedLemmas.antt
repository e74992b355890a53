-- The transfer over two sites is undisturbed, found by computing.
use Rattle.std.proofs.Common.{◌≡◌, true, false, List, [], ◌∷◌, length, refl, arith}
use Rattle.std.specs.Prelude.{All, codes}
use Rattle.std.proofs.lemmas.List.Elements.{All-nil, All-cons}
use Rattle.pv_base.specs.Canonical.{canonical_cases}
use Rattle.pv_law_complete.proofs.TestLemmas.{all_up, up-all, all_calm, calm-all, all_delivered, delivered-all}
use Rattle.pv_law_complete.specs.Undelayed.{moving, submitted, deliveries}
use Rattle.pv_law_complete.specs.Undisturbed.{IsUndisturbed}
use Rattle.pv_law_events.proofs.PremiseLemmas.{can-run}
use Rattle.pv_law_events.specs.Eventful.{small}
use Rattle.pv_law_world.proofs.DisarmLemmas.{run-may}
use Rattle.pv_law_world.specs.ExampleLines.{t}
use Rattle.pv_law_world.specs.Schedules.{transfer, pump_all}
use Rattle.pv_model.specs.Meaning.{exec}
use Rattle.pv_model.specs.Plan.{plan_of}
use Rattle.pv_protocol.specs.Anywhere as anywhere
use Rattle.pv_protocol.specs.Anywhere.{IsRunWithFaults}
use Rattle.pv_protocol.specs.Attempt.{begun}
use Rattle.pv_protocol.specs.Coordinate.{new_value, reply_value}
use Rattle.pv_protocol.specs.Granted.{on_denied, on_granted}
use Rattle.pv_protocol.specs.Lock.{on_lock, on_submit}
use Rattle.pv_protocol.specs.Outcome.{is_named_here, named_here, on_ask, on_outcome}
use Rattle.pv_protocol.specs.Records.{journal_bytes}
use Rattle.pv_protocol.specs.Run.{transitions_of, world_after}
use Rattle.pv_protocol.specs.Shown.{shown_within}
use Rattle.pv_protocol.specs.Start.{just_started}
use Rattle.pv_protocol.specs.State.{Setup}
use Rattle.pv_protocol.specs.Tick.{on_tick}
use Rattle.pv_protocol.specs.Vote.{on_no, on_prepare, on_yes}
use Rattle.pv_protocol.specs.WellFormed.{IsWellFormed}
use Rattle.pv_protocol.specs.World.{World, opening}
use Rattle.pv_protocol.specs.WorldStep.{Transition, transition_of}

fine : All (IsWellFormed small.catalog) (transfer ∷ pump_all ∷ [])
fine =
    All-cons (IsWellFormed small.catalog) transfer (pump_all ∷ []) (omega arith, can-run)
    (All-cons (IsWellFormed small.catalog) pump_all [] tt (All-nil (IsWellFormed small.catalog)))

pub undelayed-runs : IsRunWithFaults small (opening small) (submitted ∷ deliveries)
unfolding transitions_of
undelayed-runs = run-may small (transfer ∷ pump_all ∷ []) fine

rest-runs : (setup : Setup) (world : World) (first : Transition) (later : List Transition) → IsRunWithFaults setup world (first ∷ later) → IsRunWithFaults setup first.world later
rest-runs setup world first later (anywhere.goes_on world' first' later' follows run) = run

are-up : all_up small t moving (opening small) ≡ true
unfolding canonical_cases exec plan_of begun new_value reply_value on_denied on_granted on_lock on_submit is_named_here named_here on_ask on_outcome journal_bytes transitions_of shown_within on_tick on_no on_prepare on_yes transition_of
are-up = refl

still-up : all_up small t moving submitted.world ≡ true
unfolding canonical_cases exec plan_of begun new_value reply_value on_denied on_granted on_lock on_submit is_named_here named_here on_ask on_outcome journal_bytes transitions_of shown_within on_tick on_no on_prepare on_yes transition_of
still-up = refl

are-calm : all_calm small t moving submitted.world deliveries ≡ true
unfolding canonical_cases exec plan_of begun new_value reply_value on_denied on_granted on_lock on_submit is_named_here named_here on_ask on_outcome journal_bytes transitions_of shown_within on_tick on_no on_prepare on_yes transition_of
are-calm = refl

are-delivered : all_delivered small submitted.world deliveries (length (world_after submitted.world deliveries).sent) ≡ true
unfolding canonical_cases exec plan_of begun new_value reply_value on_denied on_granted on_lock on_submit is_named_here named_here on_ask on_outcome journal_bytes transitions_of shown_within on_tick on_no on_prepare on_yes transition_of
are-delivered = refl

pub undelayed-undisturbed : IsUndisturbed small t moving (opening small) submitted deliveries
unfolding transition_of
undelayed-undisturbed = record {
  submitted = record {
    query = false;
    text = codes "a := a - 10 ; b := b + 10";
    event = refl;
    running = just_started 1;
    up = refl;
    epoch = refl;
    number = refl;
    left = refl;
  };
  up = up-all small t moving (opening small) are-up;
  up_then = up-all small t moving submitted.world still-up;
  calm = calm-all small t moving submitted.world deliveries are-calm;
  delivered = delivered-all small t submitted.world deliveries (rest-runs small (opening small) submitted deliveries undelayed-runs) are-delivered;
}
