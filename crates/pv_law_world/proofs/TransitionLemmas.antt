-- The transitions of a run are what its events do, one after another; a message that is delivered was sent before.
use Rattle.std.proofs.Common.{◌≡◌, ℕ, zero, suc, Some, None, Option, List, [], ◌∷◌, ◌++◌, refl, sym, ap, ◌∙◌, subst}
use Rattle.std.specs.Prelude.{slice_get, IsSome, Contains, All}
use Rattle.std.proofs.lemmas.List.{append_assoc}
use Rattle.std.proofs.lemmas.List.Elements.{All-contains, All-cons, All-nil}
use Rattle.std.proofs.lemmas.Option.{slice_get_within, get_or_from_slice_get}
use Rattle.pv_format.specs.Message.{Envelope}
use Rattle.pv_format.specs.Record.{Record}
use Rattle.pv_law_world.proofs.GrowthLemmas.{Extends, same, Grown, transition-grown}
use Rattle.pv_law_world.specs.Pumps.{AreMarked}
use Rattle.pv_law_world.specs.Transitions.{site_of, AreTransitions, none, one_more, WasSent}
use Rattle.pv_base.proofs.Basics.{Some_inj}
use Rattle.pv_model.specs.Events.{Event, deliver}
use Rattle.pv_protocol.specs.Places.{Place, world_before}
use Rattle.pv_protocol.specs.Pump.{next_fresh, with_fresh, deliveries, enough}
use Rattle.pv_protocol.specs.Run.{transitions_of, world_after, run, worlds_of}
use Rattle.pv_protocol.specs.State.{Setup}
use Rattle.pv_protocol.specs.World.{World, site_at, opening}
use Rattle.pv_protocol.specs.WorldStep.{Transition, transition_of}

module _ (setup : Setup) where
  -- one transition, and then these
  pub then-transitions : (world : World) (event : Event) (transitions : List Transition) → AreTransitions setup (transition_of setup world event).world transitions
      → AreTransitions setup world (transition_of setup world event ∷ transitions)
  unfolding transition_of
  then-transitions world event transitions are = one_more world (transition_of setup world event) transitions refl are

  fresh-transitions : (more : ℕ) → ((after : World) → AreTransitions setup after (deliveries more setup after)) → (world : World) (next : Option ℕ)
      → AreTransitions setup world (with_fresh next (λ n. let transition = transition_of setup world (deliver n) in transition ∷ deliveries more setup transition.world))
  fresh-transitions more rest world None = none world
  fresh-transitions more rest world (Some n) = then-transitions world (deliver n) _ (rest (transition_of setup world (deliver n)).world)

  deliveries-transitions : (more : ℕ) (world : World) → AreTransitions setup world (deliveries more setup world)
  deliveries-transitions zero world = none world
  deliveries-transitions (suc more) world = fresh-transitions more (λ after. deliveries-transitions more after) world (next_fresh world)

  -- transitions and then more transitions
  joined-transitions : (world : World) (transitions more : List Transition) → AreTransitions setup world transitions → AreTransitions setup (world_after world transitions) more
      → AreTransitions setup world (transitions ++ more)
  joined-transitions world [] more are then-are = then-are
  joined-transitions world (transition ∷ transitions) more (one_more world' transition' transitions' is rest) then-are =
      one_more world transition (transitions ++ more) is (joined-transitions transition.world transitions more rest then-are)

  event-transitions : (world : World) (event : Event) → AreTransitions setup world (transitions_of setup world event)
  unfolding transitions_of
  event-transitions world (Event.pump None) = deliveries-transitions (enough world) world
  event-transitions world (Event.pump (Some most)) = deliveries-transitions most world
  event-transitions world event = then-transitions world event [] (none _)

  pub run-transitions : (world : World) (events : List Event) → AreTransitions setup world (run setup world events)
  run-transitions world [] = none world
  run-transitions world (event ∷ events) =
      joined-transitions world (transitions_of setup world event) _ (event-transitions world event) (run-transitions (world_after world (transitions_of setup world event)) events)

  -- the front of transitions
  pub front-transitions : (world : World) (transitions more : List Transition) → AreTransitions setup world (transitions ++ more) → AreTransitions setup world transitions
  front-transitions world [] more are = none world
  front-transitions world (transition ∷ transitions) more (one_more world' transition' transitions' is rest) = one_more world transition transitions is (front-transitions transition.world transitions more rest)

-- what is at a place of a longer list and wasn't before is among what was added
added : {A : Type 0} (xs ys : List A) (i : ℕ) (x : A) → slice_get xs i ≡ None → slice_get (xs ++ ys) i ≡ Some x → Contains ys x
added [] ys i x absent is = (i, slice_get_within ys i x is, get_or_from_slice_get ys i x x is)
added (first ∷ xs) ys zero x absent is = absurd cc
added (first ∷ xs) ys (suc i) x absent is = added xs ys i x absent is

-- what is at a place stays there in a longer list
stays : {A : Type 0} (xs ys : List A) (i : ℕ) (x : A) → slice_get xs i ≡ Some x → slice_get (xs ++ ys) i ≡ Some x
stays [] ys i x is = absurd cc
stays (first ∷ xs) ys zero x is = is
stays (first ∷ xs) ys (suc i) x is = stays xs ys i x is

module _ (setup : Setup) where
  sent-stays : (world : World) (transitions : List Transition) → AreTransitions setup world transitions → (number : ℕ) (envelope : Envelope)
      → slice_get world.sent number ≡ Some envelope → slice_get (world_after world transitions).sent number ≡ Some envelope
  sent-stays world [] are number envelope is = is
  sent-stays world (transition ∷ transitions) (one_more world' transition' transitions' same rest) number envelope is =
      sent-stays transition.world transitions rest number envelope
      (let now : Grown world (site_of world transition.event) transition.world = subst (λ (t : Transition). Grown world (site_of world transition.event) t.world) (sym same) (transition-grown setup world transition.event) in
      subst (λ (all : List Envelope). slice_get all number ≡ Some envelope) (sym now.sent.1) (stays world.sent now.sent.0 number envelope is))

  shifted : (world : World) (transition : Transition) (transitions : List Transition) (number : ℕ) (envelope : Envelope) → WasSent transition.world transitions number envelope
      → WasSent world (transition ∷ transitions) number envelope
  shifted world transition transitions number envelope was = record {
    sender = record { earlier = transition ∷ was.sender.earlier; transition = was.sender.transition; later = was.sender.later; split = ap (λ (all : List Transition). transition ∷ all) was.sender.split };
    new = was.new;
    there = was.there;
    stepped = was.stepped;
    up = was.up;
  }

  -- a message that is there after the transitions was sent in the first of them, or in one of the rest
  sent-here : (world : World) (transition : Transition) (transitions : List Transition) → transition ≡ transition_of setup world transition.event → AreTransitions setup transition.world transitions
      → (number : ℕ) (envelope : Envelope) → slice_get world.sent number ≡ None → slice_get (world_after transition.world transitions).sent number ≡ Some envelope
      → (slice_get transition.world.sent number ≡ None → WasSent transition.world transitions number envelope)
      → (now : Option Envelope) → slice_get transition.world.sent number ≡ now → WasSent world (transition ∷ transitions) number envelope
  sent-here world transition transitions is_transition rest number envelope new is in_rest None absent = shifted world transition transitions number envelope (in_rest absent)
  sent-here world transition transitions is_transition rest number envelope new is in_rest (Some other) found =
      let grown : Grown world (site_of world transition.event) transition.world = subst (λ (t : Transition). Grown world (site_of world transition.event) t.world) (sym is_transition) (transition-grown setup world transition.event) in
      let one : other ≡ envelope = Some_inj (sym (sent-stays transition.world transitions rest number other found) ∙ is) in
      let is_there : slice_get transition.world.sent number ≡ Some envelope = found ∙ ap Some one in
      let from : (site_of world transition.event ≡ Some envelope.from) × IsSome (site_at world envelope.from).running =
      All-contains (λ (e : Envelope). (site_of world transition.event ≡ Some e.from) × IsSome (site_at world e.from).running) grown.sent.0 envelope grown.sent.2
      (added world.sent grown.sent.0 number envelope new (subst (λ (all : List Envelope). slice_get all number ≡ Some envelope) grown.sent.1 is_there)) in
      record {
        sender = record { earlier = []; transition = transition; later = transitions; split = refl };
        new = new;
        there = is_there;
        stepped = from.0;
        up = from.1;
      }

  pub was-sent : (world : World) (transitions : List Transition) → AreTransitions setup world transitions → (number : ℕ) (envelope : Envelope)
      → slice_get world.sent number ≡ None → slice_get (world_after world transitions).sent number ≡ Some envelope → WasSent world transitions number envelope
  was-sent world [] are number envelope new is = absurd cc
  was-sent world (transition ∷ transitions) (one_more world' transition' transitions' is_transition rest) number envelope new is =
      sent-here world transition transitions is_transition rest number envelope new is
      (λ absent. was-sent transition.world transitions rest number envelope absent is) (slice_get transition.world.sent number) refl

  pub delivered-was-sent : (events : List Event) (place : Place (run setup (opening setup) events)) (number : ℕ) (envelope : Envelope)
      → slice_get (world_before (opening setup) place).sent number ≡ Some envelope → WasSent (opening setup) place.earlier number envelope
  delivered-was-sent events place number envelope is =
      was-sent (opening setup) place.earlier
      (front-transitions setup (opening setup) place.earlier (place.transition ∷ place.later)
      (subst (AreTransitions setup (opening setup)) place.split (run-transitions setup (opening setup) events)))
      number envelope refl is

  transitions-records : (world : World) (transitions : List Transition) → AreTransitions setup world transitions → (n : ℕ)
      → Extends (site_at world n).records (site_at (world_after world transitions) n).records
  transitions-records world [] are n = same _
  transitions-records world (transition ∷ transitions) (one_more world' transition' transitions' is rest) n =
      let grown : Grown world (site_of world transition.event) transition.world = subst (λ (t : Transition). Grown world (site_of world transition.event) t.world) (sym is) (transition-grown setup world transition.event) in
      let first = grown.records n in
      let then_more = transitions-records transition.world transitions rest n in
      (first.0 ++ then_more.0, then_more.1 ∙ ap (λ (all : List Record). all ++ then_more.0) first.1 ∙ append_assoc _ first.0 then_more.0)

  pub run-records : (world : World) (events : List Event) (n : ℕ)
      → Extends (site_at world n).records (site_at (world_after world (run setup world events)) n).records
  run-records world events n = transitions-records world (run setup world events) (run-transitions setup world events) n

  worlds-marked : (world : World) (transitions : List Transition) → AreTransitions setup world transitions → AreMarked world → All AreMarked (worlds_of world transitions)
  worlds-marked world [] are marked = All-cons AreMarked world [] marked (All-nil AreMarked)
  worlds-marked world (transition ∷ transitions) (one_more world' transition' transitions' is rest) marked =
      let grown : Grown world (site_of world transition.event) transition.world = subst (λ (t : Transition). Grown world (site_of world transition.event) t.world) (sym is) (transition-grown setup world transition.event) in
      All-cons AreMarked world (worlds_of transition.world transitions) marked (worlds-marked transition.world transitions rest (grown.marked marked))

  pub run-marked : (events : List Event) → All AreMarked (worlds_of (opening setup) (run setup (opening setup) events))
  run-marked events = worlds-marked (opening setup) (run setup (opening setup) events) (run-transitions setup (opening setup) events) refl
