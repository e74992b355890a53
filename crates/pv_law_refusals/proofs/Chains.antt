-- Along a run: the world before each transition is known, and the transition is a move.
use Rattle.std.proofs.Common.{◌≡◌, List, [], ◌∷◌, ◌++◌, sym, subst}
use Rattle.std.specs.Prelude.{All, ⊤}
use Rattle.std.proofs.lemmas.List.{append-nil, append_assoc}
use Rattle.pv_base.proofs.Basics.{heads, tails}
use Rattle.pv_law_acts.specs.Acts.{Acts}
use Rattle.pv_law_refusals.proofs.MoveLemmas.{transition-move, follow-move}
use Rattle.pv_law_refusals.proofs.Moves.{IsMove}
use Rattle.pv_law_events.proofs.EventActs.{IsKnown}
use Rattle.pv_law_events.proofs.RunActs.{AreKnown, run-known, any-run-known}
use Rattle.std.proofs.lemmas.List.Elements.{All-head, All-tail}
use Rattle.pv_law_world.proofs.AppendLemmas.{world_after-append}
use Rattle.pv_law_world.proofs.RunRangeLemmas.{HasGoodEvent, run-good}
use Rattle.pv_law_world.proofs.TransitionLemmas.{run-transitions}
use Rattle.pv_law_world.specs.Transitions as transitions
use Rattle.pv_law_world.specs.Transitions.{AreTransitions}
use Rattle.pv_model.specs.Events.{Event}
use Rattle.pv_protocol.specs.Anywhere as anywhere
use Rattle.pv_protocol.specs.Anywhere.{IsRunWithFaults}
use Rattle.pv_protocol.specs.Places.{Place}
use Rattle.pv_protocol.specs.Run.{run, world_after}
use Rattle.pv_protocol.specs.State.{Setup}
use Rattle.pv_protocol.specs.WellFormed.{IsWellFormed}
use Rattle.pv_protocol.specs.World.{World, opening}
use Rattle.pv_protocol.specs.WorldStep.{Transition}

-- One transition of a well-formed event, in a world that is known: acts lead to its world, and it is a move.
pub record IsLink (setup : Setup) (world : World) (transition : Transition) : Type 0 where
  pub well : IsWellFormed setup.catalog transition.event
  pub known : IsKnown setup world
  pub acts : Acts setup world transition.world
  pub move : IsMove setup world transition.event transition.world

module _ (setup : Setup) where
  abbrev pub AreLinks : World → List Transition → Type 0
  AreLinks w [] = ⊤
  AreLinks w (transition ∷ transitions) = IsLink setup w transition × AreLinks transition.world transitions

  run-are-links : (w : World) (transitions : List Transition) → AreKnown setup w transitions → AreTransitions setup w transitions → All (HasGoodEvent setup) transitions → AreLinks w transitions
  run-are-links w [] known are good = tt
  run-are-links w (transition ∷ rest) known (transitions.one_more w' transition' rest' is are) good = (
    record {
      well = All-head (HasGoodEvent setup) transition rest good;
      known = known.0.0;
      acts = known.0.1;
      move = subst (λ (t : Transition). IsMove setup w transition.event t.world) (sym is) (transition-move setup w transition.event);
    },
    run-are-links transition.world rest known.1 are (All-tail (HasGoodEvent setup) transition rest good),
  )

  any-are-links : (w : World) (transitions : List Transition) → AreKnown setup w transitions → IsRunWithFaults setup w transitions → AreLinks w transitions
  any-are-links w [] known goes = tt
  any-are-links w (transition ∷ rest) known (anywhere.goes_on w' transition' rest' follows goes) =
      (record { well = follows.well; known = known.0.0; acts = known.0.1; move = follow-move setup w transition follows }, any-are-links transition.world rest known.1 goes)

  pub run-links : (events : List Event) → All (IsWellFormed setup.catalog) events → AreLinks (opening setup) (run setup (opening setup) events)
  run-links events well =
      run-are-links (opening setup) (run setup (opening setup) events) (run-known setup events well) (run-transitions setup (opening setup) events) (run-good setup (opening setup) events well)

  pub any-run-links : (transitions : List Transition) → IsRunWithFaults setup (opening setup) transitions → AreLinks (opening setup) transitions
  any-run-links transitions goes = any-are-links (opening setup) transitions (any-run-known setup transitions goes) goes

  -- The transition of a place is one of the links.
  pub link-at : (first : World) (transitions : List Transition) → AreLinks first transitions → (place : Place transitions)
      → IsLink setup (world_after first place.earlier) place.transition
  link-at first transitions links place = by first transitions place.earlier links place.split where
    by : (w : World) (all before : List Transition) → AreLinks w all → all ≡ before ++ place.transition ∷ place.later → IsLink setup (world_after w before) place.transition
    by w [] [] linked is = absurd cc
    by w [] (t ∷ before) linked is = absurd cc
    by w (transition ∷ rest) [] linked is = subst (IsLink setup w) (heads is) linked.0
    by w (transition ∷ rest) (t ∷ before) linked is =
        by t.world rest before (subst (λ (x : Transition). AreLinks x.world rest) (heads is) linked.1) (tails is)

  -- What is so of no transitions, and with one more where it is so of those before it, is so of each front of a run.
  module _ (first : World) (H : List Transition → Type 0)
      (more : (earlier : List Transition) (transition : Transition) → IsLink setup (world_after first earlier) transition → H earlier → H (earlier ++ transition ∷ [])) where
    along : (earlier rest front back : List Transition) → AreLinks (world_after first earlier) rest → H earlier → rest ≡ front ++ back → H (earlier ++ front)
    along earlier rest [] back links now is = subst H (sym (append-nil earlier)) now
    along earlier [] (t ∷ front) back links now is = absurd cc
    along earlier (transition ∷ rest) (t ∷ front) back links now is =
        subst (λ (x : Transition). H (earlier ++ x ∷ front)) (heads is)
        (subst H (append_assoc earlier (transition ∷ []) front)
        (along (earlier ++ transition ∷ []) rest front back
        (subst (λ (w : World). AreLinks w rest) (sym (world_after-append first earlier (transition ∷ []))) links.1)
        (more earlier transition links.0 now) (tails is)))

    pub each-front : (transitions : List Transition) → AreLinks first transitions → H [] → (place : Place transitions) → H place.earlier
    each-front transitions links now place = along [] transitions place.earlier (place.transition ∷ place.later) links now place.split

    pub whole-run : (transitions : List Transition) → AreLinks first transitions → H [] → H transitions
    whole-run transitions links now = along [] transitions transitions [] links now (sym (append-nil transitions))
