-- The worlds of a run are reached by acts, one after another.
use Rattle.std.proofs.Common.{◌≡◌, true, false, List, [], ◌∷◌, ◌++◌, map, sym, subst}
use Rattle.std.specs.Prelude.{All, ⊤}
use Rattle.std.proofs.lemmas.List.Elements.{All-cons, All-nil, All-head, All-tail}
use Rattle.pv_base.proofs.Basics.{heads, tails}
use Rattle.pv_law_acts.specs.Acts.{Acts, no_act}
use Rattle.pv_law_events.proofs.EventActs.{then-acts, IsKnown, transition-acts, follow-acts}
use Rattle.pv_law_events.specs.Reached.{AreReached}
use Rattle.pv_law_outcomes.proofs.DecidedLemmas.{IsSettled, always-settled}
use Rattle.pv_law_outcomes.proofs.OutcomeLemmas.{settled-after, known-outcome, one-outcome, dead-out, dead-after}
use Rattle.pv_law_acts.specs.Seen.{IsDead}
use Rattle.pv_law_world.proofs.EpochLemmas.{IsRecorded, epochs-kept, IsOrdered, order-kept}
use Rattle.pv_law_world.proofs.RangeLemmas.{up-within}
use Rattle.pv_law_world.proofs.RunRangeLemmas.{HasGoodEvent, run-good}
use Rattle.pv_law_world.proofs.SiteLemmas.{WhereUp, Holds, opening-holds, transition-holds, follow-holds}
use Rattle.pv_law_world.proofs.TransitionLemmas.{run-transitions}
use Rattle.pv_law_world.specs.Transitions as transitions
use Rattle.pv_law_world.specs.Transitions.{AreTransitions}
use Rattle.pv_base.specs.declared.txn.TxnId.{TxnId}
use Rattle.pv_model.specs.Events.{Event}
use Rattle.pv_protocol.specs.Anywhere as anywhere
use Rattle.pv_protocol.specs.Anywhere.{IsRunWithFaults}
use Rattle.pv_protocol.specs.Outcomes.{IsOut, OutcomesAgree}
use Rattle.pv_protocol.specs.Run.{run, worlds_of}
use Rattle.pv_protocol.specs.State.{Setup}
use Rattle.pv_protocol.specs.WellFormed.{IsWellFormed}
use Rattle.pv_protocol.specs.World.{World, opening}
use Rattle.pv_protocol.specs.WorldStep.{Transition}

module _ (setup : Setup) where
  -- Each world is reached from the one before it.
  abbrev Linked : World → List World → Type 0
  Linked w [] = ⊤
  Linked w (v ∷ worlds) = Acts setup w v × Linked v worlds

  linked-all : (first w : World) (worlds : List World) → Acts setup first w → Linked w worlds → All (Acts setup first) worlds
  linked-all first w [] reached linked = All-nil (Acts setup first)
  linked-all first w (v ∷ worlds) reached linked =
      let now : Acts setup first v = then-acts setup first w v reached linked.0 in
      All-cons (Acts setup first) v worlds now (linked-all first v worlds now linked.1)

  linked-split : (first w : World) (worlds before later : List World) (world : World) → Acts setup first w → Linked w worlds → worlds ≡ before ++ world ∷ later
      → Acts setup first world × All (Acts setup world) later
  linked-split first w [] [] later world reached linked is = absurd cc
  linked-split first w [] (b ∷ before) later world reached linked is = absurd cc
  linked-split first w (v ∷ worlds) [] later world reached linked is =
      let same : v ≡ world = heads is in (
        subst (Acts setup first) same (then-acts setup first w v reached linked.0),
        subst (λ (all : List World). All (Acts setup world) all) (tails is)
            (subst (λ (x : World). All (Acts setup x) worlds) same (linked-all v v worlds (no_act v) linked.1)),
      )
  linked-split first w (v ∷ worlds) (b ∷ before) later world reached linked is =
      linked-split first v worlds before later world (then-acts setup first w v reached linked.0) linked.1 (tails is)

  reached-of : (transitions : List Transition) → Linked (opening setup) (map (λ transition. transition.world) transitions) → AreReached setup (worlds_of (opening setup) transitions)
  reached-of transitions linked before later world is =
      linked-split (opening setup) (opening setup) (worlds_of (opening setup) transitions) before later world (no_act (opening setup)) (no_act (opening setup), linked) is

  -- What each site keeps.
  abbrev Epochs : World → Type 0
  Epochs = Holds setup (WhereUp IsRecorded) (epochs-kept setup)

  abbrev Order : World → Type 0
  Order = Holds setup (WhereUp IsOrdered) (order-kept setup)

  known-of : (w : World) → Acts setup (opening setup) w → Epochs w → Order w → IsKnown setup w
  known-of w reached epochs order = record {
    reached = reached;
    settled = always-settled setup w reached;
    recorded = λ n running up. epochs n (up-within w.sites n running up) running up;
    ordered = λ n running up. order n (up-within w.sites n running up) running up;
  }

  -- Of each transition of a run the world before it is known, and acts lead to the one after it.
  abbrev pub AreKnown : World → List Transition → Type 0
  AreKnown w [] = ⊤
  AreKnown w (transition ∷ transitions) = (IsKnown setup w × Acts setup w transition.world) × AreKnown transition.world transitions

  run-linked : (w : World) (transitions : List Transition) → Acts setup (opening setup) w → Epochs w → Order w → AreTransitions setup w transitions
      → All (HasGoodEvent setup) transitions → AreKnown w transitions
  run-linked w [] reached epochs order are good = tt
  run-linked w (transition ∷ rest) reached epochs order (transitions.one_more w' transition' rest' is are) good =
      let now : Acts setup w transition.world =
      subst (λ (t : Transition). Acts setup w t.world) (sym is)
      (transition-acts setup w (known-of w reached epochs order) transition.event (All-head (HasGoodEvent setup) transition rest good)) in (
        (known-of w reached epochs order, now),
        run-linked transition.world rest (then-acts setup (opening setup) w transition.world reached now)
            (subst (λ (t : Transition). Epochs t.world) (sym is) (transition-holds setup (WhereUp IsRecorded) (epochs-kept setup) w transition.event epochs))
            (subst (λ (t : Transition). Order t.world) (sym is) (transition-holds setup (WhereUp IsOrdered) (order-kept setup) w transition.event order))
            are (All-tail (HasGoodEvent setup) transition rest good),
      )

  any-linked : (w : World) (transitions : List Transition) → Acts setup (opening setup) w → Epochs w → Order w → IsRunWithFaults setup w transitions
      → AreKnown w transitions
  any-linked w [] reached epochs order run = tt
  any-linked w (transition ∷ rest) reached epochs order (anywhere.goes_on w' transition' rest' follows run) =
      let now : Acts setup w transition.world = follow-acts setup w (known-of w reached epochs order) transition follows in (
        (known-of w reached epochs order, now),
        any-linked transition.world rest (then-acts setup (opening setup) w transition.world reached now)
            (follow-holds setup (WhereUp IsRecorded) (epochs-kept setup) w transition epochs follows)
            (follow-holds setup (WhereUp IsOrdered) (order-kept setup) w transition order follows)
            run,
      )

  known-linked : (w : World) (transitions : List Transition) → AreKnown w transitions → Linked w (map (λ transition. transition.world) transitions)
  known-linked w [] known = tt
  known-linked w (transition ∷ transitions) known = (known.0.1, known-linked transition.world transitions known.1)

  pub run-known : (events : List Event) → All (IsWellFormed setup.catalog) events → AreKnown (opening setup) (run setup (opening setup) events)
  run-known events well =
      run-linked (opening setup) (run setup (opening setup) events) (no_act (opening setup))
      (opening-holds setup (WhereUp IsRecorded) (epochs-kept setup)) (opening-holds setup (WhereUp IsOrdered) (order-kept setup))
      (run-transitions setup (opening setup) events) (run-good setup (opening setup) events well)

  pub any-run-known : (transitions : List Transition) → IsRunWithFaults setup (opening setup) transitions → AreKnown (opening setup) transitions
  any-run-known transitions run =
      any-linked (opening setup) transitions (no_act (opening setup))
      (opening-holds setup (WhereUp IsRecorded) (epochs-kept setup)) (opening-holds setup (WhereUp IsOrdered) (order-kept setup)) run

  pub run-reached : (events : List Event) → All (IsWellFormed setup.catalog) events → AreReached setup (worlds_of (opening setup) (run setup (opening setup) events))
  run-reached events well =
      reached-of (run setup (opening setup) events) (known-linked (opening setup) (run setup (opening setup) events) (run-known events well))

  pub any-run-reached : (transitions : List Transition) → IsRunWithFaults setup (opening setup) transitions → AreReached setup (worlds_of (opening setup) transitions)
  any-run-reached transitions run = reached-of transitions (known-linked (opening setup) transitions (any-run-known transitions run))

  -- Outcomes.

  later-out : (world : World) → IsSettled setup world → (txn : TxnId) → IsDead world txn → (later : List World) → All (Acts setup world) later → All (IsOut txn) later
  later-out world settled txn dead [] reached = All-nil (IsOut txn)
  later-out world settled txn dead (v ∷ later) reached =
      let now : Acts setup world v = All-head (Acts setup world) v later reached in
      All-cons (IsOut txn) v later
      (dead-out setup v (settled-after setup world v now settled) txn (dead-after setup txn world v now settled dead))
      (later-out world settled txn dead later (All-tail (Acts setup world) v later reached))

  pub outcomes-agree : (worlds : List World) → AreReached setup worlds → OutcomesAgree worlds
  outcomes-agree worlds reached before later world is =
      let at = reached before later world is in
      let settled : IsSettled setup world = always-settled setup world at.0 in
      record {
        one = λ n other txn commits reported knows also. one-outcome setup world settled n other txn commits reported knows also;
        commit = λ n txn knows. known-outcome setup world settled n txn true knows;
        abort = λ n txn knows.
            let dead : IsDead world txn = known-outcome setup world settled n txn false knows in
            All-cons (IsOut txn) world later (dead-out setup world settled txn dead) (later-out world settled txn dead later at.1);
      }
