-- Along a run: once a transaction has ended, nothing tells its end any more.
use Rattle.std.proofs.Common.{◌≡◌, ⊎_elim, List, [], ◌∷◌, ◌++◌, refl, sym, ap, subst, ◌∙◌}
use Rattle.std.specs.Prelude.{⊤}
use Rattle.std.specs.List.{Contains}
use Rattle.std.proofs.lemmas.List.Elements.{Contains-append_cases}
use Rattle.pv_base.proofs.ContainsLemmas.{Contains-nil}
use Rattle.pv_base.proofs.OrderLemmas.{pairs-nil}
use Rattle.pv_base.specs.declared.txn.TxnId.{TxnId}
use Rattle.pv_law_acts.proofs.ActSteps.{act-step}
use Rattle.pv_law_acts.specs.Acts as acts
use Rattle.pv_law_acts.specs.Acts.{Acts, no_act}
use Rattle.pv_law_acts.specs.Seen.{memory_at}
use Rattle.pv_law_answers.proofs.LineLemmas.{come-ends, ended-ends}
use Rattle.pv_law_answers.proofs.Origin.{Ends}
use Rattle.pv_law_ends.proofs.LineEnds.{HasEnded, TellsRight, tells-right}
use Rattle.pv_law_ends.proofs.Pairs.{pairs-join}
use Rattle.pv_law_ends.specs.Ends.{TellOtherEnds, TellsEnd, TxnsEndAtHome, TxnsEndOnce}
use Rattle.pv_law_events.proofs.EventActs.{IsKnown}
use Rattle.pv_law_events.proofs.RunActs.{AreKnown}
use Rattle.pv_law_outcomes.proofs.DecidedLemmas.{IsSettled, worked-before}
use Rattle.pv_law_outcomes.proofs.OutcomeLemmas.{settled-after}
use Rattle.pv_law_world.proofs.DisarmLemmas.{site-disarmed}
use Rattle.pv_law_world.specs.Transitions as transitions
use Rattle.pv_law_world.specs.Transitions.{AreTransitions, site_of}
use Rattle.pv_protocol.specs.Anywhere as anywhere
use Rattle.pv_protocol.specs.Anywhere.{IsRunWithFaults}
use Rattle.pv_protocol.specs.Attempt.{begun}
use Rattle.pv_protocol.specs.Lines.{Line}
use Rattle.pv_protocol.specs.Run.{lines_of_transitions, world_after}
use Rattle.pv_protocol.specs.State.{Setup, Site}
use Rattle.pv_protocol.specs.World.{World}
use Rattle.pv_protocol.specs.WorldStep.{Transition, transition_of}

module _ (setup : Setup) where
  -- ## Each transition tells ends rightly
  abbrev pub AllTell : World → List Transition → Type 0
  AllTell world [] = ⊤
  AllTell world (transition ∷ transitions) = (IsKnown setup world → Acts setup world transition.world → TellsRight world transition) × AllTell transition.world transitions

  pub any-tell : (world : World) (all : List Transition) → IsRunWithFaults setup world all → AllTell world all
  any-tell world [] (anywhere.ends world') = tt
  any-tell world (t ∷ all) (anywhere.goes_on world' t' all' follows rest) = (
    tells-right setup world t follows.left (come-ends (begun setup world t.event) t.lines follows.left follows.comes)
        (λ n. ap (λ w. memory_at w n) follows.after ∙ ap (λ (s : Site). s.running) (site-disarmed follows.left n)),
    any-tell t.world all rest,
  )

  transition-ends : (world : World) (t : Transition) → t ≡ transition_of setup world t.event → Ends (begun setup world t.event) t.lines t.world
  unfolding transition_of
  transition-ends world t is =
      subst (λ (u : Transition). Ends (begun setup world t.event) u.lines u.world) (sym is) (ended-ends (begun setup world t.event))

  pub run-tell : (world : World) (all : List Transition) → AreTransitions setup world all → AllTell world all
  run-tell world [] (transitions.none world') = tt
  run-tell world (t ∷ all) (transitions.one_more world' t' all' is rest) = (
    tells-right setup world t t.world (transition-ends world t is) (λ n. refl),
    run-tell t.world all rest,
  )

  -- ## What has ended doesn't end again
  ended-after : (txn : TxnId) (w v : World) → Acts setup w v → IsSettled setup w → HasEnded w txn → HasEnded v txn
  ended-after txn w v (no_act world) settled over = over
  ended-after txn w v (acts.one_more first next after before act) settled over =
      let then_ : IsSettled setup next = settled-after setup first next before settled in
      let mid = ended-after txn first next before settled over in
      record {
        passed = (act-step setup next after act).txns txn mid.passed;
        idle = λ n entry works.
            let was = worked-before setup next after (act-step setup next after act) then_.sound then_.decided n txn entry mid.passed works in mid.idle n was.0 was.1;
      }

  none-later : (world : World) (all : List Transition) → AreKnown setup world all → AllTell world all → (txn : TxnId) → HasEnded world txn
      → (line : Line) → Contains (lines_of_transitions all) line → TellsEnd txn line → ⊥
  none-later world [] known tell txn over line there tells = Contains-nil line there
  none-later world (t ∷ all) known tell txn over line there tells =
      ⊎_elim
      (λ now. let is = (tell.0 known.0.0 known.0.1).each txn line now tells in over.idle is.n is.entry is.works)
      (λ later. none-later t.world all known.1 tell.1 txn (ended-after txn world t.world known.0.1 known.0.0.settled over) line later tells)
      (Contains-append_cases t.lines (lines_of_transitions all) line there)

  pub end-once : (world : World) (all : List Transition) → AreKnown setup world all → AllTell world all → TxnsEndOnce all
  end-once world [] known tell = pairs-nil TellOtherEnds
  end-once world (t ∷ all) known tell =
      let right = tell.0 known.0.0 known.0.1 in
      pairs-join TellOtherEnds t.lines (lines_of_transitions all) right.once (end-once t.world all known.1 tell.1)
      (λ line later here there txn first second. none-later t.world all known.1 tell.1 txn (right.each txn line here first).over later there second)

  -- ## Where it ends
  right-there : (world : World) (earlier : List Transition) (t : Transition) (later : List Transition) → AreKnown setup world (earlier ++ t ∷ later)
      → AllTell world (earlier ++ t ∷ later) → TellsRight (world_after world earlier) t
  right-there world [] t later known tell = tell.0 known.0.0 known.0.1
  right-there world (e ∷ earlier) t later known tell = right-there e.world earlier t later known.1 tell.1

  pub end-at-home : (world : World) (all : List Transition) → AreKnown setup world all → AllTell world all → TxnsEndAtHome world all
  end-at-home world all known tell place txn line there tells =
      let right =
      right-there world place.earlier place.transition place.later (subst (AreKnown setup world) place.split known) (subst (AllTell world) place.split tell) in
      (right.each txn line there tells).home
