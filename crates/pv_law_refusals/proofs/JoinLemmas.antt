-- Each refusal that a run prints holds, where what came before is known.
use Rattle.std.proofs.Common.{◌≡◌, ℕ, List, refl, ap, subst, ◌∙◌}
use Rattle.std.specs.Prelude.{All}
use Rattle.std.proofs.lemmas.List.Elements.{All-contains}
use Rattle.pv_base.specs.declared.txn.TxnId.{TxnId}
use Rattle.pv_law_acts.specs.Seen.{records_at, memory_at}
use Rattle.pv_law_answers.proofs.LineLemmas.{come-ends, line-noted}
use Rattle.pv_law_answers.proofs.RunLemmas.{there, follows-there, is-transition, noted-there}
use Rattle.pv_law_answers.proofs.Origin.{IsNoted}
use Rattle.pv_law_refusals.specs.Histories.{MessagesCameOf}
use Rattle.pv_law_refusals.specs.Waits.{EntriesHaveAge}
use Rattle.pv_law_events.specs.Reached.{AreReached}
use Rattle.pv_law_outcomes.proofs.DecidedLemmas.{always-settled}
use Rattle.pv_law_refusals.proofs.CauseLemmas.{delivered-of, time-of, cause-by}
use Rattle.pv_law_refusals.proofs.OutLemmas.{home, refuses, refused-dead, out-later}
use Rattle.pv_law_world.proofs.DisarmLemmas.{site-disarmed}
use Rattle.pv_law_world.specs.Sites.{AreMemoriesInOrder}
use Rattle.pv_law_world.specs.Transitions.{AreTransitions}
use Rattle.pv_protocol.specs.Anywhere.{MayFollow, IsRunWithFaults}
use Rattle.pv_protocol.specs.Attempt.{begun}
use Rattle.pv_protocol.specs.Causes.{HasCause, RefusalsHold}
use Rattle.pv_protocol.specs.Lines.{Line}
use Rattle.pv_protocol.specs.Outcomes.{IsOut}
use Rattle.pv_protocol.specs.Places.{Place, world_before}
use Rattle.pv_protocol.specs.Run.{worlds_of}
use Rattle.pv_protocol.specs.State.{Setup, Site, Cause}
use Rattle.pv_protocol.specs.World.{World, opening}
use Rattle.pv_protocol.specs.WorldStep.{Transition}

module _ (setup : Setup) (all : List Transition) (reached : AreReached setup (worlds_of (opening setup) all)) (ordered : All AreMemoriesInOrder (worlds_of (opening setup) all))
    (messages : (place : Place all) → MessagesCameOf setup (opening setup) place.earlier) (ages : (place : Place all) → EntriesHaveAge setup (opening setup) place.earlier) where
  holds-by : (place : Place all) (txn : TxnId) (cause : Cause) (left : World) → IsNoted setup (world_before (opening setup) place) place.transition.event (Line.refuse txn cause) left
      → ((n : ℕ) → records_at place.transition.world n ≡ records_at left n) → ((n : ℕ) → memory_at place.transition.world n ≡ memory_at left n)
      → All (IsOut txn) (worlds_of place.transition.world place.later) × HasCause setup (opening setup) place.earlier place.transition txn cause
  holds-by place txn cause left noted records memory =
      let now = world_before (opening setup) place in
      let at = there setup all reached place in
      let in_order : AreMemoriesInOrder now = All-contains AreMemoriesInOrder (worlds_of (opening setup) all) now ordered at.listed in
      let settled = always-settled setup now at.before in
      let dead = refused-dead setup now place.transition txn cause left noted records memory in_order settled at.goes in
      let own_home = home setup now place.transition txn cause left noted records memory in_order settled at.goes in (
        out-later setup place.earlier place.transition place.later (subst (λ ts. AreReached setup (worlds_of (opening setup) ts)) place.split reached) txn dead,
        cause-by setup place.earlier place.transition (messages place) (ages place) noted.n noted.running noted.up in_order txn own_home noted.input cause
            (refuses setup now place.transition txn cause left noted records memory in_order settled at.goes)
            (λ from message is. delivered-of now place.transition.event noted.n noted.input noted.found noted.gives from message is)
            (λ is. time-of now place.transition.event noted.n noted.input noted.found noted.gives is),
      )

  pub any-refusals : IsRunWithFaults setup (opening setup) all → RefusalsHold setup (opening setup) all
  any-refusals run place txn cause listed =
      let now = world_before (opening setup) place in
      let follows : MayFollow setup now place.transition = follows-there setup (opening setup) place.earlier place.transition place.later (subst (IsRunWithFaults setup (opening setup)) place.split run) in
      holds-by place txn cause follows.left
      (line-noted setup now (Line.refuse txn cause) tt place.transition.event place.transition.lines follows.left
      (come-ends (begun setup now place.transition.event) place.transition.lines follows.left follows.comes) listed)
      (λ n. ap (λ w. records_at w n) follows.after ∙ ap (λ (s : Site). s.records) (site-disarmed follows.left n))
      (λ n. ap (λ w. memory_at w n) follows.after ∙ ap (λ (s : Site). s.running) (site-disarmed follows.left n))

  pub run-refusals : AreTransitions setup (opening setup) all → RefusalsHold setup (opening setup) all
  run-refusals are place txn cause listed =
      let now = world_before (opening setup) place in
      let is = is-transition setup (opening setup) place.earlier place.transition place.later (subst (AreTransitions setup (opening setup)) place.split are) in
      holds-by place txn cause place.transition.world (noted-there setup now place.transition (Line.refuse txn cause) is tt listed) (λ n. refl) (λ n. refl)
