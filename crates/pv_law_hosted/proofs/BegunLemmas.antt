-- A number that was reported is given: its site doesn't say that it may still give it to a transaction.
use Rattle.std.proofs.Common.{◌≡◌, ◌<◌, true, Some, inl, inr, List, All, sym, ap, ◌∙◌, subst}
use Rattle.std.specs.Prelude.{◌&&◌, ◌||◌, ◌==◌, nat_lt}
use Rattle.std.specs.List.{Contains}
use Rattle.std.proofs.Math.Bool.{or-true}
use Rattle.std.proofs.lemmas.Bool.{and_from, eq-eqb, lt-ltb}
use Rattle.std.proofs.lemmas.List.Elements.{All-contains}
use Rattle.pv_base.specs.declared.txn.TxnId.{TxnId}
use Rattle.pv_format.specs.Contents.{greatest_epoch}
use Rattle.pv_law_acts.proofs.PassedLemmas.{passed-later}
use Rattle.pv_law_acts.specs.Seen.{IsNumberPassed, IsPassed}
use Rattle.pv_law_answers.proofs.RunLemmas.{there}
use Rattle.pv_law_answers.proofs.TxnNumbers.{run-giving}
use Rattle.pv_law_events.proofs.EventActs.{IsKnown}
use Rattle.pv_law_events.specs.Reached.{AreReached}
use Rattle.pv_law_outcomes.proofs.DecidedLemmas.{always-settled}
use Rattle.pv_law_world.proofs.TransitionLemmas.{run-transitions}
use Rattle.pv_law_world.specs.Sites.{AreEpochsRecorded, AreMemoriesInOrder}
use Rattle.pv_model.specs.Events.{Event}
use Rattle.pv_protocol.specs.Here.{Here}
use Rattle.pv_protocol.specs.Lines.{Line}
use Rattle.pv_protocol.specs.Outcome.{is_issued}
use Rattle.pv_protocol.specs.Places.{world_before}
use Rattle.pv_protocol.specs.Run.{printed, run, worlds_of}
use Rattle.pv_protocol.specs.State.{Setup}
use Rattle.pv_protocol.specs.World.{opening}
use Rattle.pv_protocol.specs.WorldStep.{Transition}
use Rattle.pv_law_hosted.proofs.ReportLemmas.{in-run, to-the-last}
use Rattle.pv_law_hosted.specs.Mirrored.{world_of}

-- What will not be given any more at a site that is up was given, as the site sees it.
pub passed-issued : (here : Here) (txn : TxnId) → here.me ≡ txn.site.0 → here.running.epoch ≡ greatest_epoch here.records
    → IsNumberPassed here.records (Some here.running.next_txn) txn.epoch txn.number → is_issued here txn ≡ true
passed-issued here txn mine epoch (inl earlier) =
    and_from (here.me == txn.site.0) _ (eq-eqb here.me txn.site.0 mine)
    (ap (λ b. b || ((txn.epoch == here.running.epoch) && nat_lt txn.number here.running.next_txn))
    (lt-ltb txn.epoch here.running.epoch (subst (λ e. txn.epoch < e) (sym epoch) earlier)))
passed-issued here txn mine epoch (inr now) =
    and_from (here.me == txn.site.0) _ (eq-eqb here.me txn.site.0 mine)
    (ap (λ b. nat_lt txn.epoch here.running.epoch || b)
    (and_from _ _ (eq-eqb txn.epoch here.running.epoch (now.0 ∙ sym epoch)) (lt-ltb txn.number here.running.next_txn now.1))
    ∙ or-true _)

module _ (setup : Setup) (events : List Event) (reached : AreReached setup (worlds_of (opening setup) (run setup (opening setup) events)))
    (recorded : All AreEpochsRecorded (worlds_of (opening setup) (run setup (opening setup) events)))
    (ordered : All AreMemoriesInOrder (worlds_of (opening setup) (run setup (opening setup) events))) where
  abbrev transitions : List Transition
  transitions = run setup (opening setup) events

  -- A number that a run has printed will not be given any more.
  pub begun-passed : (txn : TxnId) → Contains (printed setup events) (Line.txn txn) → IsPassed (world_of setup events) txn
  begun-passed txn is =
      let at = in-run setup events (Line.txn txn) is in
      let now = world_before (opening setup) at.place in
      let here = there setup transitions reached at.place in
      let known : IsKnown setup now = record {
        reached = here.before;
        settled = always-settled setup now here.before;
        recorded = All-contains AreEpochsRecorded (worlds_of (opening setup) transitions) now recorded here.listed;
        ordered = All-contains AreMemoriesInOrder (worlds_of (opening setup) transitions) now ordered here.listed;
      } in
      let given =
      run-giving setup (opening setup) transitions (run-transitions setup (opening setup) events) at.place.earlier at.place.transition at.place.later at.place.split known txn
      at.there in
      passed-later setup txn at.place.transition.world (world_of setup events) (to-the-last setup events reached at.place) given.passed
