use Rattle.std.proofs.Common.{Bool, List, [], ◌++◌, All, append-nil, sym, subst}
use Rattle.pv_law_hosted.proofs.OutcomeLemmas.{later-acts, sent-outcome, world-reached}
use Rattle.pv_law_hosted.proofs.ReportLemmas.{refusal-held}
use Rattle.pv_law_hosted.proofs.SaidLemmas.{IsSo, one-so, outcome-later, printed-more}
use Rattle.pv_law_hosted.proofs.hosted_sites_tell_one_outcome.Goals as goal
use Rattle.pv_law_hosted.specs.Deployment.{Deployment}
use Rattle.pv_law_hosted.specs.Mirrored.{IsMirrored, world_of}
use Rattle.pv_law_hosted.specs.OneOutcome.{IsSaid, as_committed, as_refused, in_message, told_committed, told_not}
use Rattle.pv_model.specs.Events.{Event}
use Rattle.pv_protocol.specs.Lines.{Line}
use Rattle.pv_protocol.specs.State.{refused}
use Rattle.pv_protocol.specs.WellFormed.{IsWellFormed}

pub returns-clause-later : goal.returns-clause-later
returns-clause-later c setup d later events more txn commits other m then_on first second =
    one-so (world_of setup (events ++ more)) txn commits other (said d events more m then_on.well commits first)
    (subst (λ (all : List Event). IsSo (world_of setup all) txn other) (append-nil (events ++ more))
    (said later (events ++ more) [] then_on (subst (All (IsWellFormed setup.catalog)) (sym (append-nil (events ++ more))) then_on.well) other second)) where
      said : (d : Deployment) (events more : List Event) → IsMirrored setup d events → All (IsWellFormed setup.catalog) (events ++ more) → (commits : Bool)
          → IsSaid setup d txn commits → IsSo (world_of setup (events ++ more)) txn commits
      said d events more m well commits (in_message n envelope reported below there is) =
          let now = world_of setup events in
          let reached = world-reached setup events (c.runs_are_reached.ensures.run setup events m.well) in
          let all_reached = c.runs_are_reached.ensures.run setup (events ++ more) well in
          let acts = later-acts setup events more all_reached in
          outcome-later setup now (world_of setup (events ++ more)) txn reported
          (λ done. c.outcomes_are_for_ever.ensures.commit setup now (world_of setup (events ++ more)) txn acts done)
          (λ dead.
          c.outcomes_are_for_ever.ensures.out setup (world_of setup (events ++ more)) txn (world-reached setup (events ++ more) all_reached)
          (c.outcomes_are_for_ever.ensures.dead setup now (world_of setup (events ++ more)) txn reached acts dead))
          (sent-outcome now envelope txn reported (c.outcomes_are_decided.ensures setup now reached) (c.hosted_sites_agree.ensures.sent setup d events n envelope m below there) is)
      said d events more m well commits (as_committed n replies below there) =
          c.outcomes_are_for_ever.ensures.commit setup (world_of setup events) (world_of setup (events ++ more)) txn
          (later-acts setup events more (c.runs_are_reached.ensures.run setup (events ++ more) well))
          (c.hosted_reports_hold.ensures.commits setup d events n txn replies m below there).committed
      said d events more m well commits (as_refused n cause below there) =
          (refusal-held setup (events ++ more) txn cause (c.refusals_hold.ensures.run setup (events ++ more) well)
          (printed-more setup events more (Line.refuse txn cause) (c.hosted_sites_agree.ensures.printed setup d events n (refused txn cause) m below there))).out.uncommitted
      said d events more m well commits (told_committed n hosted new below here told) =
          c.hosted_outcomes_hold.ensures.commits setup d events more n hosted new txn m below here told well
      said d events more m well commits (told_not n hosted new below here told) =
          (c.hosted_outcomes_hold.ensures.never setup d events more n hosted new txn m below here told well).uncommitted

pub returns-clause-now : goal.returns-clause-now
returns-clause-now c setup d events txn commits other m first second =
    returns-clause-later c setup d d events [] txn commits other m (subst (λ (all : List Event). IsMirrored setup d all) (sym (append-nil events)) m) first second
