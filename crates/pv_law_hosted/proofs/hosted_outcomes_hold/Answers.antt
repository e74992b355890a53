use Rattle.std.proofs.Common.{◌++◌, sym, ◌∙◌}
use Rattle.std.proofs.lemmas.Bool.{true≢false}
use Rattle.pv_law_hosted.proofs.AgreeLemmas.{last-world}
use Rattle.pv_law_hosted.proofs.BegunLemmas.{begun-passed}
use Rattle.pv_law_hosted.proofs.OutcomeLemmas.{dead-told, knows-told, later-acts, number-is, one-reported, passed-told, sent-outcome, works-told, works-uncommitted, world-reached}
use Rattle.pv_law_hosted.proofs.hosted_outcomes_hold.Goals as goal
use Rattle.pv_law_hosted.specs.Mirrored.{world_of}
use Rattle.pv_law_world.specs.Sites.{AreEpochsRecorded, AreMemoriesInOrder}
use Rattle.pv_protocol.specs.Run.{run}
use Rattle.pv_protocol.specs.State.{began}
use Rattle.pv_protocol.specs.World.{opening}

pub returns-clause-commits : goal.returns-clause-commits
returns-clause-commits c setup d events more n hosted new txn mirrored below here told well =
    let now = world_of setup events in
    let reached = world-reached setup events (c.runs_are_reached.ensures.run setup events mirrored.well) in
    let is = c.mirrored_deployments_agree.ensures.shown setup d events n hosted mirrored below here told.1.written in
    let knows = knows-told setup now n hosted told.2.0 txn is told.2.1 (number-is setup d events n hosted mirrored below here) told.1.here told.2.2.1 in
    c.outcomes_are_for_ever.ensures.commit setup now (world_of setup (events ++ more)) txn
    (later-acts setup events more (c.runs_are_reached.ensures.run setup (events ++ more) well)) (c.no_two_outcomes.ensures.commit setup now reached n txn knows)

pub returns-clause-never : goal.returns-clause-never
returns-clause-never c setup d events more n hosted new txn mirrored below here told well =
    let now = world_of setup events in
    let transitions = run setup (opening setup) events in
    let reached = world-reached setup events (c.runs_are_reached.ensures.run setup events mirrored.well) in
    let acts = later-acts setup events more (c.runs_are_reached.ensures.run setup (events ++ more) well) in
    let is = c.mirrored_deployments_agree.ensures.shown setup d events n hosted mirrored below here told.1.written in
    let dead =
    dead-told setup now n hosted told.2.0 txn is told.2.1 (number-is setup d events n hosted mirrored below here) told.1.here reached
    (last-world AreEpochsRecorded (opening setup) transitions (c.epochs_are_recorded.ensures.run setup events))
    (last-world AreMemoriesInOrder (opening setup) transitions (c.memories_are_in_order.ensures.run setup events)) told.2.2.0 told.2.2.1 told.2.2.2 in
    c.outcomes_are_for_ever.ensures.out setup (world_of setup (events ++ more)) txn
    (world-reached setup (events ++ more) (c.runs_are_reached.ensures.run setup (events ++ more) well))
    (c.outcomes_are_for_ever.ensures.dead setup now (world_of setup (events ++ more)) txn reached acts dead)

pub returns-clause-at_work : goal.returns-clause-at_work
returns-clause-at_work c setup d events n hosted new txn mirrored below here told =
    let now = world_of setup events in
    let reached = world-reached setup events (c.runs_are_reached.ensures.run setup events mirrored.well) in
    let is = c.mirrored_deployments_agree.ensures.shown setup d events n hosted mirrored below here told.1.written in
    let works = works-told setup now n hosted told.2.0 txn is told.2.1 (number-is setup d events n hosted mirrored below here) told.1.here told.2.2.0 in
    (works.0, works.1, works-uncommitted now txn works.0 (c.outcomes_are_decided.ensures setup now reached) works.1)

pub returns-clause-begun : goal.returns-clause-begun
returns-clause-begun c setup d events n hosted new txn mirrored below here there told =
    let now = world_of setup events in
    let recorded = c.epochs_are_recorded.ensures.run setup events in
    let is = c.mirrored_deployments_agree.ensures.shown setup d events n hosted mirrored below here told.1.written in
    let passed =
    begun-passed setup events (c.runs_are_reached.ensures.run setup events mirrored.well) recorded (c.memories_are_in_order.ensures.run setup events) txn
    (c.hosted_sites_agree.ensures.printed setup d events n (began txn) mirrored below there) in
    let issued =
    passed-told setup now n hosted told.2.0 txn is told.2.1 (number-is setup d events n hosted mirrored below here) told.1.here
    (last-world AreEpochsRecorded (opening setup) (run setup (opening setup) events) recorded) passed in
    true≢false (sym issued ∙ told.2.2.not_issued)

pub returns-clause-one : goal.returns-clause-one
returns-clause-one c setup d events n m envelope other txn commits reported mirrored below within first second is also =
    let now = world_of setup events in
    let reached = world-reached setup events (c.runs_are_reached.ensures.run setup events mirrored.well) in
    let decided = c.outcomes_are_decided.ensures setup now reached in
    one-reported now txn commits reported
    (sent-outcome now envelope txn commits decided (c.hosted_sites_agree.ensures.sent setup d events n envelope mirrored below first) is)
    (sent-outcome now other txn reported decided (c.hosted_sites_agree.ensures.sent setup d events m other mirrored within second) also)
