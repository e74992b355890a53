use Rattle.std.proofs.Common.{arith, sym, ap, ◌∙◌, subst}
use Rattle.pv_base.specs.Catalog.{Declared}
use Rattle.pv_base.specs.declared.limits.TheConstants.{HELD_NAMES, READ_NAMES}
use Rattle.pv_law_events.specs.Replays.{AreReplayable}
use Rattle.pv_law_hosted.proofs.AgreeLemmas.{last-world}
use Rattle.pv_law_hosted.proofs.ClaimLemmas.{bad-left, holds-moved, journal-left}
use Rattle.pv_law_hosted.proofs.GrownLemmas.{narrow-grown, promised-below}
use Rattle.pv_law_hosted.proofs.NarrowLemmas.{left-narrow, narrow-raised}
use Rattle.pv_law_hosted.proofs.OutcomeLemmas.{world-reached}
use Rattle.pv_law_hosted.proofs.left_files_are_read.Goals as goal
use Rattle.pv_law_hosted.specs.Deployment.{station_at}
use Rattle.pv_law_hosted.specs.Mirrored.{world_of}
use Rattle.pv_model.specs.Events.{Schedule}
use Rattle.pv_protocol.specs.Run.{run}
use Rattle.pv_protocol.specs.Width.{IsNarrow}
use Rattle.pv_protocol.specs.World.{opening, site_at}
use Rattle.pv_site.specs.SiteState.{setup_of}
use Rattle.pv_store.specs.Refusals.{too_many_in}

pub returns-clause-ours : goal.returns-clause-ours
returns-clause-ours c config setup d events n place bytes mirrored below gone same refused =
    let site = site_at (world_of setup events) n in
    let left = journal-left bytes site
    (holds-moved (λ them contents others first other. (c.one_journal.ensures them).one_value contents others first other) (station_at d n).file bytes same site
    (c.mirrored_deployments_agree.ensures.file setup d events n mirrored below gone)) in
    (c.one_journal.ensures bytes).not_both left.0 place left.2 refused.3

pub returns-clause-records : goal.returns-clause-records
returns-clause-records c config setup d events n index bytes mirrored below gone same refused =
    let site = site_at (world_of setup events) n in
    let left = journal-left bytes site
    (holds-moved (λ them contents others first other. (c.one_journal.ensures them).one_value contents others first other) (station_at d n).file bytes same site
    (c.mirrored_deployments_agree.ensures.file setup d events n mirrored below gone)) in
    bad-left left.0 refused.3.0 left.1 index ((c.one_journal.ensures bytes).one_value left.0 refused.3.0 left.2 refused.3.1) left.3 refused.3.2

pub returns-clause-narrow : goal.returns-clause-narrow
returns-clause-narrow c config schedule d events n count bytes configured mirrored below gone held refused =
    let setup = setup_of schedule.catalog in
    let worlds =
    c.starts_find_sound_records.ensures.run setup events (c.schedules_are_in_range.ensures config schedule READ_NAMES HELD_NAMES configured.0 (omega arith) (omega arith)) mirrored.well in
    let found = last-world (AreReplayable setup) (opening setup) (run setup (opening setup) events) worlds n below in
    let same = c.one_schedule.ensures config schedule refused.0 configured.0 refused.1.0 in
    left-narrow (λ them contents others first other. (c.one_journal.ensures them).one_value contents others first other) schedule.catalog n bytes
    refused.3.0 refused.3.2.0 count refused.3.1 refused.3.2.1 (ap (λ (s : Schedule). too_many_in s.catalog n refused.3.2.0) same ∙ refused.3.2.2)
    (site_at (world_of setup events) n)
    (holds-moved (λ them contents others first other. (c.one_journal.ensures them).one_value contents others first other) (station_at d n).file bytes held (site_at (world_of setup events) n)
    (c.mirrored_deployments_agree.ensures.file setup d events n mirrored below gone))
    found.narrow

pub returns-clause-raised : goal.returns-clause-raised
returns-clause-raised c config later_config schedule later limit d events n count bytes configured raised is mirrored below gone held refused =
    let setup = setup_of schedule.catalog in
    let worlds =
    c.starts_find_sound_records.ensures.run setup events (c.schedules_are_in_range.ensures config schedule READ_NAMES HELD_NAMES configured.0 (omega arith) (omega arith)) mirrored.well in
    let found = last-world (AreReplayable setup) (opening setup) (run setup (opening setup) events) worlds n below in
    let site = site_at (world_of setup events) n in
    let same = c.one_schedule.ensures later_config later refused.0 raised.0 refused.1.0 in
    left-narrow (λ them contents others first other. (c.one_journal.ensures them).one_value contents others first other) later.catalog n bytes
    refused.3.0 refused.3.2.0 count refused.3.1 refused.3.2.1 (ap (λ (s : Schedule). too_many_in s.catalog n refused.3.2.0) same ∙ refused.3.2.2)
    site
    (holds-moved (λ them contents others first other. (c.one_journal.ensures them).one_value contents others first other) (station_at d n).file bytes held site
    (c.mirrored_deployments_agree.ensures.file setup d events n mirrored below gone))
    (subst (λ (catalog : Declared). IsNarrow HELD_NAMES catalog n site.records) (sym is) (narrow-raised schedule.catalog limit n site.records found.narrow))

pub returns-clause-grown : goal.returns-clause-grown
returns-clause-grown c config later_config schedule later wider limit d events n count bytes configured raised grown is mirrored below gone held refused =
    let setup = setup_of schedule.catalog in
    let now = world_of setup events in
    let worlds =
    c.starts_find_sound_records.ensures.run setup events (c.schedules_are_in_range.ensures config schedule READ_NAMES HELD_NAMES configured.0 (omega arith) (omega arith)) mirrored.well in
    let found = last-world (AreReplayable setup) (opening setup) (run setup (opening setup) events) worlds n below in
    let coherent = c.locks_are_coherent.ensures setup now (world-reached setup events (c.runs_are_reached.ensures.run setup events mirrored.well)) in
    let site = site_at now n in
    let same = c.one_schedule.ensures later_config later refused.0 raised.0 refused.1.0 in
    left-narrow (λ them contents others first other. (c.one_journal.ensures them).one_value contents others first other) later.catalog n bytes
    refused.3.0 refused.3.2.0 count refused.3.1 refused.3.2.1 (ap (λ (s : Schedule). too_many_in s.catalog n refused.3.2.0) same ∙ refused.3.2.2)
    site
    (holds-moved (λ them contents others first other. (c.one_journal.ensures them).one_value contents others first other) (station_at d n).file bytes held site
    (c.mirrored_deployments_agree.ensures.file setup d events n mirrored below gone))
    (subst (λ (catalog : Declared). IsNarrow HELD_NAMES catalog n site.records) (sym is)
    (narrow-raised wider limit n site.records (narrow-grown schedule.catalog wider grown n site.records found.narrow (promised-below setup now n coherent))))
