-- The events of the merge are well formed.
use Rattle.std.proofs.Common.{map, ap, sym, subst, ◌∙◌}
use Rattle.std.specs.Prelude.{All}
use Rattle.pv_law_histories.specs.Merge.{merge}
use Rattle.pv_merge.specs.Moments.{histories_of}
use Rattle.pv_protocol.specs.WellFormed.{IsWellFormed}
use Rattle.pv_script.specs.ScheduleView.{event_of, HasPlan}
use Rattle.pv_site.specs.SiteState.{setup_of}
use Rattle.pv_cluster_tests.proofs.world.merge_and_run.Goals as goal

pub ran-requires : goal.ran-requires
ran-requires c =
    let catalog = c.args.catalog.now in
    let histories = histories_of c.args.histories.now in
    let moments = merge histories in
    let is = c.histories_have_one_merge.ensures.there histories c.requires.fit.rising in
    let same = ap (map event_of) c.deref.ensures.value ∙ c.in_ok-run.ensures.events moments is in
    record {
      formed = subst (All (IsWellFormed catalog)) (sym same)
          (c.merged_events_are_well_formed.ensures (setup_of catalog) histories moments c.requires.fit is c.requires.done);
      plans = subst (All (HasPlan catalog)) (sym c.deref.ensures.value) c.in_ok-run.ensures.plans;
    }
