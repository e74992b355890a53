use Rattle.std.proofs.Common.{◌∙◌, ◌≤◌, ◌^◌, ℕ, List, All, length, map, ap, sym, subst, arith}
use Rattle.std.proofs.lemmas.List.{length-map}
use Rattle.pv_law_histories.specs.Merge as model
use Rattle.pv_law_histories.specs.Merge.{AreInOrder, IsMerge, events_of_merge, lines_of_merge}
use Rattle.pv_model.specs.Events as law
use Rattle.pv_protocol.specs.Run.{printed, run, world_after}
use Rattle.pv_protocol.specs.World.{opening, site_at}
use Rattle.pv_site.specs.SiteState.{setup_of}
use Rattle.pv_merge.proofs.FittingLemmas.{length-histories, length-merge, sent-among, sizes-in}
use Rattle.pv_merge.proofs.run.merge.Goals as goal
use Rattle.pv_merge.specs.Numbers.{numbers_from}
use Rattle.pv_merge.specs.Moments.{AreMomentsPlanned, IsSentAmong, histories_of, moment_of}
use Rattle.pv_merge.specs.declared.moment.Moment.{Moment}

pub in_order-requires-clause-count : goal.in_order-requires-clause-count
in_order-requires-clause-count c = omega (arith, c.requires.fit.count, length-histories c.args.histories.now, c.sites.ensures.count)

pub numbers_of-requires : goal.numbers_of-requires
numbers_of-requires c =
    let histories = histories_of c.args.histories.now in
    omega (
      arith,
      ap length c.deref.ensures.value,
      length-map c.in_ok-moments.moments.items moment_of,
      ap length c.in_ok-moments.ensures.moments,
      length-merge 0 histories (sizes-in c.args.histories.now c.requires.sizes),
      c.requires.fit.count,
      c.sites.ensures.count,
      c.sites.ensures.bound,
    )

pub told-requires : goal.told-requires
told-requires c =
    let histories = histories_of c.args.histories.now in
    let setup = setup_of c.args.catalog.now in
    let all = map moment_of c.in_ok-moments.moments.items in
    let merged : IsMerge histories all = subst (IsMerge histories) (sym c.in_ok-moments.ensures.moments) (c.histories_have_one_merge.ensures.there histories c.requires.fit.rising) in
    let seen = sym (ap (map moment_of) c.deref-2.ensures.value) in
    record {
      order = subst AreInOrder seen merged.order;
      numbers = c.deref-3.ensures.value ∙ c.in_ok-numbers.ensures.numbers
          ∙ ap (λ (moments : List Moment). numbers_from 0 (map moment_of moments)) (c.deref.ensures.value ∙ sym c.deref-2.ensures.value);
      small = subst (All (λ (number : ℕ). number ≤ 2 ^ 60)) (sym c.deref-3.ensures.value) c.in_ok-numbers.ensures.small;
      there = subst (λ (ms : List model.Moment). All (λ moment. IsSentAmong ms moment.entry.intake) ms) seen (sent-among setup histories all c.requires.fit merged);
    }

pub returns : goal.returns
returns c =
    let histories = histories_of c.args.histories.now in
    let setup = setup_of c.args.catalog.now in
    let all = map moment_of c.in_ok-moments.moments.items in
    let merged : IsMerge histories all = subst (IsMerge histories) (sym c.in_ok-moments.ensures.moments) (c.histories_have_one_merge.ensures.there histories c.requires.fit.rising) in
    let seen = ap (map moment_of) c.deref-2.ensures.value in
    let made = c.in_ok-events.ensures.events ∙ ap events_of_merge seen in
    let lines = c.in_ok-events.ensures.lines ∙ ap lines_of_merge seen in
    record {
      events = λ moments is. made ∙ ap events_of_merge (c.histories_have_one_merge.ensures.only histories all moments merged is);
      lines = λ moments is. lines ∙ ap lines_of_merge (c.histories_have_one_merge.ensures.only histories all moments merged is);
      plans = c.in_ok-events.ensures.plans c.args.catalog.now
          (subst (AreMomentsPlanned c.args.catalog.now) (sym c.deref-2.ensures.value) (c.in_ok-moments.ensures.planned c.args.catalog.now c.requires.plans));
      printed = ap (printed setup) made ∙ c.merged_histories_are_a_run.ensures.lines setup histories all c.requires.fit merged ∙ sym lines;
      sites = λ n within.
          ap (λ (them : List law.Event). site_at (world_after (opening setup) (run setup (opening setup) them)) n) made
          ∙ c.merged_histories_are_a_run.ensures.sites setup histories all c.requires.fit merged n within;
    }
