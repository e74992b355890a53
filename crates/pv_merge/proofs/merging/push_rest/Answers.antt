use Rattle.std.proofs.Common.{◌++◌, ◌∙◌, ◌+◌, ◌<◌, [], List, drop, length, map, ap, sym, subst, arith}
use Rattle.pv_history.specs.Entries.{stamped_of, stamps_of}
use Rattle.pv_law_histories.specs.Merge as model
use Rattle.pv_law_histories.specs.Merge.{with_history}
use Rattle.pv_merge.proofs.HistoryLemmas.{at-the-end, map-first, map-one_more, planned-more}
use Rattle.pv_merge.proofs.merging.push_rest.Goals as goal
use Rattle.pv_merge.specs.Moments.{AreMomentsPlanned, moment_of}
use Rattle.pv_merge.specs.declared.moment.Moment.{Moment}

pub loop-at-preserved : goal.loop-at-preserved
loop-at-preserved c =
    let history = c.args.history.now in
    let entries = stamps_of history in
    let n = c.args.site.0 in
    let at = c.loop-at.at in
    let entry = c.index-history-at.result in
    let merged = c.loop-at.merged.items in
    let within : at < length history = omega (arith, c.loop-at-test.true) in
    let left = with_history n (drop (at + 1) entries) [] in
    record {
      moments = ap (λ (ms : List Moment). map moment_of ms ++ left) c.in_ok-push.ensures.items ∙ map-one_more moment_of merged _ left
          ∙ ap (λ (ms : List model.Moment). map moment_of merged ++ ms)
          (sym (at-the-end n entries at (stamped_of entry) c.requires.rising (map-first stamped_of history at entry within c.index-history-at.is)))
          ∙ c.loop-at.invariant.moments;
      planned = λ catalog all before. subst (AreMomentsPlanned catalog) (sym c.in_ok-push.ensures.items)
          (planned-more catalog history merged at _ all (c.loop-at.invariant.planned catalog all before) within c.index-history-at.is);
    }
