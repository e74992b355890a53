use Rattle.std.proofs.Common.{◌≡◌, ◌++◌, ◌∷◌, ◌∙◌, ◌+◌, ◌<◌, true, false, List, drop, length, map, ap, sym, subst, arith}
use Rattle.pv_history.specs.Entries.{stamped_of, stamps_of}
use Rattle.pv_law_histories.specs.Merge as model
use Rattle.pv_law_histories.specs.Merge.{is_before, with_history}
use Rattle.pv_merge.proofs.HistoryLemmas.{before-it, behind-it, map-first, map-one_more, planned-more}
use Rattle.pv_merge.proofs.merging.push_before.Goals as goal
use Rattle.pv_merge.specs.Moments.{AreMomentsPlanned, moment_of}
use Rattle.pv_merge.specs.declared.moment.Moment.{Moment}

pub loop-at-preserved : goal.loop-at-preserved
loop-at-preserved c =
    let history = c.args.history.now in
    let entries = stamps_of history in
    let n = c.args.site.0 in
    let at = c.loop-at.at in
    let entry = c.index-history-at.result in
    let other = moment_of c.args.other.now in
    let merged = c.loop-at.merged.items in
    let within : at < length history = omega (arith, c.loop-at-test.true) in
    let first = map-first stamped_of history at entry within c.index-history-at.is in
    let is : is_before record { site = n; entry = stamped_of entry } other ≡ true = sym c.is_before.ensures ∙ c.if-not-is_before.false in
    record {
      moments = λ later order apart.
          let left = with_history n (drop (at + 1) entries) (other ∷ later) in
          ap (λ (ms : List Moment). map moment_of ms ++ left) c.in_ok-push.ensures.items ∙ map-one_more moment_of merged _ left
          ∙ ap (λ (ms : List model.Moment). map moment_of merged ++ ms)
          (sym (before-it n entries at (stamped_of entry) c.requires.rising first other later c.requires.apart is order apart))
          ∙ c.loop-at.invariant.moments later order apart;
      planned = λ catalog all before. subst (AreMomentsPlanned catalog) (sym c.in_ok-push.ensures.items)
          (planned-more catalog history merged at _ all (c.loop-at.invariant.planned catalog all before) within c.index-history-at.is);
    }

pub returns-then-not-is_before-clause-moments : goal.returns-then-not-is_before-clause-moments
returns-then-not-is_before-clause-moments c =
    let history = c.args.history.now in
    let entries = stamps_of history in
    let n = c.args.site.0 in
    let at = c.loop-at.at in
    let entry = c.index-history-at.result in
    let other = moment_of c.args.other.now in
    let merged = map moment_of c.loop-at.merged.items in
    let within : at < length history = omega (arith, c.loop-at-test.true) in
    let first = map-first stamped_of history at entry within c.index-history-at.is in
    let is : is_before record { site = n; entry = stamped_of entry } other ≡ false = sym c.is_before.ensures ∙ c.if-not-is_before.true in
    λ later order apart.
    ap (λ (ms : List model.Moment). merged ++ ms) (sym (behind-it n entries at (stamped_of entry) c.requires.rising first other later c.requires.apart is))
    ∙ c.loop-at.invariant.moments later order apart
