use Rattle.std.proofs.Common.{◌≢◌, ◌++◌, ◌∷◌, ◌∙◌, ◌+◌, [], List, All, drop, map, ap, sym, subst}
use Rattle.std.proofs.lemmas.List.Elements.{All-append, All-cons, All-head, All-nil, All-tail}
use Rattle.pv_history.specs.Entries.{stamps_of}
use Rattle.pv_law_histories.specs.Merge as model
use Rattle.pv_law_histories.specs.Merge.{AreInOrder, with_history}
use Rattle.pv_merge.proofs.HistoryLemmas.{map-first, map-one_more}
use Rattle.pv_merge.proofs.merging.with_history.Goals as goal
use Rattle.pv_merge.specs.Moments.{AreMomentsPlanned, IsPlanned, moment_of}
use Rattle.pv_merge.specs.declared.moment.Moment.{Moment}

pub push_before-requires-clause-apart : goal.push_before-requires-clause-apart
push_before-requires-clause-apart c =
    let others = c.args.others.now in
    let i = c.loop-other.other-index in
    let other = c.other-item.result in
    let Apart = λ (m : model.Moment). m.site ≢ c.args.site.0 in
    let first = map-first moment_of others i other c.loop-other-test.true c.other-item.is in
    All-head Apart (moment_of other) (drop (i + 1) (map moment_of others)) (subst (All Apart) first c.loop-other.invariant.apart)

pub loop-other-preserved : goal.loop-other-preserved
loop-other-preserved c =
    let others = c.args.others.now in
    let entries = stamps_of c.args.history.now in
    let n = c.args.site.0 in
    let i = c.loop-other.other-index in
    let other = c.other-item.result in
    let later = drop (i + 1) (map moment_of others) in
    let next = c.in_ok-next.next in
    let left = with_history n (drop next entries) later in
    let Apart = λ (m : model.Moment). m.site ≢ n in
    let first = map-first moment_of others i other c.loop-other-test.true c.other-item.is in
    let order : AreInOrder (moment_of other ∷ later) = subst AreInOrder first c.loop-other.invariant.order in
    let apart = All-tail Apart (moment_of other) later (subst (All Apart) first c.loop-other.invariant.apart) in
    let before = c.push_before.new.merged.items in
    record {
      within = c.in_ok-next.ensures.next;
      moments = ap (λ (ms : List Moment). map moment_of ms ++ left) c.in_ok-push.ensures.items ∙ map-one_more moment_of before _ left
          ∙ c.in_ok-next.ensures.moments later order apart
          ∙ ap (λ (ms : List model.Moment). map moment_of c.loop-other.merged.items ++ with_history n (drop c.loop-other.next entries) ms) (sym first)
          ∙ c.loop-other.invariant.moments;
      order = order.1;
      apart = apart;
      planned = λ catalog all moments.
          let P = λ (m : Moment). IsPlanned catalog m.entry.now.input in
          subst (AreMomentsPlanned catalog) (sym c.in_ok-push.ensures.items)
          (All-append P before (other ∷ []) (c.in_ok-next.ensures.planned catalog all (c.loop-other.invariant.planned catalog all moments))
          (All-cons P other [] (subst P (sym c.other-item.is) (moments i other c.loop-other-test.true)) (All-nil P)));
    }

pub returns-clause-planned : goal.returns-clause-planned
returns-clause-planned c = λ catalog all moments.
    c.in_ok-push_rest.ensures.planned catalog all (c.loop-other.invariant.planned catalog all moments)
