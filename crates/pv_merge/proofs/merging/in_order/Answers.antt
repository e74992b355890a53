use Rattle.std.proofs.Common.{◌≡◌, ◌≢◌, ◌∙◌, ◌+◌, ◌-◌, ◌<◌, [], ℕ, List, All, drop, length, map, ap, sym, subst, arith}
use Rattle.std.proofs.lemmas.List.{get_or-map, length-map}
use Rattle.std.specs.Prelude.{Vec}
use Rattle.std.specs.declared.alloc.Global.{Global}
use Rattle.pv_history.specs.Entries.{stamps_of}
use Rattle.pv_history.specs.declared.entry.Entry.{Entry}
use Rattle.pv_law_histories.specs.Fitting.{HasRisingStamps}
use Rattle.pv_law_histories.specs.History.{Stamped}
use Rattle.pv_law_histories.specs.Merge as model
use Rattle.pv_law_histories.specs.Merge.{AreInOrder, merge_from, with_history}
use Rattle.pv_law_histories.proofs.MergingLemmas.{apart-from, order-from}
use Rattle.pv_merge.proofs.HistoryLemmas.{map-first, rise-drop}
use Rattle.pv_merge.proofs.merging.in_order.Goals as goal
use Rattle.pv_merge.specs.Moments.{ArePlanned, AreMomentsPlanned, histories_of, moment_of}

abbrev stamps_in : Vec Entry Global → List Stamped
stamps_in history = stamps_of history.items

pub with_history-requires-clause-rising : goal.with_history-requires-clause-rising
with_history-requires-clause-rising c =
    let histories = c.args.histories.now in
    let k = c.loop-site.site - 1 in
    let history = c.index-histories-site.result in
    let within : k < length histories = omega (arith, c.loop-site-test.true, c.loop-site.invariant.within, c.requires.count) in
    subst HasRisingStamps
    (get_or-map stamps_in histories k history [] within ∙ ap stamps_in (sym c.index-histories-site.is) ∙ ap stamps_of (sym c.deref.ensures.value))
    (c.requires.rising k (omega (arith, within, length-map histories stamps_in)))

pub with_history-requires-clause-order : goal.with_history-requires-clause-order
with_history-requires-clause-order c =
    let site = c.loop-site.site in
    let left = drop site (histories_of c.args.histories.now) in
    subst AreInOrder (sym (ap (map moment_of) c.deref-in-loop-site.ensures.value ∙ c.loop-site.invariant.moments))
    (order-from site left (rise-drop site (histories_of c.args.histories.now) c.requires.rising))

pub with_history-requires-clause-apart : goal.with_history-requires-clause-apart
with_history-requires-clause-apart c =
    let k = c.loop-site.site - 1 in
    let all = histories_of c.args.histories.now in
    let next : k + 1 ≡ c.loop-site.site = omega (arith, c.loop-site-test.true) in
    subst (All (λ (moment : model.Moment). moment.site ≢ k))
    (ap (λ (n : ℕ). merge_from n (drop n all)) next ∙ sym (ap (map moment_of) c.deref-in-loop-site.ensures.value ∙ c.loop-site.invariant.moments))
    (apart-from k (drop (k + 1) all))

pub loop-site-preserved : goal.loop-site-preserved
loop-site-preserved c =
    let histories = c.args.histories.now in
    let k = c.loop-site.site - 1 in
    let all = histories_of histories in
    let history = c.index-histories-site.result in
    let within : k < length histories = omega (arith, c.loop-site-test.true, c.loop-site.invariant.within, c.requires.count) in
    let next : k + 1 ≡ c.loop-site.site = omega (arith, c.loop-site-test.true) in
    record {
      within = omega (arith, c.loop-site.invariant.within);
      moments = c.in_ok-moments.ensures.moments
          ∙ ap (λ (entries : List Entry). with_history k (stamps_of entries) (map moment_of c.deref-in-loop-site.result.now)) c.deref.ensures.value
          ∙ ap (λ (others : List model.Moment). with_history k (stamps_in history) others)
          (ap (map moment_of) c.deref-in-loop-site.ensures.value ∙ c.loop-site.invariant.moments ∙ sym (ap (λ (n : ℕ). merge_from n (drop n all)) next))
          ∙ ap (merge_from k) (sym (map-first stamps_in histories k history within c.index-histories-site.is));
      planned = λ catalog entries. c.in_ok-moments.ensures.planned catalog
          (subst (ArePlanned catalog) (sym c.deref.ensures.value)
          (subst (λ (one : Vec Entry Global). ArePlanned catalog one.items) (sym c.index-histories-site.is) (entries k history within)))
          (subst (AreMomentsPlanned catalog) (sym c.deref-in-loop-site.ensures.value) (c.loop-site.invariant.planned catalog entries));
    }
