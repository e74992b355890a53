use Rattle.std.proofs.Common.{◌++◌, ◌∷◌, ◌∙◌, ◌+◌, ◌≤◌, ◌^◌, [], ℕ, List, All, append_assoc, drop, map, ap, sym, subst, arith}
use Rattle.std.proofs.lemmas.List.Elements.{All-append, All-cons, All-nil}
use Rattle.pv_law_histories.specs.Merge as model
use Rattle.pv_merge.proofs.HistoryLemmas.{map-first}
use Rattle.pv_merge.proofs.numbers.numbers_of.Goals as goal
use Rattle.pv_merge.specs.Moments.{moment_of}
use Rattle.pv_merge.specs.Numbers.{numbers_from}

pub after-sent-requires : goal.after-sent-requires
after-sent-requires c = omega (arith, c.loop-moment.invariant.sent, c.loop-moment-test.true, c.requires)

pub loop-moment-preserved : goal.loop-moment-preserved
loop-moment-preserved c =
    let moments = c.args.moments.now in
    let i = c.loop-moment.moment-index in
    let moment = c.moment-item.result in
    let numbers = c.loop-moment.numbers.items in
    let sent = c.loop-moment.sent in
    let later = drop (i + 1) (map moment_of moments) in
    let Small = λ (number : ℕ). number ≤ 2 ^ 60 in
    record {
      numbers = ap (λ (all : List ℕ). all ++ numbers_from c.after-sent.result later) c.in_ok-push.ensures.items
          ∙ append_assoc numbers (sent ∷ []) (numbers_from c.after-sent.result later)
          ∙ ap (λ (next : ℕ). numbers ++ sent ∷ numbers_from next later) c.after-sent.ensures.value
          ∙ ap (λ (ms : List model.Moment). numbers ++ numbers_from sent ms) (sym (map-first moment_of moments i moment c.loop-moment-test.true c.moment-item.is))
          ∙ c.loop-moment.invariant.numbers;
      sent = omega (arith, c.loop-moment.invariant.sent, c.after-sent.ensures.bound);
      small = subst (All Small) (sym c.in_ok-push.ensures.items)
          (All-append Small numbers (sent ∷ []) c.loop-moment.invariant.small
          (All-cons Small sent [] (omega (arith, c.loop-moment.invariant.sent, c.loop-moment-test.true, c.requires)) (All-nil Small)));
    }
