-- All places and all names: what is met among them is what is met.
use Rattle.std.proofs.Common.{◌≡◌, ℕ, ◌<◌, List, ◌++◌, ◌∷◌, [], length, sym, ap, subst, ◌∙◌, arith}
use Rattle.std.specs.List.{All, range_with_len}
use Rattle.pv_cases.specs.declared.meetings.Meeting.{Meeting}
use Rattle.pv_cases.specs.CaseSplits.{meetings_among}
use Rattle.pv_cases.proofs.CaseSplitLemmas.{range-more, all-there, meetings-all}
use Rattle.pv_cases.proofs.meetings.meetings.Goals as goal

pub loop-place-preserved : goal.loop-place-preserved
loop-place-preserved g c =
    c.in_ok-push.ensures.items ∙ ap (λ (list : List ℕ). list ++ c.loop-place.place ∷ []) c.loop-place.invariant
    ∙ sym (range-more c.loop-place.place)

pub push_meetings-requires-clause-there : goal.push_meetings-requires-clause-there
push_meetings-requires-clause-there g c =
    let all : c.loop-place.place ≡ length c.args.cases.now = omega (arith, c.loop-place-test.false, c.loop-place.auto.place-end) in
    subst (λ (places : List ℕ). All (λ place. place < length c.args.cases.now) places)
    (sym (c.deref.ensures.value ∙ c.loop-place.invariant ∙ ap (range_with_len 0) all)) (all-there (length c.args.cases.now))

pub returns : goal.returns
returns g c =
    let all : c.loop-place.place ≡ length c.args.cases.now = omega (arith, c.loop-place-test.false, c.loop-place.auto.place-end) in
    c.in_ok-push_meetings.ensures
    ∙ ap (λ (list : List Meeting). list ++ meetings_among c.args.cases.now c.deref.result.now c.args.txns.now) c.new-meetings.ensures.items
    ∙ ap (λ (places : List ℕ). meetings_among c.args.cases.now places c.args.txns.now)
    (c.deref.ensures.value ∙ c.loop-place.invariant ∙ ap (range_with_len 0) all)
    ∙ meetings-all c.args.cases.now c.args.txns.now c.requires.names
