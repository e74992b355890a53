use Rattle.std.proofs.Common.{◌≡◌, ◌+◌, ◌<◌, length, set, ap, sym, subst, ◌∙◌, arith}
use Rattle.std.proofs.lemmas.List.{length_push}
use Rattle.pv_rings.specs.Rings.{Each}
use Rattle.pv_crew.proofs.ClosingLemmas.{IsOut, out-all, out-first, out-more, out-some}
use Rattle.pv_crew.proofs.closing.take_back.Goals as goal

pub loop-at-init : goal.loop-at-init
loop-at-init g c = (
  c.len-count.ensures ∙ c.args.rounds.now.ok.0,
  omega arith,
  ap (λ l. length l) c.new-seats.ensures.items,
  out-first c.new-seats.result.items c.args.rounds.now.items,
)

pub take-seat-requires : goal.take-seat-requires
take-seat-requires g c =
    let kept = c.loop-at.invariant in
    subst (λ n. 0 < n) (sym c.index_mut.result.now.seats.ok.0)
    (out-some c.loop-at.seats.items c.args.rounds.now.items c.loop-at.rounds.items c.loop-at.at c.index_mut.result.now kept.3
    (subst (λ n. c.loop-at.at < n) kept.0 c.loop-at-test.true) c.index_mut.ensures.value c.requires)

pub loop-at-preserved : goal.loop-at-preserved
loop-at-preserved g c =
    let kept = c.loop-at.invariant in
    let at = c.loop-at.at in
    let seats = c.loop-at.seats.items in
    let seat = c.take-seat.result in
    let old = c.args.rounds.now.items in
    let now = c.loop-at.rounds.items in
    let new = c.take-seat.new.self in
    let pushed = sym c.in_ok-push.ensures.items in (
      kept.0,
      let less = c.loop-at-test.true in omega arith,
      subst (λ l. length l ≡ at + 1) pushed (length_push seats seat ∙ ap (λ n. n + 1) kept.2),
      subst (λ l. Each (IsOut l (at + 1)) old (set now at new)) pushed
          (out-more seats old now at seat c.index_mut.result.now new kept.3 kept.2 (subst (λ n. at < n) kept.0 c.loop-at-test.true) c.index_mut.ensures.value
          c.take-seat.ensures),
    )

pub returns-clause-count : goal.returns-clause-count
returns-clause-count g c =
    let kept = c.loop-at.invariant in
    let few = kept.1 in
    let done = c.loop-at-test.false in
    let all : c.loop-at.at ≡ c.len-count.result = omega arith in
    kept.2 ∙ all ∙ kept.0

pub returns-clause-seats : goal.returns-clause-seats
returns-clause-seats g c =
    let kept = c.loop-at.invariant in
    let few = kept.1 in
    let done = c.loop-at-test.false in
    let all : c.loop-at.at ≡ c.len-count.result = omega arith in
    let seats = c.loop-at.seats.items in
    let old = c.args.rounds.now.items in
    let now = c.loop-at.rounds.items in
    out-all seats old now (subst (λ n. Each (IsOut seats n) old now) (all ∙ kept.0) kept.3)
