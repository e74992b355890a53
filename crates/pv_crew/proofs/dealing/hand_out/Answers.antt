use Rattle.std.proofs.Common.{◌≡◌, ◌+◌, ◌≤◌, ◌<◌, ◌++◌, option_to_list, length, get_or, set, ap, sym, subst, ◌∙◌, arith}
use Rattle.pv_rings.specs.Rings.{Each}
use Rattle.pv_crew.proofs.DealingLemmas.{Has, has-all, has-more}
use Rattle.pv_crew.proofs.ListLemmas.{begins-less}
use Rattle.pv_crew.proofs.dealing.hand_out.Goals as goal

pub loop-seat-preserved : goal.loop-seat-preserved
loop-seat-preserved g c =
    let all = c.args.seats.items in
    let before = c.loop-seat.seats.items in
    let after = c.pop.new.self.items in
    let seat = c.in-Some.seat in
    let old = c.args.rounds.now.items in
    let now = c.loop-seat.rounds.items in
    let at = c.len-at.result in
    let new = c.put.new.self in
    let kept = c.loop-seat.invariant in
    let cut = begins-less all before after seat kept.0 (c.pop.ensures.items ∙ ap (λ r. after ++ option_to_list r) c.in-Some.is) in
    let last : at ≡ length after = c.len-at.ensures ∙ c.pop.new.self.ok.0 in
    let long : length before ≡ at + 1 = cut.1 ∙ ap (λ n. n + 1) (sym last) in
    let within : at < length old = let few = kept.1 in omega arith in (
      cut.0,
      subst (λ n. n ≤ length old) last (omega arith),
      subst (λ n. Each (Has all n) old (set now at new)) last
          (has-more all old now at seat c.index_mut.result.now new (subst (λ n. Each (Has all n) old now) long kept.2) within
          (λ d. ap (λ n. get_or all n d) last ∙ cut.2 d) c.index_mut.ensures.value c.in_ok-put.ensures),
    )

pub returns : goal.returns
returns g c =
    let all = c.args.seats.items in
    let old = c.args.rounds.now.items in
    let now = c.loop-seat.rounds.items in
    has-all all old now
    (subst (λ n. Each (Has all n) old now) (sym c.loop-seat.seats.ok.0 ∙ c.in_default.ensures.cases.0) c.loop-seat.invariant.2)
