use Rattle.std.proofs.Common.{◌<◌, ◌≤◌, ap, arith, sym, ◌∙◌}
use Rattle.std.proofs.lemmas.Bool.Decides.{nat_tests}
use Rattle.pv_host.specs.Waiting.{WaitingState}
use Rattle.pv_host.proofs.WaitingLemmas.{none-asked, none-frozen}
use Rattle.pv_host.proofs.waiting.Waiting.has_group.Goals as goal

pub returns-clause-some : goal.returns-clause-some
returns-clause-some c = λ yes is.
    let inside = c.self.inside in
    let was = c.self.invariant in
    let no = none-frozen inside.bytes.items inside.frozen _ _ was.within was.asked was.pending in
    let some : 0 < inside.frozen = grind (arith, nat_tests, yes) in
    omega (arith, some, no (ap (λ (state : WaitingState). state.asked) c.self.view_is ∙ is))

pub returns-clause-none : goal.returns-clause-none
returns-clause-none c = λ no.
    let inside = c.self.inside in
    let was = c.self.invariant in
    let none = none-asked inside.bytes.items inside.frozen _ _ was.within was.asked was.pending in
    let few : inside.frozen ≤ 0 = grind (arith, nat_tests, no) in
    sym (ap (λ (state : WaitingState). state.asked) c.self.view_is) ∙ none (omega (arith, few))
