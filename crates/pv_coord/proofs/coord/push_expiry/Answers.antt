use Rattle.std.proofs.Common.{◌≡◌, ◌+◌, ◌++◌, List, map, true, ap, ◌∙◌, rules}
use Rattle.std.specs.Prelude.{not, nat_lt}
use Rattle.pv_base.specs.declared.limits.TheConstants.{TICKS}
use Rattle.pv_coord.proofs.Expiries.{one-expires}
use Rattle.pv_coord.specs.Answers.{expiry_of}
use Rattle.pv_coord.specs.Coordinator.{older, expired}
use Rattle.pv_coord.specs.declared.answer.Expiry.{Expiry}
use Rattle.pv_coord.proofs.coord.push_expiry.Goals as goal

pub returns-in_ok-push : goal.returns-in_ok-push
returns-in_ok-push c = λ rest.
    let expires : not (nat_lt (c.args.entry.now.entry.age + 1) TICKS) ≡ true = search rules in
    ap (λ (items : List Expiry). items ++ map expiry_of (expired (older rest))) c.in_ok-push.ensures.items
    ∙ one-expires c.args.entry.now rest c.args.expiries.now.items c.expiry.result expires c.expiry.ensures
