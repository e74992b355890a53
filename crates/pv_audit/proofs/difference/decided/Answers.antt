-- One that isn't named is passed over; else it commits only where both are one when it doesn't.
use Rattle.std.proofs.Common.{true, sym, ◌∙◌}
use Rattle.std.proofs.lemmas.Bool.{MatchBool-at_false, MatchBool-at_true, both_ways}
use Rattle.std.proofs.lemmas.Result.{IfOk-weaker}
use Rattle.pv_audit.specs.Differences.{AreSettled, Leads}
use Rattle.pv_audit.specs.declared.difference.Pair.{Pair}
use Rattle.pv_audit.proofs.SettleSteps.{leads-aborted, leads-committed, leads-passed}
use Rattle.pv_audit.proofs.SortedLists.{listed-commits}
use Rattle.pv_audit.proofs.difference.decided.Goals as goal

pub returns-then-not-is_listed : goal.returns-then-not-is_listed
returns-then-not-is_listed c = λ first second txns left so_far.
    leads-passed first second txns c.args.names.now c.args.pair.first c.args.pair.second c.args.txn left c.args.list.now.items so_far
    (λ there. both_ways _ (sym c.is_listed.ensures ∙ c.if-not-is_listed.true) (listed-commits c.args.names.now c.args.txn there))

pub returns-then-not-are_same : goal.returns-then-not-are_same
returns-then-not-are_same c = λ first second txns left so_far.
    leads-aborted first second txns c.args.names.now c.args.pair.first c.args.pair.second c.args.txn left c.args.list.now.items so_far
    c.in_ok-aborted.aborted.first c.in_ok-aborted.aborted.second c.in_ok-aborted.ensures (MatchBool-at_false _ _ c.if-not-are_same.true c.are_same.ensures)

pub returns : goal.returns
returns c = λ first second txns left so_far.
    let pair = c.args.pair in
    let aborted = c.in_ok-aborted.aborted in
    IfOk-weaker c.settled-2.result
    (λ (now : Pair). AreSettled c.args.txn true pair.first pair.second now.first now.second)
    (λ (now : Pair). Leads first second txns c.args.names.now now.first now.second left c.push.new.self.items)
    (λ now is. leads-committed first second txns c.args.names.now pair.first pair.second c.args.txn left c.args.list.now.items so_far now.first now.second
    aborted.first aborted.second c.push.new.self.items c.in_ok-aborted.ensures (MatchBool-at_true _ _ c.if-not-are_same.false c.are_same.ensures) is c.in_ok-push.ensures.items)
    c.settled-2.ensures
