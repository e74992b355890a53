-- Each of the transactions is decided, and at the end the list is the first one.
use Rattle.std.proofs.Common.{◌+◌, List, ◌∷◌, drop, get_or, sym, subst}
use Rattle.std.proofs.lemmas.List.{at_drop_more, drop_all}
use Rattle.pv_audit.specs.Differences.{Leads}
use Rattle.pv_audit.proofs.SettleSteps.{leads-end}
use Rattle.pv_base.specs.declared.txn.TxnId.{TxnId}
use Rattle.pv_audit.proofs.difference.first_difference.Goals as goal

-- what a place past the end would have
abbrev nowhere : TxnId
nowhere = record { site = record { 0 = 0 }; epoch = 0; number = 0 }

pub loop-txn-preserved : goal.loop-txn-preserved
loop-txn-preserved c = λ up listed listed_too.
    let first = c.args.first in
    let second = c.args.second in
    let txns = c.args.txns.now in
    let i = c.loop-txn.txn-index in
    let old = c.loop-txn.pair in
    let new = c.in_ok-pair.pair in
    let here =
    subst (λ (left : List TxnId). Leads first second txns c.in_ok-names.names.items old.first old.second left c.loop-txn.list.items)
    (at_drop_more (λ (left : List TxnId). left) txns i nowhere c.loop-txn-test.true) (c.loop-txn.invariant up listed listed_too) in
    subst (λ (named : List TxnId). Leads first second txns named new.first new.second (drop (i + 1) txns) c.decided.new.list.items) c.deref.ensures.value
    (c.in_ok-pair.ensures first second txns (drop (i + 1) txns)
    (subst (λ (named : List TxnId). Leads first second txns named old.first old.second (get_or txns i nowhere ∷ drop (i + 1) txns) c.loop-txn.list.items) (sym c.deref.ensures.value) here))

pub returns : goal.returns
returns c = λ up listed listed_too.
    let first = c.args.first in
    let second = c.args.second in
    let txns = c.args.txns.now in
    let now = c.loop-txn.pair in
    leads-end first second txns c.in_ok-names.names.items now.first now.second c.loop-txn.list.items
    (subst (λ (left : List TxnId). Leads first second txns c.in_ok-names.names.items now.first now.second left c.loop-txn.list.items)
    (drop_all c.loop-txn.txn-index txns c.loop-txn-test.false) (c.loop-txn.invariant up listed listed_too))
