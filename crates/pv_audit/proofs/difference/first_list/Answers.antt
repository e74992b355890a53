-- Where they are one over the open outcomes, they agree; else the first list at which they differ is found.
use Rattle.std.proofs.Common.{◌≡◌, List, [], IsTrue, sym, subst, ◌∙◌}
use Rattle.std.specs.Prelude.{ℤ}
use Rattle.std.specs.List.{Contains}
use Rattle.pv_audit.specs.Differences.{AreSameUnder}
use Rattle.pv_audit.specs.FirstFailures.{IsFirstFailure}
use Rattle.pv_audit.proofs.OpenLemmas.{first-of-printed, open-ascending, open-listed, same-for-open}
use Rattle.pv_base.specs.Assignment.{AreAscending, assignments}
use Rattle.pv_base.specs.Named.{with_txns}
use Rattle.pv_base.specs.Polyvalue.{Case, names}
use Rattle.pv_base.specs.declared.txn.TxnId.{TxnId}
use Rattle.pv_audit.proofs.difference.first_list.Goals as goal

pub returns-then-are_same : goal.returns-then-are_same
returns-then-are_same c = λ told sorted placed only.
    same-for-open told placed c.args.cases.now c.in_ok-shown.shown c.args.serial.now (c.in_ok-shown.ensures told sorted) only c.if-are_same.ensures

pub returns : goal.returns
returns c = λ told sorted placed only.
    let shown = c.in_ok-shown.shown in
    let serial = c.args.serial.now in
    let list = c.in_ok-txns.txns.items in
    let is = c.in_ok-shown.ensures told sorted in
    let once : c.deref.result.now ≡ with_txns told.open_ones [] = c.deref.ensures.value ∙ c.in_ok-open_ones.ensures told.open_ones sorted.open_ones in
    let found =
    c.in_ok-txns.ensures (subst AreAscending (sym once) (open-ascending told))
    (λ t named. subst (λ (ts : List TxnId). Contains ts t) (sym once) (open-listed told t (is.names t (subst (λ (cases : List (Case ℤ)). IsTrue (names cases t)) c.shown-2.view_is named))))
    (λ t named. subst (λ (ts : List TxnId). Contains ts t) (sym once) (open-listed told t (only t (subst (λ (cases : List (Case ℤ)). IsTrue (names cases t)) c.in_ok-copy.ensures.equal named)))) in
    first-of-printed told placed c.args.cases.now shown serial is only list
    (subst (λ (ts : List TxnId). IsFirstFailure (AreSameUnder shown serial) (assignments ts) list) once
    (subst (λ (cases : List (Case ℤ)). IsFirstFailure (AreSameUnder shown cases) (assignments c.deref.result.now) list) c.in_ok-copy.ensures.equal
    (subst (λ (cases : List (Case ℤ)). IsFirstFailure (AreSameUnder cases c.in_ok-copy.field-0) (assignments c.deref.result.now) list) c.shown-2.view_is found)))
