-- A printed item is compared with the run's value of it.
use Rattle.std.proofs.Common.{◌≡◌, List, Some, refl, ap, subst}
use Rattle.std.specs.Prelude.{ℤ, slice_get}
use Rattle.std.proofs.lemmas.Option.{MatchOption-at_none, MatchOption-at_some, slice_get_read}
use Rattle.pv_audit.specs.Differences.{AreSameForOpen, IsFirstList}
use Rattle.pv_audit.proofs.AuditLemmas.{line-astray, line-fine, serial-open}
use Rattle.pv_base.specs.Polyvalue.{Case}
use Rattle.pv_protocol.specs.Lines.{Line}
use Rattle.pv_script.specs.LineView.{line_of}
use Rattle.pv_audit.proofs.auditing.compare_item.Goals as goal

pub returns-in-Some-2 : goal.returns-in-Some-2
returns-in-Some-2 c = λ catalog told sorted placed after declared.
    let n = c.in-Item.item.0 in
    let cases = c.in-Item.cases.items in
    let values = c.args.values.now in
    let serial = c.in-Some.value.now in
    let txns = c.in-Some-2.txns.items in
    let line = line_of c.args.line.now in
    let is : line ≡ Line.item n cases = ap line_of c.in-Item.is in
    let at : slice_get values n ≡ Some serial = slice_get_read values _ n serial refl c.in-Some.ensures.lookup.3.0 c.in-Some.ensures.lookup.1 in
    let only = serial-open catalog told line n cases is values after serial at in
    let found : IsFirstList told cases serial txns =
    subst (λ (list : List (Case ℤ)). IsFirstList told list serial txns) c.deref.ensures.value
    (MatchOption-at_some _ _ _ c.in-Some-2.is (c.in_ok-txns.ensures told sorted placed only)) in
    (n, txns, refl, line-astray catalog told line n cases is values after serial at txns found)

pub returns-in-None : goal.returns-in-None
returns-in-None c = λ catalog told sorted placed after declared.
    let n = c.in-Item.item.0 in
    let cases = c.in-Item.cases.items in
    let values = c.args.values.now in
    let serial = c.in-Some.value.now in
    let line = line_of c.args.line.now in
    let is : line ≡ Line.item n cases = ap line_of c.in-Item.is in
    let at : slice_get values n ≡ Some serial = slice_get_read values _ n serial refl c.in-Some.ensures.lookup.3.0 c.in-Some.ensures.lookup.1 in
    let only = serial-open catalog told line n cases is values after serial at in
    let same : AreSameForOpen told cases serial =
    subst (λ (list : List (Case ℤ)). AreSameForOpen told list serial) c.deref.ensures.value
    (MatchOption-at_none _ _ c.in-None.is (c.in_ok-txns.ensures told sorted placed only)) in
    line-fine catalog told line n cases is values after serial at same
