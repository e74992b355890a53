use Rattle.std.proofs.Common.{arith, true, false, ◌+◌, ◌<◌, length}
use Rattle.pv_base.proofs.ResultLemmas.{both-ok}
use Rattle.pv_cases.proofs.ChoiceLemmas.{AreChosen, NamesOfBoth, at-first, side-unnamed, sides-smaller, copy-behind, chosen-behind, both-chosen-names}
use Rattle.pv_poly.proofs.tree.Tree.+choose.Goals as goal

pub test-requires-clause-aborted_after : goal.test-requires-clause-aborted_after
test-requires-clause-aborted_after g t c =
    let first = (at-first c.args.txn c.args.aborted.now c.args.committed.now c.top.result c.top-2.result c.top.ensures c.top-2.ensures c.first_before.ensures c.in-None.is) in
    copy-behind c.args.txn c.in_ok-aborted-in-None.ensures c.requires.aborted_unnamed first.0

pub test-requires-clause-committed_after : goal.test-requires-clause-committed_after
test-requires-clause-committed_after g t c =
    let first = (at-first c.args.txn c.args.aborted.now c.args.committed.now c.top.result c.top-2.result c.top.ensures c.top-2.ensures c.first_before.ensures c.in-None.is) in
    copy-behind c.args.txn c.in_ok-committed-in-None.ensures c.requires.committed_unnamed first.1

pub side-requires : goal.side-requires
side-requires g t c =
    let first = (at-first c.args.txn c.args.aborted.now c.args.committed.now c.top.result c.top-2.result c.top.ensures c.top-2.ensures c.first_before.ensures c.in-Some.is) in first.1.0

pub side-requires-in-Some : goal.side-requires-in-Some
side-requires-in-Some g t c =
    let first = (at-first c.args.txn c.args.aborted.now c.args.committed.now c.top.result c.top-2.result c.top.ensures c.top-2.ensures c.first_before.ensures c.in-Some.is) in first.1.1.0

pub side-requires-in-Some-2 : goal.side-requires-in-Some-2
side-requires-in-Some-2 g t c =
    let first = (at-first c.args.txn c.args.aborted.now c.args.committed.now c.top.result c.top-2.result c.top.ensures c.top-2.ensures c.first_before.ensures c.in-Some.is) in first.1.0

pub side-requires-in-Some-3 : goal.side-requires-in-Some-3
side-requires-in-Some-3 g t c =
    let first = (at-first c.args.txn c.args.aborted.now c.args.committed.now c.top.result c.top-2.result c.top.ensures c.top-2.ensures c.first_before.ensures c.in-Some.is) in first.1.1.0

pub choose-requires : goal.choose-requires
choose-requires g t c κs within =
    let first = (at-first c.args.txn c.args.aborted.now c.args.committed.now c.top.result c.top-2.result c.top.ensures c.top-2.ensures c.first_before.ensures c.in-Some.is) in
    let smaller = sides-smaller {aborted = c.args.aborted.now} {committed = c.args.committed.now} c.side.ensures c.side-in-Some.ensures first.1.1.1 in
    let falls : length c.side.result.now + length c.side-in-Some.result.now < t = omega (arith, smaller, c.decreases) in
    let aborted = side-unnamed {t = c.in-Some.first} c.args.txn c.side.ensures c.requires.aborted_unnamed in
    let committed = side-unnamed {t = c.in-Some.first} c.args.txn {outcome = false} {cases = c.args.committed.now} c.side-in-Some.ensures c.requires.committed_unnamed in
    (falls, (within, (aborted, committed)))

pub choose-requires-in-Some : goal.choose-requires-in-Some
choose-requires-in-Some g t c κs within =
    let first = (at-first c.args.txn c.args.aborted.now c.args.committed.now c.top.result c.top-2.result c.top.ensures c.top-2.ensures c.first_before.ensures c.in-Some.is) in
    let smaller = sides-smaller {aborted = c.args.aborted.now} {committed = c.args.committed.now} c.side-in-Some-2.ensures c.side-in-Some-3.ensures first.1.1.1 in
    let falls : length c.side-in-Some-2.result.now + length c.side-in-Some-3.result.now < t = omega (arith, smaller, c.decreases) in
    let aborted = side-unnamed {t = c.in-Some.first} c.args.txn c.side-in-Some-2.ensures c.requires.aborted_unnamed in
    let committed = side-unnamed {t = c.in-Some.first} c.args.txn {outcome = true} {cases = c.args.committed.now} c.side-in-Some-3.ensures c.requires.committed_unnamed in
    (falls, (within, (aborted, committed)))

pub test-requires-in-Some-clause-aborted_after : goal.test-requires-in-Some-clause-aborted_after
test-requires-in-Some-clause-aborted_after g t c =
    let first = (at-first c.args.txn c.args.aborted.now c.args.committed.now c.top.result c.top-2.result c.top.ensures c.top-2.ensures c.first_before.ensures c.in-Some.is) in
    let aborted : AreChosen c.in-Some.first c.args.txn false c.args.aborted.now c.args.committed.now c.side.result.now c.side-in-Some.result.now c.in_ok-aborted_side-in-Some.aborted_side =
    record { aborted_side = c.side.ensures; committed_side = c.side-in-Some.ensures; names = c.in_ok-aborted_side-in-Some.ensures.names } in
    chosen-behind aborted first.0

pub test-requires-in-Some-clause-committed_after : goal.test-requires-in-Some-clause-committed_after
test-requires-in-Some-clause-committed_after g t c =
    let first = (at-first c.args.txn c.args.aborted.now c.args.committed.now c.top.result c.top-2.result c.top.ensures c.top-2.ensures c.first_before.ensures c.in-Some.is) in
    let committed : AreChosen c.in-Some.first c.args.txn true c.args.aborted.now c.args.committed.now c.side-in-Some-2.result.now c.side-in-Some-3.result.now c.in_ok-committed_side-in-Some.committed_side =
    record { aborted_side = c.side-in-Some-2.ensures; committed_side = c.side-in-Some-3.ensures; names = c.in_ok-committed_side-in-Some.ensures.names } in
    chosen-behind committed first.0

pub returns-in_ok-committed_side-in-Some-clause-names : goal.returns-in_ok-committed_side-in-Some-clause-names
returns-in_ok-committed_side-in-Some-clause-names g t c =
    let first = (at-first c.args.txn c.args.aborted.now c.args.committed.now c.top.result c.top-2.result c.top.ensures c.top-2.ensures c.first_before.ensures c.in-Some.is) in
    let aborted : AreChosen c.in-Some.first c.args.txn false c.args.aborted.now c.args.committed.now c.side.result.now c.side-in-Some.result.now c.in_ok-aborted_side-in-Some.aborted_side =
    record { aborted_side = c.side.ensures; committed_side = c.side-in-Some.ensures; names = c.in_ok-aborted_side-in-Some.ensures.names } in
    let committed : AreChosen c.in-Some.first c.args.txn true c.args.aborted.now c.args.committed.now c.side-in-Some-2.result.now c.side-in-Some-3.result.now c.in_ok-committed_side-in-Some.committed_side =
    record { aborted_side = c.side-in-Some-2.ensures; committed_side = c.side-in-Some-3.ensures; names = c.in_ok-committed_side-in-Some.ensures.names } in
    both-ok
    (NamesOfBoth c.in-Some.first c.in_ok-aborted_side-in-Some.aborted_side c.in_ok-committed_side-in-Some.committed_side)
    (NamesOfBoth c.in-Some.first c.in_ok-aborted_side-in-Some.aborted_side c.in_ok-committed_side-in-Some.committed_side)
    (NamesOfBoth c.args.txn c.args.aborted.now c.args.committed.now)
    c.test-in-Some.result c.test-in-Some.ensures.names c.test-in-Some.ensures.names
    (λ tree kept again. both-chosen-names tree aborted committed kept first.1.1.1)
