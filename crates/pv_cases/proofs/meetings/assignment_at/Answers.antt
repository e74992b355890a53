-- Each transaction halves the places left.
use Rattle.std.proofs.Common.{◌<◌, ◌≤◌, ◌^◌, List, ◌∷◌, [], ◌++◌, Some, length, sym, ap, ◌∙◌, arith, append_assoc}
use Rattle.std.proofs.lemmas.List.{append-nil}
use Rattle.pv_base.specs.declared.txn.TxnId.{TxnId}
use Rattle.pv_cases.proofs.PlaceLemmas.{half-is, front-half, back-half, halved, none-left}
use Rattle.pv_cases.proofs.meetings.assignment_at.Goals as goal

pub loop-txn-preserved : goal.loop-txn-preserved
loop-txn-preserved c =
    let split = c.in-Some.ensures.cases in
    let few : length c.in-Some.rest.now < 32 = omega (arith, split.1, c.loop-txn.invariant.few) in
    let within : c.loop-txn.at < 2 ^ length c.in-Some.rest.now = omega (arith, half-is c.in-Some.rest.now few, c.if-half-at.false) in
    record {
      few = few;
      there = within;
      sought = λ rest here.
          c.loop-txn.invariant.sought rest (front-half c.loop-txn.left.now c.in-Some.txn.now c.in-Some.rest.now c.loop-txn.at rest split.0 within here);
    }

pub loop-txn-preserved-in_ok-push : goal.loop-txn-preserved-in_ok-push
loop-txn-preserved-in_ok-push c =
    let split = c.in-Some.ensures.cases in
    let few : length c.in-Some.rest.now < 32 = omega (arith, split.1, c.loop-txn.invariant.few) in
    let half = half-is c.in-Some.rest.now few in
    let behind : 2 ^ length c.in-Some.rest.now ≤ c.loop-txn.at = omega (arith, half, c.if-half-at.true) in
    record {
      few = few;
      there = rw half (halved c.loop-txn.left.now c.in-Some.txn.now c.in-Some.rest.now c.loop-txn.at split.0 c.loop-txn.invariant.there);
      sought = λ rest here.
          c.loop-txn.invariant.sought (c.in-Some.txn.now ∷ rest)
          (back-half c.loop-txn.left.now c.in-Some.txn.now c.in-Some.rest.now c.loop-txn.at rest split.0 behind (rw half at here))
          ∙ ap (λ (list : List TxnId). Some list)
          (sym (append_assoc c.loop-txn.yes.items (c.in-Some.txn.now ∷ []) rest) ∙ ap (λ (list : List TxnId). list ++ rest) (sym c.in_ok-push.ensures.items));
    }

pub returns : goal.returns
returns c =
    c.loop-txn.invariant.sought [] (none-left c.loop-txn.left.now c.loop-txn.at c.in_default.ensures.cases c.loop-txn.invariant.there)
    ∙ ap (λ (list : List TxnId). Some list) (append-nil c.loop-txn.yes.items)
