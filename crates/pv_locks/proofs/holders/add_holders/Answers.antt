use Rattle.std.proofs.Common.{◌∙◌, sym, ap, length, arith}
use Rattle.pv_locks.proofs.HolderLemmas.{with-last}
use Rattle.pv_locks.proofs.PutLemmas.{length-put}
use Rattle.pv_locks.proofs.holders.add_holders.Goals as goal
use Rattle.pv_locks.specs.Holders.{comes_before, with_holder, with_holders}
use Rattle.pv_locks.specs.declared.holders.Holder.{Holder}

-- The last want that is left is added first.
pub loop-want-preserved : goal.loop-want-preserved
loop-want-preserved c =
    let txn = c.args.txn in
    let items = c.loop-want.holders.items in
    let more = length-put (λ (other : Holder). comes_before other c.holder_by.result) c.holder_by.result items in
    let long = ap length c.add_holder.ensures.added in
    record {
      added = ap (with_holders txn c.in-Some.rest.now) (c.add_holder.ensures.added ∙ ap (λ (h : Holder). with_holder h items) c.holder_by.ensures)
          ∙ sym (with-last txn c.in-Some.rest.now c.in-Some.want.now items)
          ∙ ap (λ l. with_holders txn l items) (sym c.in-Some.ensures.cases.0)
          ∙ c.loop-want.invariant.added;
      order = c.add_holder.ensures.order;
      room = omega (arith, more, long, c.in-Some.ensures.cases.1, c.loop-want.invariant.room, c.add_holder.ensures.room);
      same = c.add_holder.ensures.room ∙ c.loop-want.invariant.same;
    }
