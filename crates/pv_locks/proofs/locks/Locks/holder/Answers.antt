use Rattle.std.proofs.Common.{sym, ◌∙◌, ap, subst}
use Rattle.std.specs.Option.{option_map}
use Rattle.std.specs.Prelude.{find, false}
use Rattle.pv_locks.proofs.IndexLemmas.{alone-is, in-place}
use Rattle.pv_locks.proofs.locks.Locks.holder.Goals as goal
use Rattle.pv_locks.specs.Holders.{AreInPlace, is_holder_in_the_way}
use Rattle.pv_locks.specs.LockTable.{LockTable}
use Rattle.pv_locks.specs.declared.holders.Holder.{Holder}
use Rattle.pv_protocol.specs.Committed.{holder_of}

pub exclusive_holder-requires : goal.exclusive_holder-requires
exclusive_holder-requires c =
    subst AreInPlace (sym c.deref.ensures.value) (in-place c.self.inside.grants.items c.self.inside.holders.items c.self.invariant)

pub returns : goal.returns
returns c =
    c.exclusive_holder.ensures
    ∙ ap (λ l. option_map (λ (h : Holder). h.txn) (find (is_holder_in_the_way (record { item = c.args.item.0; exclusive = false })) l)) c.deref.ensures.value
    ∙ alone-is c.self.inside.grants.items c.self.inside.holders.items c.self.invariant c.args.item.0
    ∙ ap (λ (table : LockTable). holder_of table.grants c.args.item.0) c.self.view_is
