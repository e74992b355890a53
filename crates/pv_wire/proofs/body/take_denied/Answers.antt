-- The item, and then its holder.
use Rattle.std.proofs.Common.{inl, refl}
use Rattle.std.proofs.lemmas.Result.{err_from_is_err_and}
use Rattle.pv_format.specs.Layout.{Layout, number_then, txn_layout}
use Rattle.pv_format.specs.Spelling.{IsAllowed, SpellsTxn, is_item_from}
use Rattle.pv_replay.specs.Faults.{fault_of}
use Rattle.pv_fields.proofs.PartLemmas.{passes_both, passes_part, stops_at_number, stops_second}
use Rattle.pv_wire.proofs.body.take_denied.Goals as goal

abbrev item_layout : Layout → Layout
item_layout next = number_then 4 (is_item_from 0) (λ _. next)

pub returns-in_err-item-clause-stops : goal.returns-in_err-item-clause-stops
returns-in_err-item-clause-stops c =
    let p = err_from_is_err_and c.from_residual.result c.from_residual.ensures.1 in
    rw (p.1, p.2) (stops_at_number 4 (is_item_from 0) (λ _ next. txn_layout next) c.args.take.now (fault_of c.in_err-item.field-0.0) c.in_err-item.ensures.stops)

pub returns-in_err-holder-clause-stops : goal.returns-in_err-holder-clause-stops
returns-in_err-holder-clause-stops c =
    let p = err_from_is_err_and c.from_residual-in_err-holder.result c.from_residual-in_err-holder.ensures.1 in
    rw (p.1, p.2) (stops_second (IsAllowed 4 (is_item_from 0) c.in_ok-item.item.0) item_layout txn_layout c.args.take.now c.take_item.new.take (fault_of c.in_err-holder.field-0.0)
    (passes_part (IsAllowed 4 (is_item_from 0) c.in_ok-item.item.0) 4 (is_item_from 0) c.in_ok-item.item.0 c.args.take.now c.take_item.new.take c.in_ok-item.ensures.passes)
    c.in_err-holder.ensures.stops)

pub returns-clause-passes : goal.returns-clause-passes
returns-clause-passes c = record {
  kind_is = inl refl;
  txn_is = refl;
  passes = passes_both (IsAllowed 4 (is_item_from 0) c.in_ok-item.item.0) (SpellsTxn c.in_ok-holder.holder) item_layout txn_layout c.args.take.now c.take_item.new.take c.take_txn.new.take
      (passes_part (IsAllowed 4 (is_item_from 0) c.in_ok-item.item.0) 4 (is_item_from 0) c.in_ok-item.item.0 c.args.take.now c.take_item.new.take c.in_ok-item.ensures.passes)
      c.in_ok-holder.ensures.passes;
}
