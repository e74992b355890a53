-- The sites, the transaction, and the body.
use Rattle.std.proofs.Common.{sym, subst}
use Rattle.std.proofs.lemmas.Result.{err_from_is_err_and}
use Rattle.pv_base.specs.declared.txn.TxnId.{TxnId}
use Rattle.pv_format.specs.Layout.{body_layout, site_layout, txn_layout}
use Rattle.pv_format.specs.MessageSpelling.{SpellsBody}
use Rattle.pv_format.specs.Spelling.{◌followed_by◌, IsSite, SpellsTxn}
use Rattle.pv_fields.specs.Decoding.{Passes}
use Rattle.pv_replay.specs.Faults.{fault_of}
use Rattle.pv_fields.proofs.PartLemmas.{passes_both, stops_first, stops_second}
use Rattle.pv_wire.specs.Reading.{after_kind}
use Rattle.pv_wire.specs.Values.{message_of}
use Rattle.pv_wire.proofs.decoding.take_envelope.Goals as goal

pub returns-in_err-from-clause-stops : goal.returns-in_err-from-clause-stops
returns-in_err-from-clause-stops c =
    let p = err_from_is_err_and c.from_residual.result c.from_residual.ensures.1 in
    rw (p.1, p.2) (stops_first site_layout (λ next. site_layout (txn_layout (body_layout c.args.kind next))) c.args.take.now (fault_of c.in_err-from.field-0.0) c.in_err-from.ensures.stops)

pub returns-in_err-to-clause-stops : goal.returns-in_err-to-clause-stops
returns-in_err-to-clause-stops c =
    let p = err_from_is_err_and c.from_residual-in_err-to.result c.from_residual-in_err-to.ensures.1 in
    rw (p.1, p.2) (stops_second (IsSite c.in_ok-from.from.0) site_layout (λ next. site_layout (txn_layout (body_layout c.args.kind next))) c.args.take.now c.take_site.new.take
    (fault_of c.in_err-to.field-0.0) c.in_ok-from.ensures.passes
    (stops_first site_layout (λ next. txn_layout (body_layout c.args.kind next)) c.take_site.new.take (fault_of c.in_err-to.field-0.0) c.in_err-to.ensures.stops))

pub returns-in_err-txn-clause-stops : goal.returns-in_err-txn-clause-stops
returns-in_err-txn-clause-stops c =
    let p = err_from_is_err_and c.from_residual-in_err-txn.result c.from_residual-in_err-txn.ensures.1 in
    rw (p.1, p.2) (stops_second (IsSite c.in_ok-from.from.0) site_layout (λ next. site_layout (txn_layout (body_layout c.args.kind next))) c.args.take.now c.take_site.new.take
    (fault_of c.in_err-txn.field-0.0) c.in_ok-from.ensures.passes
    (stops_second (IsSite c.in_ok-to.to.0) site_layout (λ next. txn_layout (body_layout c.args.kind next)) c.take_site.new.take c.take_site-2.new.take
    (fault_of c.in_err-txn.field-0.0) c.in_ok-to.ensures.passes
    (stops_first txn_layout (body_layout c.args.kind) c.take_site-2.new.take (fault_of c.in_err-txn.field-0.0) c.in_err-txn.ensures.stops)))

pub returns-in_err-message-clause-stops : goal.returns-in_err-message-clause-stops
returns-in_err-message-clause-stops c =
    let p = err_from_is_err_and c.from_residual-in_err-message.result c.from_residual-in_err-message.ensures.1 in
    rw (p.1, p.2) (stops_second (IsSite c.in_ok-from.from.0) site_layout (λ next. site_layout (txn_layout (body_layout c.args.kind next))) c.args.take.now c.take_site.new.take
    (fault_of c.in_err-message.field-0.0) c.in_ok-from.ensures.passes
    (stops_second (IsSite c.in_ok-to.to.0) site_layout (λ next. txn_layout (body_layout c.args.kind next)) c.take_site.new.take c.take_site-2.new.take
    (fault_of c.in_err-message.field-0.0) c.in_ok-to.ensures.passes
    (stops_second (SpellsTxn c.in_ok-txn.txn) txn_layout (body_layout c.args.kind) c.take_site-2.new.take c.take_txn.new.take
    (fault_of c.in_err-message.field-0.0) c.in_ok-txn.ensures.passes c.in_err-message.ensures.stops)))

pub returns-clause-passes : goal.returns-clause-passes
returns-clause-passes c =
    let message = c.in_ok-message.ensures.passes in
    record {
      kind_is = message.kind_is;
      passes =
          subst (λ (txn : TxnId). Passes (IsSite c.in_ok-from.from.0 followed_by IsSite c.in_ok-to.to.0 followed_by SpellsTxn txn followed_by SpellsBody (message_of c.in_ok-message.message))
          (after_kind c.args.kind) c.args.take.now c.take_body.new.take) (sym message.txn_is)
          (passes_both (IsSite c.in_ok-from.from.0) (IsSite c.in_ok-to.to.0 followed_by SpellsTxn c.in_ok-txn.txn followed_by SpellsBody (message_of c.in_ok-message.message)) site_layout
          (λ next. site_layout (txn_layout (body_layout c.args.kind next))) c.args.take.now c.take_site.new.take c.take_body.new.take c.in_ok-from.ensures.passes
          (passes_both (IsSite c.in_ok-to.to.0) (SpellsTxn c.in_ok-txn.txn followed_by SpellsBody (message_of c.in_ok-message.message)) site_layout
          (λ next. txn_layout (body_layout c.args.kind next)) c.take_site.new.take c.take_site-2.new.take c.take_body.new.take c.in_ok-to.ensures.passes
          (passes_both (SpellsTxn c.in_ok-txn.txn) (SpellsBody (message_of c.in_ok-message.message)) txn_layout (body_layout c.args.kind)
          c.take_site-2.new.take c.take_txn.new.take c.take_body.new.take c.in_ok-txn.ensures.passes message.passes)));
    }
