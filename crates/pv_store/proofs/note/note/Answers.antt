-- By the kind of record.
use Rattle.std.proofs.Common.{◌≡◌, ◌∙◌, [], ◌∷◌, ◌++◌, ◌&&◌, List, ap, sym}
use Rattle.std.specs.Prelude.{is_none}
use Rattle.pv_base.specs.Assignment.{is_same_txn}
use Rattle.pv_base.specs.declared.txn.TxnId.{TxnId}
use Rattle.pv_format.specs.Record as model
use Rattle.pv_law_values.proofs.RecordsMore.{known-epoch, known-promise, is_prepared-epoch, is_prepared-outcome}
use Rattle.pv_protocol.specs.Records.{known, is_prepared}
use Rattle.pv_replay.specs.Values.{record_of}
use Rattle.pv_store.specs.Kept.{has_place}
use Rattle.pv_store.proofs.NoteLemmas.{known-with, prepared-more, untold-stay}
use Rattle.pv_store.proofs.note.note.Goals as goal

-- what the records say of a transaction's promise and outcome, by their last one
prepared-as : (records : List model.Record) (more told : model.Record) → more ≡ told → (txn : TxnId)
    → is_prepared (records ++ told ∷ []) txn ≡ is_prepared (records ++ more ∷ []) txn
prepared-as records more told is txn = ap (λ (last : model.Record). is_prepared (records ++ last ∷ []) txn) (sym is)

known-as : (records : List model.Record) (more told : model.Record) → more ≡ told → (txn : TxnId)
    → known (records ++ told ∷ []) txn ≡ known (records ++ more ∷ []) txn
known-as records more told is txn = ap (λ (last : model.Record). known (records ++ last ∷ []) txn) (sym is)

pub returns-in-Epoch-clause-prepared : goal.returns-in-Epoch-clause-prepared
returns-in-Epoch-clause-prepared c = λ records are txn.
    are txn ∙ sym (is_prepared-epoch records c.in-Epoch.field-0 txn) ∙ prepared-as records _ _ (ap record_of c.in-Epoch.is) txn

pub returns-in-Epoch-clause-known : goal.returns-in-Epoch-clause-known
returns-in-Epoch-clause-known c = λ records are txn.
    are txn ∙ sym (known-epoch records c.in-Epoch.field-0 txn) ∙ known-as records _ _ (ap record_of c.in-Epoch.is) txn

pub returns-in-Prepared-clause-prepared : goal.returns-in-Prepared-clause-prepared
returns-in-Prepared-clause-prepared c = λ records are txn.
    prepared-more c.args.promises.now.txns c.add.new.self.txns c.in-Prepared.txn c.add.ensures.added c.in-Prepared.writes.items records are txn
    ∙ prepared-as records _ _ (ap record_of c.in-Prepared.is) txn

pub returns-in-Prepared-clause-known : goal.returns-in-Prepared-clause-known
returns-in-Prepared-clause-known c = λ records are txn.
    are txn ∙ sym (known-promise records c.in-Prepared.txn c.in-Prepared.writes.items txn) ∙ known-as records _ _ (ap record_of c.in-Prepared.is) txn

pub returns-in-Outcome-clause-prepared : goal.returns-in-Outcome-clause-prepared
returns-in-Outcome-clause-prepared c = λ records are txn.
    are txn ∙ sym (is_prepared-outcome records c.in-Outcome.txn c.in-Outcome.commits txn) ∙ prepared-as records _ _ (ap record_of c.in-Outcome.is) txn

pub returns-in-Outcome-clause-known : goal.returns-in-Outcome-clause-known
returns-in-Outcome-clause-known c = λ records are txn.
    known-with c.args.outcomes.now.outcomes c.add-in-Outcome.new.self.outcomes c.in-Outcome.txn c.in-Outcome.commits c.add-in-Outcome.ensures.added records are txn
    ∙ known-as records _ _ (ap record_of c.in-Outcome.is) txn

pub returns-in-Outcome-clause-touched : goal.returns-in-Outcome-clause-touched
returns-in-Outcome-clause-touched c = λ txn item.
    c.remove.ensures.touched txn item
    ∙ untold-stay (is_same_txn txn c.in-Outcome.txn) c.in-Outcome.commits (has_place c.args.dependents.now.touched txn item)
    ∙ ap (λ (last : model.Record). is_none (known (last ∷ []) txn) && has_place c.args.dependents.now.touched txn item) (sym (ap record_of c.in-Outcome.is))
