-- What is in range with some sites is in range.
use Rattle.std.proofs.Common.{arith, ℕ, ℤ, ◌≤◌, List}
use Rattle.std.proofs.lemmas.List.Elements.{All-weaker}
use Rattle.pv_base.specs.declared.limits.TheConstants.{MAX_SITES}
use Rattle.pv_base.specs.declared.literal.Literal.{Literal}
use Rattle.pv_base.specs.declared.txn.TxnId.{TxnId}
use Rattle.pv_base.specs.Polyvalue.{Case}
use Rattle.pv_format.specs.Message.{Envelope, Message, lock, granted, denied, prepare, vote_yes, vote_no, outcome_reported, ask}
use Rattle.pv_format.specs.Range.{IsTxnWithin, IsCaseWithin, IsPolyvalueWithin, AreReadsWithin, IsBodyWithin, IsEnvelopeWithin, IsRecordWithin, IsTxnInRange, IsCaseInRange, IsPolyvalueInRange, AreReadsInRange, IsBodyInRange, IsEnvelopeInRange, IsRecordInRange}
use Rattle.pv_format.specs.Record.{Record, epoch_begun, prepared, outcome_known}
use Rattle.pv_model.specs.Alternatives.{Read}

module _ (sites : ℕ) (few : sites ≤ MAX_SITES) where
  txn-wider : (txn : TxnId) → IsTxnWithin sites txn → IsTxnInRange txn
  txn-wider txn is = record { site = omega (arith, is.site, few); epoch = is.epoch; number = is.number }

  case-wider : (case : Case ℤ) → IsCaseWithin sites case → IsCaseInRange case
  case-wider case is = record {
    literals = All-weaker (λ (literal : Literal). IsTxnWithin sites literal.txn) (λ (literal : Literal). IsTxnInRange literal.txn)
        (λ literal fine. txn-wider literal.txn fine) case.when is.literals;
    value = is.value;
  }

  polyvalue-wider : (cases : List (Case ℤ)) → IsPolyvalueWithin sites cases → IsPolyvalueInRange cases
  polyvalue-wider cases is = record { polyvalue = is.polyvalue; each = All-weaker (IsCaseWithin sites) IsCaseInRange (λ case fine. case-wider case fine) cases is.each }

  reads-wider : (fewest : ℕ) (reads : List Read) → AreReadsWithin sites fewest reads → AreReadsInRange fewest reads
  reads-wider fewest reads is = record {
    enough = is.enough;
    items = is.items;
    values = All-weaker (λ (read : Read). IsPolyvalueWithin sites read.cases) (λ (read : Read). IsPolyvalueInRange read.cases)
        (λ read fine. polyvalue-wider read.cases fine) reads is.values;
  }

  body-wider : (message : Message) → IsBodyWithin sites message → IsBodyInRange message
  body-wider (lock txn wants) is = is
  body-wider (granted txn grant values) is = (is.0, reads-wider 1 values is.1)
  body-wider (denied txn item holder) is = (is.0, txn-wider holder is.1)
  body-wider (prepare txn grant writes) is = (is.0, reads-wider 0 writes is.1)
  body-wider (vote_yes txn) is = is
  body-wider (vote_no txn cause) is = is
  body-wider (outcome_reported txn commits) is = is
  body-wider (ask txn) is = is

  pub envelope-wider : (envelope : Envelope) → IsEnvelopeWithin sites envelope → IsEnvelopeInRange envelope
  envelope-wider envelope is = record {
    from = omega (arith, is.from, few);
    to = omega (arith, is.to, few);
    txn = txn-wider _ is.txn;
    body = body-wider envelope.message is.body;
  }

  pub record-wider : (kept : Record) → IsRecordWithin sites kept → IsRecordInRange kept
  record-wider (epoch_begun epoch) is = is
  record-wider (prepared txn writes) is = (txn-wider txn is.0, reads-wider 0 writes is.1)
  record-wider (outcome_known txn commits) is = txn-wider txn is
