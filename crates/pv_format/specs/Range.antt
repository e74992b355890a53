-- Which values can be spelled: their numbers, items and counts are in range.
use Rattle.std.specs.Prelude.{ℕ, ℤ, ◌<◌, ◌≤◌, ◌^◌, List, map, length, All, ⊤}
use Rattle.std.specs.Int.{w64}
use Rattle.std.specs.Int.RustNames.{FitsSigned}
use Rattle.std.specs.List.{AllPairs}
use Rattle.pv_base.specs.declared.grant.GrantId.{GrantId}
use Rattle.pv_base.specs.declared.limits.TheConstants.{MAX_SITES, MAX_ITEMS, MAX_PROGRAM_ITEMS, HELD_NAMES}
use Rattle.pv_base.specs.declared.txn.TxnId.{TxnId}
use Rattle.pv_base.specs.Polyvalue.{Case, IsPolyvalue}
use Rattle.pv_base.specs.Want.{Want}
use Rattle.pv_model.specs.Alternatives.{Read}
use Rattle.pv_format.specs.Message.{Envelope, Message, lock, granted, denied, prepare, vote_yes, vote_no, outcome_reported, ask, NoCause, grant_lost, journal_full, txn_of}
use Rattle.pv_format.specs.Record.{Record, epoch_begun, prepared, outcome_known}

-- The grant's epoch and number have 32 bits.
pub record IsGrantInRange (grant : GrantId) : Type 0 where
  pub epoch : grant.epoch < 2 ^ 32
  pub number : grant.number < 2 ^ 32

-- The items are ones that there may be, ascending, and no more than a program may name.
pub record AreItemsInRange (items : List ℕ) : Type 0 where
  pub ascending : AllPairs (λ item later. item < later) items
  pub each : All (λ item. item < MAX_ITEMS) items
  pub few : length items ≤ MAX_PROGRAM_ITEMS

-- The items are in range, and there is one at least.
pub record AreWantsInRange (wants : List Want) : Type 0 where
  pub enough : 1 ≤ length wants
  pub items : AreItemsInRange (map (λ want. want.item) wants)

-- The length has 64 bits.
abbrev pub IsCauseInRange : NoCause → Type 0
IsCauseInRange grant_lost = ⊤
IsCauseInRange (journal_full length) = length < 2 ^ 64

-- Where there are so many sites.
module _ (sites : ℕ) where
  -- The transaction's site is one of them, and its epoch and number have 32 bits.
  pub record IsTxnWithin (txn : TxnId) : Type 0 where
    pub site : txn.site.0 < sites
    pub epoch : txn.epoch < 2 ^ 32
    pub number : txn.number < 2 ^ 32

  -- The literals name transactions in range, and the value has 64 bits.
  pub record IsCaseWithin (case : Case ℤ) : Type 0 where
    pub literals : All (λ literal. IsTxnWithin literal.txn) case.when
    pub value : FitsSigned w64 case.value

  -- The cases are a polyvalue as a site may hold it, and each is in range.
  pub record IsPolyvalueWithin (cases : List (Case ℤ)) : Type 0 where
    pub polyvalue : IsPolyvalue HELD_NAMES cases
    pub each : All IsCaseWithin cases

  -- The items and the polyvalues are in range, and there are so many at least.
  pub record AreReadsWithin (fewest : ℕ) (reads : List Read) : Type 0 where
    pub enough : fewest ≤ length reads
    pub items : AreItemsInRange (map (λ read. read.item) reads)
    pub values : All (λ read. IsPolyvalueWithin read.cases) reads

  -- What a message has beside its transaction is in range.
  abbrev pub IsBodyWithin : Message → Type 0
  IsBodyWithin (lock txn wants) = AreWantsInRange wants
  IsBodyWithin (granted txn grant values) = IsGrantInRange grant × AreReadsWithin 1 values
  IsBodyWithin (denied txn item holder) = (item < MAX_ITEMS) × IsTxnWithin holder
  IsBodyWithin (prepare txn grant writes) = IsGrantInRange grant × AreReadsWithin 0 writes
  IsBodyWithin (vote_yes txn) = ⊤
  IsBodyWithin (vote_no txn cause) = IsCauseInRange cause
  IsBodyWithin (outcome_reported txn commits) = ⊤
  IsBodyWithin (ask txn) = ⊤

  -- A message on its way between two of the sites, all of which is in range.
  pub record IsEnvelopeWithin (envelope : Envelope) : Type 0 where
    pub from : envelope.from < sites
    pub to : envelope.to < sites
    pub txn : IsTxnWithin (txn_of envelope.message)
    pub body : IsBodyWithin envelope.message

  -- All of a record is in range. An epoch is at least 1.
  abbrev pub IsRecordWithin : Record → Type 0
  IsRecordWithin (epoch_begun epoch) = (1 ≤ epoch) × (epoch < 2 ^ 32)
  IsRecordWithin (prepared txn writes) = IsTxnWithin txn × AreReadsWithin 0 writes
  IsRecordWithin (outcome_known txn commits) = IsTxnWithin txn

-- The same, where there are as many sites as there may be.

abbrev pub IsTxnInRange : TxnId → Type 0
IsTxnInRange txn = IsTxnWithin MAX_SITES txn

abbrev pub IsCaseInRange : Case ℤ → Type 0
IsCaseInRange case = IsCaseWithin MAX_SITES case

abbrev pub IsPolyvalueInRange : List (Case ℤ) → Type 0
IsPolyvalueInRange cases = IsPolyvalueWithin MAX_SITES cases

abbrev pub AreReadsInRange : ℕ → List Read → Type 0
AreReadsInRange fewest reads = AreReadsWithin MAX_SITES fewest reads

abbrev pub IsBodyInRange : Message → Type 0
IsBodyInRange message = IsBodyWithin MAX_SITES message

abbrev pub IsEnvelopeInRange : Envelope → Type 0
IsEnvelopeInRange envelope = IsEnvelopeWithin MAX_SITES envelope

abbrev pub IsRecordInRange : Record → Type 0
IsRecordInRange kept = IsRecordWithin MAX_SITES kept
