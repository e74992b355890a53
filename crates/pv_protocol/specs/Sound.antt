-- What a site holds is in range. Then so is what it sends and records.
use Rattle.std.specs.Prelude.{◌<◌, ◌≤◌, ℕ, length, All, IsTrue, ⊤}
use Rattle.std.specs.Int.{w64}
use Rattle.std.specs.Int.RustNames.{FitsSigned}
use Rattle.pv_base.specs.Catalog.{Declared}
use Rattle.pv_base.specs.declared.limits.TheConstants.{MAX_SITES, MAX_ITEMS, MIN_JOURNAL, MAX_JOURNAL, HELD_NAMES, NEVER_GIVEN}
use Rattle.pv_format.specs.Range.{IsTxnWithin, IsGrantInRange, AreReadsWithin, AreWantsInRange, IsEnvelopeWithin, IsRecordWithin}
use Rattle.pv_protocol.specs.Here.{Here}
use Rattle.pv_protocol.specs.Keyed.{AreInOrder}
use Rattle.pv_protocol.specs.Lock.{is_home}
use Rattle.pv_protocol.specs.Records.{longer_journal}
use Rattle.pv_protocol.specs.State.{Setup, Grant, Taken, Entry, Running, Input, submit, receive, tick, Outgoing}
use Rattle.pv_protocol.specs.WellFormed.{CanRun}
use Rattle.pv_protocol.specs.Width.{IsNarrow}

-- The catalog and the limits are in range, and the values that one transaction reads may name fewer outcomes together than one value
-- that is held.
pub record IsSetupInRange (setup : Setup) : Type 0 where
  pub sites : setup.catalog.sites ≤ MAX_SITES
  pub items : length setup.catalog.items ≤ MAX_ITEMS
  pub least : MIN_JOURNAL ≤ setup.catalog.journal
  pub journal : setup.catalog.journal ≤ MAX_JOURNAL
  pub homes : All (λ item. item.site < setup.catalog.sites) setup.catalog.items
  pub values : All (λ item. FitsSigned w64 item.value) setup.catalog.items
  pub apart : setup.read_names < setup.held_names
  pub held : setup.held_names ≤ HELD_NAMES

-- Where what is held, sent and recorded may name so many sites: those of the catalog, or more where a journal comes from elsewhere.
module _ (sites : ℕ) where
  -- A grant that stands at the site is in range, and of items of the site.
  pub record IsHeldInRange (catalog : Declared) (site : ℕ) (grant : Grant) : Type 0 where
    pub txn : IsTxnWithin sites grant.txn
    pub id : IsGrantInRange grant.id
    pub wants : AreWantsInRange grant.wants
    pub homes : All (λ want. IsTrue (is_home catalog site want.item)) grant.wants

  -- What was taken from a participant is in range.
  pub record IsTakenInRange (taken : Taken) : Type 0 where
    pub grant : IsGrantInRange taken.grant
    pub values : AreReadsWithin sites 1 taken.values

  -- An entry is in range.
  pub record IsEntryInRange (catalog : Declared) (entry : Entry) : Type 0 where
    pub txn : IsTxnWithin sites entry.txn
    pub program : CanRun catalog entry.program
    pub taken : All IsTakenInRange entry.taken

  -- What the site has in memory is in range.
  pub record IsRunningInRange (catalog : Declared) (site : ℕ) (running : Running) : Type 0 where
    pub epoch : running.epoch < NEVER_GIVEN
    pub next_txn : running.next_txn ≤ NEVER_GIVEN
    pub next_grant : running.next_grant ≤ NEVER_GIVEN
    pub grants : All (IsHeldInRange catalog site) running.grants
    pub entries : All (IsEntryInRange catalog) running.entries

  -- All that a site holds is in range, its shown values are narrow, and its journal has room for its records.
  pub record IsHereInRange (here : Here) : Type 0 where
    pub me : here.me < here.setup.catalog.sites
    pub bound : here.setup.catalog.sites ≤ sites
    pub most : sites ≤ MAX_SITES
    pub setup : IsSetupInRange here.setup
    pub records : All (IsRecordWithin sites) here.records
    pub narrow : IsNarrow here.setup.held_names here.setup.catalog here.me here.records
    pub room : longer_journal here.surplus here.records ≤ here.setup.catalog.journal
    pub running : IsRunningInRange here.setup.catalog here.me here.running

  -- What a site is given is in range.
  abbrev pub IsInputInRange : Here → Input → Type 0
  IsInputInRange here (submit program) = CanRun here.setup.catalog program
  IsInputInRange here (receive from message) = IsEnvelopeWithin sites (record { from = from; to = here.me; message = message })
  IsInputInRange here tick = ⊤

  -- What a site sends is in range.
  abbrev pub IsSentInRange : Here → Outgoing → Type 0
  IsSentInRange here sent = IsEnvelopeWithin sites (record { from = here.me; to = sent.to; message = sent.message })

-- What a site has in memory stands in the order of transactions, one grant and one entry of each at most.
pub record IsInOrder (running : Running) : Type 0 where
  pub grants : AreInOrder (λ (grant : Grant). grant.txn) running.grants
  pub entries : AreInOrder (λ (entry : Entry). entry.txn) running.entries
