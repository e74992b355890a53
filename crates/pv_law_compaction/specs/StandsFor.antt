-- When a list of records may be kept in place of all that were ever appended.
use Rattle.std.specs.Prelude.{◌≡◌, ℕ, Bool, true, List, Some, None, Contains, IsTrue}
use Rattle.pv_base.specs.Catalog.{Declared}
use Rattle.pv_base.specs.declared.txn.TxnId.{TxnId}
use Rattle.pv_format.specs.Contents.{greatest_epoch}
use Rattle.pv_format.specs.Record.{Record, outcome_known}
use Rattle.pv_law_compaction.specs.Given.{is_given, HeedsGiven, DependOnGiven}
use Rattle.pv_protocol.specs.Committed.{home_of}
use Rattle.pv_protocol.specs.Lock.{is_home}
use Rattle.pv_protocol.specs.Records.{known, is_prepared}
use Rattle.pv_protocol.specs.Shown.{item_value}
use Rattle.pv_protocol.specs.Width.{IsNarrow}

-- At this site the one list stands for the other: a step sees of them the same, but for outcomes that the transactions' own sites tell again.
pub record StandsFor (limit : ℕ) (catalog : Declared) (site : ℕ) (kept all : List Record) : Type 0 where
  -- the site starts in the same epoch
  pub epoch : greatest_epoch kept ≡ greatest_epoch all
  -- its items have the same values, whatever commits of what isn't known
  pub values : (item : ℕ) → IsTrue (is_home catalog site item) → (assignment : List TxnId) → HeedsGiven all assignment
      → item_value catalog kept item assignment ≡ item_value catalog all item assignment
  -- what is prepared was
  pub promised : (txn : TxnId) → IsTrue (is_given txn) → is_prepared kept txn ≡ true → is_prepared all txn ≡ true
  -- and what was is, while its outcome isn't known
  pub promises : (txn : TxnId) → IsTrue (is_given txn) → is_prepared all txn ≡ true → known all txn ≡ None → is_prepared kept txn ≡ true
  -- each outcome that is recorded was known
  pub outcomes : (txn : TxnId) (commits : Bool) → IsTrue (is_given txn) → Contains kept (outcome_known txn commits) → known all txn ≡ Some commits
  -- and each commit of a transaction that the site began is known
  pub commits : (txn : TxnId) → IsTrue (is_given txn) → home_of txn ≡ site → known all txn ≡ Some true → known kept txn ≡ Some true
  -- after each of its promises the items name few outcomes, so a site may read the list from its front on
  pub narrow : IsNarrow limit catalog site kept
  -- and what it shows depends on transactions alone whose numbers were given
  pub given : DependOnGiven catalog site kept
