-- What a site may come to keep of all that it ever appended, where it compacts again and again.
use Rattle.std.specs.Prelude.{◌≡◌, ℕ, Bool, List, [], ◌∷◌, ◌++◌, Some, None, ⊤}
use Rattle.pv_base.specs.Catalog.{Declared}
use Rattle.pv_base.specs.declared.txn.TxnId.{TxnId}
use Rattle.pv_format.specs.Record.{Record, outcome_known}
use Rattle.pv_law_compaction.specs.Compact.{compact}
use Rattle.pv_law_compaction.specs.Given.{is_given}
use Rattle.pv_law_values.specs.Fixed.{IsRecordFixedBy}
use Rattle.pv_protocol.specs.Records.{known}
use Rattle.pv_protocol.specs.Width.{IsNarrow}

-- If the record tells an outcome, it isn't known yet.
abbrev pub IsNew : List Record → Record → Type 0
IsNew records (outcome_known txn commits) = known records txn ≡ None
IsNew records other = ⊤

-- The site keeps the one list of all that it ever appended, which are the other list: a record comes to both; an outcome that was forgotten is learned again; what is kept is compacted.
pub data MayKeep (limit : ℕ) (catalog : Declared) (site : ℕ) : (kept all : List Record) → Type 0 where
  nothing : MayKeep limit catalog site [] []
  appends : (kept all : List Record) (more : Record) → MayKeep limit catalog site kept all → IsRecordFixedBy is_given more → IsNew all more
      → IsNarrow limit catalog site (kept ++ more ∷ []) → MayKeep limit catalog site (kept ++ more ∷ []) (all ++ more ∷ [])
  learns_again : (kept all : List Record) (txn : TxnId) (commits : Bool) → MayKeep limit catalog site kept all → known all txn ≡ Some commits
      → MayKeep limit catalog site (kept ++ outcome_known txn commits ∷ []) all
  compacts : (kept all : List Record) → MayKeep limit catalog site kept all → MayKeep limit catalog site (compact catalog site kept) all
