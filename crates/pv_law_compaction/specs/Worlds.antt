-- Worlds in which sites keep fewer records, beside those in which they keep all.
use Rattle.std.specs.Prelude.{◌≡◌, ℕ, List, filter, Contains, IsTrue}
use Rattle.pv_base.specs.declared.txn.TxnId.{TxnId}
use Rattle.pv_law_acts.specs.Seen.{records_at, memory_at}
use Rattle.pv_law_compaction.specs.Given.{is_given}
use Rattle.pv_law_compaction.specs.StandsFor.{StandsFor}
use Rattle.pv_protocol.specs.State.{Setup, Placed}
use Rattle.pv_protocol.specs.World.{World}

-- The one world is the other, but that what each site keeps stands for its records there. What was sent doesn't matter here.
pub record IsKeptOf (setup : Setup) (kept all : World) : Type 0 where
  pub records : (n : ℕ) → StandsFor setup.held_names setup.catalog n (records_at kept n) (records_at all n)
  pub memory : (n : ℕ) → memory_at kept n ≡ memory_at all n
  pub order : kept.order ≡ all.order

-- The order is of transactions whose numbers a site may have given.
abbrev pub HasGivenOrder : World → Type 0
HasGivenOrder world = (placed : Placed) → Contains world.order placed → IsTrue (is_given placed.txn)

-- the part of the assignment that is of such transactions
abbrev pub given_part : List TxnId → List TxnId
given_part assignment = filter is_given assignment
