-- What coordinators took, in the order of sites.
use Rattle.std.specs.Prelude.{ℕ, ◌+◌, ◌≤◌, ◌<◌, List, [], ◌∷◌, All, ⊤}
use Rattle.pv_base.specs.declared.txn.TxnId.{TxnId}
use Rattle.pv_law_acts.specs.Seen.{WorksAgeless}
use Rattle.pv_law_world.specs.Sites.{AreMemoriesInOrder}
use Rattle.pv_protocol.specs.State.{Setup, Taken, Entry}
use Rattle.pv_protocol.specs.World.{World}

-- These were taken from sites in their order, from this one on and below a bound, once from each at most.
abbrev pub Ascend : (low bound : ℕ) → List Taken → Type 0
Ascend low bound [] = ⊤
Ascend low bound (taken ∷ rest) = (low ≤ taken.site) × (taken.site < bound) × Ascend (taken.site + 1) bound rest

-- What was taken for each transaction on which a site works stands in the order of sites.
abbrev pub AreTakenInOrder : Setup → World → Type 0
AreTakenInOrder setup world = (n : ℕ) (txn : TxnId) (entry : Entry) → WorksAgeless world n txn entry → Ascend 0 setup.catalog.sites entry.taken

-- Each item is at a site, and what each site has in memory stands in order.
pub record IsOrderly (setup : Setup) (world : World) : Type 0 where
  pub homes : All (λ item. item.site < setup.catalog.sites) setup.catalog.items
  pub memories : AreMemoriesInOrder world
  pub taken : AreTakenInOrder setup world
