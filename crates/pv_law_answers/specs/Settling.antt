-- The claims that settling loses nothing, and that what fits later fitted before.
use Rattle.std.specs.Prelude.{◌≡◌, ℕ, Bool, List, [], ◌∷◌, ◌++◌, All}
use Rattle.pv_base.specs.declared.txn.TxnId.{TxnId}
use Rattle.pv_format.specs.Record.{outcome_known}
use Rattle.pv_law_agreement.specs.Falls.{FitsFallBack}
use Rattle.pv_protocol.specs.Committed.{Fits}
use Rattle.pv_protocol.specs.Places.{Place, world_before}
use Rattle.pv_protocol.specs.Shown.{item_value}
use Rattle.pv_protocol.specs.State.{Setup}
use Rattle.pv_protocol.specs.World.{World, site_at}
use Rattle.pv_protocol.specs.WorldStep.{Transition}

-- Where a transition records an outcome at a site, each item has the value by the site's records that it had before, at each assignment that
-- fits the world after it.
abbrev pub SettlingKeepsValues : Setup → World → List Transition → Type 0
SettlingKeepsValues setup first transitions =
    (place : Place transitions) (n : ℕ) (txn : TxnId) (outcome : Bool)
    → (site_at place.transition.world n).records ≡ (site_at (world_before first place) n).records ++ outcome_known txn outcome ∷ []
    → (assignment : List TxnId) → Fits place.transition.world assignment → (item : ℕ)
    → item_value setup.catalog (site_at place.transition.world n).records item assignment
    ≡ item_value setup.catalog (site_at (world_before first place) n).records item assignment

-- An assignment that fits a world fits each earlier one, cut to the order that this had.
abbrev pub WhatFitsFitted : List World → Type 0
WhatFitsFitted worlds = (before later : List World) (world : World) → worlds ≡ before ++ world ∷ later → All (FitsFallBack world) later
