-- Which calls of its log a site makes.
use Rattle.std.specs.Prelude.{◌≡◌, ◌⊎◌, ℕ, Bool, true, false, List, [], ◌∷◌, length}
use Rattle.pv_disk_model.specs.Calls.{LogCall, read_all, reserve, append}
use Rattle.pv_disk_model.specs.Log.{Keeps}
use Rattle.pv_disk_model.specs.LogModel.{LogModel}

-- The calls that bring a content into a log.
abbrev pub append_calls : List ℕ → List LogCall
append_calls content = reserve (length content) ∷ append content ∷ []

module _ {W : Type 0} (M : LogModel W) where
  -- No call was made, or one for room, which found no memory.
  abbrev pub MayReserve : W → W → Type 0
  MayReserve old new = (new ≡ old) ⊎ ((content : ℕ) × M.goes old (reserve content) false new)

  -- The calls that bring a content into a log, where one fails: room was asked for in vain, and the log holds what it held; or there was room, and
  -- the append failed.
  abbrev pub FailsToAppend : W → W → List ℕ → Type 0
  FailsToAppend old new content =
      (Keeps M old new × M.goes old (reserve (length content)) false new)
      ⊎ ((mid : W) × Keeps M old mid × M.goes old (reserve (length content)) true mid × M.goes mid (append content) false new)

  -- The contents were asked for, and perhaps then room.
  pub record AsksFor (old new : W) : Type 0 where
    pub mid : W
    pub ok : Bool
    pub read : M.goes old read_all ok mid
    pub room : MayReserve mid new
