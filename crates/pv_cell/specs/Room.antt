-- The room of a box for what a step leaves.
use Rattle.std.specs.Prelude.{◌≡◌, ◌<◌, length, vec_capacity}
use Rattle.pv_cell.specs.declared.site_box.SiteBox.{SiteBox}

module _ {W : Type 0} where
  -- There is room for an entry, and for one more that is begun.
  abbrev pub HasRoom : SiteBox W → Type 0
  HasRoom box = (length box.history.items < vec_capacity box.history) × (length box.begun.items < vec_capacity box.begun)

  -- The box is the same, but for its room.
  abbrev pub IsRoomier : SiteBox W → SiteBox W → Type 0
  IsRoomier old new =
      (new ≡ record old { history = new.history; begun = new.begun }) × (new.history.items ≡ old.history.items) × (new.begun.items ≡ old.begun.items)
