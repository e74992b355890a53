-- What a box in its turn shows.
use Rattle.std.specs.Prelude.{List, ◌∷◌, map}
use Rattle.pv_cell.specs.declared.site_box.SiteBox.{SiteBox}
use Rattle.pv_shown.specs.declared.shown.Sight.{Sight}
use Rattle.pv_shown.specs.declared.shown.Sight.TheVariants.{Opened, Took}

-- the box as it was at first, and then its history
abbrev pub sights_of : {W : Type 0} → SiteBox W × SiteBox W → List (Sight W)
sights_of shown = Opened shown.1 ∷ map Took shown.0.history.items
