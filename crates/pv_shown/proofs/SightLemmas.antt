-- What a box in its turn shows grows with its history.
use Rattle.std.proofs.Common.{List, ◌∷◌, map, sym, ap, ◌∙◌}
use Rattle.std.proofs.lemmas.List.{map-append}
use mathlib.Core.List.{IsPrefix}
use Rattle.pv_cell.specs.Course.{Became}
use Rattle.pv_cell.specs.declared.site_box.SiteBox.{SiteBox}
use Rattle.pv_disk_model.specs.LogModel.{LogModel}
use Rattle.pv_history.specs.declared.entry.Entry.{Entry}
use Rattle.pv_shown.specs.Sights.{sights_of}
use Rattle.pv_shown.specs.declared.shown.Sight.{Sight}
use Rattle.pv_shown.specs.declared.shown.Sight.TheVariants.{Opened, Took}

module _ {W : Type 0} where
  pub sights-grow : (M : LogModel W) (first old new : SiteBox W) → Became M old new → IsPrefix (sights_of (old, first)) (sights_of (new, first))
  sights-grow M first old new became =
      let more = became.history.0 in (
        map Took more,
        ap (λ (sights : List (Sight W)). Opened first ∷ sights)
            (sym (map-append Took old.history.items more) ∙ ap (λ (entries : List Entry). map Took entries) became.history.1),
      )
