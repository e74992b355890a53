-- Histories of sites that have a merge which a world can run.
use Rattle.std.specs.Prelude.{◌≤◌, Vec, List, All, length}
use Rattle.std.specs.declared.alloc.Global.{Global}
use Rattle.pv_base.specs.Catalog.{Declared}
use Rattle.pv_history.specs.declared.entry.Entry.{Entry}
use Rattle.pv_history.specs.declared.entry.TheConstants.{MAX_ENTRIES}
use Rattle.pv_law_histories.specs.Fitting.{CanAllBeDone, FitTogether}
use Rattle.pv_merge.specs.Moments.{ArePlanned, histories_of}
use Rattle.pv_site.specs.SiteState.{setup_of}

-- They fit together, all that was asked for can run and has its plan, and they are short enough.
pub record CanBeMerged (catalog : Declared) (histories : List (Vec Entry Global)) : Type 0 where
  pub fit : FitTogether (setup_of catalog) (histories_of histories)
  pub done : CanAllBeDone catalog (histories_of histories)
  pub plans : All (λ history. ArePlanned catalog history.items) histories
  pub sizes : All (λ history. length history.items ≤ MAX_ENTRIES) histories
