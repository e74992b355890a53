-- What a crash leaves of a site's step.
use Rattle.std.specs.Prelude.{◌≡◌, ◌⊎◌, List, Option, Some, None}
use Rattle.pv_format.specs.Contents.{SpellRecords}
use Rattle.pv_format.specs.Record.{Record}
use Rattle.pv_disk_model.specs.LogModel.{LogModel}
use Rattle.pv_disk_model.specs.Size.{Contents}
use Rattle.pv_protocol.specs.State.{Running, Input}
use Rattle.pv_protocol.specs.Step.{step_on, records_after}
use Rattle.pv_site.specs.SiteState.{SiteState, here_with}
use Rattle.pv_site.specs.Steps.{IsReady}

-- What a log holds, or what is left of it, are contents that spell these records.
abbrev pub AreContentsOf : List Record → Option Contents → Type 0
AreContentsOf records None = ⊥
AreContentsOf records (Some contents) = SpellRecords records contents

-- What a crash leaves are the records before the step, or these with the step's one.
abbrev pub AreBeforeOrAfter : {W : Type 0} → SiteState W → Running → Input → Option Contents → Type 0
AreBeforeOrAfter old running input left =
    AreContentsOf old.records left ⊎ AreContentsOf (records_after old.records (step_on (here_with old running) input)) left

module _ {W : Type 0} (M : LogModel W) where
  -- The site is up, and can make a step. It is known what its log holds.
  pub record IsUp (site : SiteState W) (running : Running) : Type 0 where
    pub ready : IsReady M site
    pub up : site.running ≡ Some running
    pub contents : Contents
    pub known : M.contents site.log ≡ Some contents
