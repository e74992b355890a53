-- What workers leave of boxes and clients.
use Rattle.std.specs.Prelude.{◌≡◌, List}
use Rattle.pv_cell.specs.Course.{Became}
use Rattle.pv_cell.specs.declared.site_box.SiteBox.{SiteBox}
use Rattle.pv_closing.specs.Closing.{IsWhole}
use Rattle.pv_closing.specs.declared.ended.Ended.{Ended}
use Rattle.pv_crew.specs.declared.client.Client.{Client}
use Rattle.pv_disk_model.specs.LogModel.{LogModel}
use Rattle.pv_mail.specs.declared.answer.Answer.{Answer}
use Rattle.pv_post.specs.Ends.{SameOut}
use Rattle.pv_rings.specs.Rings.{Each}
use Rattle.pv_script.specs.declared.live.Request.{Request}

-- It is the box later, and can be called. (`GoesOn` of pv_closing says besides that a worn box stays worn; `Became` alone that it is the same box.)
abbrev pub WentOn : {W : Type 0} → LogModel W → SiteBox W → SiteBox W → Type 0
WentOn M old new = IsWhole M new × Became M old new

-- All boxes later.
abbrev pub AllBecame : {W : Type 0} → LogModel W → List (SiteBox W) → List (SiteBox W) → Type 0
AllBecame M old new = Each (λ _ one other. Became M one other) old new

-- It is what is left of the client: it asks for the same, by the same ring.
abbrev pub IsLeftOf : Client Request Answer → Ended → Type 0
IsLeftOf client ended = (ended.script ≡ client.script) × SameOut client.asks ended.asks
