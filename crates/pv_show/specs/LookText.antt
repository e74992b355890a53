-- What is told of a look at the disk of a site.
use Rattle.std.specs.Prelude.{◌≡◌, ℕ, List, Result, Ok, Err, Vec}
use Rattle.std.specs.declared.alloc.Global.{Global}
use Rattle.pv_base.specs.Catalog.{Declared}
use Rattle.pv_disk.specs.declared.disk_error.LookError.{LookError}
use Rattle.pv_disk.specs.declared.disk_error.LookError.TheVariants.{Failed, NotOurs, NoMemory}
use Rattle.pv_journal.specs.Opening.{contents_in}
use Rattle.pv_show.specs.SiteText.{IsTold, failure_text, log, no_log}

-- The text tells what the look has found, or that the disk failed.
abbrev pub IsToldOfLook : Declared → ℕ → Result (Vec (Vec ℕ Global) Global) LookError → List ℕ → Type 0
IsToldOfLook catalog site (Ok contents) text = IsTold catalog site (log (contents_in contents)) text
IsToldOfLook catalog site (Err (NotOurs place)) text = IsTold catalog site (no_log place) text
IsToldOfLook catalog site (Err Failed) text = text ≡ failure_text site
IsToldOfLook catalog site (Err NoMemory) text = ⊥
