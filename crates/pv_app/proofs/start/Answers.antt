-- No disk of a new bay is out.
use Rattle.std.proofs.Common.{ap, ◌∙◌}
use Rattle.pv_disk.specs.Folder.{FolderState, folder_bay}
use Rattle.pv_app.proofs.BayLemmas.{folder-none}
use Rattle.pv_app.proofs.start.Goals as goal

pub polydb-requires-clause-tour : goal.polydb-requires-clause-tour
polydb-requires-clause-tour g c κs lives = λ tour is site. ap (λ (bay : FolderState). (folder_bay.berth bay site).is_out) c.new-bay.ensures ∙ folder-none 256 site

pub polydb-requires-clause-live : goal.polydb-requires-clause-live
polydb-requires-clause-live g c κs lives = λ workers is site. ap (λ (bay : FolderState). (folder_bay.berth bay site).is_out) c.new-bay.ensures ∙ folder-none 256 site
