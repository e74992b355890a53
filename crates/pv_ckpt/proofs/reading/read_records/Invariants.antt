use Rattle.std.proofs.Common.{◌≡◌, ◌-◌, ◌<◌, ◌++◌}
use Rattle.pv_disk_model.specs.Size.{Contents}
use Rattle.pv_format.specs.Journal.{record_of}
use Rattle.pv_journal.specs.Opening.{contents_in}
use Rattle.pv_law_calls.specs.Reading.{LooksOn}
use Rattle.pv_ckpt.proofs.RecordLemmas.{HasRead}
use Rattle.pv_ckpt.proofs.reading.read_records.Given as goal

abbrev pub invariant-loop-content : goal.invariant-loop-content
invariant-loop-content g l =
    LooksOn g.D.Disk.model l.fn.disk l.disk × (l.place < l.size)
    × ((later : Contents) × HasRead g.D.Disk.model record_of l.fn.disk l.disk l.start l.place later × (contents_in l.all ≡ contents_in l.fn.all ++ later))

abbrev pub decreases-loop-content : goal.decreases-loop-content
decreases-loop-content g l = l.size - l.place
