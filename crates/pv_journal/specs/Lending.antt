-- How a journal lends its disk.
use Rattle.pv_journal.specs.declared.journal.Journal.{Journal}

-- The journal with this disk in place of its own.
abbrev pub with_disk : {D : Type 0} → Journal D → D → Journal D
with_disk journal lent = record journal { disk = lent }
