-- What of a site's records is in its host's file, whatever a crash leaves of it.
use Rattle.std.specs.Prelude.{◌≡◌, ◌+◌, ℕ, ◌≤◌, List, ◌++◌, All}
use Rattle.pv_format.specs.Contents.{SpellRecords}
use Rattle.pv_format.specs.Record.{Record}
use Rattle.pv_disk_model.specs.Size.{Contents, size_of}
use Rattle.pv_format.specs.Journal.{IsJournal}
use Rattle.pv_protocol.specs.Records.{longer_journal}
use Rattle.pv_host.specs.HostFile.{IsStored}
use Rattle.pv_embed.specs.Held.{Held}
use Rattle.pv_embed.specs.Hosted.{HostedState, stored_length}

-- The file is a journal of the first of the site's records: of as many as the host has told to be in it, or of these and all of the group that it was asked to write.
pub record HoldsStoredRecords (hosted : HostedState) (file : List ℕ) : Type 0 where
  pub contents : Contents
  pub journal : IsJournal contents file
  pub records : List Record
  pub spelled : SpellRecords records contents
  pub later : List Record
  pub first : hosted.site.records ≡ records ++ later
  pub enough : stored_length hosted ≤ size_of contents
  pub most : size_of contents ≤ longer_journal hosted.site.surplus records
  pub stored : IsStored hosted.site.log file

-- What was made when the site had come to these records, and rests on all of them: it is held with the length of a log of them, which is by so many bytes longer than
-- they make it.
abbrev pub RestOn : ℕ → List Record → List Held → Type 0
RestOn surplus records made = All (λ (one : Held). one.length ≡ longer_journal surplus records) made
