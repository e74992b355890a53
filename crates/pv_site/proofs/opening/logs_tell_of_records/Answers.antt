use Rattle.pv_format.specs.Range.{IsRecordInRange}
use Rattle.pv_law_format.proofs.ReplayLemmas.{written-read}
use Rattle.pv_law_step.proofs.Lists.{all-from}
use Rattle.pv_site.proofs.OpenLemmas.{front-shorter, journal-least, records-in-range, size-journal}
use Rattle.pv_site.proofs.opening.logs_tell_of_records.Goals as goal

pub returns : goal.returns
returns c = record {
  size = size-journal;
  read = written-read;
  least = journal-least;
  front = front-shorter;
  range = λ records contents spelled. all-from IsRecordInRange records (records-in-range records contents spelled);
}
