-- The records so far are those of the contents so far.
use Rattle.std.proofs.Common.{◌≡◌, take, length}
use Rattle.pv_format.specs.Contents.{SpellRecords, greatest_epoch}
use Rattle.pv_replay.specs.Values.{contents_of, records_of}
use Rattle.pv_replay.proofs.past.replay.Given as goal

abbrev pub invariant-loop-content : goal.invariant-loop-content
invariant-loop-content l = record {
  counted : length l.records.items ≡ l.content-index;
  spelled : SpellRecords (records_of l.records.items) (take l.content-index (contents_of l.contents));
  epoch : l.epoch ≡ greatest_epoch (records_of l.records.items);
}
