-- What the records so far say is noted, and there is room for those that are left.
use Rattle.std.proofs.Common.{◌≡◌, ◌-◌, ◌≤◌, length, take}
use Rattle.pv_replay.specs.Values.{records_of}
use Rattle.pv_store.specs.Held.{AreKnown, ArePrepared}
use Rattle.pv_store.proofs.load.note_all.Given as goal

abbrev pub invariant-loop-record : goal.invariant-loop-record
invariant-loop-record l = record {
  prepared : ArePrepared l.promises.txns (records_of (take l.record-index l.records));
  known : AreKnown l.outcomes.outcomes (records_of (take l.record-index l.records));
  records : l.history.items ≡ take l.record-index l.records;
  promises_room : length l.records - l.record-index ≤ l.promises.room;
  outcomes_room : length l.records - l.record-index ≤ l.outcomes.room;
}
