-- There is room for each record.
use Rattle.std.proofs.Common.{◌<◌, length, arith}
use Rattle.pv_replay.specs.Values.{record_of}
use Rattle.pv_store.proofs.NoteLemmas.{room-for-any}
use Rattle.pv_store.proofs.load.note_all.Goals as goal

pub note-requires : goal.note-requires
note-requires c =
    let some : c.loop-record.record-index < length c.args.records.now = c.loop-record-test.true in
    let promises = c.loop-record.invariant.promises_room in
    let outcomes = c.loop-record.invariant.outcomes_room in
    room-for-any (record { promises = c.loop-record.promises.room; outcomes = c.loop-record.outcomes.room; places = c.loop-record.unnamed.places }) (record_of c.record-item.result) (omega (arith, some, promises)) (omega (arith, some, outcomes))
