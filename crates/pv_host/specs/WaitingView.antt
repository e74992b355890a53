-- What the fields of records say that wait to be written.
use Rattle.std.specs.Prelude.{◌≤◌, ◌-◌, length, take, drop, vec_len, vec_capacity}
use Rattle.pv_host.specs.Waiting.{AreRecords, WaitingState, contents_behind}
use Rattle.pv_host.specs.declared.waiting.Waiting.TheInside.{Inside}

abbrev pub waiting_of : Inside → WaitingState
waiting_of inside = record {
  asked = contents_behind (take inside.frozen inside.bytes.items);
  pending = contents_behind (drop inside.frozen inside.bytes.items);
  room = vec_capacity inside.bytes - vec_len inside.bytes;
}

-- First come the records of the group, and then the others.
pub record IsWaiting (inside : Inside) : Type 0 where
  pub within : inside.frozen ≤ length inside.bytes.items
  pub asked : AreRecords (waiting_of inside).asked (take inside.frozen inside.bytes.items)
  pub pending : AreRecords (waiting_of inside).pending (drop inside.frozen inside.bytes.items)
