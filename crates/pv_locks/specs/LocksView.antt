-- What the fields of the locks say.
use Rattle.std.specs.Prelude.{vec_capacity}
use Rattle.pv_locks.specs.Holders.{IsIndex}
use Rattle.pv_locks.specs.LockTable.{LockTable}
use Rattle.pv_locks.specs.declared.locks.Locks.TheInside.{Inside}

abbrev pub table_of : Inside → LockTable
table_of inside = record {
  epoch = inside.epoch;
  next = inside.next;
  grants = inside.grants.items;
  room = record { grants = vec_capacity inside.grants; wants = vec_capacity inside.holders };
}

-- The holders are exactly those of the grants.
abbrev pub IsIndexed : Inside → Type 0
IsIndexed inside = IsIndex inside.grants.items inside.holders.items
