-- The bytes read so far stood at the front of the text and are no more than the limit; what the reads gave is kept from the start where it is kept now; each turn leaves
-- less room.
use Rattle.std.proofs.Common.{◌≡◌, ◌-◌, ◌≤◌, true, false, is_some, vec_len}
use Rattle.std.specs.Io.KnownBytes.{Appends, Consumes}
use Rattle.pv_io.specs.Stream.{KnownAlike}
use Rattle.pv_io.specs.declared.reading.TheConstants.{PIECE}
use Rattle.pv_io.proofs.reading.read_all.Given as goal

abbrev pub invariant-loop-piece : goal.invariant-loop-piece
invariant-loop-piece g l = record {
  room : vec_len l.piece ≡ PIECE;
  within : vec_len l.bytes ≤ l.limit;
  consumed : Consumes (g.R.Source.left l.initial.source) (g.R.Source.left l.source) l.bytes.items;
  given : Appends (g.R.Source.given l.initial.source) (g.R.Source.given l.source) l.bytes.items;
  kept : is_some (g.R.Source.left l.initial.source) ≡ false → is_some (g.R.Source.given l.source) ≡ true → is_some (g.R.Source.given l.initial.source) ≡ true;
  known : KnownAlike (g.R.Source.left l.initial.source) (g.R.Source.left l.source);
  counted : g.R.Source.faults l.source ≡ g.R.Source.faults l.initial.source;
}

abbrev pub decreases-loop-piece : goal.decreases-loop-piece
decreases-loop-piece g l = l.limit - vec_len l.bytes
