-- Where the list begins with what all readers that are left have seen, it begins with what all had.
use Rattle.std.proofs.Common.{All, vec_len}
use mathlib.Core.List.{IsPrefix}
use Rattle.pv_shelf.specs.Shelves.{seen}
use Rattle.pv_shelf.proofs.closing.finish_all.Given as goal

abbrev pub invariant-loop-reader : goal.invariant-loop-reader
invariant-loop-reader g l = All (λ reader. IsPrefix (seen reader) l.parts) l.readers.items → All (λ reader. IsPrefix (seen reader) l.parts) l.fn.readers.items

abbrev pub decreases-loop-reader : goal.decreases-loop-reader
decreases-loop-reader g l = vec_len l.readers
