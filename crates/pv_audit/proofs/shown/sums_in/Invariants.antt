-- What is read are the words so far.
use Rattle.std.proofs.Common.{◌≡◌, map, take}
use Rattle.std.specs.List.{All}
use Rattle.std.specs.Fmt.{signed_decimal}
use Rattle.pv_audit.specs.Printed.{IsSum}
use Rattle.pv_script.specs.LineFaults.{texts}
use Rattle.pv_audit.proofs.shown.sums_in.Given as goal

abbrev pub invariant-loop-word : goal.invariant-loop-word
invariant-loop-word l = (texts (take l.word-index l.words) ≡ map signed_decimal l.sums.items) × All IsSum l.sums.items
