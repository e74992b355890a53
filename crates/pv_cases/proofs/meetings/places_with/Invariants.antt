-- Those of the places so far are left.
use Rattle.std.proofs.Common.{◌≡◌, take}
use Rattle.pv_cases.specs.CaseSplits.{places_with}
use Rattle.pv_cases.proofs.meetings.places_with.Given as goal

abbrev pub invariant-loop-place : goal.invariant-loop-place
invariant-loop-place g l = l.left.items ≡ places_with l.fn.cases l.fn.txn l.fn.outcome (take l.place-index l.places)
