use Rattle.std.proofs.Common.{◌≡◌, ◌++◌, map, drop}
use Rattle.pv_site.specs.Refusals.{refusal_note}
use Rattle.pv_site.specs.Values.{note_of}
use Rattle.pv_site.proofs.ticking.refusal_notes.Given as goal

abbrev pub invariant-loop-expiry : goal.invariant-loop-expiry
invariant-loop-expiry l = map refusal_note l.fn.expiries ≡ map note_of l.notes.items ++ map refusal_note (drop l.expiry-index l.expiries)
