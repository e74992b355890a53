-- The copies so far, and then the requests among the wishes left.
use Rattle.std.proofs.Common.{◌≡◌, ◌++◌, drop, map}
use Rattle.pv_model.specs.LiveScript.{requests_among}
use Rattle.pv_script.specs.LiveView.{request_of, wish_of}
use Rattle.pv_opening.proofs.meeting.copies.Given as goal

abbrev pub invariant-loop-wish : goal.invariant-loop-wish
invariant-loop-wish l = map request_of l.copies.items ++ requests_among (map wish_of (drop l.wish-index l.wishes)) ≡ requests_among (map wish_of l.fn.wishes)
