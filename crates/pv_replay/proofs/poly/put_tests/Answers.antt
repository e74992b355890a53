-- At first all tests of these literals are left.
use Rattle.std.proofs.Common.{◌∙◌, ◌++◌, ℕ, List, refl, sym, ap}
use Rattle.std.proofs.Transfers.{starts_with_of_eq}
use Rattle.pv_replay.proofs.BegunLemmas.{all_bytes, tests-begun}
use Rattle.pv_replay.proofs.poly.put_tests.Goals as goal

pub loop-rest-init : goal.loop-rest-init
loop-rest-init c = record {
  written = ap (λ (more : List ℕ). c.args.put.now.bytes ++ more) (ap all_bytes c.begun-rest.ensures ∙ sym (tests-begun c.args.when.now));
  kept = starts_with_of_eq c.args.put.now.bytes c.args.put.now.bytes refl;
}
