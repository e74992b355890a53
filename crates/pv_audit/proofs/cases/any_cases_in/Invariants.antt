-- What is read and what is left are the words.
use Rattle.std.proofs.Common.{◌≡◌, ℤ, ◌<◌, ◌+◌, List, ◌++◌, None, length}
use Rattle.std.specs.List.{All}
use Rattle.std.specs.Option.{option_map, option_map_or}
use Rattle.pv_audit.specs.Printed.{IsCase}
use Rattle.pv_audit.specs.Words.{cases_words}
use Rattle.pv_audit.proofs.CaseLemmas.{IsLeft}
use Rattle.pv_base.specs.Polyvalue.{Case}
use Rattle.pv_script.specs.LineFaults.{texts}
use Rattle.pv_audit.proofs.cases.any_cases_in.Given as goal

abbrev pub invariant-loop-left : goal.invariant-loop-left
invariant-loop-left l = record {
  sound : (more : List (Case ℤ)) → IsLeft (option_map (λ words. texts words.now) l.left) more → texts l.words ≡ cases_words (l.cases.items ++ more);
  complete : (all : List (Case ℤ)) → 0 < length all → All IsCase all → texts l.words ≡ cases_words all
      → (more : List (Case ℤ)) × All IsCase more × IsLeft (option_map (λ words. texts words.now) l.left) more;
  each : All IsCase l.cases.items;
  some : l.left ≡ None → 0 < length l.cases.items;
}

abbrev pub decreases-loop-left : goal.decreases-loop-left
decreases-loop-left l = option_map_or (λ words. length words.now + 1) l.left 0
