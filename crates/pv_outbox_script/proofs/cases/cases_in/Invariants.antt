-- What is said by the words that are left, after what has been said, is said by all of them.
use Rattle.std.proofs.Common.{◌≡◌, drop}
use Rattle.pv_lines.specs.Words.{texts}
use Rattle.pv_outbox_script.specs.Cases.{all_more, at_first}
use Rattle.pv_outbox_script.specs.CasesView.{IsInRange, so_far_of}
use Rattle.pv_outbox_script.proofs.cases.cases_in.Given as goal

abbrev pub invariant-loop-word : goal.invariant-loop-word
invariant-loop-word l = record {
  said : all_more (so_far_of l.so_far) (texts (drop l.word-index l.words)) ≡ all_more at_first (texts l.words);
  range : IsInRange (so_far_of l.so_far) l.so_far.count;
}
