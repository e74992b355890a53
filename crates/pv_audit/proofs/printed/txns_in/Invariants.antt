-- What is read are the words so far.
use Rattle.std.proofs.Common.{◌≡◌, map, take}
use Rattle.std.specs.List.{All}
use Rattle.pv_audit.specs.Printed.{IsTxn}
use Rattle.pv_base.specs.Txn.{txn_text}
use Rattle.pv_script.specs.LineFaults.{texts}
use Rattle.pv_audit.proofs.printed.txns_in.Given as goal

abbrev pub invariant-loop-word : goal.invariant-loop-word
invariant-loop-word l = (texts (take l.word-index l.words) ≡ map txn_text l.txns.items) × All IsTxn l.txns.items
