use Rattle.pv_law_quorum.proofs.RunLemmas.{one-ever-chosen, decided-chosen}
use Rattle.pv_law_quorum.proofs.one_value_is_chosen.Goals as goal

pub returns-clause-chosen : goal.returns-clause-chosen
returns-clause-chosen c setup fit events more txn v u first second = one-ever-chosen setup fit events more txn v u first second

pub returns-clause-decided : goal.returns-clause-decided
returns-clause-decided c setup fit events n txn v h = decided-chosen setup fit events n txn v h
