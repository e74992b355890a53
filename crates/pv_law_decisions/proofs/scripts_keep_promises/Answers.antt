use Rattle.pv_law_decisions.proofs.PromiseLemmas.{keeps-decided, keeps-one, keeps-proposed}
use Rattle.pv_law_decisions.proofs.SettledLemmas.{is-settled}
use Rattle.pv_law_decisions.proofs.scripts_keep_promises.Goals as goal

pub returns : goal.returns
returns c setup fit events = record {
  one = λ front more is lines later scene last reached runs txn v u first second. keeps-one setup fit front more lines later scene last reached runs txn v u first second;
  decided_is = λ lines last reached n txn v h. keeps-decided setup fit events lines last reached n txn v h;
  was_proposed = λ lines last reached txn v chosen. keeps-proposed setup fit events lines last reached txn v chosen;
  settled = λ front more n txn v is lines now later before begun after reached proposes pumps members undisturbed.
      is-settled setup fit front lines before reached n txn v now later begun after proposes pumps members undisturbed;
}
