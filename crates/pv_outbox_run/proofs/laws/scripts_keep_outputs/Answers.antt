use Rattle.pv_outbox_run.proofs.OutputLemmas.{held-then, kept-run, learnt-then, never-run, none-take, none-told, once-run, ready-take, stopped-nowhere}
use Rattle.pv_outbox_run.proofs.laws.scripts_keep_outputs.Goals as goal

pub returns : goal.returns
returns c = record {
  once = λ old new events says runs. once-run events old new says runs;
  never_again = λ old new events says runs output is. never-run events old new says runs output is;
  ready = λ old new output does. ready-take old new output does;
  none = λ old new does. none-take old new does;
  none_ready = λ old new says up none does. none-told old new says up none does;
  stopped = λ first old new last before since earlier later stops ran does runs. stopped-nowhere old new first last before since earlier later ran runs stops does;
  held = λ old next new output when events says does runs. (kept-run events next new says runs).held output when (held-then old next output when does);
  learnt = λ old next new txn commits events says does runs. (kept-run events next new says runs).outcomes txn commits (learnt-then old next txn commits does);
}
