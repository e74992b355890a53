-- The words behind the first are a transaction and a cause.
use Rattle.std.proofs.Common.{sym, ◌∙◌}
use Rattle.std.specs.Option.{option_map}
use Rattle.pv_base.specs.Txn.{txn_text}
use Rattle.pv_script.specs.LineFaults.{texts}
use Rattle.pv_script.specs.LineView.{line_of}
use Rattle.pv_audit.specs.Words.{cause_words}
use Rattle.pv_audit.proofs.CutLemmas.{same-head}
use Rattle.pv_audit.proofs.PartsLemmas.{some-words}
use Rattle.pv_audit.proofs.RefusedLemmas.{refuse-rest}
use Rattle.pv_audit.proofs.refused.refuse_line.Goals as goal

pub returns-in_err-word : goal.returns-in_err-word
returns-in_err-word c = rw c.from_residual.ensures (λ x has. some-words c.args.words.now (txn_text x.0) (cause_words c.args.catalog.now x.1) c.in_err-word.ensures.none has.are)

pub returns-in_err-txn : goal.returns-in_err-txn
returns-in_err-txn c = rw c.from_residual-in_err-txn.ensures (λ x has. c.in_err-txn.ensures.none x.0 has.within.0 (same-head (sym c.in_ok-word.ensures.some ∙ has.are)))

pub returns : goal.returns
returns c =
    refuse-rest c.args.catalog.now (texts c.args.words.now) c.in_ok-word.word.now (texts c.in_ok-word.rest.now) c.in_ok-txn.txn (option_map line_of c.cause_line.result)
    c.in_ok-word.ensures.some c.in_ok-txn.ensures.txn c.in_ok-txn.ensures.within c.cause_line.ensures
