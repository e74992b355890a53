-- The words behind the transaction are two, three or four.
use Rattle.std.proofs.Common.{ℕ, List, sym, subst}
use Rattle.std.specs.Option.{option_map}
use Rattle.pv_audit.specs.Words.{IsCauseLineOf}
use Rattle.pv_audit.proofs.RefusedLemmas.{no-cause-words}
use Rattle.pv_script.specs.LineFaults.{texts}
use Rattle.pv_script.specs.LineView.{line_of}
use Rattle.pv_audit.proofs.refused.cause_line.Goals as goal

pub returns-in-Some : goal.returns-in-Some
returns-in-Some c =
    subst (λ (words : List (List ℕ)). IsCauseLineOf c.args.catalog.now c.args.txn words (option_map line_of c.refused_by_number.result)) (sym c.in-Some.ensures.some)
    (c.refused_by_number.ensures c.args.catalog.now)

pub returns-in_err-cause : goal.returns-in_err-cause
returns-in_err-cause c = rw c.from_residual.ensures (
    no-cause-words c.args.catalog.now (texts c.args.words.now) c.in_default.ensures.none c.in_default-three_words.ensures.none c.in_err-cause.ensures.none)
