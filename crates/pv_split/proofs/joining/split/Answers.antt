-- Where the reads name no outcome, what the program does once is the split.
use Rattle.std.proofs.Common.{rules}
use Rattle.std.proofs.lemmas.Result.{err_from_is_err_and}
use Rattle.pv_base.specs.declared.limits.TheConstants.{READ_NAMES}
use Rattle.pv_split.specs.declared.joining.SplitError.TheVariants.{NoMemory}
use Rattle.pv_split.proofs.SplitLemmas.{given-split, refused-split}
use Rattle.pv_split.proofs.joining.split.Goals as goal

pub returns-in_err-split_sure : goal.returns-in_err-split_sure
returns-in_err-split_sure c =
    let is = err_from_is_err_and c.from_residual.result c.from_residual.ensures.1 in
    record {
      answer = refused-split READ_NAMES c.args.program.now c.args.reads.now (λ joined. (joined.writes.items, joined.reply)) c.from_residual.result NoMemory
          (search (rules, is)) tt;
    }

pub returns-then-are_sure : goal.returns-then-are_sure
returns-then-are_sure c = record {
  answer = given-split READ_NAMES c.args.program.now c.args.reads.now (λ joined. (joined.writes.items, joined.reply)) _ c.in_ok-split_sure.ensures;
}
