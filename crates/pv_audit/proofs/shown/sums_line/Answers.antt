-- A total is its sums.
use Rattle.std.proofs.Common.{length, refl}
use Rattle.std.specs.Fmt.{signed_decimal}
use Rattle.pv_audit.specs.FirstWords.{TotalValue}
use Rattle.pv_audit.specs.Words.{certainty_word}
use Rattle.pv_audit.proofs.ShownLemmas.{are-answers}
use Rattle.pv_audit.proofs.shown.sums_line.Goals as goal

pub returns : goal.returns
returns c =
    let found = rw c.in-Some.is at c.in_ok-sums.ensures in
    λ catalog. (
      TotalValue.sums c.in-Some.sums.items,
      record {
        are = are-answers signed_decimal c.args.words.now (certainty_word (length c.args.words.now)) c.in-Some.sums.items refl found.0;
        items = tt;
        within = found.1;
      },
      refl,
    )
