-- The word behind the first is a transaction.
use Rattle.std.proofs.Common.{ℕ, List, [], ◌∷◌, refl, sym, ap, ◌∙◌}
use Rattle.pv_base.specs.Txn.{txn_text}
use Rattle.pv_audit.proofs.CutLemmas.{same-head}
use Rattle.pv_audit.proofs.printed.txn_line.Goals as goal

pub returns-in_err-word : goal.returns-in_err-word
returns-in_err-word c = rw c.from_residual.ensures (λ catalog x has. c.in_err-word.ensures.none (txn_text x) has.are)

pub returns-in_err-txn : goal.returns-in_err-txn
returns-in_err-txn c = rw c.from_residual-in_err-txn.ensures (λ catalog x has. c.in_err-txn.ensures.none x has.within (same-head (sym c.in_ok-word.ensures.some ∙ has.are)))

pub returns : goal.returns
returns c = λ catalog. (
  c.in_ok-txn.txn,
  record {
    are = c.in_ok-word.ensures.some ∙ ap (λ (word : List ℕ). word ∷ []) c.in_ok-txn.ensures.txn;
    items = tt;
    within = c.in_ok-txn.ensures.within;
  },
  refl,
)
