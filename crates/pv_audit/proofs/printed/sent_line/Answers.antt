-- The words behind the first are a number, a way, a kind and a transaction.
use Rattle.std.proofs.Common.{ℕ, List, [], ◌∷◌, ◌++◌, refl, sym, ap₂, ◌∙◌, arith}
use Rattle.std.specs.Prelude.{codes}
use Rattle.std.specs.Fmt.{decimal}
use Rattle.pv_audit.proofs.CutLemmas.{same-head}
use Rattle.pv_audit.proofs.PartsLemmas.{behind}
use Rattle.pv_base.specs.Txn.{txn_text}
use Rattle.pv_protocol.specs.LineText.{kind_text}
use Rattle.pv_script.specs.LineView.{message_kind_of}
use Rattle.pv_audit.proofs.printed.sent_line.Goals as goal

pub returns-in_err-first : goal.returns-in_err-first
returns-in_err-first c = rw c.from_residual.ensures (λ catalog x has.
    c.in_err-first.ensures.none (decimal x.0) (decimal x.1 ++ (codes ">" ++ decimal x.2)) (kind_text x.3) (txn_text x.4) has.are)

pub returns-in_err-number : goal.returns-in_err-number
returns-in_err-number c = rw c.from_residual-in_err-number.ensures (λ catalog x has.
    c.in_err-number.ensures.none x.0 (omega (arith, has.within.0)) (same-head (sym c.in_ok-first.ensures.some ∙ has.are)))

pub returns-in_err-from : goal.returns-in_err-from
returns-in_err-from c = rw c.from_residual-in_err-from.ensures (λ catalog x has.
    c.in_err-from.ensures.none x.1 x.2 has.within.1 has.within.2 (same-head (behind (sym c.in_ok-first.ensures.some ∙ has.are))))

pub returns-in_err-kind : goal.returns-in_err-kind
returns-in_err-kind c = rw c.from_residual-in_err-kind.ensures (λ catalog x has. c.in_err-kind.ensures.none x.3 (same-head (behind (behind (sym c.in_ok-first.ensures.some ∙ has.are)))))

pub returns-in_err-txn : goal.returns-in_err-txn
returns-in_err-txn c = rw c.from_residual-in_err-txn.ensures (λ catalog x has.
    c.in_err-txn.ensures.none x.4 has.within.3 (same-head (behind (behind (behind (sym c.in_ok-first.ensures.some ∙ has.are))))))

pub returns : goal.returns
returns c = λ catalog. (
  (c.in_ok-number.number, c.in_ok-from.from.0, c.in_ok-from.to.0, message_kind_of c.in_ok-kind.kind, c.in_ok-txn.txn),
  record {
    are = c.in_ok-first.ensures.some
        ∙ ap₂ (λ (first second : List ℕ). first ∷ (second ∷ (c.in_ok-first.third.now ∷ (c.in_ok-first.last.now ∷ [])))) c.in_ok-number.ensures.number c.in_ok-from.ensures.way
        ∙ ap₂ (λ (third last : List ℕ). decimal c.in_ok-number.number ∷ ((decimal c.in_ok-from.from.0 ++ (codes ">" ++ decimal c.in_ok-from.to.0)) ∷ (third ∷ (last ∷ [])))) c.in_ok-kind.ensures.kind c.in_ok-txn.ensures.txn;
    items = tt;
    within = (omega (arith, c.in_ok-number.ensures.small), c.in_ok-from.ensures.from, c.in_ok-from.ensures.to, c.in_ok-txn.ensures.within);
  },
  refl,
)
