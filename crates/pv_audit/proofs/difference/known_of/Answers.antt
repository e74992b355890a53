-- One that isn't open is noted with its outcome, and an open one is passed over.
use Rattle.std.proofs.Common.{Bool, List, [], ◌∷◌, ◌++◌, ◌+◌, drop, get_or, sym, ap, subst, ◌∙◌}
use Rattle.pv_audit.specs.Reports.{is_in}
use Rattle.pv_audit.proofs.NotedLemmas.{AreNoted, next-noted, next-passed}
use Rattle.pv_audit.proofs.OpenLemmas.{known-closed, known-open}
use Rattle.pv_base.specs.declared.literal.Literal.{Literal}
use Rattle.pv_base.specs.declared.txn.TxnId.{TxnId}
use Rattle.pv_audit.proofs.difference.known_of.Goals as goal
use Rattle.pv_audit.proofs.difference.known_of.Goals.{then-not-has+in_ok-push, else-not-has}

-- what a place past the end would have
abbrev nowhere : TxnId
nowhere = record { site = record { 0 = 0 }; epoch = 0; number = 0 }

pub loop-txn-preserved : goal.loop-txn-preserved
loop-txn-preserved c =
    let txns = c.args.txns.now in
    let i = c.loop-txn.txn-index in
    let within = c.loop-txn-test.true in
    let old = c.loop-txn.literals.items in
    let txn = get_or txns i nowhere in
    elim c.if-not-has.branch [
      | then-not-has+in_ok-push w ↦
          let pushed = ap (λ (literals : _). literals.items) w.literals-is ∙ w.in_ok-push.ensures.items in
          record {
            known = λ told sorted.
                pushed
                ∙ ap (λ (b : Bool). old ++ record { txn = txn; commits = b } ∷ []) (w.has-then-not-has.ensures told.committed sorted.committed)
                ∙ ap (λ (literals : List Literal). literals ++ record { txn = txn; commits = is_in told.committed txn } ∷ []) (c.loop-txn.invariant.known told sorted)
                ∙ sym (known-closed told txns i nowhere within (sym (c.has.ensures told.open_ones sorted.open_ones) ∙ w.if-not-has.true));
            noted = λ up.
                subst (λ (literals : List Literal). AreNoted literals (drop (i + 1) txns)) (sym pushed)
                (next-noted old txns i nowhere within (c.loop-txn.invariant.noted up) w.has-then-not-has.result);
          }
      | else-not-has w ↦
          let same = ap (λ (literals : _). literals.items) w.literals-is in
          record {
            known = λ told sorted.
                same
                ∙ c.loop-txn.invariant.known told sorted
                ∙ sym (known-open told txns i nowhere within (sym (c.has.ensures told.open_ones sorted.open_ones) ∙ w.if-not-has.false));
            noted = λ up.
                subst (λ (literals : List Literal). AreNoted literals (drop (i + 1) txns)) (sym same)
                (next-passed old txns i nowhere within (c.loop-txn.invariant.noted up));
          }
    ]
