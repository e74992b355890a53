-- The search begins at the first message that may be fresh.
use Rattle.std.proofs.Common.{◌∙◌, ap, sym, arith, position}
use Rattle.std.specs.List.{position_or_len}
use Rattle.pv_quorum_run.proofs.DoneLemmas.{place-found, place-missing}
use Rattle.pv_quorum_run.proofs.mail.Mail.next_fresh.Goals.{then-self-len, else-self-len}
use Rattle.pv_quorum_run.proofs.mail.Mail.next_fresh.Goals as goal

pub returns-clause-found : goal.returns-clause-found
returns-clause-found c =
    let inside = c.self.inside in
    let first = c.first_mark-self-inside.ensures.place ∙ ap (position_or_len (λ mark. mark)) c.deref.ensures.value in
    let long = c.len.ensures ∙ inside.fresh.ok.0 in
    let seen = ap (λ mail. position (λ mark. mark) mail.fresh) c.self.view_is in
    elim c.if-self-len.branch [
      | then-self-len w ↦ w.result-is ∙ sym (place-found inside.fresh.items c.first_mark-self-inside.result first (omega (arith, w.if-self-len.true, long))) ∙ seen
      | else-self-len w ↦ w.result-is ∙ sym (place-missing inside.fresh.items c.first_mark-self-inside.result first (omega (arith, w.if-self-len.false, long))) ∙ seen
    ]
