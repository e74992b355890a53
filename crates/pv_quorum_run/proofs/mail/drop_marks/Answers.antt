-- One mark more.
use Rattle.std.proofs.Common.{◌≡◌, ◌∙◌, ℕ, suc, ◌+◌, Bool, false, List, ap, refl, subst, arith, length, get_or, set}
use Rattle.std.specs.Prelude.{◌&&◌, not, ◌==◌}
use Rattle.pv_quorum.specs.declared.message.QuorumMessage.TheVariants.{Prepare}
use Rattle.pv_quorum_run.proofs.MarkLemmas.{marks-all, marks-next, marks_to}
use Rattle.pv_quorum_run.specs.declared.mail.Sent.{Sent}
use Rattle.pv_quorum_run.proofs.mail.drop_marks.Goals as goal

pub loop-number-preserved : goal.loop-number-preserved
loop-number-preserved c =
    let sent = c.args.sent.now in
    let first = c.args.fresh.now in
    let marks = c.loop-number.fresh in
    let n = c.loop-number.number in
    let unsent : Sent = record { from = 0; to = 0; message = Prepare (record { site = record { 0 = 0 }; epoch = 0; number = 0 }) (record { number = 0; decider = 0 }) } in
    let post : Sent = get_or sent n unsent in
    let mark : Bool = get_or marks n false in
    let more : suc n ≡ n + 1 = omega arith in
    subst (λ (k : ℕ). set marks n c.stays.result ≡ marks_to c.args.decider k sent first) more
    (ap (λ (m : Bool). set marks n m) c.stays.ensures
    ∙ ap (λ (front : List Bool). set front n (mark && not (post.to == c.args.decider))) c.loop-number.invariant
    ∙ marks-next c.args.decider n sent first mark post false unsent c.requires c.loop-number-test.true (ap (λ (front : List Bool). get_or front n false) c.loop-number.invariant) refl)

pub returns : goal.returns
returns c =
    let all : c.loop-number.number ≡ length c.args.sent.now = omega (arith, c.loop-number-test.false, c.loop-number.auto) in
    c.loop-number.invariant ∙ ap (λ (n : ℕ). marks_to c.args.decider n c.args.sent.now c.args.fresh.now) all ∙ marks-all c.args.decider c.args.sent.now c.args.fresh.now c.requires
