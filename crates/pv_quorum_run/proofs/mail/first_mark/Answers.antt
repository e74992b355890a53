-- One mark more isn't set, or this one is the first that is.
use Rattle.std.proofs.Common.{◌≡◌, ℕ, suc, ◌+◌, length, subst, arith}
use Rattle.pv_quorum_run.proofs.DoneLemmas.{done-all, done-here, done-next, done-within}
use Rattle.pv_quorum_run.specs.Marks.{AreDone}
use Rattle.pv_quorum_run.proofs.mail.first_mark.Goals as goal

pub returns-then-marks-number-clause-place : goal.returns-then-marks-number-clause-place
returns-then-marks-number-clause-place c = done-here c.loop-number.number c.args.marks.now c.loop-number.invariant c.loop-number-test.true c.if-marks-number.true

pub loop-number-preserved : goal.loop-number-preserved
loop-number-preserved c =
    let more : suc c.loop-number.number ≡ c.loop-number.number + 1 = omega arith in
    subst (λ (n : ℕ). AreDone n c.args.marks.now) more
    (done-next c.loop-number.number c.args.marks.now c.loop-number.invariant c.loop-number-test.true c.if-marks-number.false)

pub returns-clause-place : goal.returns-clause-place
returns-clause-place c =
    let marks = c.args.marks.now in
    let within = done-within c.loop-number.number marks c.loop-number.invariant in
    let all : c.loop-number.number ≡ length marks = omega (arith, within, c.loop-number-test.false) in
    done-all (length marks) marks (subst (λ (n : ℕ). AreDone n marks) all c.loop-number.invariant) (omega arith)

pub returns-clause-done : goal.returns-clause-done
returns-clause-done c =
    let marks = c.args.marks.now in
    let within = done-within c.loop-number.number marks c.loop-number.invariant in
    let all : c.loop-number.number ≡ length marks = omega (arith, within, c.loop-number-test.false) in
    subst (λ (n : ℕ). AreDone n marks) all c.loop-number.invariant
