-- A fault of a part of the line is one of the line, and what a part declares the line declares.
use Rattle.std.proofs.Common.{refl, inl, inr}
use Rattle.std.proofs.lemmas.Result.{err_from_is_err_and}
use Rattle.pv_script.specs.LineFaults.{texts}
use Rattle.pv_script.specs.LiveSaid.{beside_of, before_of_live}
use Rattle.pv_script.proofs.HeadLemmas.{IsLineFault-twice_sites}
use Rattle.pv_script.proofs.LiveSaidLemmas.{sound-none}
use Rattle.pv_script.proofs.SaidLemmas.{head-of, unknown-fault}
use Rattle.pv_script.proofs.live_said.LiveSaid.read.Goals as goal
use Rattle.pv_script.proofs.live_said.LiveSaid.read.Goals.{in-Journal+in_ok-limit-in-Journal, in-Item+in_ok-declare-in-Item, in-Plan+in_ok-plan-in-Plan, in-Client+in_ok-client-in-Client, in-Submit+in_ok-request-in-Submit, in-Query+in_ok-request-in-Query, in-Peek+in_ok-peek-in-Peek}

pub returns-in_err-words-clause-fault : goal.returns-in_err-words-clause-fault
returns-in_err-words-clause-fault c =
    let p = err_from_is_err_and c.from_residual.result c.from_residual.ensures.1 in
    rw (p.1, p.2) (c.in_err-words.ensures.fault (before_of_live c.args.self.now) refl)

pub returns-in_err-keyword-clause-fault : goal.returns-in_err-keyword-clause-fault
returns-in_err-keyword-clause-fault c =
    let p = err_from_is_err_and c.from_residual-in_err-keyword.result c.from_residual-in_err-keyword.ensures.1 in
    rw (p.1, p.2)
    (unknown-fault (before_of_live c.args.self.now) c.args.line.now c.in_ok-words.words.items c.deref.result.now c.args.self.now.said.catalog.sites c.in_err-keyword.field-0.0
    c.in_ok-words.ensures.words.0 c.in_ok-words.ensures.words.1 c.deref.ensures.value refl c.in_err-keyword.ensures.unknown)

pub returns-in-Sites-clause-fault : goal.returns-in-Sites-clause-fault
returns-in-Sites-clause-fault c =
    IsLineFault-twice_sites (before_of_live c.args.self.now) c.args.line.now (texts c.in_ok-keyword.args.now)
    (head-of (before_of_live c.args.self.now) c.args.line.now c.in_ok-words.words.items c.deref.result.now _ (texts c.in_ok-keyword.args.now) c.args.self.now.said.catalog.sites
    c.in_ok-words.ensures.words.0 c.in_ok-words.ensures.words.1 c.deref.ensures.value (rw c.in-Sites.is at c.in_ok-keyword.ensures.words) refl)

pub returns-in_err-limit-in-Journal-clause-fault : goal.returns-in_err-limit-in-Journal-clause-fault
returns-in_err-limit-in-Journal-clause-fault c =
    let p = err_from_is_err_and c.from_residual-in_err-limit-in-Journal.result c.from_residual-in_err-limit-in-Journal.ensures.1 in
    rw (p.1, p.2)
    (c.in_err-limit-in-Journal.ensures.fault (beside_of c.args.self.now) c.args.line.now
    (head-of (before_of_live c.args.self.now) c.args.line.now c.in_ok-words.words.items c.deref.result.now _ (texts c.in_ok-keyword.args.now) c.args.self.now.said.catalog.sites
    c.in_ok-words.ensures.words.0 c.in_ok-words.ensures.words.1 c.deref.ensures.value (rw c.in-Journal.is at c.in_ok-keyword.ensures.words) refl))

pub returns-in_err-declare-in-Item-clause-fault : goal.returns-in_err-declare-in-Item-clause-fault
returns-in_err-declare-in-Item-clause-fault c =
    let p = err_from_is_err_and c.from_residual-in_err-declare-in-Item.result c.from_residual-in_err-declare-in-Item.ensures.1 in
    rw (p.1, p.2)
    (c.in_err-declare-in-Item.ensures.fault (beside_of c.args.self.now) c.args.line.now
    (head-of (before_of_live c.args.self.now) c.args.line.now c.in_ok-words.words.items c.deref.result.now _ (texts c.in_ok-keyword.args.now) c.args.self.now.said.catalog.sites
    c.in_ok-words.ensures.words.0 c.in_ok-words.ensures.words.1 c.deref.ensures.value (rw c.in-Item.is at c.in_ok-keyword.ensures.words) refl))

pub returns-in_err-plan-in-Plan-clause-fault : goal.returns-in_err-plan-in-Plan-clause-fault
returns-in_err-plan-in-Plan-clause-fault c =
    let p = err_from_is_err_and c.from_residual-in_err-plan-in-Plan.result c.from_residual-in_err-plan-in-Plan.ensures.1 in
    rw (p.1, p.2)
    (c.in_err-plan-in-Plan.ensures.fault c.args.line.now
    (head-of (before_of_live c.args.self.now) c.args.line.now c.in_ok-words.words.items c.deref.result.now _ (texts c.in_ok-keyword.args.now) c.args.self.now.said.catalog.sites
    c.in_ok-words.ensures.words.0 c.in_ok-words.ensures.words.1 c.deref.ensures.value (rw c.in-Plan.is at c.in_ok-keyword.ensures.words) refl))

pub returns-clause-declares : goal.returns-clause-declares
returns-clause-declares c =
    elim c.match-keyword.branch [
      | in-Journal+in_ok-limit-in-Journal w ↦
          rw w.self-is (inr (inl (w.in_ok-limit-in-Journal.ensures.declares (beside_of c.args.self.now) c.args.line.now
          (head-of (before_of_live c.args.self.now) c.args.line.now c.in_ok-words.words.items c.deref.result.now _ (texts c.in_ok-keyword.args.now) c.args.self.now.said.catalog.sites
          c.in_ok-words.ensures.words.0 c.in_ok-words.ensures.words.1 c.deref.ensures.value (rw w.in-Journal.is at c.in_ok-keyword.ensures.words) refl))))
      | in-Item+in_ok-declare-in-Item w ↦
          rw w.self-is (inr (inr (inl (w.in_ok-declare-in-Item.ensures.declares (beside_of c.args.self.now) c.args.line.now
          (head-of (before_of_live c.args.self.now) c.args.line.now c.in_ok-words.words.items c.deref.result.now _ (texts c.in_ok-keyword.args.now) c.args.self.now.said.catalog.sites
          c.in_ok-words.ensures.words.0 c.in_ok-words.ensures.words.1 c.deref.ensures.value (rw w.in-Item.is at c.in_ok-keyword.ensures.words) refl)))))
      | in-Plan+in_ok-plan-in-Plan w ↦
          rw w.self-is (inr (inr (inr (inl (w.in_ok-plan-in-Plan.ensures.declares c.args.line.now
          (head-of (before_of_live c.args.self.now) c.args.line.now c.in_ok-words.words.items c.deref.result.now _ (texts c.in_ok-keyword.args.now) c.args.self.now.said.catalog.sites
          c.in_ok-words.ensures.words.0 c.in_ok-words.ensures.words.1 c.deref.ensures.value (rw w.in-Plan.is at c.in_ok-keyword.ensures.words) refl))))))
      | in-Client+in_ok-client-in-Client w ↦
          rw w.self-is (inr (inr (inr (inr (inl (w.in_ok-client-in-Client.ensures.declares c.args.line.now
          (head-of (before_of_live c.args.self.now) c.args.line.now c.in_ok-words.words.items c.deref.result.now _ (texts c.in_ok-keyword.args.now) c.args.self.now.said.catalog.sites
          c.in_ok-words.ensures.words.0 c.in_ok-words.ensures.words.1 c.deref.ensures.value (rw w.in-Client.is at c.in_ok-keyword.ensures.words) refl)))))))
      | in-Submit+in_ok-request-in-Submit w ↦ rw w.self-is (inr (inr (inr (inr (inr (inl w.in_ok-request-in-Submit.ensures.declares))))))
      | in-Query+in_ok-request-in-Query w ↦ rw w.self-is (inr (inr (inr (inr (inr (inl w.in_ok-request-in-Query.ensures.declares))))))
      | in-Peek+in_ok-peek-in-Peek w ↦
          rw w.self-is (inr (inr (inr (inr (inr (inr (w.in_ok-peek-in-Peek.ensures.declares c.args.line.now
          (head-of (before_of_live c.args.self.now) c.args.line.now c.in_ok-words.words.items c.deref.result.now _ (texts c.in_ok-keyword.args.now) c.args.self.now.said.catalog.sites
          c.in_ok-words.ensures.words.0 c.in_ok-words.ensures.words.1 c.deref.ensures.value (rw w.in-Peek.is at c.in_ok-keyword.ensures.words) refl))))))))
    ]

pub returns-clause-sound : goal.returns-clause-sound
returns-clause-sound c =
    elim c.match-keyword.branch [
      | in-Journal+in_ok-limit-in-Journal w ↦
          rw w.self-is (sound-none _ w.in_ok-limit-in-Journal.ensures.limited
          (c.requires.early (w.in_ok-limit-in-Journal.ensures.declares (beside_of c.args.self.now) c.args.line.now
          (head-of (before_of_live c.args.self.now) c.args.line.now c.in_ok-words.words.items c.deref.result.now _ (texts c.in_ok-keyword.args.now) c.args.self.now.said.catalog.sites
          c.in_ok-words.ensures.words.0 c.in_ok-words.ensures.words.1 c.deref.ensures.value (rw w.in-Journal.is at c.in_ok-keyword.ensures.words) refl)).early))
      | in-Item+in_ok-declare-in-Item w ↦
          rw w.self-is (sound-none _ w.in_ok-declare-in-Item.ensures.limited
          (c.requires.early (w.in_ok-declare-in-Item.ensures.declares (beside_of c.args.self.now) c.args.line.now
          (head-of (before_of_live c.args.self.now) c.args.line.now c.in_ok-words.words.items c.deref.result.now _ (texts c.in_ok-keyword.args.now) c.args.self.now.said.catalog.sites
          c.in_ok-words.ensures.words.0 c.in_ok-words.ensures.words.1 c.deref.ensures.value (rw w.in-Item.is at c.in_ok-keyword.ensures.words) refl)).early))
      | in-Plan+in_ok-plan-in-Plan w ↦ rw w.self-is w.in_ok-plan-in-Plan.ensures.sound
      | in-Client+in_ok-client-in-Client w ↦ rw w.self-is w.in_ok-client-in-Client.ensures.sound
      | in-Submit+in_ok-request-in-Submit w ↦ rw w.self-is w.in_ok-request-in-Submit.ensures.sound
      | in-Query+in_ok-request-in-Query w ↦ rw w.self-is w.in_ok-request-in-Query.ensures.sound
      | in-Peek+in_ok-peek-in-Peek w ↦ rw w.self-is w.in_ok-peek-in-Peek.ensures.sound
    ]
