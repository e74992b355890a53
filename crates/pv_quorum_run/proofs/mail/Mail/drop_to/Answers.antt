-- No message becomes fresh.
use Rattle.std.proofs.Common.{◌∙◌, ap₂, map, sym}
use Rattle.pv_law_decisions.specs.Scene.{without}
use Rattle.pv_quorum_run.specs.Mail.{envelope_of}
use Rattle.pv_quorum_run.proofs.DoneLemmas.{marked-without}
use Rattle.pv_quorum_run.proofs.mail.Mail.drop_to.Goals as goal

pub invariant_of-self : goal.invariant_of-self
invariant_of-self c =
    let inside = c.self.inside in
    marked-without inside.first inside.fresh.len c.args.decider inside.sent.items inside.fresh.items c.drop_marks.new.fresh c.self.invariant (sym inside.fresh.ok.0)
    (c.drop_marks.ensures ∙ ap₂ (λ sent fresh. without c.args.decider (map envelope_of sent) fresh) c.deref.ensures.value c.deref_mut.ensures.value)
