-- The request is given to the site in the slot.
use Rattle.std.proofs.Common.{rules, ◌≡◌, subst}
use Rattle.pv_handle.proofs.StepLemmas.{steps-in}
use Rattle.pv_handle.proofs.site.SiteSlot.submit.Goals as goal
use Rattle.pv_handle.specs.ByteState.{ByteState}
use Rattle.pv_handle.specs.Tagged.{SubmitsTagged}

pub returns-in-Ok-clause-submits : goal.returns-in-Ok-clause-submits
returns-in-Ok-clause-submits c =
    let value : c.deref_mut.result.now ≡ c.take_out-site.result.value = search rules in
    steps-in (SubmitsTagged {X = Unit {0}} c.args.text.now c.args.query c.args.tag) c.args.self.now.handle.site c.put.new.self.handle.site
    c.take_out-site.result.value c.submit-done.new.self c.submit-done.result c.in-Ok.field-0 (search rules) (search rules) c.in-Ok.is
    (subst (λ (old : ByteState). SubmitsTagged {X = Unit {0}} c.args.text.now c.args.query c.args.tag old c.submit-done.new.self c.submit-done.result) value c.submit-done.ensures)
