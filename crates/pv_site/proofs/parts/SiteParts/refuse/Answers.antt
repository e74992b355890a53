use Rattle.std.proofs.Common.{◌≡◌, ◌∙◌, List, [], ◌∷◌, map, false, refl, ap}
use Rattle.pv_model.specs.Check.{Part}
use Rattle.pv_protocol.specs.Here.{outcome_sends}
use Rattle.pv_protocol.specs.State.{refused}
use Rattle.pv_site.proofs.Refused.{no-plan, refusing-entry}
use Rattle.pv_site.specs.Values.{cause_of, note_of}
use Rattle.pv_site.proofs.parts.SiteParts.refuse.Goals as goal

pub returns-in_default : goal.returns-in_default
returns-in_default c = λ entry found. absurd (no-plan c.args.self.now c.requires c.args.txn entry found c.in_default.ensures)

pub returns : goal.returns
returns c = λ entry found.
    let noted : map note_of c.push.new.self.items ≡ refused c.args.txn (cause_of c.args.cause) ∷ [] = rw (c.in_ok-push.ensures.items, c.new-notes.ensures.items) refl in
    refusing-entry c.args.self.now c.requires c.drop_entry.new.self c.args.txn (cause_of c.args.cause) entry c.in-Some.plan.now.parts.items _ found c.in-Some.ensures
    c.drop_entry.ensures.dropped (c.in_ok-sends.ensures ∙ ap (λ (parts : List Part). outcome_sends c.args.txn false (map (λ (part : Part). part.site) parts)) c.deref.ensures.value) noted refl
