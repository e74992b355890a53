-- What is told when a transaction commits.
use Rattle.std.proofs.Common.{◌∙◌, ◌++◌, List, [], ◌∷◌, map, true, ap, refl}
use Rattle.pv_model.specs.Check.{Part}
use Rattle.pv_format.specs.Record.{outcome_known}
use Rattle.pv_protocol.specs.Coordinate.{reply_value}
use Rattle.pv_protocol.specs.Here.{outcome_sends}
use Rattle.pv_protocol.specs.Vote.{others_than}
use Rattle.pv_site.proofs.VoteSteps.{commit-told, no-parts, no-reply, reply-committed}
use Rattle.pv_site.specs.Values.{outgoing_of}
use Rattle.pv_site.specs.declared.input.Outgoing.{Outgoing}
use Rattle.pv_site.proofs.committing.committed.Goals as goal

pub returns-in_default : goal.returns-in_default
returns-in_default c = λ work is. absurd (no-parts c.args.parts.now c.requires c.args.txn work is c.in_default.ensures)

pub returns-in_default-reply : goal.returns-in_default-reply
returns-in_default-reply c = λ work is. absurd (no-reply c.args.parts.now c.requires c.args.txn work is c.in_default-reply.ensures)

pub returns : goal.returns
returns c = λ work is.
    let parts = c.args.parts.now in
    let settled = reply_value (parts.store.records ++ outcome_known c.args.txn true ∷ []) work.entry in
    commit-told parts c.requires c.args.txn work is _ c.in-Some.plan.now.parts.items settled c.in-Some.ensures refl
    (c.in_ok-push_to_others.ensures
    ∙ ap (λ (before : List Outgoing). map outgoing_of before ++ outcome_sends c.args.txn true (others_than parts.me.0 (map (λ (part : Part). part.site) c.deref.result.now))) c.in_ok-sends.ensures.items
    ∙ ap (λ (p : List Part). outcome_sends c.args.txn true (others_than parts.me.0 (map (λ (part : Part). part.site) p))) c.deref.ensures.value)
    (rw (c.in_ok-push.ensures.items, c.in_ok-notes.ensures.items, c.in_ok-replies.ensures settled (reply-committed parts c.requires c.args.txn work is c.in-Some-reply.reply.now c.in-Some-reply.ensures)) refl) refl
