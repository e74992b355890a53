use Rattle.std.proofs.Common.{◌≡◌, ◌∙◌, ⊎_elim, ap, subst, sym}
use Rattle.std.specs.Prelude.{not}
use Rattle.pv_coord.specs.Work.{Work}
use Rattle.pv_coord.specs.declared.answer.Vote.TheVariants as voted
use Rattle.pv_protocol.specs.Coordinate.{is_locking}
use Rattle.pv_protocol.specs.Here.{refusing}
use Rattle.pv_protocol.specs.State as model
use Rattle.pv_site.proofs.Answered.{with-nothing}
use Rattle.pv_site.proofs.Refused.{entry-found, no-nothing, no-refuses}
use Rattle.pv_site.specs.SiteParts.{StepParts, here_of}
use Rattle.pv_wire.specs.Values as wire
use Rattle.pv_site.proofs.parts.SiteParts.on_no.Goals as goal

pub returns-in-Ignored : goal.returns-in-Ignored
returns-in-Ignored c =
    with-nothing c.args.self.now c.requires c.nothing.result _ (record { sends = c.nothing.ensures.sends; notes = c.nothing.ensures.notes; locked = c.nothing.ensures.locked })
    (no-nothing c.args.self.now c.requires c.args.from.0 c.args.txn (wire.cause_of c.args.cause) (sym c.in-Ignored.ensures))

apart-waits : voted.Ignored ≡ voted.Wait → ⊥
apart-waits is = cc

apart-last : voted.Ignored ≡ voted.Last → ⊥
apart-last is = cc

pub returns-in-Wait : goal.returns-in-Wait
returns-in-Wait c =
    let there = no-refuses c.args.self.now c.requires c.args.from.0 c.args.txn (wire.cause_of c.args.cause) (λ ignored. ⊎_elim (λ waits. apart-waits (sym ignored ∙ sym c.vote.ensures ∙ waits)) (λ last. apart-last (sym ignored ∙ sym c.vote.ensures ∙ last)) c.in-Wait.is) in
    subst (λ (step : model.Step). StepParts c.args.self.now c.refuse.new.self step c.refuse.result)
    (ap (refusing (here_of c.args.self.now) there.0.entry) c.cause_at.ensures ∙ sym there.2)
    (c.refuse.ensures there.0.entry (entry-found c.args.self.now c.requires (λ (work : Work). not (is_locking work.entry.stage)) c.args.txn there.0 there.1))
