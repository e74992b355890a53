use Rattle.std.proofs.Common.{◌≡◌, ◌∙◌, Some, true, ap, inl, inr, sym}
use Rattle.std.specs.Bool.{beq}
use Rattle.std.specs.Option.{option_eq}
use Rattle.pv_protocol.specs.Records.{known}
use Rattle.pv_site.proofs.Answered.{with-message, with-nothing}
use Rattle.pv_site.proofs.Asked.{asked-told, asked-unissued, asked-working}
use Rattle.pv_site.proofs.parts.SiteParts.on_ask.Goals as goal
use Rattle.pv_site.proofs.parts.SiteParts.on_ask.Goals.{else-not-commits-via-then-not-commits+else-works, else-not-commits-via-else-not-commits}

pub returns-then-not-issued : goal.returns-then-not-issued
returns-then-not-issued c =
    with-nothing c.args.self.now c.requires c.nothing.result _ (record { sends = c.nothing.ensures.sends; notes = c.nothing.ensures.notes; locked = c.nothing.ensures.locked })
    (asked-unissued c.args.self.now c.requires c.args.from.0 c.args.txn (sym c.issued.ensures ∙ c.if-not-issued.true))

pub returns-then-works : goal.returns-then-works
returns-then-works c =
    let says = c.nothing-then-works.ensures in
    let commits-is : c.eq-commits.result ≡ option_eq beq (known c.args.self.now.store.records c.args.txn) (Some true) =
    c.eq-commits.ensures ∙ ap (λ o. option_eq beq o (Some true)) c.known.ensures in
    with-nothing c.args.self.now c.requires c.nothing-then-works.result _ (record { sends = says.sends; notes = says.notes; locked = says.locked })
    (asked-working c.args.self.now c.requires c.args.from.0 c.args.txn (sym c.issued.ensures ∙ c.if-not-issued.false) (sym commits-is ∙ c.if-not-commits.true)
    (sym c.works.ensures ∙ c.if-works.true))

pub returns : goal.returns
returns c =
    let commits-is : c.eq-commits.result ≡ option_eq beq (known c.args.self.now.store.records c.args.txn) (Some true) =
    c.eq-commits.ensures ∙ ap (λ o. option_eq beq o (Some true)) c.known.ensures in
    with-message c.args.self.now c.requires c.args.from _ _ c.sending.result c.sending.ensures.sends c.sending.ensures.notes c.sending.ensures.locked
    (asked-told c.args.self.now c.requires c.args.from.0 c.args.txn c.eq-commits.result (sym c.issued.ensures ∙ c.if-not-issued.false) commits-is
    (elim c.else-not-commits.branch [
      | else-not-commits-via-then-not-commits+else-works w ↦ inr (sym w.works.ensures ∙ w.if-works.false)
      | else-not-commits-via-else-not-commits w ↦ inl w.if-not-commits.false
    ]))
