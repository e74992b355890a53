use Rattle.std.proofs.Common.{rules, ◌≡◌, ◌<◌, ℕ, ap, sym, subst, ◌∙◌, arith}
use Rattle.pv_format.specs.MessageSpelling.{SpellsEnvelope}
use Rattle.pv_wire.specs.Values.{message_of}
use Rattle.pv_embed.proofs.hosted.HostedSite.receive.Goals as goal
use Rattle.pv_embed.specs.Hosted.{HostedState}

pub step-requires : goal.step-requires
step-requires c =
    let envelope = c.in-Ok.envelope in
    let here : envelope.to.0 ≡ c.self.inside.me.0 = search rules in
    let me : envelope.to.0 ≡ c.args.self.now.site.me = here ∙ sym c.self.invariant.me ∙ ap (λ (hosted : HostedState). hosted.site.me) c.self.view_is in
    let sites : c.self.inside.catalog.sites ≡ c.args.self.now.site.catalog.sites =
    ap (λ catalog. catalog.sites) (sym c.self.invariant.catalog) ∙ ap (λ (hosted : HostedState). hosted.site.catalog.sites) c.self.view_is in
    let from : envelope.from.0 < c.args.self.now.site.catalog.sites = omega (arith, sites, c.sites.ensures.count, c.if-envelope-sites.false) in
    (from, (c.args.bytes.now, subst (λ (to : ℕ). SpellsEnvelope (record { from = envelope.from.0; to = to; message = message_of envelope.message }) c.args.bytes.now) me c.in-Ok.ensures.answer.given))
