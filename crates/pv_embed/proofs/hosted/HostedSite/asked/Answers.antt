use Rattle.std.proofs.Common.{◌≡◌, ℕ, List, Some, map, ap, sym, subst, ◌∙◌, arith}
use Rattle.pv_base.specs.Catalog.{Declared}
use Rattle.pv_protocol.specs.Outcome.{on_ask}
use Rattle.pv_protocol.specs.State.{Running}
use Rattle.pv_site.specs.SiteState.{SiteState, here_with}
use Rattle.pv_site.specs.Values.{outgoing_of}
use Rattle.pv_site.specs.declared.input.Outgoing.{Outgoing}
use Rattle.pv_host.specs.HostLog.{HostState}
use Rattle.pv_embed.proofs.OutcomeLemmas.{question_spelled, same_answer, same_site}
use Rattle.pv_embed.proofs.hosted.HostedSite.asked.Goals as goal
use Rattle.pv_embed.specs.Hosted.{HostedState}
use Rattle.pv_embed.specs.HostedView.{hosted_of}
use Rattle.pv_embed.specs.Outcomes.{own_txn, reported}

pub step-requires-clause-input : goal.step-requires-clause-input
step-requires-clause-input c =
    let inside = c.self.inside in
    let sites : inside.site.catalog.sites ≡ inside.catalog.sites = ap (λ (catalog : Declared). catalog.sites) c.self.invariant.catalog in (
      omega (arith, sites, c.self.invariant.site),
      question_spelled inside.me.0 inside.site.me inside.catalog.sites c.args.epoch c.args.number c.self.invariant.me c.self.invariant.site c.setup_is_in_range.ensures.sites
          (omega (arith, c.ranges.epoch.fits)) (omega (arith, c.ranges.number.fits)) c.some_envelope_spelling.ensures,
    )

pub returns-in-Ok : goal.returns-in-Ok
returns-in-Ok c =
    let inside = c.self.inside in
    let was = c.self.invariant in
    let new : SiteState HostState = c.step.new.self in
    let txn = own_txn inside.me.0 c.args.epoch c.args.number in
    let same = same_site inside.site new was.running inside.me.0 txn c.in-Ok.step was.up c.in-Ok.ensures.step in
    let told = same_answer inside.site new was.running inside.me.0 txn c.in-Ok.step was.up c.in-Ok.ensures.step c.reported.result
    (c.reported.ensures ∙ ap (λ (sends : List Outgoing). reported (map outgoing_of sends)) c.deref.ensures.value) in
    let mine : c.reported.result ≡ reported (on_ask (here_with inside.site was.running) inside.site.me (own_txn inside.site.me c.args.epoch c.args.number)).sends =
    subst (λ (me : ℕ). c.reported.result ≡ reported (on_ask (here_with inside.site was.running) me (own_txn me c.args.epoch c.args.number)).sends) (sym was.me) told in (
      ap (λ (site : SiteState HostState). hosted_of (record inside { site = site })) same ∙ c.self.view_is,
      subst (λ (now : HostedState). (running : Running) × (now.site.running ≡ Some running)
          × (c.reported.result ≡ reported (on_ask (here_with now.site running) now.site.me (own_txn now.site.me c.args.epoch c.args.number)).sends)) c.self.view_is
          (was.running, was.up, mine),
    )
