use Rattle.std.proofs.Common.{◌≡◌, ◌==◌, ◌<◌, ◌≤◌, ℕ, ap, sym, subst, ◌∙◌, arith}
use Rattle.std.specs.Prelude.{slice_get}
use Rattle.std.proofs.lemmas.Bool.{eqb-false, eqb-true}
use Rattle.pv_base.specs.Catalog.{Declared}
use Rattle.pv_protocol.specs.Lock.{is_of_site}
use Rattle.pv_site.specs.Asked.{Shows}
use Rattle.pv_embed.proofs.ReadLemmas.{at_home, me_is, named, not-equal, not-unequal}
use Rattle.pv_embed.proofs.hosted.HostedSite.read.Goals as goal
use Rattle.pv_embed.specs.Hosted.{HostedState, log_length, stored_length}

pub returns-then-ne : goal.returns-then-ne
returns-then-ne c =
    let n = c.in-Some.item.0 in
    let me = me_is c.self.inside c.args.self.now c.self.view_is c.self.invariant in
    let found = named c.self.inside c.args.self.now c.self.view_is c.self.invariant c.args.name.now n c.site_of.result.0 c.in-Some.ensures c.site_of.ensures in
    let other = not-equal (c.site_of.result.0 == c.self.inside.me.0) c.if-ne.ensures in
    (n, found.0, found.1, found.2, λ same. eqb-false c.site_of.result.0 c.self.inside.me.0 other (sym found.3 ∙ same ∙ sym me))

pub returns-then-self-length : goal.returns-then-self-length
returns-then-self-length c =
    let n = c.in-Some.item.0 in
    let me = me_is c.self.inside c.args.self.now c.self.view_is c.self.invariant in
    let found = named c.self.inside c.args.self.now c.self.view_is c.self.invariant c.args.name.now n c.site_of.result.0 c.in-Some.ensures c.site_of.ensures in
    let here : c.site_of.result.0 ≡ c.self.inside.me.0 = eqb-true c.site_of.result.0 c.self.inside.me.0 (not-unequal (c.site_of.result.0 == c.self.inside.me.0) c.if-ne.ensures) in (
      n,
      found.0,
      found.1,
      found.2,
      found.3 ∙ here ∙ me,
      subst (λ (hosted : HostedState). stored_length hosted < log_length hosted) c.self.view_is
          (omega (arith, c.if-self-length.true, c.length.ensures, c.self.invariant.stored)),
    )

pub read-requires : goal.read-requires
read-requires c =
    let n = c.in-Some.item.0 in
    let site = c.self.inside.site in
    let here : c.site_of.result.0 ≡ c.self.inside.me.0 = eqb-true c.site_of.result.0 c.self.inside.me.0 (not-unequal (c.site_of.result.0 == c.self.inside.me.0) c.if-ne.ensures) in
    ap (λ (declared : Declared). is_of_site site.me (slice_get declared.items n)) c.self.invariant.catalog
    ∙ ap (λ (me : ℕ). is_of_site me (slice_get c.self.inside.catalog.items n)) (c.self.invariant.me ∙ sym here)
    ∙ at_home c.self.inside.catalog.items n c.site_of.result.0 c.site_of.ensures

pub returns : goal.returns
returns c =
    let n = c.in-Some.item.0 in
    let me = me_is c.self.inside c.args.self.now c.self.view_is c.self.invariant in
    let found = named c.self.inside c.args.self.now c.self.view_is c.self.invariant c.args.name.now n c.site_of.result.0 c.in-Some.ensures c.site_of.ensures in
    let here : c.site_of.result.0 ≡ c.self.inside.me.0 = eqb-true c.site_of.result.0 c.self.inside.me.0 (not-unequal (c.site_of.result.0 == c.self.inside.me.0) c.if-ne.ensures) in (
      n,
      found.0,
      found.1,
      found.2,
      found.3 ∙ here ∙ me,
      subst (λ (hosted : HostedState). Shows hosted.site hosted.site.running n c.read.result) c.self.view_is c.read.ensures,
      subst (λ (hosted : HostedState). log_length hosted ≤ stored_length hosted) c.self.view_is
          (omega (arith, c.if-self-length.false, c.length.ensures, c.self.invariant.stored)),
    )
