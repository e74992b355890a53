use Rattle.std.proofs.Common.{◌≡◌, ◌==◌, true, false, Some, None, ap, subst, ◌∙◌, arith}
use Rattle.std.proofs.lemmas.Bool.{eqb-true}
use Rattle.pv_protocol.specs.Outcome.{works_on}
use Rattle.pv_site.specs.SiteState.{here_with}
use Rattle.pv_embed.proofs.OutcomeLemmas.{Says, answered, at_work, may_tell, not_begun, works_is}
use Rattle.pv_embed.proofs.ReadLemmas.{not-unequal}
use Rattle.pv_embed.proofs.hosted.HostedSite.outcome.Goals as goal
use Rattle.pv_embed.specs.Hosted.{HostedState}

pub returns-in-Some-true : goal.returns-in-Some-true
returns-in-Some-true c =
    let now = c.args.self.now in
    let inside = c.self.inside in
    let txn = c.args.txn in
    let asked = c.in_ok-asked.ensures in
    let own = eqb-true txn.site.0 inside.me.0 (not-unequal (txn.site.0 == inside.me.0) c.if-ne.ensures) in
    let may = may_tell inside now c.self.view_is c.self.invariant txn own (omega (arith, c.if-self-length.false, c.length.ensures)) in
    let is : c.in_ok-asked.field-0 ≡ Some true = cc in
    let says = subst (Says (here_with now.site asked.1.0) txn) is (answered now.site txn asked.1.0 c.in_ok-asked.field-0 may.here asked.1.2) in
    (asked.0, may, (asked.1.0, asked.1.1, says))

pub returns-in-Some-false : goal.returns-in-Some-false
returns-in-Some-false c =
    let now = c.args.self.now in
    let inside = c.self.inside in
    let txn = c.args.txn in
    let asked = c.in_ok-asked.ensures in
    let own = eqb-true txn.site.0 inside.me.0 (not-unequal (txn.site.0 == inside.me.0) c.if-ne.ensures) in
    let may = may_tell inside now c.self.view_is c.self.invariant txn own (omega (arith, c.if-self-length.false, c.length.ensures)) in
    let is : c.in_ok-asked.field-0 ≡ Some false = cc in
    let says = subst (Says (here_with now.site asked.1.0) txn) is (answered now.site txn asked.1.0 c.in_ok-asked.field-0 may.here asked.1.2) in
    (asked.0, may, (asked.1.0, asked.1.1, says))

pub returns-in-None : goal.returns-in-None
returns-in-None c =
    let now = c.args.self.now in
    let inside = c.self.inside in
    let txn = c.args.txn in
    let asked = c.in_ok-asked.ensures in
    let own = eqb-true txn.site.0 inside.me.0 (not-unequal (txn.site.0 == inside.me.0) c.if-ne.ensures) in
    let may = may_tell inside now c.self.view_is c.self.invariant txn own (omega (arith, c.if-self-length.false, c.length.ensures)) in
    let is : c.in_ok-asked.field-0 ≡ None = cc in
    let says = subst (Says (here_with now.site asked.1.0) txn) is (answered now.site txn asked.1.0 c.in_ok-asked.field-0 may.here asked.1.2) in
    let same = works_is asked.1.0 inside.site.running txn c.works-works.result (ap (λ (hosted : HostedState). hosted.site.running) c.self.view_is ∙ asked.1.1) c.works-works.ensures in
    let works : works_on asked.1.0 txn ≡ true = cc in
    (asked.0, may, (asked.1.0, asked.1.1, (works, at_work (here_with now.site asked.1.0) txn says works)))

pub returns-in-None-2 : goal.returns-in-None-2
returns-in-None-2 c =
    let now = c.args.self.now in
    let inside = c.self.inside in
    let txn = c.args.txn in
    let asked = c.in_ok-asked.ensures in
    let own = eqb-true txn.site.0 inside.me.0 (not-unequal (txn.site.0 == inside.me.0) c.if-ne.ensures) in
    let may = may_tell inside now c.self.view_is c.self.invariant txn own (omega (arith, c.if-self-length.false, c.length.ensures)) in
    let is : c.in_ok-asked.field-0 ≡ None = cc in
    let says = subst (Says (here_with now.site asked.1.0) txn) is (answered now.site txn asked.1.0 c.in_ok-asked.field-0 may.here asked.1.2) in
    let same = works_is asked.1.0 inside.site.running txn c.works-works.result (ap (λ (hosted : HostedState). hosted.site.running) c.self.view_is ∙ asked.1.1) c.works-works.ensures in
    let idle : works_on asked.1.0 txn ≡ false = cc in
    (asked.0, may, (asked.1.0, asked.1.1, not_begun (here_with now.site asked.1.0) txn says idle))
