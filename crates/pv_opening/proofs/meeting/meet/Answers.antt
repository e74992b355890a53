use Rattle.std.proofs.Common.{◌≡◌, map, ap, sym, subst, ◌∙◌, rules}
use Rattle.pv_post.specs.Ends.{IsPair, posted}
use Rattle.pv_model.specs.LiveScript.{requests_among}
use Rattle.pv_script.specs.LiveView.{request_of, wish_of}
use Rattle.pv_opening.proofs.meeting.meet.Goals as goal

pub returns-clause-asking : goal.returns-clause-asking
returns-clause-asking c =
    let ends = c.in_ok-asks.ensures in
    let rings = c.in_ok-met.ensures.rings in
    let same : c.deref.result.now ≡ c.args.client.now.requests.items = search rules in (
      (
        ap (λ l. map request_of l) c.in_ok-met.ensures.script ∙ c.in_ok-requests.ensures ∙ ap (λ l. requests_among (map wish_of l)) same,
        ap (λ out. posted out) rings.0 ∙ ends.out.2,
      ),
      (c.in_ok-asks.inlet, c.in_ok-push_to.ensures.added, subst (λ out. IsPair out c.in_ok-asks.inlet) (sym rings.0) ends.pair, ends.inlet),
    )

pub returns-clause-telling : goal.returns-clause-telling
returns-clause-telling c =
    let ends = c.in_ok-out.ensures in
    let rings = c.in_ok-met.ensures.rings in
    (c.in_ok-out.out, c.in_ok-push_to-2.ensures.added, subst (λ inlet. IsPair c.in_ok-out.out inlet) (sym rings.1) ends.pair, (ends.out.0, ends.out.1, ends.out.2, ends.out.3))
