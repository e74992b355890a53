use Rattle.std.proofs.Common.{◌≡◌, suc, ◌+◌, ◌<◌, [], ◌∷◌, ◌++◌, length, ap, refl, sym, subst, ◌∙◌, arith}
use Rattle.std.specs.Prelude.{take}
use Rattle.std.proofs.Math.Seq.{take-suc}
use Rattle.std.proofs.lemmas.List.{take_all}
use Rattle.pv_opening.specs.Meeting.{AreMet}
use Rattle.pv_opening.proofs.MeetLemmas.{met-first, met-more}
use Rattle.pv_opening.proofs.meeting.meet_all.Goals as goal

pub loop-k-init : goal.loop-k-init
loop-k-init c = (
  omega arith,
  refl,
  refl,
  met-first c.new-met.result.items c.args.asked.now.items c.args.told.now.items c.new-met.ensures.items c.requires.empty.0 c.requires.empty.1,
)

pub meet-requires : goal.meet-requires
meet-requires c =
    let kept = c.loop-k.invariant in
    let clients = c.args.clients.now in
    let at = c.index-clients-k in
    let all = c.requires.sites c.loop-k.k at.result c.loop-k-test.true in
    let rows = c.requires.rows in
    let same = kept.1 in
    let other = kept.2 in
    let within : at.result.site.0 < length c.args.asked.now.items = subst (λ client. client.site.0 < length c.args.asked.now.items) (sym at.is) all in
    (omega (arith, within, same), omega (arith, within, same, other, rows))

pub loop-k-preserved : goal.loop-k-preserved
loop-k-preserved c =
    let kept = c.loop-k.invariant in
    let k = c.loop-k.k in
    let clients = c.args.clients.now in
    let at = c.index-clients-k in
    let client = at.result in
    let one = c.in_ok-client.client in
    let asked = c.loop-k.asked.items in
    let told = c.loop-k.told.items in
    let asked' = c.meet.new.asked.items in
    let told' = c.meet.new.told.items in
    let less = c.loop-k-test.true in
    let asking = c.in_ok-client.ensures.asking in
    let telling = c.in_ok-client.ensures.telling in
    let within : client.site.0 < length asked =
    subst (λ n. client.site.0 < n) (sym kept.1)
    (subst (λ it. it.site.0 < length c.args.asked.now.items) (sym at.is) (c.requires.sites k client less)) in
    let next : k + 1 ≡ suc k = omega arith in
    let whole : take (k + 1) clients ≡ take k clients ++ client ∷ [] =
    ap (λ n. take n clients) next ∙ take-suc clients k client less ∙ ap (λ it. take k clients ++ it ∷ []) (sym at.is) in (
      omega (arith, less),
      sym asking.1.1.0 ∙ kept.1,
      sym telling.1.0 ∙ kept.2,
      subst (λ l. AreMet l c.push.new.self.items asked' told') (sym whole)
          (subst (λ l. AreMet (take k clients ++ client ∷ []) l asked' told') (sym c.in_ok-push.ensures.items)
          (met-more (take k clients) client c.loop-k.met.items one asked asked' told told' kept.3 asking telling within (kept.2 ∙ (c.requires.rows ∙ sym kept.1)))),
    )

pub returns-clause-rows : goal.returns-clause-rows
returns-clause-rows c = (c.loop-k.invariant.1, c.loop-k.invariant.2)

pub returns-clause-met : goal.returns-clause-met
returns-clause-met c =
    let kept = c.loop-k.invariant in
    let done = c.loop-k-test.false in
    subst (λ l. AreMet l c.loop-k.met.items c.loop-k.asked.items c.loop-k.told.items) (take_all c.loop-k.k c.args.clients.now done) kept.3
