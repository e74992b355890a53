use Rattle.std.proofs.Common.{◌++◌, ◌+◌, ◌-◌, append_assoc, map, ap, sym, ◌∙◌}
use Rattle.std.proofs.lemmas.List.{append-nil}
use Rattle.pv_world.proofs.PlaceLemmas.{votes-more, votes-none, votes-whole}
use Rattle.pv_world.specs.Places.{taken_at, votes_from}
use Rattle.pv_world.specs.Stands.{grant_of}
use Rattle.pv_world.proofs.order.at_lock_point.Goals as goal

pub loop-site-init : goal.loop-site-init
loop-site-init c catalog n is stands =
    ap (λ items. map grant_of items ++ votes_from is.running c.args.txn 0 (c.args.sites - 0)) c.new-grants.ensures.items ∙ votes-whole is.running c.args.txn c.args.sites

pub loop-site-preserved : goal.loop-site-preserved
loop-site-preserved c catalog n is stands =
    let site = c.loop-site.site in
    let before = map grant_of c.loop-site.grants.items in
    ap (λ grants. grants ++ votes_from is.running c.args.txn (site + 1) (c.args.sites - (site + 1))) (c.in_ok-push_taken.ensures catalog n is stands)
    ∙ (append_assoc before (taken_at is.running c.args.txn site) (votes_from is.running c.args.txn (site + 1) (c.args.sites - (site + 1)))
    ∙ (ap (λ later. before ++ later) (sym (votes-more is.running c.args.txn site c.args.sites c.loop-site-test.true))
    ∙ c.loop-site.invariant catalog n is stands))

pub returns : goal.returns
returns c catalog n is stands =
    let before = map grant_of c.loop-site.grants.items in
    ap (λ grants. (c.args.txn, grants))
    (sym (append-nil before)
    ∙ (ap (λ later. before ++ later) (sym (votes-none is.running c.args.txn c.loop-site.site c.args.sites c.loop-site-test.false))
    ∙ c.loop-site.invariant catalog n is stands))
