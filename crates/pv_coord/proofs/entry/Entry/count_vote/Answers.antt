use Rattle.std.proofs.Common.{◌≡◌, ◌+◌, ◌≤◌, ℕ, List, [], ◌∷◌, ◌++◌, map, length, false, sym, ap, subst, ◌∙◌, arith}
use Rattle.std.specs.Prelude.{not}
use Rattle.std.specs.List.{filter}
use Rattle.std.proofs.lemmas.List.{map-append}
use Rattle.pv_base.specs.declared.txn.SiteId.{SiteId}
use Rattle.std.proofs.lemmas.Bool.{not-true}
use Rattle.pv_coord.proofs.RoomLemmas.{fewer-votes}
use Rattle.pv_coord.specs.EntryView.{work_in}
use Rattle.pv_coord.specs.Work.{Work, sites_of, silent, with_vote, is_vote_ignored}
use Rattle.pv_protocol.specs.Here.{is_among}
use Rattle.pv_coord.proofs.entry.Entry.count_vote.Goals as goal

-- One less is to come.
pub fewer : (c : goal.After-push_reserved-arg-1) → length (silent (with_vote (work_in c.self.inside) c.args.from.0)) + 1 ≤ length (silent (work_in c.self.inside))
fewer c =
    fewer-votes (work_in c.self.inside) c.args.from.0
    (subst (λ (work : Work). is_vote_ignored work c.args.from.0 ≡ false) (sym c.self.view_is)
    (not-true (is_vote_ignored c.args.self.now c.args.from.0) (sym c.awaits_vote.ensures ∙ c.if-not-awaits_vote.false)))

pub push_reserved-requires : goal.push_reserved-requires
push_reserved-requires c = omega (arith, c.self.invariant.votes, fewer c)

pub invariant_of-self : goal.invariant_of-self
invariant_of-self c =
    let old = work_in c.self.inside in
    let less = fewer-votes old c.args.from.0
    (subst (λ (work : Work). is_vote_ignored work c.args.from.0 ≡ false) (sym c.self.view_is)
    (not-true (is_vote_ignored c.args.self.now c.args.from.0) (sym c.awaits_vote.ensures ∙ c.if-not-awaits_vote.false))) in
    let votes : map (λ (site : SiteId). site.0) c.push_reserved.new.self.items ≡ old.entry.votes ++ c.args.from.0 ∷ [] =
    ap (map (λ (site : SiteId). site.0)) c.push_reserved.ensures.items ∙ map-append (λ (site : SiteId). site.0) c.self.inside.votes.items (c.args.from ∷ []) in
    let same = ap (λ (votes : List ℕ). length (filter (λ site. not (is_among votes site)) (sites_of old))) votes in
    record { grants = c.self.invariant.grants; votes = omega (arith, c.self.invariant.votes, less, same, c.push_reserved.ensures.len, c.push_reserved.ensures.capacity) }
