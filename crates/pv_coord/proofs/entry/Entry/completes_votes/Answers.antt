use Rattle.std.proofs.Common.{◌==◌, ◌||◌, Bool, ℕ, List, map, sym, ap, ◌∙◌}
use Rattle.std.specs.List.{list_any, list_all}
use Rattle.pv_base.specs.declared.txn.SiteId.{SiteId}
use Rattle.pv_coord.proofs.TakenLemmas.{any_mapped, all_same, all_voted}
use Rattle.pv_coord.specs.Work.{Work, has_all_votes, with_vote}
use Rattle.pv_model.specs.Check.{Part}
use Rattle.pv_coord.proofs.entry.Entry.completes_votes.Goals as goal

-- whether all have voted, if the site has
abbrev all_with : ℕ → List SiteId → List Part → Bool
all_with site votes parts = list_all (λ (part : Part). list_any (λ (other : SiteId). part.site == other.0) votes || (part.site == site)) parts

pub returns : goal.returns
returns c =
    let parts = c.self.inside.plan.parts.items in
    let votes = c.self.inside.votes.items in
    let sites = map (λ (site : SiteId). site.0) votes in
    c.all_voted_with.ensures
    ∙ ap (λ (some : List Part). all_with c.args.from.0 c.deref-2.result.now some) c.deref.ensures.value
    ∙ ap (λ (some : List SiteId). all_with c.args.from.0 some parts) c.deref-2.ensures.value
    ∙ all_same (λ (part : Part). list_any (λ (other : SiteId). part.site == other.0) votes || (part.site == c.args.from.0))
    (λ (part : Part). list_any (λ other. part.site == other) sites || (part.site == c.args.from.0)) parts
    (λ (part : Part). ap (λ (b : Bool). b || (part.site == c.args.from.0)) (sym (any_mapped (λ other. part.site == other) (λ (site : SiteId). site.0) votes)))
    ∙ sym (all_voted c.args.from.0 sites parts)
    ∙ ap (λ (work : Work). has_all_votes (with_vote work c.args.from.0)) c.self.view_is
