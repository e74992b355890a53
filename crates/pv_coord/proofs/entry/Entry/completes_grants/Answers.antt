use Rattle.std.proofs.Common.{◌==◌, ◌||◌, Bool, ℕ, List, sym, ap, ◌∙◌}
use Rattle.std.specs.List.{list_any, list_all}
use Rattle.pv_coord.proofs.TakenLemmas.{all_granted}
use Rattle.pv_coord.specs.Work.{Work, has_all_grants, with_grant}
use Rattle.pv_model.specs.Check.{Part}
use Rattle.pv_protocol.specs.State.{Taken}
use Rattle.pv_coord.proofs.entry.Entry.completes_grants.Goals as goal

-- whether all have granted, if the site has
abbrev all_with : ℕ → List Taken → List Part → Bool
all_with site taken parts = list_all (λ (part : Part). (site == part.site) || list_any (λ (t : Taken). t.site == part.site) taken) parts

pub returns : goal.returns
returns c = λ taken is.
    let parts = c.self.inside.plan.parts.items in
    let list = c.self.inside.taken.items in
    c.all_granted_with.ensures
    ∙ ap (λ (some : List Part). all_with c.args.from.0 c.deref-2.result.now some) c.deref.ensures.value
    ∙ ap (λ (some : List Taken). all_with c.args.from.0 some parts) c.deref-2.ensures.value
    ∙ ap (λ (site : ℕ). all_with site list parts) (sym is)
    ∙ sym (all_granted taken list parts)
    ∙ ap (λ (work : Work). has_all_grants (with_grant work taken)) c.self.view_is
