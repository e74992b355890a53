use Rattle.std.proofs.Common.{◌==◌, List, sym, ap, ◌∙◌}
use Rattle.std.specs.List.{list_any}
use Rattle.pv_base.specs.declared.txn.SiteId.{SiteId}
use Rattle.pv_coord.proofs.TakenLemmas.{any_mapped}
use Rattle.pv_coord.specs.Work.{Work}
use Rattle.pv_protocol.specs.Here.{is_among}
use Rattle.pv_coord.proofs.entry.Entry.has_voted.Goals as goal

pub returns : goal.returns
returns c =
    c.is_voted.ensures
    ∙ ap (λ (votes : List SiteId). list_any (λ (site : SiteId). c.args.site.0 == site.0) votes) c.deref.ensures.value
    ∙ sym (any_mapped (λ other. c.args.site.0 == other) (λ (site : SiteId). site.0) _)
    ∙ ap (λ (work : Work). is_among work.entry.votes c.args.site.0) c.self.view_is
