use Rattle.std.proofs.Common.{◌==◌, List, sym, ap, ◌∙◌}
use Rattle.std.specs.List.{list_any}
use Rattle.pv_coord.proofs.TakenLemmas.{any_mapped}
use Rattle.pv_coord.specs.Work.{Work, sites_of}
use Rattle.pv_model.specs.Check.{Part}
use Rattle.pv_protocol.specs.Here.{is_among}
use Rattle.pv_coord.proofs.entry.Entry.has_participant.Goals as goal

pub returns : goal.returns
returns c =
    c.is_site_of.ensures
    ∙ ap (λ (parts : List Part). list_any (λ (part : Part). c.args.site.0 == part.site) parts) c.deref.ensures.value
    ∙ sym (any_mapped (λ other. c.args.site.0 == other) (λ (part : Part). part.site) _)
    ∙ ap (λ (work : Work). is_among (sites_of work) c.args.site.0) c.self.view_is
