-- The value with the known outcomes put in names what the settled one does.
use Rattle.std.proofs.Common.{rules, ◌≡◌, length, vec_len, sym, ap, ◌∙◌}
use Rattle.pv_base.specs.Polyvalue.{value_at}
use Rattle.pv_model.specs.Alternatives.{Read}
use Rattle.pv_protocol.specs.Records.{choice}
use Rattle.pv_site.proofs.LeastDoubt.{names-settled}
use Rattle.pv_site.proofs.doubting.outcomes_left.Goals as goal

pub returns : goal.returns
returns c =
    let size : length c.in_ok-names.field-0.items ≡ vec_len c.in_ok-names.field-0 = search rules in
    c.len.ensures
    ∙ sym size
    ∙ names-settled c.args.store.now.records c.args.read.now.cases _ c.in_ok-settled.ensures.polyvalue
    (λ assignment.
    c.in_ok-settled.ensures.value assignment
    ∙ ap (λ (read : Read). value_at read.cases (choice c.args.store.now.records assignment)) c.read.view_is)
    c.in_ok-names.field-0.items c.in_ok-names.ensures.names
