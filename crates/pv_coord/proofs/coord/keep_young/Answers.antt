use Rattle.std.proofs.Common.{rules}
use Rattle.std.specs.Prelude.{nat_lt}
use Rattle.std.proofs.lemmas.List.Elements.{filter_from_retain}
use Rattle.pv_base.specs.declared.limits.TheConstants.{TICKS}
use Rattle.pv_coord.specs.Work.{Work}
use Rattle.pv_coord.proofs.coord.keep_young.Goals as goal

pub returns-clause-lasting : goal.returns-clause-lasting
returns-clause-lasting c = filter_from_retain _ (λ (work : Work). nat_lt work.entry.age TICKS) (λ p x b q called. search rules) _ _ _ c.retain.ensures.filtered
