use Rattle.std.proofs.Common.{◌<◌, sym, ap, ◌∙◌, subst}
use Rattle.pv_base.specs.declared.limits.TheConstants.{NEVER_GIVEN}
use Rattle.pv_coord.proofs.Kept.{begun-end, kept-end}
use Rattle.pv_coord.specs.Coordinator.{CoordMemory, beginning, next_txn}
use Rattle.pv_coord.specs.Work.{Work, txn_of}
use Rattle.pv_coord.proofs.coord.Coord.apply_begin.Goals as goal

pub invariant_of-self : goal.invariant_of-self
invariant_of-self c =
    let begins = c.change.view_is ∙ c.requires.planned.begins in
    rw c.push_reserved.ensures.items
    (kept-end _ c.self.invariant _
    (ap txn_of begins ∙ ap (λ (memory : CoordMemory). next_txn memory.contents) (sym c.self.view_is))
    (ap (λ (work : Work). work.entry.age) begins)
    (subst (λ (memory : CoordMemory). memory.contents.next < NEVER_GIVEN) (sym c.self.view_is) c.requires.planned.number))

pub returns-clause-begun : goal.returns-clause-begun
returns-clause-begun c =
    let begins = c.change.view_is ∙ c.requires.planned.begins in
    rw c.push_reserved.ensures.items
    (begun-end _ c.self.invariant _ (ap txn_of begins ∙ ap (λ (memory : CoordMemory). next_txn memory.contents) (sym c.self.view_is))
    ∙ ap (λ (memory : CoordMemory). beginning memory.contents c.change.inside.entry) c.self.view_is
    ∙ ap (λ (work : Work). beginning c.args.self.now.contents work) c.change.view_is)
