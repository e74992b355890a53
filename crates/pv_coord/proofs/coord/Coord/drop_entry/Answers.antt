use Rattle.std.proofs.Common.{◌≡◌, List, None, sym, ap, ◌∙◌, subst}
use Rattle.std.specs.Prelude.{not}
use Rattle.pv_base.specs.Assignment.{is_same_txn}
use Rattle.pv_coord.proofs.Kept.{kept-filter}
use Rattle.pv_coord.proofs.KeyedLemmas.{without-at, without-none, none-found}
use Rattle.pv_coord.specs.Coordinator.{Coordinator, CoordMemory, without_work}
use Rattle.pv_coord.specs.Place.{IsPlace}
use Rattle.pv_coord.specs.Work.{Work, txn_of}
use Rattle.pv_protocol.specs.Keyed.{of_txn, without}
use Rattle.pv_coord.proofs.coord.Coord.drop_entry.Goals as goal

-- what is left is what isn't of the transaction
pub removed : (c : goal.After-drop-remove-in-Some-3) → c.remove.new.self.items ≡ without txn_of c.args.txn c.self.inside.entries.items
removed c =
    let at : IsPlace c.self.inside.entries.items c.args.txn c.in-Some.place =
    subst (λ (works : List Work). IsPlace works c.args.txn c.in-Some.place) c.deref.ensures.value c.in-Some.ensures in
    c.remove.ensures.items
    ∙ without-at txn_of c.self.inside.entries.items c.self.invariant.ascending c.in-Some.place c.remove.result at.within c.args.txn (sym (at.same c.remove.result))

pub invariant_of-self : goal.invariant_of-self
invariant_of-self c = rw (removed c) (kept-filter _ c.self.invariant (λ (work : Work). not (is_same_txn c.args.txn (txn_of work))))

pub returns-in-Some-clause-dropped : goal.returns-in-Some-clause-dropped
returns-in-Some-clause-dropped c = rw (removed c) (ap (λ (memory : CoordMemory). without_work memory.contents c.args.txn) c.self.view_is)

pub returns-in-None-clause-dropped : goal.returns-in-None-clause-dropped
returns-in-None-clause-dropped c =
    let entries = c.self.inside.entries.items in
    let none : of_txn txn_of c.args.txn entries ≡ None = subst (λ (works : List Work). of_txn txn_of c.args.txn works ≡ None) c.deref.ensures.value c.in-None.ensures in
    let coord : Coordinator = record { site = c.self.inside.site.0; epoch = c.self.inside.epoch; next = c.self.inside.next; entries = entries } in
    ap (λ (memory : CoordMemory). memory.contents) (sym c.self.view_is)
    ∙ ap (λ (works : List Work). record coord { entries = works }) (sym (without-none txn_of entries c.args.txn (none-found txn_of entries c.args.txn none)))
    ∙ ap (λ (memory : CoordMemory). without_work memory.contents c.args.txn) c.self.view_is
