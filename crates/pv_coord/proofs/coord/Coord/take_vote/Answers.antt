use Rattle.std.specs.Prelude.{◌-◌, vec_len, vec_capacity}
use Rattle.std.proofs.Common.{◌≡◌, ◌<◌, List, None, Option, get_or, sym, ap, ◌∙◌, subst}
use Rattle.pv_base.specs.declared.limits.TheConstants.{TICKS}
use Rattle.pv_coord.proofs.Changed.{counted, counted-txn, counted-young, counted-there, same-txn, held-none, votes}
use Rattle.pv_coord.proofs.Kept.{kept-set}
use Rattle.pv_coord.specs.Coordinator.{Coordinator, CoordMemory, counting, with_vote_for}
use Rattle.pv_coord.specs.Place.{IsPlace}
use Rattle.pv_coord.specs.Work.{Work, txn_of}
use Rattle.pv_protocol.specs.Keyed.{of_txn}
use Rattle.pv_coord.proofs.coord.Coord.take_vote.Goals as goal

pub invariant_of-self : goal.invariant_of-self
invariant_of-self c =
    let entries = c.self.inside.entries.items in
    let work = c.index_mut-entry.result.now in
    let is : work ≡ get_or entries c.in-Some.place work = c.index_mut-entry.ensures.value in
    let at : IsPlace entries c.args.txn c.in-Some.place =
    subst (λ (works : List Work). IsPlace works c.args.txn c.in-Some.place) c.deref.ensures.value c.in-Some.ensures in
    rw c.count_vote.ensures
    (kept-set _ c.self.invariant c.args.txn c.in-Some.place at (counted work c.args.from.0)
    (counted-txn work c.args.from.0 ∙ same-txn entries c.self.invariant.ascending c.args.txn c.in-Some.place at work is)
    (counted-young work c.args.from.0 (subst (λ (one : Work). one.entry.age < TICKS) (sym is) (c.self.invariant.young c.in-Some.place work at.within))))

pub returns-in-Some : goal.returns-in-Some
returns-in-Some c =
    let entries = c.self.inside.entries.items in
    let work = c.index_mut-entry.result.now in
    let is : work ≡ get_or entries c.in-Some.place work = c.index_mut-entry.ensures.value in
    let at : IsPlace entries c.args.txn c.in-Some.place =
    subst (λ (works : List Work). IsPlace works c.args.txn c.in-Some.place) c.deref.ensures.value c.in-Some.ensures in
    rw (c.count_vote.ensures, counted-there entries c.self.invariant.ascending c.args.txn c.in-Some.place at work is c.args.from.0)
    (ap (λ (memory : CoordMemory). record memory { contents = counting memory.contents c.args.txn c.args.from.0 }) c.self.view_is)

pub returns-in-None : goal.returns-in-None
returns-in-None c =
    let entries = c.self.inside.entries.items in
    let none : of_txn txn_of c.args.txn entries ≡ None = subst (λ (works : List Work). of_txn txn_of c.args.txn works ≡ None) c.deref.ensures.value c.in-None.ensures in
    let coord : Coordinator = record { site = c.self.inside.site.0; epoch = c.self.inside.epoch; next = c.self.inside.next; entries = entries } in
    sym c.self.view_is
    ∙ ap (λ (held : Option Work). record { contents = record coord { entries = with_vote_for entries c.args.from.0 held }; places = vec_capacity c.self.inside.entries - vec_len c.self.inside.entries }) (sym (held-none entries c.self.invariant.ascending c.args.txn votes none))
    ∙ ap (λ (memory : CoordMemory). record memory { contents = counting memory.contents c.args.txn c.args.from.0 }) c.self.view_is
