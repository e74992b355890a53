use Rattle.std.specs.Prelude.{◌-◌, vec_len, vec_capacity}
use Rattle.std.proofs.Common.{◌≡◌, ◌<◌, List, None, Option, IsTrue, get_or, sym, ap, ◌∙◌, subst}
use Rattle.pv_base.specs.declared.limits.TheConstants.{TICKS}
use Rattle.pv_coord.proofs.Changed.{locks, after-txn, after-young, granted-there, is-awaited, same-txn, held-none}
use Rattle.pv_coord.proofs.Kept.{kept-set}
use Rattle.pv_coord.specs.Coordinator.{Coordinator, CoordMemory, Grants, fits, locking_work, taking, with_taken_for}
use Rattle.pv_coord.specs.Place.{IsPlace}
use Rattle.pv_coord.specs.Work.{Work, txn_of, after_grant}
use Rattle.pv_protocol.specs.Keyed.{of_txn}
use Rattle.pv_coord.proofs.coord.Coord.apply_granted.Goals as goal

pub take-requires : goal.take-requires
take-requires c =
    let entries = c.self.inside.entries.items in
    let work = c.index_mut-entry.result.now in
    let is : work ≡ get_or entries c.in-Some.place work = c.index_mut-entry.ensures.value in
    let place : IsPlace entries c.change.inside.txn c.in-Some.place =
    subst (λ (works : List Work). IsPlace works c.change.inside.txn c.in-Some.place) c.deref.ensures.value c.in-Some.ensures in
    let waits =
    is-awaited entries c.self.invariant.ascending c.change.inside.txn c.in-Some.place place work is c.change.inside.taken
    (subst (λ (memory : CoordMemory). IsTrue (fits (locking_work memory.contents c.change.inside.txn) c.change.inside.taken)) (sym c.self.view_is)
    (subst (λ (grants : Grants). IsTrue (fits (locking_work c.args.self.now.contents grants.txn) grants.taken)) (sym c.change.view_is) c.requires.planned)) in
    record { awaited = waits.1 }

pub invariant_of-self : goal.invariant_of-self
invariant_of-self c =
    let entries = c.self.inside.entries.items in
    let work = c.index_mut-entry.result.now in
    let is : work ≡ get_or entries c.in-Some.place work = c.index_mut-entry.ensures.value in
    let place : IsPlace entries c.change.inside.txn c.in-Some.place =
    subst (λ (works : List Work). IsPlace works c.change.inside.txn c.in-Some.place) c.deref.ensures.value c.in-Some.ensures in
    rw c.take.ensures
    (kept-set _ c.self.invariant c.change.inside.txn c.in-Some.place place (after_grant work c.change.inside.taken c.args.reply)
    (after-txn work c.change.inside.taken c.args.reply ∙ same-txn entries c.self.invariant.ascending c.change.inside.txn c.in-Some.place place work is)
    (after-young work c.change.inside.taken c.args.reply (subst (λ (one : Work). one.entry.age < TICKS) (sym is) (c.self.invariant.young c.in-Some.place work place.within))))

pub returns-in-Some : goal.returns-in-Some
returns-in-Some c =
    let entries = c.self.inside.entries.items in
    let work = c.index_mut-entry.result.now in
    let is : work ≡ get_or entries c.in-Some.place work = c.index_mut-entry.ensures.value in
    let place : IsPlace entries c.change.inside.txn c.in-Some.place =
    subst (λ (works : List Work). IsPlace works c.change.inside.txn c.in-Some.place) c.deref.ensures.value c.in-Some.ensures in
    let waits =
    is-awaited entries c.self.invariant.ascending c.change.inside.txn c.in-Some.place place work is c.change.inside.taken
    (subst (λ (memory : CoordMemory). IsTrue (fits (locking_work memory.contents c.change.inside.txn) c.change.inside.taken)) (sym c.self.view_is)
    (subst (λ (grants : Grants). IsTrue (fits (locking_work c.args.self.now.contents grants.txn) grants.taken)) (sym c.change.view_is) c.requires.planned)) in
    rw (c.take.ensures, granted-there entries c.self.invariant.ascending c.change.inside.txn c.in-Some.place place work is c.change.inside.taken c.args.reply waits.0)
    (ap (λ (memory : CoordMemory). record memory { contents = taking memory.contents (record { txn = c.change.inside.txn; taken = c.change.inside.taken }) c.args.reply }) c.self.view_is
    ∙ ap (λ (grants : Grants). record { contents = taking c.args.self.now.contents grants c.args.reply; places = c.args.self.now.places }) c.change.view_is)

pub returns-in-None : goal.returns-in-None
returns-in-None c =
    let entries = c.self.inside.entries.items in
    let none : of_txn txn_of c.change.inside.txn entries ≡ None = subst (λ (works : List Work). of_txn txn_of c.change.inside.txn works ≡ None) c.deref.ensures.value c.in-None.ensures in
    let coord : Coordinator = record { site = c.self.inside.site.0; epoch = c.self.inside.epoch; next = c.self.inside.next; entries = entries } in
    sym c.self.view_is
    ∙ ap (λ (work : Option Work). record { contents = record coord { entries = with_taken_for entries c.change.inside.taken c.args.reply work }; places = vec_capacity c.self.inside.entries - vec_len c.self.inside.entries })
    (sym (held-none entries c.self.invariant.ascending c.change.inside.txn locks none))
    ∙ ap (λ (memory : CoordMemory). record memory { contents = taking memory.contents (record { txn = c.change.inside.txn; taken = c.change.inside.taken }) c.args.reply }) c.self.view_is
    ∙ ap (λ (grants : Grants). record { contents = taking c.args.self.now.contents grants c.args.reply; places = c.args.self.now.places }) c.change.view_is
