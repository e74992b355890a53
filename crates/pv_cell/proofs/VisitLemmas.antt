-- How what a box makes of an input comes to what a visit does.
use Rattle.std.proofs.Common.{◌≡◌, ◌⊎◌, ℕ, ◌≤◌, ◌==◌, Option, None, Some, List, length, refl, sym, ap, ◌∙◌, subst, inl, inr, if◌then◌else◌}
use Rattle.pv_disk_model.specs.LogModel.{LogModel}
use Rattle.pv_history.specs.declared.entry.Entry.{Entry}
use Rattle.pv_history.specs.declared.entry.TheConstants.{MAX_ENTRIES}
use Rattle.pv_law_histories.specs.History.{Intake, tick}
use Rattle.pv_mail.specs.Answers.{asker_of}
use Rattle.pv_mail.specs.Arrivals.{Comes, NoneBefore, place_of}
use Rattle.pv_mail.specs.Looks.{SameInRings}
use Rattle.pv_mail.specs.Telling.{TellsLossTo}
use Rattle.pv_mail.specs.declared.arrival.Arrival.{Arrival}
use Rattle.pv_mail.specs.declared.arrival.Arrival.TheVariants as arrival
use Rattle.pv_mail.specs.declared.asked.Asker.{Asker}
use Rattle.pv_mail.specs.declared.ends.Ends.{Ends}
use Rattle.pv_cell.proofs.BoxLemmas.{loss-length}
use Rattle.pv_cell.specs.Box.{ArePlanned, IsBox, IsTickDue, IsWorn, Stands}
use Rattle.pv_cell.specs.Changes.{Enters, Kept, LeavesTaken, Loses, TakesIn, kept_of}
use Rattle.pv_cell.specs.Room.{IsRoomier}
use Rattle.pv_cell.specs.Visits.{Arrives, IsNext, TakesArrival, TakesTick, Visits}
use Rattle.pv_cell.specs.declared.site_box.SiteBox.{SiteBox}
use Rattle.pv_cell.specs.declared.site_box.TheConstants.{IDLE_VISITS}
use Rattle.pv_cell.specs.declared.visit.Visit.{Visit}
use Rattle.pv_cell.specs.declared.visit.Visit.TheVariants.{Took, Idle, Worn, Lost, Stray}

-- ## Boxes that differ in little
module _ {W : Type 0} (M : LogModel W) where
  pub idle-box : (box : SiteBox W) (idle : ℕ) → idle ≤ IDLE_VISITS → IsBox M box → IsBox M (record box { idle = idle })
  idle-box box idle few is = record {
    ready = is.ready;
    stands = is.stands;
    me = is.me;
    down = is.down;
    rings = is.rings;
    entries = is.entries;
    planned = is.planned;
    again = is.again;
    idle = few;
  }

  module _ (old mid : SiteBox W) (roomier : IsRoomier old mid) where
    pub room-box : IsBox M old → IsBox M mid
    room-box is =
        let same : length old.history.items ≡ length mid.history.items = sym (ap (λ (all : List Entry). length all) roomier.1) in
        subst (IsBox M) (sym roomier.0) record {
          ready = is.ready;
          stands = subst (λ (n : ℕ). Stands n old.site) same is.stands;
          me = is.me;
          down = is.down;
          rings = is.rings;
          entries = subst (λ (n : ℕ). n ≤ MAX_ENTRIES) same is.entries;
          planned = subst (λ (all : List Entry). ArePlanned old.site all) (sym roomier.1) is.planned;
          again = is.again;
          idle = is.idle;
        }

    room-kept : kept_of mid ≡ kept_of old
    room-kept =
        ap (λ (box : SiteBox W). kept_of box) roomier.0
        ∙ (λ i. record {
          site = old.site;
          history = roomier.1 i;
          stamp = old.stamp;
          begun = roomier.2 i;
          sites_out = old.ends.sites_out.items;
          clients_out = old.ends.clients_out.items;
        })

    room-leaves : (new : SiteBox W) → LeavesTaken mid new → LeavesTaken old new
    room-leaves new leaves = subst (λ (box : SiteBox W). LeavesTaken box new) roomier.0 leaves

    pub room-takes : (new : SiteBox W) (intake : Intake) (visit : Visit) → TakesIn M mid new intake visit → TakesIn M old new intake visit
    room-takes new intake Took takes = (room-leaves new takes.0, subst (λ (k : Kept W). Enters M k (kept_of new) intake) room-kept takes.1)
    room-takes new intake Lost takes = (room-leaves new takes.0, subst (λ (k : Kept W). Loses M k (kept_of new) (asker_of intake)) room-kept takes.1)
    room-takes new intake Idle takes = absurd takes
    room-takes new intake Worn takes = absurd takes
    room-takes new intake Stray takes = absurd takes

  -- ## What is lost
  module _ (old new : SiteBox W) (asker : Option Asker)
      (changed : new ≡ record old { ends = record old.ends { clients_out = new.ends.clients_out } })
      (tells : TellsLossTo (length old.history.items) asker old.ends.clients_out.items new.ends.clients_out.items) where
    pub loss-leaves : LeavesTaken old new
    loss-leaves = subst (λ (end : SiteBox W). LeavesTaken old end) (sym changed) (refl, refl, refl, (refl, refl))

    pub loss-loses : Loses M (kept_of old) (kept_of new) asker
    loss-loses = record {
      changed = ap (λ (end : SiteBox W). kept_of end) changed ∙ sym (ap (λ (end : SiteBox W). record (kept_of old) { site = end.site; clients_out = end.ends.clients_out.items }) changed);
      site = inl (ap (λ (end : SiteBox W). end.site) changed);
      tells = tells;
    }

    pub loss-box : IsBox M old → IsBox M new
    loss-box is = subst (IsBox M) (sym changed) record {
      ready = is.ready;
      stands = is.stands;
      me = is.me;
      down = is.down;
      rings = (is.rings.0, is.rings.1, is.rings.2 ∙ loss-length _ asker _ _ tells, is.rings.3);
      entries = is.entries;
      planned = is.planned;
      again = is.again;
      idle = is.idle;
    }

  -- ## Ticks
  pub tick-takes : (old new : SiteBox W) (visit : Visit) → (IsWorn old → ⊥) → TakesIn M (record old { idle = 0 }) new tick visit → TakesTick M old new visit
  tick-takes old new Took not_worn takes = (not_worn, (takes.0.0, takes.0.2, takes.0.3), takes.1, takes.0.1)
  tick-takes old new Lost not_worn takes = (not_worn, (takes.0.0, takes.0.2, takes.0.3), takes.1, takes.0.1)
  tick-takes old new Idle not_worn takes = absurd takes
  tick-takes old new Worn not_worn takes = absurd takes
  tick-takes old new Stray not_worn takes = absurd takes

  pub due-visits : (old new : SiteBox W) (visit : Visit) → (IsWorn old → ⊥) → IsTickDue old → TakesTick M old new visit → Visits M old new visit
  due-visits old new Took not_worn due takes = (not_worn, inl (due, takes))
  due-visits old new Lost not_worn due takes = (not_worn, inl (due, takes))
  due-visits old new Idle not_worn due takes = absurd takes
  due-visits old new Worn not_worn due takes = absurd (not_worn takes.0)
  due-visits old new Stray not_worn due takes = absurd takes

  -- ## What rings bring
  comes-same : (old mid new : Ends) (came : Arrival) (count : ℕ) → SameInRings mid new → Comes old mid came count → Comes old new came count
  comes-same old mid new (arrival.Request client request) count same comes =
      subst (λ (ends : Ends). Comes old ends (arrival.Request client request) count)
      (λ i. record { sites_in = sym same.0 i; sites_out = mid.sites_out; clients_in = sym same.1 i; clients_out = mid.clients_out }) comes
  comes-same old mid new (arrival.Parcel from parcel) count same comes =
      subst (λ (ends : Ends). Comes old ends (arrival.Parcel from parcel) count)
      (λ i. record { sites_in = sym same.0 i; sites_out = mid.sites_out; clients_in = sym same.1 i; clients_out = mid.clients_out }) comes

  turn-same : (first place : ℕ) (old mid new : Ends) → SameInRings mid new → NoneBefore first place old mid → NoneBefore first place old new
  turn-same first place old mid new same turn =
      subst (λ (ends : Ends). NoneBefore first place old ends)
      (λ i. record { sites_in = sym same.0 i; sites_out = mid.sites_out; clients_in = sym same.1 i; clients_out = mid.clients_out }) turn

  next-same : (old mid new : SiteBox W) (came : Arrival) (count : ℕ) → new.next ≡ mid.next → SameInRings mid.ends new.ends → IsNext old mid came count
      → IsNext old new came count
  next-same old mid new came count next same (inl left) = inl (left.0, left.1, next ∙ left.2, (same.0 ∙ left.3.0, same.1 ∙ left.3.1))
  next-same old mid new came count next same (inr comes) =
      inr (
        comes.0,
        comes-same old.ends mid.ends new.ends came count same comes.1,
        turn-same old.next (place_of (length old.ends.sites_in.items) came) old.ends mid.ends new.ends same comes.2,
        next ∙ comes.3,
      )

  module _ (old mid new : SiteBox W) (came : Arrival) (count : ℕ) (not_worn : IsWorn old → ⊥) (not_due : IsTickDue old → ⊥)
      (changed : mid ≡ record old {
        ends = record old.ends { sites_in = mid.ends.sites_in; clients_in = mid.ends.clients_in };
        again = None;
        next = mid.next;
      })
      (next : IsNext old mid came count) (again : new.again ≡ (if count == 2 then Some came else mid.again))
      (same : (new.idle ≡ 0) × (new.next ≡ mid.next) × SameInRings mid.ends new.ends) where
    arrived : (visit : Visit) → TakesArrival M old new came visit
        → (IsWorn old → ⊥) × ((IsTickDue old × TakesTick M old new visit)
        ⊎ ((IsTickDue old → ⊥) × (new.idle ≡ 0) × ((it : Arrival) × Arrives old new it × TakesArrival M old new it visit)))
    arrived visit takes = (
      not_worn,
      inr (
        not_due,
        same.0,
        (
          came,
          (
            count,
            next-same old mid new came count same.1 same.2 next,
            again ∙ ap (λ (left : Option Arrival). if count == 2 then Some came else left) (ap (λ (box : SiteBox W). box.again) changed),
          ),
          takes,
        ),
      ),
    )

    -- what is so of the box before is so of the one before that, since it keeps the same
    as-before : (visit : Visit) → TakesArrival M (record mid { idle = 0 }) new came visit → TakesArrival M (record old { idle = 0 }) new came visit
    as-before Took takes = subst (λ (box : SiteBox W). TakesArrival M (record box { idle = 0 }) new came Took) changed takes
    as-before Lost takes = subst (λ (box : SiteBox W). TakesArrival M (record box { idle = 0 }) new came Lost) changed takes
    as-before Stray takes = subst (λ (box : SiteBox W). TakesArrival M (record box { idle = 0 }) new came Stray) changed takes
    as-before Idle takes = absurd takes
    as-before Worn takes = absurd takes

    pub arrival-visits : (visit : Visit) → TakesArrival M (record mid { idle = 0 }) new came visit → Visits M old new visit
    arrival-visits Took takes = arrived Took (as-before Took takes)
    arrival-visits Lost takes = arrived Lost (as-before Lost takes)
    arrival-visits Stray takes = arrived Stray (as-before Stray takes)
    arrival-visits Idle takes = absurd takes
    arrival-visits Worn takes = absurd takes
