-- What a visit does, by its answer.
use Rattle.std.specs.Prelude.{◌≡◌, ◌⊎◌, ℕ, ◌+◌, ◌==◌, min, Some, None, if◌then◌else◌, length}
use Rattle.pv_disk_model.specs.LogModel.{LogModel}
use Rattle.pv_law_histories.specs.History.{Intake, tick}
use Rattle.pv_mail.specs.Arrivals as arrivals
use Rattle.pv_mail.specs.Arrivals.{Comes, IsIntakeOf, IsStray, NoneBefore, place_behind, place_of}
use Rattle.pv_mail.specs.Looks.{AllFoundEmpty, SameInRings}
use Rattle.pv_mail.specs.declared.arrival.Arrival.{Arrival}
use Rattle.pv_cell.specs.Box.{IsTickDue, IsWorn, me_of}
use Rattle.pv_cell.specs.Changes.{Enters, Loses, kept_of}
use Rattle.pv_cell.specs.declared.site_box.SiteBox.{SiteBox}
use Rattle.pv_cell.specs.declared.site_box.TheConstants.{IDLE_VISITS}
use Rattle.pv_cell.specs.declared.visit.Visit.{Visit}
use Rattle.pv_cell.specs.declared.visit.Visit.TheVariants.{Took, Idle, Worn, Lost, Stray}

module _ {W : Type 0} where
  -- What is taken next, and how often it counts: it is left from the visit before; or nothing is left, and a ring gives it, where those before it in turn gave
  -- nothing, and the next one is asked first then.
  abbrev pub IsNext : SiteBox W → SiteBox W → Arrival → ℕ → Type 0
  IsNext old new arrival count =
      ((old.again ≡ Some arrival) × (count ≡ 1) × (new.next ≡ old.next) × SameInRings old.ends new.ends)
      ⊎ ((old.again ≡ None) × Comes old.ends new.ends arrival count
      × NoneBefore old.next (place_of (length old.ends.sites_in.items) arrival) old.ends new.ends
      × (new.next ≡ place_behind (length old.ends.sites_in.items) arrival))

  -- It is taken, and left where it counts twice.
  abbrev pub Arrives : SiteBox W → SiteBox W → Arrival → Type 0
  Arrives old new arrival = (count : ℕ) × IsNext old new arrival count × (new.again ≡ (if count == 2 then Some arrival else None))

  -- A tick comes from no ring.
  abbrev pub Ticks : SiteBox W → SiteBox W → Type 0
  Ticks old new = (new.again ≡ old.again) × (new.next ≡ old.next) × SameInRings old.ends new.ends

  -- A visit finds nothing.
  pub record FindsNothing (old new : SiteBox W) : Type 0 where
    pub none_left : (old.again ≡ None) × (new.again ≡ None)
    pub rings : AllFoundEmpty old.ends new.ends
    pub next : new.next ≡ old.next
    pub kept : kept_of new ≡ kept_of old
    pub idle : new.idle ≡ min (old.idle + 1) IDLE_VISITS

module _ {W : Type 0} (M : LogModel W) where
  -- A tick, by its answer.
  abbrev pub TakesTick : SiteBox W → SiteBox W → Visit → Type 0
  TakesTick old new Took = (IsWorn old → ⊥) × Ticks old new × Enters M (kept_of old) (kept_of new) tick × (new.idle ≡ 0)
  TakesTick old new Worn = IsWorn old × (new ≡ old)
  TakesTick old new Lost = (IsWorn old → ⊥) × Ticks old new × Loses M (kept_of old) (kept_of new) None × (new.idle ≡ 0)
  TakesTick old new other = ⊥

  -- what a ring brought, by the answer
  abbrev pub TakesArrival : SiteBox W → SiteBox W → Arrival → Visit → Type 0
  TakesArrival old new came Took =
      (IsStray old.site.catalog (me_of old) came → ⊥) × ((intake : Intake) × IsIntakeOf old.site.catalog (me_of old) came intake × Enters M (kept_of old) (kept_of new) intake)
  TakesArrival old new came Lost = Loses M (kept_of old) (kept_of new) (arrivals.asker_of came)
  TakesArrival old new came Stray = IsStray old.site.catalog (me_of old) came × (kept_of new ≡ kept_of old)
  TakesArrival old new came other = ⊥

  -- A visit, by its answer. A box that is worn takes nothing. A tick that is due is taken first.
  abbrev pub Visits : SiteBox W → SiteBox W → Visit → Type 0
  Visits old new Worn = IsWorn old × (new ≡ old)
  Visits old new Idle = (IsWorn old → ⊥) × (IsTickDue old → ⊥) × FindsNothing old new
  Visits old new other =
      (IsWorn old → ⊥)
      × ((IsTickDue old × TakesTick old new other)
      ⊎ ((IsTickDue old → ⊥) × (new.idle ≡ 0) × ((came : Arrival) × Arrives old new came × TakesArrival old new came other)))
