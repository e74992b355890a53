-- The course of a site: what its history makes of it, step by step.
use Rattle.std.specs.Prelude.{◌≡◌, ◌⊎◌, ℕ, Option, Some, None, List, [], ◌∷◌, length, slice_get, IsSome, ⊤}
use Rattle.pv_format.specs.Checkpoint.{first_standing}
use Rattle.pv_format.specs.Record.{Record}
use Rattle.pv_law_histories.specs.History.{Intake, request, parcel, tick, Came, done, fault, down, Stamped}
use Rattle.pv_protocol.specs.State as state
use Rattle.pv_protocol.specs.State.{Setup, Site, Running, Input, Outgoing, Step}
use Rattle.pv_protocol.specs.Step.{site_step, records_after}

-- what is given to a site that takes this in
abbrev pub input_of : Intake → Input
input_of (request client asked) = state.submit asked.program
input_of (parcel from stamp place message) = state.receive from message
input_of tick = state.tick

module _ (setup : Setup) (me : ℕ) where
  -- the step of the site, up with these records and this memory, on what it takes in
  abbrev pub step_at : List Record → Running → Stamped → Step
  step_at records running entry = site_step setup me records running (input_of entry.intake)

  -- ## The site after it
  -- A step that meets a fault leaves no record, and the site is down. No history has a checkpoint, so the site's log stands as it was formatted.
  abbrev pub left_up : List Record → Running → Stamped → Came → Site
  left_up records running entry (done notes) =
      let step = step_at records running entry in record { records = records_after records step; standing = first_standing; arm = None; running = Some step.running }
  left_up records running entry fault = record { records = records; standing = first_standing; arm = None; running = None }
  left_up records running entry down = record { records = records; standing = first_standing; arm = None; running = Some running }

  abbrev pub left_at : List Record → Option Running → Stamped → Site
  left_at records None entry = record { records = records; standing = first_standing; arm = None; running = None }
  left_at records (Some running) entry = left_up records running entry entry.came

  abbrev pub left_by : Site → Stamped → Site
  left_by site entry = left_at site.records site.running entry

  -- ## What it sends
  abbrev pub sent_up : List Record → Running → Stamped → Came → List Outgoing
  sent_up records running entry (done notes) = (step_at records running entry).sends
  sent_up records running entry other = []

  abbrev pub sent_at : List Record → Option Running → Stamped → List Outgoing
  sent_at records None entry = []
  sent_at records (Some running) entry = sent_up records running entry entry.came

  abbrev pub sent_by : Site → Stamped → List Outgoing
  sent_by site entry = sent_at site.records site.running entry

  -- ## Whether it may be so
  -- A site that is up makes its step, with the step's notes and messages, or meets a fault in one that appends a record.
  abbrev pub IsStepUp : List Record → Running → Stamped → Came → Type 0
  IsStepUp records running entry (done notes) =
      let step = step_at records running entry in (notes ≡ step.notes) × (entry.sends ≡ length step.sends)
  IsStepUp records running entry fault = IsSome (step_at records running entry).appended × (entry.sends ≡ 0)
  IsStepUp records running entry down = ⊥

  -- One that is down takes nothing.
  abbrev pub IsStepAt : List Record → Option Running → Stamped → Type 0
  IsStepAt records None entry = (entry.came ≡ down) × (entry.sends ≡ 0)
  IsStepAt records (Some running) entry = IsStepUp records running entry entry.came

  abbrev pub IsStep : Site → Stamped → Type 0
  IsStep site entry = IsStepAt site.records site.running entry

  -- ## A whole history, from this site on
  -- the site after it
  abbrev pub course : Site → List Stamped → Site
  course site [] = site
  course site (entry ∷ entries) = course (left_by site entry) entries

  -- Each of its entries is a step of the site that those before it leave.
  abbrev pub AreSteps : Site → List Stamped → Type 0
  AreSteps site [] = ⊤
  AreSteps site (entry ∷ entries) = IsStep site entry × AreSteps (left_by site entry) entries

  -- At this stamp the site sent this message, the one at this place.
  abbrev pub Sent : Site → List Stamped → (stamp place : ℕ) → Outgoing → Type 0
  Sent site [] stamp place outgoing = ⊥
  Sent site (entry ∷ entries) stamp place outgoing =
      ((entry.stamp ≡ stamp) × (slice_get (sent_by site entry) place ≡ Some outgoing)) ⊎ Sent (left_by site entry) entries stamp place outgoing
