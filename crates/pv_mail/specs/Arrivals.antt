-- What comes from a ring, and what is passed over.
use Rattle.std.specs.Prelude.{◌≡◌, ◌⊎◌, ℕ, ◌+◌, ◌-◌, ◌<◌, ◌≤◌, ◌^◌, Option, Some, None, length}
use Rattle.pv_base.specs.Catalog.{Declared}
use Rattle.pv_format.specs.Message.{Message}
use Rattle.pv_format.specs.MessageSpelling.{SpellsEnvelope}
use Rattle.pv_law_histories.specs.History as law
use Rattle.pv_law_histories.specs.History.{Intake}
use Rattle.pv_model.specs.Plan.{plan_of}
use Rattle.pv_protocol.specs.WellFormed.{CanRun}
use Rattle.pv_script.specs.LiveView.{request_of}
use Rattle.pv_rings.specs.Rings.{AreFoundEmpty, Each, GivesOne, IsFirst, IsFoundEmpty, Rests}
use Rattle.pv_mail.specs.declared.arrival.Arrival.{Arrival}
use Rattle.pv_mail.specs.declared.arrival.Arrival.TheVariants as arrival
use Rattle.pv_mail.specs.declared.asked.Asker.{Asker}
use Rattle.pv_mail.specs.declared.ends.Ends.{Ends}

-- who asked for it: a client, where it is a request
abbrev pub asker_of : Arrival → Option Asker
asker_of (arrival.Request client request) = Some record { client = client; number = request.number }
asker_of (arrival.Parcel from parcel) = None

-- There is such a ring.
abbrev pub IsOfRing : Ends → Arrival → Type 0
IsOfRing ends (arrival.Request client request) = client < length ends.clients_in.items
IsOfRing ends (arrival.Parcel from parcel) = from.0 < length ends.sites_in.items

-- the place of the ring that gave it, among all in turn: those of so many sites, and then those of clients
abbrev pub place_of : ℕ → Arrival → ℕ
place_of sites (arrival.Request client request) = sites + client
place_of sites (arrival.Parcel from parcel) = from.0

-- the place behind it
abbrev pub place_behind : ℕ → Arrival → ℕ
place_behind sites came = place_of sites came + 1

-- A place comes before another one in turn: all come, from a first one on to the last, and then those before the first.
abbrev pub IsBefore : (first place other : ℕ) → Type 0
IsBefore first place other = ((first ≤ place) × (place < other)) ⊎ ((other < first) × ((first ≤ place) ⊎ (place < other)))

-- Each ring whose place comes before this one in turn gave nothing.
abbrev pub NoneBefore : (first place : ℕ) → Ends → Ends → Type 0
NoneBefore first place old new =
    Each (λ k one other. IsBefore first k place → IsFoundEmpty one other) old.sites_in.items new.sites_in.items
    × Each (λ k one other. IsBefore first (length old.sites_in.items + k) place → IsFoundEmpty one other) old.clients_in.items new.clients_in.items

-- The ring that gave it is the first one of these of sites, and then of these of clients.
abbrev pub IsFirstOf : (site site_end client client_end : ℕ) → Arrival → Ends → Ends → Type 0
IsFirstOf site site_end client client_end (arrival.Request from request) old new =
    AreFoundEmpty site site_end old.sites_in.items new.sites_in.items × IsFirst client client_end from old.clients_in.items new.clients_in.items
IsFirstOf site site_end client client_end (arrival.Parcel from parcel) old new =
    IsFirst site site_end from.0 old.sites_in.items new.sites_in.items × (new.clients_in.items ≡ old.clients_in.items)

-- A ring gave this, which counts so often, and no other ring gave anything.
abbrev pub Comes : Ends → Ends → Arrival → ℕ → Type 0
Comes old new (arrival.Request client request) count =
    GivesOne client request count old.clients_in.items new.clients_in.items × Each (λ k one other. Rests one other) old.sites_in.items new.sites_in.items
Comes old new (arrival.Parcel from parcel) count =
    GivesOne from.0 parcel count old.sites_in.items new.sites_in.items × Each (λ k one other. Rests one other) old.clients_in.items new.clients_in.items

module _ (catalog : Declared) (me : ℕ) where
  -- It is nothing that the ring may bring: a parcel whose stamp is the greatest, so that no entry could be stamped, or whose bytes spell no message from that
  -- ring's site to this one; or a request that can't run, or whose plan isn't its program's.
  abbrev pub IsStray : Arrival → Type 0
  IsStray (arrival.Request client request) =
      CanRun catalog request.program × (request.plan.parts.items ≡ plan_of request.program catalog.items) → ⊥
  IsStray (arrival.Parcel from parcel) =
      (parcel.stamp ≡ 2 ^ 64 - 1)
      ⊎ ((message : Message) → SpellsEnvelope (record { from = from.0; to = me; message = message }) parcel.bytes.items → ⊥)

  -- what an entry says of it
  abbrev pub IsIntakeOf : Arrival → Intake → Type 0
  IsIntakeOf (arrival.Request client request) intake = intake ≡ law.request client (request_of request)
  IsIntakeOf (arrival.Parcel from parcel) intake =
      (message : Message) × (intake ≡ law.parcel from.0 parcel.stamp parcel.place message)
      × SpellsEnvelope (record { from = from.0; to = me; message = message }) parcel.bytes.items
