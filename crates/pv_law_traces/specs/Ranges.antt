-- What the lines of a run need to be within the types that an audit reads them as, besides worlds in range.
use Rattle.std.specs.Prelude.{◌≡◌, ℕ, ◌<◌, ◌≤◌, ◌^◌, Some, List, length, All, ⊤}
use Rattle.pv_base.specs.declared.limits.TheConstants.{MAX_SITES}
use Rattle.pv_format.specs.Range.{IsTxnWithin}
use Rattle.pv_model.specs.Events.{Event}
use Rattle.pv_protocol.specs.State.{Entry, Running, Setup}
use Rattle.pv_protocol.specs.World.{World, site_at}

-- Each entry has taken the grants of no more sites than there may be.
abbrev pub HaveTakenFew : List Entry → Type 0
HaveTakenFew entries = All (λ entry. length entry.taken ≤ MAX_SITES) entries

-- So has each entry of each site of the world.
abbrev pub TakesFew : World → Type 0
TakesFew world = (n : ℕ) (running : Running) → (site_at world n).running ≡ Some running → HaveTakenFew running.entries

-- The messages of the world are no more than 64 bits count.
abbrev pub SendsFew : World → Type 0
SendsFew world = length world.sent ≤ 2 ^ 64

-- Beside being in range the world has what each line that it prints needs.
pub record IsPrintable (setup : Setup) (world : World) : Type 0 where
  pub taken : TakesFew world
  pub ordered : All (λ placed. IsTxnWithin setup.catalog.sites placed.txn) world.order
  pub few : SendsFew world

-- The number of a message that the event names has 64 bits.
abbrev pub IsNumbered : Event → Type 0
IsNumbered (Event.deliver n) = n < 2 ^ 64
IsNumbered (Event.lose n) = n < 2 ^ 64
IsNumbered event = ⊤
