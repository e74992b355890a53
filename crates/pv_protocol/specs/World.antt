-- The world: the sites, the messages between them, and the order of the transactions.
use Rattle.std.specs.Prelude.{ℕ, Bool, true, false, Some, None, List, [], ◌∷◌, ◌++◌, length, map, replicate, get_or, set}
use Rattle.pv_format.specs.Checkpoint.{first_standing}
use Rattle.pv_format.specs.Message.{Envelope}
use Rattle.pv_format.specs.Record.{epoch_begun}
use Rattle.pv_protocol.specs.Start as start
use Rattle.pv_protocol.specs.State.{Setup, Site, Outgoing, Placed}

-- All sites, by their numbers; every message that was ever sent, by its number, and beside it whether it is fresh; and the
-- transactions that reached their lock points, in that order. A message is fresh while it is not yet delivered, lost or dropped,
-- and done from then on. A message that is done may still be delivered again.
pub record World : Type 0 where
  pub sites : List Site
  pub sent : List Envelope
  pub fresh : List Bool
  pub order : List Placed

-- a site that isn't there: nothing is recorded, and it is down
abbrev pub no_site : Site
no_site = record { records = []; standing = first_standing; arm = None; running = None }

-- the site of this number
abbrev pub site_at : World → ℕ → Site
site_at world n = get_or world.sites n no_site

-- the world with this site in the place of the one of this number
abbrev pub with_site : World → ℕ → Site → World
with_site world n site = record world { sites = set world.sites n site }

-- the messages that a site sends, each with its sender
abbrev pub from_site : ℕ → List Outgoing → List Envelope
from_site n sends = map (λ outgoing. record { from = n; to = outgoing.to; message = outgoing.message }) sends

-- the world with these messages sent, each of them fresh
abbrev pub with_sent : World → List Envelope → World
with_sent world more = record world { sent = world.sent ++ more; fresh = world.fresh ++ replicate (length more) true }

-- The message of this number is done.
abbrev pub with_done : World → ℕ → World
with_done world n = record world { fresh = set world.fresh n false }

-- A site that was started once: its first epoch is 1, and nothing has happened in it.
abbrev pub first_site : Site
first_site = record { records = epoch_begun 1 ∷ []; standing = first_standing; arm = None; running = Some (start.just_started 1) }

-- Where a run begins: each site was started once, nothing was sent and no transaction has reached its lock point.
abbrev pub opening : Setup → World
opening setup = record { sites = replicate setup.catalog.sites first_site; sent = []; fresh = []; order = [] }
