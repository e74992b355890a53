-- A step that changes one site.
use Rattle.std.proofs.Common.{◌≡◌, ◌⊎◌, ℕ, zero, suc, ◌<◌, Some, Option, List, [], ◌∷◌, length, inl, refl, arith}
use Rattle.std.specs.Prelude.{get_or}
use Rattle.std.specs.List.{Contains}
use Rattle.std.proofs.lemmas.List.{get_or-set_same}
use Rattle.std.proofs.lemmas.Option.{none-some}
use Rattle.pv_base.specs.declared.txn.TxnId.{TxnId}
use Rattle.pv_format.specs.Record.{Record}
use Rattle.pv_law_acts.proofs.ListLemmas.{put-each}
use Rattle.pv_law_acts.specs.Acts.{with_content}
use Rattle.pv_law_acts.specs.Seen.{records_at, memory_at, HoldsAgeless, holdings_in, work_in, WorksAgeless, IsNumberPassed, next_txn_in, next_grant_in}
use Rattle.pv_law_acts.specs.Steps.{NewEntry, NewGrant, NewRecord, NewPlace, MayGrow, as_was, IsStep}
use Rattle.pv_protocol.specs.State.{Setup, Site, Running, Grant, Entry, Placed}
use Rattle.pv_protocol.specs.World.{World, site_at, no_site}

-- A site that is up is one of the world's.
up-listed : (sites : List Site) (n : ℕ) (running : Running) → (get_or sites n no_site).running ≡ Some running → n < length sites
up-listed [] n running is = absurd (none-some _ is)
up-listed (first ∷ sites) zero running is = omega arith
up-listed (first ∷ sites) (suc n) running is = let rest : n < length sites = up-listed sites n running is in omega (arith, rest)

pub up-within : (world : World) (n : ℕ) (running : Running) → memory_at world n ≡ Some running → n < length world.sites
up-within world n running is = up-listed world.sites n running is

pub changed-site : (world : World) (n : ℕ) (records : List Record) (memory : Option Running) → n < length world.sites
    → site_at (with_content world n records memory) n ≡ record (site_at world n) { records = records; running = memory }
changed-site world n records memory within = get_or-set_same world.sites n _ no_site within

module _ (setup : Setup) (w : World) (n : ℕ) (records : List Record) (memory : Option Running) (order : List Placed) where
  -- the world after it
  abbrev pub V : World
  V = record (with_content w n records memory) { order = order }

  -- What is to be shown of a step that changes this site.
  pub record IsSiteStep : Type 0 where
    pub entries : (txn : TxnId) (entry : Entry) → work_in memory txn ≡ Some entry → WorksAgeless w n txn entry ⊎ NewEntry setup w V n txn entry
    pub grants : (grant : Grant) → Contains (holdings_in memory) grant → HoldsAgeless w n grant ⊎ NewGrant setup w V n grant
    pub more : MayGrow setup w V (NewRecord setup w V n) (records_at w n) records
    pub places : MayGrow setup w V (NewPlace setup w V) w.order order
    pub txns : (epoch number : ℕ) → IsNumberPassed (records_at w n) (next_txn_in (memory_at w n)) epoch number → IsNumberPassed records (next_txn_in memory) epoch number
    pub ids : (epoch number : ℕ) → IsNumberPassed (records_at w n) (next_grant_in (memory_at w n)) epoch number → IsNumberPassed records (next_grant_in memory) epoch number

  pub site-step : IsSiteStep → IsStep setup w V
  site-step is = record {
    entries = put-each (λ k (s : Site). (txn : TxnId) (entry : Entry) → work_in s.running txn ≡ Some entry → WorksAgeless w k txn entry ⊎ NewEntry setup w V k txn entry)
        w.sites n _ is.entries (λ k txn entry here. inl here);
    grants = put-each (λ k (s : Site). (grant : Grant) → Contains (holdings_in s.running) grant → HoldsAgeless w k grant ⊎ NewGrant setup w V k grant)
        w.sites n _ is.grants (λ k grant here. inl here);
    records = put-each (λ k (s : Site). MayGrow setup w V (NewRecord setup w V k) (records_at w k) s.records)
        w.sites n _ is.more (λ k. as_was refl);
    sent = as_was refl;
    order = is.places;
    txns = λ txn. put-each (λ k (s : Site). (epoch number : ℕ) → IsNumberPassed (records_at w k) (next_txn_in (memory_at w k)) epoch number → IsNumberPassed s.records (next_txn_in s.running) epoch number)
        w.sites n _ is.txns (λ k epoch number passed. passed) txn.site.0 txn.epoch txn.number;
    ids = λ k id. put-each (λ k (s : Site). (epoch number : ℕ) → IsNumberPassed (records_at w k) (next_grant_in (memory_at w k)) epoch number → IsNumberPassed s.records (next_grant_in s.running) epoch number)
        w.sites n _ is.ids (λ k epoch number passed. passed) k id.epoch id.number;
  }
