-- A world where one site is changed, and changed again.
use Rattle.std.proofs.Common.{◌≡◌, ℕ, zero, suc, ◌<◌, Bool, Option, List, [], ◌∷◌, length, refl, sym, ap, ◌∙◌}
use Rattle.std.specs.Prelude.{get_or, set}
use Rattle.std.proofs.lemmas.List.{length-set, set-get_or}
use Rattle.pv_format.specs.Message.{Envelope}
use Rattle.pv_format.specs.Record.{Record}
use Rattle.pv_law_acts.proofs.SiteLemmas.{changed-site}
use Rattle.pv_law_acts.specs.Acts.{with_content, HasNoMore, HasNothingNew}
use Rattle.pv_law_acts.specs.Seen.{records_at, memory_at}
use Rattle.pv_protocol.specs.State.{Site, Running, Placed}
use Rattle.pv_protocol.specs.World.{World, site_at, no_site}

-- what holds of each site and itself, where one is put into both lists
put-both : (P : ℕ → Site → Site → Type 0) (sites : List Site) (k : ℕ) (one other : Site) → P k one other
    → ((n : ℕ) → P n (get_or sites n no_site) (get_or sites n no_site)) → (n : ℕ) → P n (get_or (set sites k one) n no_site) (get_or (set sites k other) n no_site)
put-both P [] k one other new old n = old n
put-both P (first ∷ sites) zero one other new old zero = new
put-both P (first ∷ sites) zero one other new old (suc n) = old (suc n)
put-both P (first ∷ sites) (suc k) one other new old zero = old zero
put-both P (first ∷ sites) (suc k) one other new old (suc n) = put-both (λ m. P (suc m)) sites k one other new (λ m. old (suc m)) n

set-twice : (sites : List Site) (k : ℕ) (one other : Site) → set (set sites k one) k other ≡ set sites k other
set-twice [] k one other = refl
set-twice (first ∷ sites) zero one other = refl
set-twice (first ∷ sites) (suc k) one other = ap (λ (all : List Site). first ∷ all) (set-twice sites k one other)

pub no-more-itself : (memory : Option Running) → HasNoMore memory memory
no-more-itself memory = record { txns = refl; ids = refl; entries = λ txn entry is. is; grants = λ grant h. h }

-- Nothing is new where a site is another one, with the same records and no more in memory.
pub nothing-new : (sites : List Site) (n : ℕ) (one other : Site) (sent : List Envelope) (fresh marks : List Bool) (order : List Placed)
    → one.records ≡ other.records → HasNoMore one.running other.running
    → HasNothingNew (record { sites = set sites n one; sent = sent; fresh = fresh; order = order }) (record { sites = set sites n other; sent = sent; fresh = marks; order = order })
nothing-new sites n one other sent fresh marks order records memories = record {
  count = length-set sites n one ∙ sym (length-set sites n other);
  records = put-both (λ k (s t : Site). s.records ≡ t.records) sites n one other records (λ k. refl);
  memories = put-both (λ k (s t : Site). HasNoMore s.running t.running) sites n one other memories (λ k. no-more-itself (get_or sites k no_site).running);
  sent = refl;
  order = refl;
}

module _ (w : World) (n : ℕ) where
  -- the world where the site has these records and this in memory, and this is the order
  abbrev pub At : List Record → Option Running → List Placed → World
  At records memory order = record (with_content w n records memory) { order = order }

  pub own-site : At (records_at w n) (memory_at w n) w.order ≡ w
  own-site = ap (λ (sites : List Site). record w { sites = sites }) (set-get_or w.sites n no_site)

  module _ (within : n < length w.sites) where
    pub at-records : (records : List Record) (memory : Option Running) (order : List Placed) → records_at (At records memory order) n ≡ records
    at-records records memory order = ap (λ (s : Site). s.records) (changed-site w n records memory within)

    pub at-memory : (records : List Record) (memory : Option Running) (order : List Placed) → memory_at (At records memory order) n ≡ memory
    at-memory records memory order = ap (λ (s : Site). s.running) (changed-site w n records memory within)

    -- Changed again, only the last change counts.
    pub at-again : (records : List Record) (memory : Option Running) (order : List Placed) (then_records : List Record) (then_memory : Option Running) (then_order : List Placed)
        → record (with_content (At records memory order) n then_records then_memory) { order = then_order } ≡ At then_records then_memory then_order
    at-again records memory order then_records then_memory then_order =
        ap (λ (sites : List Site). record w { sites = sites; order = then_order })
        (ap (λ (s : Site). set (set w.sites n (record (site_at w n) { records = records; running = memory })) n (record s { records = then_records; running = then_memory }))
        (changed-site w n records memory within)
        ∙ set-twice w.sites n _ _)
