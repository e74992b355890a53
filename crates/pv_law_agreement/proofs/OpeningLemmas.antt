-- Where a run begins, the layers hold of nothing.
use Rattle.std.proofs.Common.{◌≡◌, ⊎_elim, ℕ, zero, suc, Some, List, [], replicate}
use Rattle.std.specs.Prelude.{get_or}
use Rattle.std.specs.List.{Contains}
use Rattle.pv_base.proofs.ContainsLemmas.{Contains-nil, Contains-cases}
use Rattle.pv_base.proofs.OrderLemmas.{pairs-nil, pairs-cons}
use Rattle.pv_base.specs.declared.txn.TxnId.{TxnId}
use Rattle.pv_format.specs.Record.{epoch_begun, prepared}
use Rattle.pv_law_acts.specs.Seen.{records_at, work_in, WorksAgeless}
use Rattle.pv_law_agreement.specs.Promises.{Precedes, AreInSequence}
use Rattle.pv_law_agreement.specs.Sequence.{IsInSequence}
use Rattle.pv_law_agreement.specs.Serialized.{IsSerialized}
use Rattle.pv_law_agreement.specs.Supported.{IsSupported}
use Rattle.pv_model.specs.Alternatives.{Read}
use Rattle.pv_protocol.specs.State.{Setup, Site, Entry}
use Rattle.pv_protocol.specs.World.{no_site, first_site, site_at, opening}

-- Each site is one that was just started, or none.
one-of-two : (P : Site → Type 0) → P first_site → P no_site → (count n : ℕ) → P (get_or (replicate count first_site) n no_site)
one-of-two P first none zero n = none
one-of-two P first none (suc count) zero = first
one-of-two P first none (suc count) (suc n) = one-of-two P first none count n

pub opening-site : (setup : Setup) (P : Site → Type 0) → P first_site → P no_site → (n : ℕ) → P (site_at (opening setup) n)
opening-site setup P first none n = one-of-two P first none setup.catalog.sites n

no-promise : (setup : Setup) (n : ℕ) (txn : TxnId) (writes : List Read) → Contains (records_at (opening setup) n) (prepared txn writes) → ⊥
no-promise setup n txn writes =
    opening-site setup (λ s. Contains s.records (prepared txn writes) → ⊥)
    (λ h. ⊎_elim (λ same. let wrong : ⊥ = cc in wrong) (λ none. Contains-nil (prepared txn writes) none) (Contains-cases (epoch_begun 1) [] (prepared txn writes) h))
    (λ h. Contains-nil (prepared txn writes) h)
    n

no-work : (setup : Setup) (n : ℕ) (txn : TxnId) (entry : Entry) → WorksAgeless (opening setup) n txn entry → ⊥
no-work setup n txn entry =
    opening-site setup (λ s. work_in s.running txn ≡ Some entry → ⊥) (λ h. let wrong : ⊥ = cc in wrong) (λ h. let wrong : ⊥ = cc in wrong) n

pub sequence-opens : (setup : Setup) → IsInSequence (opening setup)
sequence-opens setup = record {
  promises = λ n. opening-site setup (λ s. AreInSequence [] s.records)
      (pairs-cons (Precedes []) (epoch_begun 1) [] (λ y h. absurd (Contains-nil y h)) (pairs-nil (Precedes [])))
      (pairs-nil (Precedes [])) n;
  holders = λ n txn writes item listed some placed in_order grant holds of took other assigns_it. absurd (Contains-nil placed in_order);
}

pub support-opens : (setup : Setup) → IsSupported (opening setup)
support-opens setup = record {
  reported = λ from to txn id values sent. absurd (Contains-nil _ sent);
  taken = λ n txn entry works taken listed. absurd (no-work setup n txn entry works);
  asked = λ from to txn id writes sent. absurd (Contains-nil _ sent);
  promised = λ n txn writes listed. absurd (no-promise setup n txn writes listed);
}

pub values-open : (setup : Setup) → IsSerialized setup (opening setup)
values-open setup = record {
  reported = λ from to txn id values sent grant holds of is unprepared. absurd (Contains-nil _ sent);
  taken = λ n txn entry works votes taken listed. absurd (no-work setup n txn entry works);
  asked = λ from to txn id writes sent. absurd (Contains-nil _ sent);
  promised = λ n txn writes listed. absurd (no-promise setup n txn writes listed);
}
