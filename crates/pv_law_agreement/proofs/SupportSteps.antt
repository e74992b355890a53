-- Each step keeps that no value depends on a transaction that isn't in the order.
use Rattle.std.proofs.Common.{◌≡◌, ⊎_elim, ℕ, Bool, true, List, [], ◌∷◌, map, sym, subst}
use Rattle.std.specs.Prelude.{All}
use Rattle.std.specs.List.{Contains, flat_map}
use Rattle.std.proofs.lemmas.List.Elements.{All-contains, Contains-append_cases}
use Rattle.pv_base.proofs.ContainsLemmas.{Contains-first, Contains-behind, Contains-nil}
use Rattle.pv_base.proofs.MapLemmas.{Contains-unmap}
use Rattle.pv_base.specs.Assignment.{commits}
use Rattle.pv_base.specs.Polyvalue.{DependsOnlyOn}
use Rattle.pv_base.specs.Want.{Want}
use Rattle.pv_base.specs.declared.grant.GrantId.{GrantId}
use Rattle.pv_base.specs.declared.txn.TxnId.{TxnId}
use Rattle.pv_format.specs.Message.{granted, prepare}
use Rattle.pv_format.specs.Record.{Record, epoch_begun, prepared, outcome_known}
use Rattle.pv_law_acts.specs.Guards.{MaySendGranted, MaySendPrepare}
use Rattle.pv_law_acts.specs.Seen.{records_at}
use Rattle.pv_law_acts.specs.Steps.{NewEntry, has_begun, has_taken, is_placed, has_counted, IsStep}
use Rattle.pv_law_agreement.proofs.PlaceLemmas.{placed-listed, listed-placed}
use Rattle.pv_law_acts.proofs.StepLemmas.{sent-either, record-either, place-stays}
use Rattle.pv_law_agreement.specs.Grounds.{HasGrounds}
use Rattle.pv_law_agreement.specs.Places.{txns_of}
use Rattle.pv_law_agreement.specs.Supported.{AreOfOrder, IsSupported}
use Rattle.pv_law_step.proofs.Kept.{with-taken-all}
use Rattle.pv_law_step.proofs.Lists.{all-from}
use Rattle.pv_law_values.proofs.SupportLemmas.{shown-fixed, new-fixed}
use Rattle.pv_law_values.specs.Fixed.{AreFixedBy, IsRecordFixedBy}
use Rattle.pv_model.specs.Alternatives.{Read}
use Rattle.pv_protocol.specs.Coordinate.{reads_of, new_value}
use Rattle.pv_protocol.specs.Shown.{shown}
use Rattle.pv_protocol.specs.State.{Setup, Taken, Entry}
use Rattle.pv_protocol.specs.World.{World}

-- What depends on a set depends on each wider one.
pub fixed-wider : (set wider : TxnId → Bool) → ((t : TxnId) → set t ≡ true → wider t ≡ true) → (reads : List Read) → AreFixedBy set reads → AreFixedBy wider reads
fixed-wider set wider within reads all =
    all-from (λ (r : Read). DependsOnlyOn wider r.cases) reads
    (λ r h a b agree. All-contains (λ (r : Read). DependsOnlyOn set r.cases) reads r all h a b (λ t in_set. agree t (within t in_set)))

-- What is joined from lists comes from one of them.
pub flat-listed : {X Y : Type 0} (f : X → List Y) (xs : List X) (y : Y) → Contains (flat_map f xs) y → (x : X) × Contains xs x × Contains (f x) y
flat-listed f [] y h = absurd (Contains-nil y h)
flat-listed f (x ∷ xs) y h =
    ⊎_elim
    (λ here. (x, Contains-first x xs, here))
    (λ behind. let found = flat-listed f xs y behind in (found.0, Contains-behind x xs found.0 found.1, found.2))
    (Contains-append_cases (f x) (flat_map f xs) y h)

-- Where all that was taken is fixed, so are the reads.
pub reads-fixed : (set : TxnId → Bool) (entry : Entry) → ((taken : Taken) → Contains entry.taken taken → AreFixedBy set taken.values) → AreFixedBy set (reads_of entry)
reads-fixed set entry each =
    all-from (λ (r : Read). DependsOnlyOn set r.cases) (reads_of entry) (λ r h.
    let found = flat-listed (λ (t : Taken). t.values) entry.taken r h in
    All-contains (λ (r : Read). DependsOnlyOn set r.cases) found.0.values r (each found.0 found.1) found.2)

-- The records of a site depend on the order alone.
pub records-fixed : (setup : Setup) (w : World) → HasGrounds setup w → IsSupported w → (n : ℕ) → All (IsRecordFixedBy (commits (txns_of w.order))) (records_at w n)
records-fixed setup w grounds supported n = all-from (IsRecordFixedBy (commits (txns_of w.order))) (records_at w n) one
  where
    one : (r : Record) → Contains (records_at w n) r → IsRecordFixedBy (commits (txns_of w.order)) r
    one (epoch_begun epoch) h = tt
    one (prepared txn writes) h =
        let is = grounds.promised n txn writes h in
        (subst (λ t. commits (txns_of w.order) t ≡ true) is.is (placed-listed w.order is.placed is.in_order), supported.promised n txn writes h)
    one (outcome_known txn outcome) h = tt

module _ (setup : Setup) (w v : World) (step : IsStep setup w v) (grounds : HasGrounds setup w) (before : IsSupported w) where
  -- A transaction that has its place keeps it.
  pub still-placed : (t : TxnId) → commits (txns_of w.order) t ≡ true → commits (txns_of v.order) t ≡ true
  still-placed t listed =
      let place = listed-placed w.order t listed in
      subst (λ u. commits (txns_of v.order) u ≡ true) place.is (placed-listed v.order place.placed (place-stays setup w v step place.placed place.listed))

  wider : (reads : List Read) → AreOfOrder w reads → AreOfOrder v reads
  wider reads fixed = fixed-wider (commits (txns_of w.order)) (commits (txns_of v.order)) still-placed reads fixed

  -- What is reported now.
  reported-new : (from to : ℕ) (txn : TxnId) (id : GrantId) (values : List Read) → MaySendGranted setup w from to txn id values → AreOfOrder w values
  reported-new from to txn id values may =
      let show : Want → Read = λ (want : Want). record { item = want.item; cases = shown setup.catalog (records_at w from) want.item } in
      subst (AreOfOrder w) (sym may.shown_now)
      (all-from (λ (r : Read). DependsOnlyOn (commits (txns_of w.order)) r.cases) (map show may.wants) (λ r h.
      let found = Contains-unmap show may.wants r h in
      subst (λ (r : Read). DependsOnlyOn (commits (txns_of w.order)) r.cases) found.1.1
      (shown-fixed (commits (txns_of w.order)) setup.catalog (records_at w from) found.0.item (records-fixed setup w grounds before from))))

  -- What is asked for now.
  pub asked-new : (from to : ℕ) (txn : TxnId) (id : GrantId) (writes : List Read) → MaySendPrepare setup w from to txn id writes → AreOfOrder w writes
  asked-new from to txn id writes may =
      let write : ℕ → Read = λ item. record { item = item; cases = new_value (records_at w from) may.entry item } in
      subst (AreOfOrder w) (sym may.computed)
      (all-from (λ (r : Read). DependsOnlyOn (commits (txns_of w.order)) r.cases) (map write _) (λ r h.
      let found = Contains-unmap write _ r h in
      subst (λ (r : Read). DependsOnlyOn (commits (txns_of w.order)) r.cases) found.1.1
      (new-fixed (commits (txns_of w.order)) (records_at w from) may.entry
      (reads-fixed (commits (txns_of w.order)) may.entry (λ taken listed. before.taken from txn may.entry may.works taken listed)) found.0)))

  taken-new : (n : ℕ) (txn : TxnId) (entry : Entry) → NewEntry setup w v n txn entry → (taken : Taken) → Contains entry.taken taken → AreOfOrder w taken.values
  taken-new n txn _ (has_begun program home fresh given runs) taken listed = absurd (Contains-nil taken listed)
  taken-new n txn _ (has_taken entry new works may) taken listed =
      All-contains (λ (t : Taken). AreOfOrder w t.values) _ taken
      (with-taken-all (λ (t : Taken). AreOfOrder w t.values) _ entry.taken (before.reported new.site n txn new.grant new.values may.reported)
      (all-from (λ (t : Taken). AreOfOrder w t.values) entry.taken (λ t h. before.taken n txn entry works t h)))
      listed
  taken-new n txn _ (is_placed entry works may grown_by) taken listed = before.taken n txn entry works taken listed
  taken-new n txn _ (has_counted entry from works may) taken listed = before.taken n txn entry works taken listed

  pub support-kept : IsSupported v
  support-kept = record {
    reported = λ from to txn id values sent. wider values (⊎_elim (λ old. before.reported from to txn id values old) (λ new. reported-new from to txn id values new) (sent-either setup w v step from to (granted txn id values) sent));
    taken = λ n txn entry works taken listed. wider taken.values
        (⊎_elim (λ old. before.taken n txn entry old taken listed) (λ new. taken-new n txn entry new taken listed) (step.entries n txn entry works));
    asked = λ from to txn id writes sent. wider writes (⊎_elim (λ old. before.asked from to txn id writes old) (λ new. asked-new from to txn id writes new) (sent-either setup w v step from to (prepare txn id writes) sent));
    promised = λ n txn writes listed. wider writes
        (⊎_elim (λ old. before.promised n txn writes old) (λ new. before.asked _ n txn new.id writes new.may.asked) (record-either setup w v step n (prepared txn writes) listed));
  }
