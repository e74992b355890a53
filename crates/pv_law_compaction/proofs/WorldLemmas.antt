-- What is committed, open and shown in a world whose sites keep fewer records.
use Rattle.std.proofs.Common.{◌≡◌, ⊎_elim, ℕ, Bool, true, false, ◌&&◌, ◌||◌, not, Some, None, Option, List, inl, inr, refl, sym, ap, subst, ◌∙◌}
use Rattle.std.specs.Prelude.{IsTrue, is_some, slice_get}
use Rattle.std.specs.List.{Contains, list_any, list_all}
use Rattle.std.proofs.lemmas.Bool.{and_parts, and_from, eq-eqb, false≢true, false_from_ne_true}
use Rattle.std.proofs.lemmas.Map.Views.{any-filter_same}
use Rattle.std.proofs.lemmas.Option.{none-some}
use Rattle.pv_base.proofs.AssignmentLemmas.{same-eq}
use Rattle.pv_base.proofs.MapLemmas.{Contains-unmap}
use Rattle.pv_base.specs.Assignment.{is_same_txn, commits, AgreeOn}
use Rattle.pv_base.specs.Catalog.{Item}
use Rattle.pv_base.specs.declared.txn.TxnId.{TxnId}
use Rattle.pv_law_acts.proofs.ListLemmas.{any-listed, listed-any}
use Rattle.pv_law_acts.proofs.RecordLemmas.{known-listed}
use Rattle.pv_law_acts.specs.Guards.{HasOutcome}
use Rattle.pv_law_acts.specs.Seen.{records_at, memory_at, ageless_entry, IsDead}
use Rattle.pv_law_compaction.proofs.KnownLemmas.{listed-known}
use Rattle.pv_law_compaction.proofs.ReadLemmas.{prepared-same, yes-same}
use Rattle.pv_law_compaction.specs.Given.{is_given, AreConsistent}
use Rattle.pv_law_compaction.specs.Worlds.{IsKeptOf, HasGivenOrder, given_part}
use Rattle.pv_law_outcomes.proofs.OpenLemmas.{open-from}
use Rattle.pv_law_outcomes.specs.Decided.{AreDecided}
use Rattle.pv_law_values.proofs.SerialLemmas.{serial-alike}
use Rattle.pv_law_values.specs.Heeds.{Heeds}
use Rattle.pv_model.specs.Meaning.{Row, value_in}
use Rattle.pv_model.specs.Serial.{Ordered, declared_rows, serial, txns}
use Rattle.pv_protocol.specs.Agreement.{Agrees}
use Rattle.pv_protocol.specs.Committed.{home_of, is_committed, grants_of, entry_in, entry_of, is_grant, is_bound, is_open, IsOpen, Fits, is_readable, programs_of, serial_rows}
use Rattle.pv_protocol.specs.Lock.{is_home, is_of_site}
use Rattle.pv_protocol.specs.Records.{known, is_prepared}
use Rattle.pv_protocol.specs.Shown.{item_value}
use Rattle.pv_protocol.specs.State.{Setup, Entry, Placed, TakenGrant}
use Rattle.pv_protocol.specs.World.{World}

-- Of an assignment's part that is of given transactions these commit as before, and no others.
pub commits-given : (a : List TxnId) (t : TxnId) → commits (given_part a) t ≡ (is_given t && commits a t)
commits-given a t = any-filter_same (λ u. is_same_txn u t) is_given (is_given t) (λ u same. ap is_given (same-eq {t = u} {u = t} same)) a

given-alike : (a : List TxnId) → AgreeOn is_given a (given_part a)
given-alike a = λ t given. sym (commits-given a t ∙ ap (λ test. test && commits a t) given)

-- In a world in which what is known is decided.
module _ (all : World) (decided : AreDecided all) where
  one-of-two : (t : TxnId) (b c : Bool) → HasOutcome all t b → HasOutcome all t c → c ≡ b
  one-of-two t true true is other = refl
  one-of-two t false false is other = refl
  one-of-two t true false is other = absurd (false≢true (sym other.uncommitted ∙ is))
  one-of-two t false true is other = absurd (false≢true (sym is.uncommitted ∙ other))

  all-consistent : (n : ℕ) → AreConsistent (records_at all n)
  all-consistent n t b h =
      let found = listed-known (records_at all n) t b h in
      found.1
      ∙ ap Some (one-of-two t b found.0 (decided.known n t b h) (decided.known n t found.0 (known-listed (records_at all n) t found.0 found.1)))

  -- What fits has every outcome that is known.
  all-heeded : (a : List TxnId) → Fits all a → (n : ℕ) → Heeds (records_at all n) a
  all-heeded a fits n t true is = fits.whole t (decided.known n t true (known-listed (records_at all n) t true is))
  all-heeded a fits n t false is =
      let dead : IsDead all t = decided.known n t false (known-listed (records_at all n) t false is) in
      false_from_ne_true (commits a t)
      (λ yes_. ⊎_elim
      (λ committed. false≢true (sym dead.uncommitted ∙ committed))
      (λ open_. none-some _ (sym dead.idle ∙ (open-from all t open_).works))
      (fits.only t yes_))

  -- Of what is worked on no site knows the outcome.
  works-unknown : (t : TxnId) → is_some (entry_of all t) ≡ true → (n : ℕ) → known (records_at all n) t ≡ None
  works-unknown t works n = by (entry_of all t) refl (known (records_at all n) t) refl where
    by : (entry : Option Entry) → entry_of all t ≡ entry → (outcome : Option Bool) → known (records_at all n) t ≡ outcome → known (records_at all n) t ≡ None
    by None none outcome is = absurd (false≢true (sym (ap is_some none) ∙ works))
    by (Some entry) there None is = is
    by (Some entry) there (Some true) is =
        absurd (false≢true (sym (decided.working (home_of t) t (record entry { age = 0 }) (ap ageless_entry there)) ∙ decided.known n t true (known-listed (records_at all n) t true is)))
    by (Some entry) there (Some false) is =
        let dead : IsDead all t = decided.known n t false (known-listed (records_at all n) t false is) in
        absurd (none-some _ (sym dead.idle ∙ ap ageless_entry there))

  module _ (given_order : HasGivenOrder all) where
    committed-given : (t : TxnId) → IsTrue (is_committed all t) → IsTrue (is_given t)
    committed-given t is = let everywhere = decided.committed t is in
        subst (λ (u : TxnId). IsTrue (is_given u)) everywhere.own (given_order everywhere.placed everywhere.in_order)

    placed-given : (t : TxnId) → IsTrue (commits (txns (programs_of all.order)) t) → IsTrue (is_given t)
    placed-given t is =
        let found = any-listed (λ u. is_same_txn u t) (txns (programs_of all.order)) is in
        let ordered = Contains-unmap (λ (entry : Ordered). entry.txn) (programs_of all.order) found.0 found.1.0 in
        let place = Contains-unmap (λ (placed : Placed). record { txn = placed.txn; program = placed.program }) all.order ordered.0 ordered.1.0 in
        subst (λ (u : TxnId). IsTrue (is_given u))
        (ap (λ (entry : Ordered). entry.txn) place.1.1 ∙ ordered.1.1 ∙ same-eq {t = found.0} {u = t} found.1.1)
        (given_order place.0 place.1.0)

    module _ (setup : Setup) (kept : World) (stands : IsKeptOf setup kept all) where
      pub committed-same : (t : TxnId) → IsTrue (is_given t) → is_committed kept t ≡ is_committed all t
      committed-same t given =
          let home = home_of t in
          yes-same setup.held_names setup.catalog home (records_at kept home) (records_at all home) (stands.records home) (all-consistent home) t given refl

      and-alike : (c d e f b g : Bool) → c ≡ d → e ≡ f → (f ≡ true → b ≡ g) → (c && (e && b)) ≡ (d && (f && g))
      and-alike c d e true b g same also rest = ap (λ x. x && (e && b)) same ∙ ap (λ x. d && (x && b)) also ∙ ap (λ x. d && x) (rest refl)
      and-alike c d e false b g same also rest = ap (λ x. x && (e && b)) same ∙ ap (λ x. d && (x && b)) also

      bound-same : (t : TxnId) → IsTrue (is_given t) → is_some (entry_of all t) ≡ true → (taken : TakenGrant) → is_bound kept t taken ≡ is_bound all t taken
      bound-same t given works taken =
          let n = taken.site in
          ap (λ b. b || list_any (is_grant t taken.grant) (grants_of (memory_at kept n)))
          (prepared-same setup.held_names setup.catalog n (records_at kept n) (records_at all n) (stands.records n) t given (works-unknown t works n))
          ∙ ap (λ memory. is_prepared (records_at all n) t || list_any (is_grant t taken.grant) (grants_of memory)) (stands.memory n)

      pub open-same : (placed : Placed) → Contains all.order placed → is_open kept placed ≡ is_open all placed
      open-same placed h =
          let t = placed.txn in
          let given = given_order placed h in
          and-alike (not (is_committed kept t)) (not (is_committed all t)) (is_some (entry_of kept t)) (is_some (entry_of all t))
          (list_all (is_bound kept t) placed.grants) (list_all (is_bound all t) placed.grants)
          (ap not (committed-same t given))
          (ap (λ memory. is_some (entry_in memory t)) (stands.memory (home_of t)))
          (λ works. λ i. list_all (λ taken. bound-same t given works taken i) placed.grants)

      -- What is open with fewer records is open.
      open-was : (t : TxnId) → IsOpen kept t → IsOpen all t
      open-was t is =
          let found = any-listed (λ (placed : Placed). is_same_txn placed.txn t && is_open kept placed) kept.order is in
          let there : Contains all.order found.0 = subst (λ order. Contains order found.0) stands.order found.1.0 in
          let parts = and_parts (is_same_txn found.0.txn t) (is_open kept found.0) found.1.1 in
          listed-any (λ (placed : Placed). is_same_txn placed.txn t && is_open all placed) all.order found.0 there
          (and_from (is_same_txn found.0.txn t) (is_open all found.0) parts.0 (sym (open-same found.0 there) ∙ parts.1))

      pub fits-was : (a : List TxnId) → Fits kept a → Fits all (given_part a)
      fits-was a fits = record {
        whole = λ t is.
            let given = committed-given t is in
            commits-given a t ∙ and_from (is_given t) (commits a t) given (fits.whole t (committed-same t given ∙ is));
        only = λ t is.
            let parts = and_parts (is_given t) (commits a t) (sym (commits-given a t) ∙ is) in
            ⊎_elim (λ committed. inl (sym (committed-same t parts.0) ∙ committed)) (λ open_. inr (open-was t open_)) (fits.only t parts.1);
      }

      -- At what fits each item of a site has the same value.
      pub value-same : (a : List TxnId) → Fits all a → (n item : ℕ) → IsTrue (is_home setup.catalog n item)
          → item_value setup.catalog (records_at kept n) item a ≡ item_value setup.catalog (records_at all n) item a
      value-same a fits n item home = (stands.records n).values item home a (λ t outcome given is. all-heeded a fits n t outcome is)

      of-home : (n : ℕ) (item : Item) → slice_get setup.catalog.items n ≡ Some item → IsTrue (is_home setup.catalog item.site n)
      of-home n item at = subst (λ found. IsTrue (is_of_site item.site found)) (sym at) (eq-eqb item.site item.site refl)

      rows-same : (a : List TxnId) → serial_rows setup all (given_part a) ≡ serial_rows setup kept a
      rows-same a =
          serial-alike (declared_rows setup.catalog) (programs_of all.order) (given_part a) a
          (λ t listed. sym (given-alike a t (placed-given t listed)))
          ∙ ap (λ order. serial (declared_rows setup.catalog) (programs_of order) a) (sym stands.order)

      pub agrees-still : Agrees setup all → Agrees setup kept
      agrees-still agrees a fits n item at readable =
          let home = of-home n item at in
          let was = fits-was a fits in
          (stands.records item.site).given n home a (given_part a) (given-alike a)
          ∙ value-same (given_part a) was item.site n home
          ∙ agrees (given_part a) was n item at (subst (λ memory. IsTrue (is_readable memory n)) (stands.memory item.site) readable)
          ∙ ap (λ (rows : List Row). value_in rows n) (rows-same a)
