-- What the layers of numbers, locks and outcomes keep is what agreement stands on.
use Rattle.std.proofs.Common.{◌≡◌, ℕ, true, List, [], ◌∷◌, map, refl, sym, ap, subst, ◌∙◌}
use Rattle.std.specs.List.{Contains}
use Rattle.std.proofs.lemmas.Bool.{false_from_ne_true}
use Rattle.pv_base.proofs.ContainsLemmas.{Contains-first, Contains-behind}
use Rattle.pv_base.proofs.OrderLemmas.{pairs-nil, pairs-cons}
use Rattle.pv_base.specs.Assignment.{commits}
use Rattle.pv_base.specs.Want.{Want}
use Rattle.pv_base.specs.declared.txn.TxnId.{TxnId}
use Rattle.pv_format.specs.Message.{lock, granted, prepare}
use Rattle.pv_format.specs.Record.{prepared}
use Rattle.pv_law_acts.specs.Passed.{AreNumbersPassed}
use Rattle.pv_law_acts.specs.Seen.{records_at, HoldsAgeless, WorksAgeless, Sent, wants_at}
use Rattle.pv_law_acts.proofs.ListLemmas.{listed-among}
use Rattle.pv_law_agreement.proofs.Lists.{cut-at}
use Rattle.pv_law_agreement.proofs.PlaceLemmas.{Apart, listed-placed}
use Rattle.pv_law_agreement.specs.Grounds.{HasGrounds, IsRightEntry}
use Rattle.pv_law_agreement.specs.Places.{txns_of, AreDistinct}
use Rattle.pv_law_outcomes.specs.Coherent.{AreOnce, IsCoherent}
use Rattle.pv_law_outcomes.proofs.DecidedLemmas.{IsSettled}
use Rattle.pv_law_outcomes.proofs.OutcomeLemmas.{fits-known}
use Rattle.pv_law_outcomes.specs.Decided.{AreDecided}
use Rattle.pv_model.specs.Plan.{participants_of}
use Rattle.pv_protocol.specs.Committed.{home_of}
use Rattle.pv_protocol.specs.Records.{is_prepared}
use Rattle.pv_protocol.specs.State.{Setup, Grant, TakenGrant, Entry, Placed}
use Rattle.pv_protocol.specs.World.{World}

-- Places.

once-behind : (p : Placed) (order : List Placed) → AreOnce (p ∷ order) → AreOnce order
once-behind p order once before after placed other split h = once (p ∷ before) after placed other (ap (λ o. p ∷ o) split) (Contains-behind p before other h)

pub once-distinct : (order : List Placed) → AreOnce order → AreDistinct order
once-distinct [] once = pairs-nil Apart
once-distinct (p ∷ order) once =
    pairs-cons Apart p order
    (λ q h. let cut = cut-at order q h in once (p ∷ cut.front) cut.rest q p (ap (λ o. p ∷ o) cut.split) (Contains-first p cut.front))
    (once-distinct order (once-behind p order once))

module _ (setup : Setup) (w : World) (settled : IsSettled setup w) where
  abbrev passed : AreNumbersPassed w
  passed = settled.sound.passed

  abbrev coherent : IsCoherent setup w
  coherent = settled.sound.right

  abbrev decided : AreDecided w
  decided = settled.decided

  -- What is held was asked for, as the program wants it.
  entry-wants : (n : ℕ) (txn : TxnId) (entry : Entry) → WorksAgeless w n txn entry → (site : ℕ) (grant : Grant) → HoldsAgeless w site grant → grant.txn ≡ txn → grant.wants ≡ wants_at setup entry site
  entry-wants n txn entry works site grant holds of =
      let home : home_of grant.txn ≡ n = ap home_of of ∙ (passed.entries n txn entry works).home in
      let asked = coherent.sent (home_of grant.txn) site (lock grant.txn grant.wants) (coherent.asked site grant holds) in
      (asked.entry entry (subst (λ m. WorksAgeless w m grant.txn entry) (sym home) (subst (λ t. WorksAgeless w n t entry) (sym of) works))).are

  right-entry : (n : ℕ) (txn : TxnId) (entry : Entry) → WorksAgeless w n txn entry → IsRightEntry setup w n txn entry
  right-entry n txn entry works =
      let number = passed.entries n txn entry works in
      let is = coherent.entries n txn entry works in record {
        home = number.home;
        is = number.own;
        uncommitted = decided.working n txn entry works;
        runs = is.runs;
        placed = is.in_order;
        unplaced = λ asks. false_from_ne_true (commits (txns_of w.order) txn) (λ listed.
            let place = listed-placed w.order txn listed in is.unplaced asks place.placed place.listed place.is);
        wants = entry-wants n txn entry works;
        taken = λ taken h. let from = is.taken taken h in record { reported = from.reported; items = from.items };
      }

  whole-place : (placed : Placed) → Contains w.order placed → (site : ℕ) → Contains (participants_of placed.program setup.catalog.items) site
      → (taken : TakenGrant) × Contains placed.grants taken × (taken.site ≡ site)
  whole-place placed in_order site h =
      let part = (coherent.places placed in_order).whole site (listed-among (participants_of placed.program setup.catalog.items) site h) in
      (record { site = site; grant = part.0 }, part.1, refl)

  pub grounds-from : HasGrounds setup w
  grounds-from = record {
    distinct = once-distinct w.order coherent.once;
    whole = whole-place;
    entries = right-entry;
    compatible = coherent.compatible;
    wants = λ n placed grant in_order holds of.
        ((coherent.sent (home_of grant.txn) n (lock grant.txn grant.wants) (coherent.asked n grant holds)).placed placed in_order (sym of)).are;
    reported = λ from to txn id values sent grant holds of is.
        let right = coherent.sent from to (granted txn id values) sent in
        let asked : Sent w to from (lock txn grant.wants) =
        subst (λ m. Sent w m from (lock txn grant.wants)) (ap home_of of ∙ sym right.home) (subst (λ t. Sent w (home_of grant.txn) from (lock t grant.wants)) of (coherent.asked from grant holds)) in
        right.items ∙ ap (λ (ws : List Want). map (λ (want : Want). want.item) ws) (coherent.same_wants to from txn right.wants grant.wants right.asked asked);
    asked = λ from to txn id writes sent.
        let writing = (coherent.sent from to (prepare txn id writes) sent).writing in
        record { placed = writing.placed; in_order = writing.in_order; is = writing.own; took = writing.granted; items = writing.items };
    promised = λ n txn writes listed.
        let writing = (coherent.records n (prepared txn writes) listed).writing in
        record { placed = writing.placed; in_order = writing.in_order; is = writing.own; items = writing.items };
    granted_passed = λ from to txn id values sent. (passed.sent from to (granted txn id values) sent).1;
    taken_passed = λ placed taken in_order h. (passed.order placed in_order).taken taken h;
    held_passed = λ n grant holds. (passed.grants n grant holds).1;
    committed = λ txn is.
        let everywhere = decided.committed txn is in record {
          placed = everywhere.placed;
          in_order = everywhere.in_order;
          is = everywhere.own;
          everywhere = λ site h.
              let part = whole-place everywhere.placed everywhere.in_order site h in
              subst (λ s. is_prepared (records_at w s) txn ≡ true) part.2 (everywhere.prepared part.0 part.1);
        };
    heeded = λ a fits n txn outcome knows. fits-known setup w settled a fits n txn outcome knows;
  }
