-- Each step keeps that what is read and written is what the serial run reads and writes.
use Rattle.std.proofs.Common.{◌≡◌, refl, ⊎_elim, ℕ, ℤ, true, false, Some, List, [], ◌∷◌, ◌++◌, sym, ap, subst, ◌∙◌}
use Rattle.std.specs.Prelude.{is_some}
use Rattle.std.specs.List.{Contains}
use Rattle.std.proofs.lemmas.Bool.{false_from_ne_true, false≢true, and_from, or_right}
use Rattle.std.proofs.lemmas.List.{append_assoc}
use Rattle.std.proofs.lemmas.List.Elements.{All-contains, Contains-append_left}
use Rattle.pv_base.proofs.ContainsLemmas.{Contains-nil}
use Rattle.pv_base.proofs.MapLemmas.{Contains-map, Contains-unmap}
use Rattle.pv_base.specs.Assignment.{commits}
use Rattle.pv_base.specs.Polyvalue.{Case, DependsOnlyOn}
use Rattle.pv_base.specs.Want.{Want}
use Rattle.pv_base.specs.declared.grant.GrantId.{GrantId}
use Rattle.pv_base.specs.declared.txn.TxnId.{TxnId}
use Rattle.pv_format.specs.Message.{prepare}
use Rattle.pv_format.specs.Record.{prepared}
use Rattle.pv_law_acts.specs.Acts.{voting_of}
use Rattle.pv_law_acts.specs.Guards.{MayPlace, MaySendPrepare}
use Rattle.pv_law_acts.specs.Seen.{records_at, HoldsAgeless, WorksAgeless, Sent, wants_at, place_in_order, IsGrantPassed}
use Rattle.pv_law_acts.specs.Steps.{NewEntry, has_begun, has_taken, is_placed, has_counted, IsStep}
use Rattle.pv_law_agreement.proofs.AgreementLemmas.{HoldsHere, bound, holds-wants, NonePending, none-pending-agrees}
use Rattle.pv_law_agreement.proofs.CurrentSteps.{current-kept, unprepared-before}
use Rattle.pv_law_acts.proofs.RecordLemmas.{prepared-listed}
use Rattle.pv_law_acts.proofs.StepLemmas.{sent-either, record-either}
use Rattle.pv_law_agreement.proofs.Lists.{cut-at}
use Rattle.pv_law_outcomes.proofs.OpenLemmas.{open-from}
use Rattle.pv_law_outcomes.specs.Decided.{IsBoundBy, is_promised, is_held}
use Rattle.pv_law_agreement.proofs.PlaceLemmas.{one-placed, one-cut, txns-of-programs, placed-listed, listed-placed}
use Rattle.pv_law_agreement.proofs.ReadLemmas.{Contains-at, asked-after}
use Rattle.pv_law_agreement.proofs.SequenceSteps.{growth}
use Rattle.pv_law_agreement.proofs.SupportSteps.{asked-new}
use Rattle.pv_law_agreement.proofs.WriteLemmas.{written-listed, assigns-names, named-wanted}
use Rattle.pv_law_agreement.specs.Falls.{FitsFallBack}
use Rattle.pv_law_agreement.specs.Grounds.{HasGrounds, IsRightEntry}
use Rattle.pv_law_agreement.specs.Orderly.{IsOrderly}
use Rattle.pv_law_agreement.specs.Places.{txns_of, AreDistinct}
use Rattle.pv_law_agreement.specs.Sequence.{IsInSequence}
use Rattle.pv_law_agreement.specs.Serialized.{IsSerialized}
use Rattle.pv_law_agreement.specs.Supported.{AreOfOrder, IsSupported}
use Rattle.pv_law_agreement.specs.Values.{HaveSerialValues, AreBefore, AreAfter}
use Rattle.pv_law_programs.proofs.PlanLemmas.{wants-each}
use Rattle.pv_law_step.proofs.Lists.{of-some}
use Rattle.pv_law_values.proofs.ChoiceLemmas.{commits-among, among-agrees}
use Rattle.pv_law_values.proofs.SerialLemmas.{serial-alike}
use Rattle.pv_law_values.proofs.SupportLemmas.{number-fixed, written-fixed}
use Rattle.pv_law_values.specs.Cut.{among}
use Rattle.pv_model.specs.Alternatives.{Read, number_at}
use Rattle.pv_model.specs.Check.{IsAt, IsWant}
use Rattle.pv_model.specs.Meaning.{Row, value_in}
use Rattle.pv_model.specs.Plan.{want_of}
use Rattle.pv_model.specs.ProgramLaws.{assigns}
use Rattle.pv_model.specs.Serial.{declared_rows, serial, txns}
use Rattle.pv_protocol.specs.Committed.{Fits, IsOpen, programs_of}
use Rattle.pv_protocol.specs.Records.{is_prepared}
use Rattle.pv_protocol.specs.Shown.{written}
use Rattle.pv_protocol.specs.State.{Setup, Stage, locking, voting, Grant, Taken, TakenGrant, Entry, Placed}
use Rattle.pv_protocol.specs.World.{World}

-- A world where these layers hold is orderly.
pub orderly-from : (setup : Setup) (w : World) → HasGrounds setup w → IsInSequence w → IsSerialized setup w → IsOrderly setup w
orderly-from setup w grounds sequence values = record {
  distinct = grounds.distinct;
  whole = grounds.whole;
  promised = grounds.promised;
  wants = grounds.wants;
  committed = grounds.committed;
  heeded = grounds.heeded;
  sequence = sequence.promises;
  values = values.promised;
}

-- Who commits and has a place commits in what is cut to the order.
pub among-commits : (txns a : List TxnId) (t : TxnId) → commits txns t ≡ true → commits a t ≡ true → commits (among txns a) t ≡ true
among-commits txns a t listed in_a = commits-among txns a t ∙ and_from (commits txns t) (commits a t) listed in_a

-- Transactions of a front of an order are of the order.
pub front-listed : (order front rest : List Placed) → order ≡ front ++ rest → (t : TxnId) → commits (txns (programs_of front)) t ≡ true → commits (txns_of order) t ≡ true
front-listed order front rest cut t listed =
    let place = listed-placed front t (ap (λ ts. commits ts t) (sym (txns-of-programs front)) ∙ listed) in
    subst (λ u. commits (txns_of order) u ≡ true) place.is
    (placed-listed order place.placed (subst (λ o. Contains o place.placed) (sym cut) (Contains-append_left front rest place.placed place.listed)))

module _ (setup : Setup) (w v : World) (step : IsStep setup w v) (gw : HasGrounds setup w) (gv : HasGrounds setup v) (falls : FitsFallBack w v) where
  -- the assignment as it was before the step
  abbrev cut_to : List TxnId → List TxnId
  cut_to a = among (txns_of w.order) a

  -- A place of a transaction that had its place before is where it was.
  old-cut : (front rest : List Placed) (p : Placed) → v.order ≡ front ++ p ∷ rest → commits (txns_of w.order) p.txn ≡ true → (behind : List Placed) × (w.order ≡ front ++ p ∷ behind)
  old-cut front rest p cut placed =
      let place = listed-placed w.order p.txn placed in
      let was = cut-at w.order place.placed place.listed in
      let more = growth step.order in
      let longer : v.order ≡ was.front ++ place.placed ∷ (was.rest ++ more.0) =
      more.1 ∙ ap (λ o. o ++ more.0) was.split ∙ append_assoc was.front (place.placed ∷ was.rest) more.0 in
      let same = one-cut front rest was.front (was.rest ++ more.0) p place.placed (subst AreDistinct cut gv.distinct) (sym cut ∙ longer) (sym place.is) in
      (was.rest, was.split ∙ (λ i. sym same.0 i ++ sym same.1 i ∷ was.rest))

  serial-stable : (stretch rest : List Placed) → w.order ≡ stretch ++ rest → (reads : List Read) → AreOfOrder w reads → (a : List TxnId) → HaveSerialValues setup.catalog stretch (cut_to a) reads
      → HaveSerialValues setup.catalog stretch a reads
  serial-stable stretch rest cut reads fixed a values item cases wrote =
      let agree = among-agrees (txns_of w.order) a in
      let depends : DependsOnlyOn (commits (txns_of w.order)) cases = of-some (DependsOnlyOn (commits (txns_of w.order))) (written item reads) cases (written-fixed (commits (txns_of w.order)) item reads fixed) wrote in
      number-fixed (commits (txns_of w.order)) cases depends a (cut_to a) (λ t listed. sym (agree t listed))
      ∙ values item cases wrote
      ∙ ap (λ (rows : List Row). value_in rows item)
      (serial-alike (declared_rows setup.catalog) (programs_of stretch) (cut_to a) a (λ t listed. agree t (front-listed w.order stretch rest cut t listed)))

  before-stable : (txn : TxnId) (reads : List Read) → commits (txns_of w.order) txn ≡ true → AreOfOrder w reads → AreBefore setup.catalog w txn reads → AreBefore setup.catalog v txn reads
  before-stable txn reads placed fixed before front rest p cut is a fits in_a =
      let was = old-cut front rest p cut (ap (commits (txns_of w.order)) is ∙ placed) in
      serial-stable front (p ∷ was.0) was.1 reads fixed a (before front was.0 p was.1 is (cut_to a) (falls a fits) (among-commits (txns_of w.order) a txn placed in_a))

  after-stable : (txn : TxnId) (writes : List Read) → commits (txns_of w.order) txn ≡ true → AreOfOrder w writes → AreAfter setup.catalog w txn writes → AreAfter setup.catalog v txn writes
  after-stable txn writes placed fixed after front rest p cut is a fits in_a =
      let was = old-cut front rest p cut (ap (commits (txns_of w.order)) is ∙ placed) in
      serial-stable (front ++ p ∷ []) was.0 (was.1 ∙ sym (append_assoc front (p ∷ []) was.0)) writes fixed a
      (after front was.0 p was.1 is (cut_to a) (falls a fits) (among-commits (txns_of w.order) a txn placed in_a))

  module _ (supported : IsSupported w) (sequence : IsInSequence w) (before : IsSerialized setup w) where
    -- The lock point: what was taken is what the serial run has there.
    module _ (n : ℕ) (txn : TxnId) (entry : Entry) (works : WorksAgeless w n txn entry) (may : MayPlace setup entry) (grown_by : v.order ≡ w.order ++ place_in_order entry ∷ [])
        (now : WorksAgeless v n txn (voting_of entry)) where
      abbrev right : IsRightEntry setup w n txn entry
      right = gw.entries n txn entry works

      unplaced : commits (txns_of w.order) txn ≡ true → ⊥
      unplaced listed = false≢true (sym (right.unplaced may.asks) ∙ listed)

      -- Nobody has promised for it yet.
      unprepared : (s : ℕ) → is_prepared (records_at v s) txn ≡ true → ⊥
      unprepared s is_it =
          let promise = prepared-listed (records_at v s) txn is_it in
          ⊎_elim
          (λ old. let is = gw.promised s txn promise.0 old in unplaced (subst (λ t. commits (txns_of w.order) t ≡ true) is.is (placed-listed w.order is.placed is.in_order)))
          (λ new. let is = gw.asked _ s txn new.id promise.0 new.may.asked in
          unplaced (subst (λ t. commits (txns_of w.order) t ≡ true) is.is (placed-listed w.order is.placed is.in_order)))
          (record-either setup w v step s (prepared txn promise.0) promise.1)

      -- a grant that was taken stands
      record Stands (taken : Taken) : Type 0 where
        grant : Grant
        holds : HoldsAgeless w taken.site grant
        of : grant.txn ≡ txn
        id : grant.id ≡ taken.grant

      was-held : (taken : Taken) → Contains entry.taken taken → (grant : Grant) → HoldsAgeless v taken.site grant → grant.txn ≡ txn → grant.id ≡ taken.grant → Stands taken
      was-held taken listed grant holds of id =
          ⊎_elim
          (λ old. record { grant = grant; holds = old; of = of; id = id })
          (λ new. absurd (new.fresh (subst (IsGrantPassed w taken.site) (sym id) (gw.granted_passed taken.site n txn taken.grant taken.values (right.taken taken listed).reported))))
          (step.grants taken.site grant holds)

      bound-stands : (taken : Taken) → Contains entry.taken taken → IsBoundBy v txn (record { site = taken.site; grant = taken.grant }) → Stands taken
      bound-stands taken listed (is_promised is) = absurd (unprepared taken.site is)
      bound-stands taken listed (is_held wants holds) = was-held taken listed (record { txn = txn; id = taken.grant; wants = wants; age = 0 }) holds refl refl

      open-stands : (taken : Taken) → Contains entry.taken taken → IsOpen v txn → Stands taken
      open-stands taken listed open_it =
          let yet = open-from v txn open_it in
          let there : Contains v.order (place_in_order entry) = subst (λ o. Contains o (place_in_order entry)) (sym grown_by) (Contains-at w.order (place_in_order entry) []) in
          let same : yet.placed ≡ place_in_order entry = one-placed v.order gv.distinct yet.placed (place_in_order entry) yet.in_order there (yet.own ∙ sym right.is) in
          let own : TakenGrant = record { site = taken.site; grant = taken.grant } in
          bound-stands taken listed
          (yet.bound own (subst (λ (p : Placed). Contains p.grants own) (sym same) (Contains-map (λ (t : Taken). taken_grant t) entry.taken taken listed)))
        where
          taken_grant : Taken → TakenGrant
          taken_grant t = record { site = t.site; grant = t.grant }

      stands : (taken : Taken) → Contains entry.taken taken → (a : List TxnId) → Fits v a → commits a txn ≡ true → Stands taken
      stands taken listed a fits in_a =
          ⊎_elim
          (λ committed. absurd (false≢true (sym (gv.entries n txn (voting_of entry) now).uncommitted ∙ committed)))
          (λ open_it. open-stands taken listed open_it)
          (fits.only txn in_a)

      module _ (taken : Taken) (listed : Contains entry.taken taken) (a : List TxnId) (fits : Fits v a) (in_a : commits a txn ≡ true) (item : ℕ) (cases : List (Case ℤ)) (has : written item taken.values ≡ Some cases) where
        abbrev site : ℕ
        site = taken.site

        abbrev orderly : IsOrderly setup w
        orderly = orderly-from setup w gw sequence before

        -- the want under which it holds the item
        wanted : (want : Want) × Contains (wants_at setup entry site) want × (want.item ≡ item)
        wanted =
            let back = Contains-unmap (λ (want : Want). want.item) (wants_at setup entry site) item
            (subst (λ xs. Contains xs item) (right.taken taken listed).items (written-listed item taken.values (ap is_some has))) in
            (back.0, back.1.0, back.1.1)

        home : IsAt setup.catalog.items item site
        home =
            let is = All-contains (IsWant entry.program setup.catalog.items site) (wants_at setup entry site) wanted.0 (wants-each entry.program setup.catalog.items site) wanted.1 in
            subst (λ k. IsAt setup.catalog.items k site) wanted.2 is.home

        -- Nobody else holds the item exclusively.
        none-holds : (placed : Placed) → Contains w.order placed → assigns placed.program item ≡ true → HoldsHere setup w orderly (cut_to a) (falls a fits) item site home placed → ⊥
        none-holds placed in_order assigns_it there =
            let own = stands taken listed a fits in_a in
            gw.compatible site own.grant there.grant own.holds there.holds
            (λ same. unplaced (subst (λ t. commits (txns_of w.order) t ≡ true) (sym there.of ∙ sym same ∙ own.of) (placed-listed w.order placed in_order)))
            wanted.0 (want_of placed.program item)
            (subst (λ ws. Contains ws wanted.0) (sym (right.wants site own.grant own.holds own.of)) wanted.1)
            (subst (λ ws. Contains ws (want_of placed.program item)) (sym (holds-wants setup w orderly (cut_to a) (falls a fits) item site home placed in_order there))
            (named-wanted setup.catalog.items placed.program site item home (assigns-names placed.program item assigns_it)))
            wanted.2
            (or_right wanted.0.exclusive (assigns placed.program item) assigns_it)

        none-pending : NonePending setup w orderly (cut_to a) (falls a fits) item site home
        none-pending placed in_order committed assigns_it =
            ⊎_elim
            (λ is_it. is_it)
            (λ there. absurd (none-holds placed in_order assigns_it there))
            (bound setup w orderly (cut_to a) (falls a fits) item site home placed in_order committed (assigns-names placed.program item assigns_it))

        -- What was taken is what the serial run of the whole order leaves.
        read-last : number_at cases a ≡ value_in (serial (declared_rows setup.catalog) (programs_of w.order) a) item
        read-last =
            let own = stands taken listed a fits in_a in
            let agree = among-agrees (txns_of w.order) a in
            let reported = (right.taken taken listed).reported in
            let depends : DependsOnlyOn (commits (txns_of w.order)) cases =
            of-some (DependsOnlyOn (commits (txns_of w.order))) (written item taken.values) cases (written-fixed (commits (txns_of w.order)) item taken.values (supported.taken n txn entry works taken listed)) has in
            number-fixed (commits (txns_of w.order)) cases depends a (cut_to a) (λ t is_placed. sym (agree t is_placed))
            ∙ before.reported site n txn taken.grant taken.values reported own.grant own.holds own.of own.id (not-prepared site) (cut_to a) (gw.heeded (cut_to a) (falls a fits) site) item cases has
            ∙ none-pending-agrees setup w orderly (cut_to a) (falls a fits) item site home none-pending
            ∙ ap (λ (rows : List Row). value_in rows item)
            (serial-alike (declared_rows setup.catalog) (programs_of w.order) (cut_to a) a (λ t is_placed. agree t (ap (λ ts. commits ts t) (sym (txns-of-programs w.order)) ∙ is_placed)))
          where
            not-prepared : (s : ℕ) → is_prepared (records_at w s) txn ≡ false
            not-prepared s = unprepared-before setup w v step gw s txn (false_from_ne_true (is_prepared (records_at v s) txn) (unprepared s))

      pub placed-before : (taken : Taken) → Contains entry.taken taken → AreBefore setup.catalog v txn taken.values
      placed-before taken listed front rest p cut is a fits in_a item cases has =
          let same = one-cut front rest w.order [] p (place_in_order entry) (subst AreDistinct cut gv.distinct) (sym cut ∙ grown_by) (is ∙ sym right.is) in
          read-last taken listed a fits in_a item cases has ∙ ap (λ o. value_in (serial (declared_rows setup.catalog) (programs_of o) a) item) (sym same.0)

    taken-old : (n : ℕ) (txn : TxnId) (entry : Entry) → WorksAgeless w n txn entry → entry.stage ≡ voting → (taken : Taken) → Contains entry.taken taken → AreBefore setup.catalog v txn taken.values
    taken-old n txn entry works votes taken listed =
        let is = gw.entries n txn entry works in
        before-stable txn taken.values (subst (λ t. commits (txns_of w.order) t ≡ true) is.is (placed-listed w.order (place_in_order entry) (is.placed votes)))
        (supported.taken n txn entry works taken listed) (before.taken n txn entry works votes taken listed)

    -- An entry that asks for locks doesn't ask for votes.
    not-both : {stage : Stage} → stage ≡ locking → stage ≡ voting → ⊥
    not-both one other = let wrong : ⊥ = cc in wrong

    taken-new : (n : ℕ) (txn : TxnId) (entry : Entry) → NewEntry setup w v n txn entry → WorksAgeless v n txn entry → entry.stage ≡ voting → (taken : Taken) → Contains entry.taken taken → AreBefore setup.catalog v txn taken.values
    taken-new n txn _ (has_begun program own fresh given runs) now votes taken listed = absurd (Contains-nil taken listed)
    taken-new n txn _ (has_taken entry new works may) now votes taken listed = absurd (not-both may.asks votes)
    taken-new n txn _ (is_placed entry works may grown_by) now votes taken listed = placed-before n txn entry works may grown_by now taken listed
    taken-new n txn _ (has_counted entry from works may) now votes taken listed = taken-old n txn entry works votes taken listed

    asked-placed : (from to : ℕ) (txn : TxnId) (id : GrantId) (writes : List Read) → Sent w from to (prepare txn id writes) → commits (txns_of w.order) txn ≡ true
    asked-placed from to txn id writes sent =
        let is = gw.asked from to txn id writes sent in subst (λ t. commits (txns_of w.order) t ≡ true) is.is (placed-listed w.order is.placed is.in_order)

    promised-placed : (n : ℕ) (txn : TxnId) (writes : List Read) → Contains (records_at w n) (prepared txn writes) → commits (txns_of w.order) txn ≡ true
    promised-placed n txn writes listed =
        let is = gw.promised n txn writes listed in subst (λ t. commits (txns_of w.order) t ≡ true) is.is (placed-listed w.order is.placed is.in_order)

    asked-new-after : (from to : ℕ) (txn : TxnId) (id : GrantId) (writes : List Read) → MaySendPrepare setup w from to txn id writes → AreAfter setup.catalog v txn writes
    asked-new-after from to txn id writes may =
        let is = gw.entries from txn may.entry may.works in
        after-stable txn writes (subst (λ t. commits (txns_of w.order) t ≡ true) is.is (placed-listed w.order (place_in_order may.entry) (is.placed may.asks)))
        (asked-new setup w v step gw supported from to txn id writes may) (asked-after setup w gw before from to txn id writes may)

    asked-old : (from to : ℕ) (txn : TxnId) (id : GrantId) (writes : List Read) → Sent w from to (prepare txn id writes) → AreAfter setup.catalog v txn writes
    asked-old from to txn id writes sent =
        after-stable txn writes (asked-placed from to txn id writes sent) (supported.asked from to txn id writes sent) (before.asked from to txn id writes sent)

    pub serialized-kept : IsSerialized setup v
    serialized-kept = record {
      reported = λ from to txn id values sent grant holds of is unprepared. current-kept setup w v step gw before from to txn id values sent grant holds of is unprepared;
      taken = λ n txn entry works votes taken listed.
          ⊎_elim (λ old. taken-old n txn entry old votes taken listed) (λ new. taken-new n txn entry new works votes taken listed) (step.entries n txn entry works);
      asked = λ from to txn id writes sent.
          ⊎_elim (λ old. asked-old from to txn id writes old) (λ new. asked-new-after from to txn id writes new) (sent-either setup w v step from to (prepare txn id writes) sent);
      promised = λ n txn writes listed.
          ⊎_elim
          (λ old. after-stable txn writes (promised-placed n txn writes old) (supported.promised n txn writes old) (before.promised n txn writes old))
          (λ new. asked-old _ n txn new.id writes new.may.asked)
          (record-either setup w v step n (prepared txn writes) listed);
    }
