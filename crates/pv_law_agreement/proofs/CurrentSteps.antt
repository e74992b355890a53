-- Each step keeps that what was reported with a grant is current while the grant stands.
use Rattle.std.proofs.Common.{◌≡◌, ⊎_elim, ℕ, ℤ, pos, false, Some, None, Option, List, [], ◌∷◌, map, refl, sym, ap, subst, ◌∙◌}
use Rattle.std.specs.Prelude.{IsSome, is_some, if◌then◌else◌}
use Rattle.std.specs.List.{Contains}
use Rattle.std.specs.Option.{unwrap_or}
use Rattle.std.proofs.lemmas.Bool.{false_from_ne_true, false≢true, or_left}
use Rattle.std.proofs.lemmas.List.Elements.{Contains-append_right}
use Rattle.pv_base.proofs.ContainsLemmas.{Contains-first}
use Rattle.pv_base.proofs.MapLemmas.{Contains-unmap, map-map}
use Rattle.pv_base.specs.Assignment.{commits}
use Rattle.pv_base.specs.Polyvalue.{Case}
use Rattle.pv_base.specs.Want.{Want}
use Rattle.pv_base.specs.declared.grant.GrantId.{GrantId}
use Rattle.pv_base.specs.declared.txn.TxnId.{TxnId}
use Rattle.pv_format.specs.Message.{granted}
use Rattle.pv_format.specs.Record.{Record, epoch_begun, prepared, outcome_known}
use Rattle.pv_law_acts.specs.Guards.{MaySendGranted}
use Rattle.pv_law_acts.specs.Seen.{records_at, HoldsAgeless, Sent, IsGrantPassed}
use Rattle.pv_law_acts.specs.Steps.{NewPromise, NewRecord, MayGrow, as_was, one_more, IsStep}
use Rattle.pv_law_acts.proofs.RecordLemmas.{listed-prepared}
use Rattle.pv_law_acts.proofs.StepLemmas.{promise-stays, sent-either}
use Rattle.pv_law_agreement.proofs.WriteLemmas.{made, made-of, exclusive-assigned, named-wanted, assigns-names, written-listed}
use Rattle.pv_law_agreement.specs.Grounds.{HasGrounds}
use Rattle.pv_law_agreement.specs.Serialized.{AreCurrent, IsSerialized}
use Rattle.pv_law_step.proofs.ShownLemmas.{if-same, shown-value}
use Rattle.pv_law_values.proofs.ChoiceLemmas.{heeds-front}
use Rattle.pv_law_values.proofs.NewestLemmas.{item-more}
use Rattle.pv_law_values.specs.Heeds.{Heeds}
use Rattle.pv_model.specs.Alternatives.{Read, number_at}
use Rattle.pv_model.specs.Plan.{want_of, wants_of}
use Rattle.pv_model.specs.ProgramLaws.{assigns}
use Rattle.pv_protocol.specs.Records.{is_prepared}
use Rattle.pv_protocol.specs.Shown.{written, written_or, value_after, item_value, shown}
use Rattle.pv_protocol.specs.State.{Setup, Grant}
use Rattle.pv_protocol.specs.World.{World}

-- What is read of a list that a function makes for some wants.
made-for : (f : ℕ → List (Case ℤ)) (item : ℕ) (wants : List Want) (cases : List (Case ℤ))
    → written item (map (λ (w : Want). record { item = w.item; cases = f w.item }) wants) ≡ Some cases → (cases ≡ f item) × Contains (map (λ (w : Want). w.item) wants) item
made-for f item wants cases is =
    made-of f item (map (λ (w : Want). w.item) wants) cases
    (ap (written item) (map-map (λ (k : ℕ). made f k) (λ (w : Want). w.item) wants) ∙ is)

-- what isn't there
not-some : {X : Type 0} (o : Option X) → (IsSome o → ⊥) → o ≡ None
not-some None h = refl
not-some (Some x) h = absurd (h refl)

module _ (setup : Setup) (w v : World) (step : IsStep setup w v) (grounds : HasGrounds setup w) where
  -- What isn't prepared after a step wasn't before.
  pub unprepared-before : (n : ℕ) (txn : TxnId) → is_prepared (records_at v n) txn ≡ false → is_prepared (records_at w n) txn ≡ false
  unprepared-before n txn unprepared = false_from_ne_true (is_prepared (records_at w n) txn) (λ is. false≢true (sym unprepared ∙ promise-stays setup w v step n txn is))

  -- Whoever promises a write of an item holds it, and so nobody else does.
  pub held-unwritten : (n : ℕ) (txn other : TxnId) (writes : List Read) (grant : Grant) (item : ℕ) → HoldsAgeless w n grant → grant.txn ≡ txn → Contains (map (λ (want : Want). want.item) grant.wants) item
      → NewPromise setup w v n other writes → (txn ≡ other → ⊥) → IsSome (written item writes) → ⊥
  held-unwritten n txn other writes grant item holds of wanted new apart some =
      let asked = grounds.asked _ n other new.id writes new.may.asked in
      let assigned = exclusive-assigned setup.catalog.items asked.placed.program n item (subst (λ xs. Contains xs item) asked.items (written-listed item writes some)) in
      let own : Grant = record { txn = other; id = new.id; wants = new.wants; age = 0 } in
      let own_wants : new.wants ≡ wants_of asked.placed.program setup.catalog.items n = grounds.wants n asked.placed own asked.in_order new.may.holds (sym asked.is) in
      let want = Contains-unmap (λ (want : Want). want.item) grant.wants item wanted in
      grounds.compatible n own grant new.may.holds holds (λ same. apart (sym of ∙ sym same)) (want_of asked.placed.program item) want.0
      (subst (λ ws. Contains ws (want_of asked.placed.program item)) (sym own_wants)
      (named-wanted setup.catalog.items asked.placed.program n item assigned.home (assigns-names asked.placed.program item assigned.assigned)))
      want.1.0
      (sym want.1.1)
      (or_left (assigns asked.placed.program item) want.0.exclusive assigned.assigned)

  module _ (n : ℕ) (txn : TxnId) (grant : Grant) (item : ℕ) (holds : HoldsAgeless w n grant) (of : grant.txn ≡ txn) (wanted : Contains (map (λ (want : Want). want.item) grant.wants) item)
      (unprepared : is_prepared (records_at v n) txn ≡ false) (a : List TxnId) where
    unwritten : (other : TxnId) (writes : List Read) → Contains (records_at v n) (prepared other writes) → NewPromise setup w v n other writes → written item writes ≡ None
    unwritten other writes listed new =
        not-some (written item writes)
        (held-unwritten n txn other writes grant item holds of wanted new
        (λ same. false≢true (sym unprepared ∙ listed-prepared (records_at v n) txn writes (subst (λ t. Contains (records_at v n) (prepared t writes)) (sym same) listed))))

    after-one : (old : ℤ) (r : Record) → Contains (records_at v n) r → NewRecord setup w v n r → value_after item a old r ≡ old
    after-one old (epoch_begun epoch) listed new = refl
    after-one old (prepared other writes) listed new =
        ap (λ o. if commits a other then written_or old o a else old) (unwritten other writes listed new) ∙ if-same (commits a other) old
    after-one old (outcome_known other outcome) listed new = refl

    value-by : MayGrow setup w v (NewRecord setup w v n) (records_at w n) (records_at v n) → Heeds (records_at v n) a
        → (item_value setup.catalog (records_at v n) item a ≡ item_value setup.catalog (records_at w n) item a) × Heeds (records_at w n) a
    value-by (as_was same) heeds = (ap (λ rs. item_value setup.catalog rs item a) same, subst (λ rs. Heeds rs a) same heeds)
    value-by (one_more r is same) heeds =
        let with_it = subst (λ rs. Heeds rs a) same heeds in (
          ap (λ rs. item_value setup.catalog rs item a) same
              ∙ item-more setup.catalog (records_at w n) r item a with_it
              ∙ after-one (item_value setup.catalog (records_at w n) item a) r
              (subst (λ rs. Contains rs r) (sym same) (Contains-append_right (records_at w n) (r ∷ []) r (Contains-first r []))) is,
          heeds-front (records_at w n) (r ∷ []) a with_it,
        )

  reported-new : (from to : ℕ) (txn : TxnId) (id : GrantId) (values : List Read) → MaySendGranted setup w from to txn id values → is_prepared (records_at v from) txn ≡ false
      → AreCurrent setup v from values
  reported-new from to txn id values may unprepared a heeds item cases wrote =
      let made = made-for (shown setup.catalog (records_at w from)) item may.wants cases (subst (λ vs. written item vs ≡ Some cases) may.shown_now wrote) in
      let stays = value-by from txn (record { txn = txn; id = id; wants = may.wants; age = 0 }) item may.holds refl made.1 unprepared a (step.records from) heeds in
      ap (λ cs. number_at cs a) made.0
      ∙ ap (λ o. unwrap_or o (pos 0)) (shown-value setup.catalog (records_at w from) (records_at w from) item a)
      ∙ sym stays.0

  module _ (before : IsSerialized setup w) where
    reported-old : (from to : ℕ) (txn : TxnId) (id : GrantId) (values : List Read) → Sent w from to (granted txn id values) → (grant : Grant) → HoldsAgeless w from grant → grant.txn ≡ txn → grant.id ≡ id
        → is_prepared (records_at v from) txn ≡ false → AreCurrent setup v from values
    reported-old from to txn id values sent grant holds of is unprepared a heeds item cases wrote =
        let wanted = subst (λ xs. Contains xs item) (grounds.reported from to txn id values sent grant holds of is) (written-listed item values (ap is_some wrote)) in
        let stays = value-by from txn grant item holds of wanted unprepared a (step.records from) heeds in
        before.reported from to txn id values sent grant holds of is (unprepared-before from txn unprepared) a stays.1 item cases wrote ∙ sym stays.0

    pub current-kept : (from to : ℕ) (txn : TxnId) (id : GrantId) (values : List Read) → Sent v from to (granted txn id values) → (grant : Grant) → HoldsAgeless v from grant → grant.txn ≡ txn → grant.id ≡ id
        → is_prepared (records_at v from) txn ≡ false → AreCurrent setup v from values
    current-kept from to txn id values sent grant holds of is unprepared =
        ⊎_elim
        (λ old. ⊎_elim
        (λ held. reported-old from to txn id values old grant held of is unprepared)
        (λ new. absurd (new.fresh (subst (IsGrantPassed w from) (sym is) (grounds.granted_passed from to txn id values old))))
        (step.grants from grant holds))
        (λ new. reported-new from to txn id values new unprepared)
        (sent-either setup w v step from to (granted txn id values) sent)
