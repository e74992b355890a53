-- Each step keeps the sequence of promises.
use Rattle.std.proofs.Common.{◌≡◌, ◌⊎◌, ⊎_elim, ℕ, true, List, [], ◌∷◌, ◌++◌, inl, inr, refl, sym, subst, ◌∙◌}
use Rattle.std.specs.Prelude.{IsSome}
use Rattle.std.specs.List.{Contains}
use Rattle.std.proofs.lemmas.Bool.{false≢true, or_right}
use Rattle.std.proofs.lemmas.List.{append-nil}
use Rattle.std.proofs.lemmas.List.Elements.{Contains-append_cases}
use Rattle.pv_base.proofs.ContainsLemmas.{Contains-nil, Contains-cases}
use Rattle.pv_base.specs.declared.txn.TxnId.{TxnId}
use Rattle.pv_format.specs.Record.{Record, epoch_begun, prepared, outcome_known}
use Rattle.pv_law_acts.specs.Seen.{records_at, HoldsAgeless}
use Rattle.pv_law_acts.specs.Steps.{NewPromise, NewRecord, NewGrant, NewPlace, MayGrow, as_was, one_more, IsStep}
use Rattle.pv_law_agreement.proofs.Lists.{pairs-more, pairs-wider}
use Rattle.pv_law_acts.proofs.RecordLemmas.{listed-prepared}
use Rattle.pv_law_acts.proofs.StepLemmas.{record-either}
use Rattle.pv_law_agreement.proofs.PlaceLemmas.{before-longer, before-last}
use Rattle.pv_law_agreement.proofs.WriteLemmas.{exclusive-assigned, named-wanted, assigns-names, written-listed}
use Rattle.pv_law_agreement.specs.Grounds.{HasGrounds}
use Rattle.pv_law_agreement.specs.Places.{StandsBefore}
use Rattle.pv_law_agreement.specs.Promises.{Precedes, AreInSequence}
use Rattle.pv_law_agreement.specs.Sequence.{IsInSequence}
use Rattle.pv_model.specs.Alternatives.{Read}
use Rattle.pv_model.specs.Plan.{want_of, wants_of}
use Rattle.pv_model.specs.ProgramLaws.{assigns}
use Rattle.pv_protocol.specs.Shown.{written}
use Rattle.pv_protocol.specs.State.{Setup, Grant, Placed}
use Rattle.pv_protocol.specs.World.{World}

-- what a list has grown by
pub growth : {setup : Setup} {w v : World} {X : Type 0} {Is : X → Type 0} {old new : List X} → MayGrow setup w v Is old new → (more : List X) × (new ≡ old ++ more)
growth {old = old} (as_was same) = ([], same ∙ sym (append-nil old))
growth (one_more y is same) = (y ∷ [], same)

module _ (setup : Setup) (w v : World) (step : IsStep setup w v) (grounds : HasGrounds setup w) (before : IsInSequence w) where
  longer : (t u : TxnId) → StandsBefore w.order t u → StandsBefore v.order t u
  longer t u stands = let more = growth step.order in subst (λ o. StandsBefore o t u) (sym more.1) (before-longer w.order more.0 t u stands)

  longer-pairs : (earlier later : Record) → Precedes w.order earlier later → Precedes v.order earlier later
  longer-pairs (prepared t writes) (prepared u others) pair = λ item first second. longer t u (pair item first second)
  longer-pairs (prepared t writes) (epoch_begun epoch) pair = tt
  longer-pairs (prepared t writes) (outcome_known u outcome) pair = tt
  longer-pairs (epoch_begun epoch) later pair = tt
  longer-pairs (outcome_known t outcome) later pair = tt

  -- Whoever promised a write of an item stands before one that promises a write of it now.
  before-new : (n : ℕ) (t u : TxnId) (writes others : List Read) → Contains (records_at w n) (prepared t writes) → NewPromise setup w v n u others
      → (item : ℕ) → IsSome (written item writes) → IsSome (written item others) → StandsBefore w.order t u
  before-new n t u writes others listed new item first second =
      let asked = grounds.asked _ n u new.id others new.may.asked in
      let assigned = exclusive-assigned setup.catalog.items asked.placed.program n item (subst (λ xs. Contains xs item) asked.items (written-listed item others second)) in
      subst (λ z. StandsBefore w.order t z) asked.is
      (before.holders n t writes item listed first asked.placed asked.in_order _ new.may.holds (sym asked.is) asked.took
      (λ same. false≢true (sym new.may.unprepared ∙ listed-prepared (records_at w n) u writes (subst (λ z. Contains (records_at w n) (prepared z writes)) (sym same ∙ asked.is) listed)))
      assigned.assigned)

  pair-new : (n : ℕ) (earlier later : Record) → Contains (records_at w n) earlier → NewRecord setup w v n later → Precedes v.order earlier later
  pair-new n (prepared t writes) (prepared u others) listed new = λ item first second. longer t u (before-new n t u writes others listed new item first second)
  pair-new n (prepared t writes) (epoch_begun epoch) listed new = tt
  pair-new n (prepared t writes) (outcome_known u outcome) listed new = tt
  pair-new n (epoch_begun epoch) later listed new = tt
  pair-new n (outcome_known t outcome) later listed new = tt

  promises-by : (n : ℕ) → MayGrow setup w v (NewRecord setup w v n) (records_at w n) (records_at v n) → AreInSequence v.order (records_at v n)
  promises-by n (as_was same) =
      subst (AreInSequence v.order) (sym same) (pairs-wider (Precedes w.order) (Precedes v.order) (records_at w n) longer-pairs (before.promises n))
  promises-by n (one_more r is same) =
      subst (AreInSequence v.order) (sym same)
      (pairs-more (Precedes v.order) (records_at w n) r (pairs-wider (Precedes w.order) (Precedes v.order) (records_at w n) longer-pairs (before.promises n))
      (λ earlier listed. pair-new n earlier r listed is))

  module _ (n : ℕ) (txn : TxnId) (writes : List Read) (item : ℕ) (some : IsSome (written item writes)) (grant : Grant) where
    -- Whoever promises now is the only one who holds the item.
    not-held : (placed : Placed) → Contains w.order placed → HoldsAgeless w n grant → grant.txn ≡ placed.txn → (placed.txn ≡ txn → ⊥) → assigns placed.program item ≡ true
        → NewPromise setup w v n txn writes → ⊥
    not-held placed in_order holds of other assigns_it new =
        let asked = grounds.asked _ n txn new.id writes new.may.asked in
        let assigned = exclusive-assigned setup.catalog.items asked.placed.program n item (subst (λ xs. Contains xs item) asked.items (written-listed item writes some)) in
        let own : Grant = record { txn = txn; id = new.id; wants = new.wants; age = 0 } in
        let own_wants : new.wants ≡ wants_of asked.placed.program setup.catalog.items n = grounds.wants n asked.placed own asked.in_order new.may.holds (sym asked.is) in
        let wants : grant.wants ≡ wants_of placed.program setup.catalog.items n = grounds.wants n placed grant in_order holds of in
        grounds.compatible n own grant new.may.holds holds (λ same. other (sym of ∙ sym same)) (want_of asked.placed.program item) (want_of placed.program item)
        (subst (λ ws. Contains ws (want_of asked.placed.program item)) (sym own_wants)
        (named-wanted setup.catalog.items asked.placed.program n item assigned.home (assigns-names asked.placed.program item assigned.assigned)))
        (subst (λ ws. Contains ws (want_of placed.program item)) (sym wants)
        (named-wanted setup.catalog.items placed.program n item assigned.home (assigns-names placed.program item assigns_it)))
        refl
        (or_right (assigns asked.placed.program item) (assigns placed.program item) assigns_it)

    held-by-old : Contains (records_at w n) (prepared txn writes) ⊎ NewRecord setup w v n (prepared txn writes) → (placed : Placed) → Contains w.order placed → HoldsAgeless w n grant → grant.txn ≡ placed.txn
        → Contains placed.grants (record { site = n; grant = grant.id }) → (placed.txn ≡ txn → ⊥) → assigns placed.program item ≡ true → StandsBefore v.order txn placed.txn
    held-by-old (inl listed) placed in_order holds of took other assigns_it =
        longer txn placed.txn (before.holders n txn writes item listed some placed in_order grant holds of took other assigns_it)
    held-by-old (inr new) placed in_order holds of took other assigns_it = absurd (not-held placed in_order holds of other assigns_it new)

    -- A promise is of a transaction that had its place before.
    before-last-one : (last : Placed) → v.order ≡ w.order ++ last ∷ [] → Contains (records_at w n) (prepared txn writes) ⊎ NewRecord setup w v n (prepared txn writes) → StandsBefore v.order txn last.txn
    before-last-one last grown_by (inl listed) =
        let is = grounds.promised n txn writes listed in
        subst (λ o. StandsBefore o txn last.txn) (sym grown_by) (subst (λ z. StandsBefore (w.order ++ last ∷ []) z last.txn) is.is (before-last w.order is.placed last is.in_order))
    before-last-one last grown_by (inr new) =
        let is = grounds.asked _ n txn new.id writes new.may.asked in
        subst (λ o. StandsBefore o txn last.txn) (sym grown_by) (subst (λ z. StandsBefore (w.order ++ last ∷ []) z last.txn) is.is (before-last w.order is.placed last is.in_order))

    holder-by : Contains (records_at w n) (prepared txn writes) ⊎ NewRecord setup w v n (prepared txn writes) → HoldsAgeless w n grant ⊎ NewGrant setup w v n grant → (placed : Placed)
        → grant.txn ≡ placed.txn → Contains placed.grants (record { site = n; grant = grant.id }) → (placed.txn ≡ txn → ⊥) → assigns placed.program item ≡ true
        → MayGrow setup w v (NewPlace setup w v) w.order v.order → Contains v.order placed → StandsBefore v.order txn placed.txn
    holder-by promise (inl holds) placed of took other assigns_it (as_was same) in_order =
        held-by-old promise placed (subst (λ o. Contains o placed) same in_order) holds of took other assigns_it
    holder-by promise (inr new) placed of took other assigns_it (as_was same) in_order =
        absurd (new.fresh (grounds.taken_passed placed _ (subst (λ o. Contains o placed) same in_order) took))
    holder-by promise held placed of took other assigns_it (one_more last is same) in_order =
        ⊎_elim
        (λ old. ⊎_elim
        (λ holds. held-by-old promise placed old holds of took other assigns_it)
        (λ new. absurd (new.fresh (grounds.taken_passed placed _ old took)))
        held)
        (λ at_end. ⊎_elim
        (λ here. subst (λ p. StandsBefore v.order txn p.txn) here (before-last-one last same promise))
        (λ none. absurd (Contains-nil placed none))
        (Contains-cases last [] placed at_end))
        (Contains-append_cases w.order (last ∷ []) placed (subst (λ o. Contains o placed) same in_order))

  pub sequence-kept : IsInSequence v
  sequence-kept = record {
    promises = λ n. promises-by n (step.records n);
    holders = λ n txn writes item listed some placed in_order grant holds of took other assigns_it.
        holder-by n txn writes item some grant (record-either setup w v step n (prepared txn writes) listed) (step.grants n grant holds) placed of took other assigns_it step.order in_order;
  }
