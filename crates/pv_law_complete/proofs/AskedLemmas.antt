-- What a vote is asked on names only what was taken, in every world that acts lead to.
use Rattle.std.proofs.Common.{◌≡◌, ◌⊎◌, ⊎_elim, inl, inr, ℕ, ℤ, ◌+◌, ◌≤◌, Bool, true, false, ◌||◌, Some, List, [], ◌∷◌, ◌++◌, length, refl, sym, ap, subst, ◌∙◌}
use Rattle.std.specs.Prelude.{◌==◌, IsTrue, IsSome, if◌then◌else◌}
use Rattle.std.specs.List.{Contains, list_any, flat_map}
use Rattle.std.proofs.lemmas.Bool.{or_left, or_right, false≢true}
use Rattle.std.proofs.lemmas.List.{append_assoc}
use Rattle.std.proofs.lemmas.List.Folds.{list_any-append}
use Rattle.pv_base.proofs.Basics.{Some_inj}
use Rattle.pv_base.proofs.ContainsLemmas.{Contains-nil, Contains-cases}
use Rattle.pv_base.specs.Assignment.{is_same_txn, commits}
use Rattle.pv_base.specs.Named.{names_of}
use Rattle.pv_base.specs.Polyvalue.{Case, names}
use Rattle.pv_base.specs.declared.grant.GrantId.{GrantId}
use Rattle.pv_base.specs.declared.txn.TxnId.{TxnId}
use Rattle.pv_format.specs.Message.{prepare}
use Rattle.pv_format.specs.Record.{prepared}
use Rattle.pv_law_acts.proofs.ActSteps.{act-step}
use Rattle.pv_law_acts.proofs.StepLemmas.{sent-either}
use Rattle.pv_law_acts.specs.Acts.{Acts, no_act, one_more}
use Rattle.pv_law_acts.specs.Guards.{MaySendPrepare}
use Rattle.pv_law_acts.specs.Seen.{records_at, HoldsAgeless, WorksAgeless, Sent, wants_at}
use Rattle.pv_law_acts.specs.Steps.{NewEntry, has_begun, has_taken, is_placed, has_counted, IsStep}
use Rattle.pv_law_agreement.proofs.GroundLemmas.{grounds-from}
use Rattle.pv_law_agreement.proofs.PlaceLemmas.{placed-listed}
use Rattle.pv_law_agreement.proofs.RunLemmas.{all-kept}
use Rattle.pv_law_agreement.proofs.WriteLemmas.{made-of, some-value}
use Rattle.pv_law_agreement.specs.Grounds.{HasGrounds}
use Rattle.pv_law_agreement.specs.Places.{txns_of}
use Rattle.pv_law_complete.proofs.WidthLemmas.{promise-few}
use Rattle.pv_law_complete.proofs.Asked.{NameOnly, AskedNameTaken}
use Rattle.pv_law_outcomes.proofs.DecidedLemmas.{always-settled}
use Rattle.pv_law_step.proofs.ComputedLemmas.{new-names}
use Rattle.pv_law_step.proofs.NameLists.{names-listed, undecided-listed}
use Rattle.pv_model.specs.Alternatives.{Read, all_cases}
use Rattle.pv_protocol.specs.Coordinate.{reads_of, names_taken, new_value, exclusive_items}
use Rattle.pv_protocol.specs.Records.{is_prepared}
use Rattle.pv_protocol.specs.Shown.{written, shown}
use Rattle.pv_protocol.specs.State.{Setup, Stage, locking, voting, Taken, Grant, Entry}
use Rattle.pv_protocol.specs.World.{World, opening}

-- What one of the reads names, all together name.

cases-append : (xs ys : List Read) → all_cases (xs ++ ys) ≡ all_cases xs ++ all_cases ys
cases-append [] ys = refl
cases-append (x ∷ xs) ys = ap (λ rest. x.cases ++ rest) (cases-append xs ys) ∙ sym (append_assoc x.cases (all_cases xs) (all_cases ys))

named-append : (t : TxnId) (xs ys : List Read) → names (all_cases (xs ++ ys)) t ≡ (names (all_cases xs) t || names (all_cases ys) t)
named-append t xs ys =
    ap (λ cs. names cs t) (cases-append xs ys)
    ∙ list_any-append (λ (case : Case ℤ). list_any (λ literal. is_same_txn t literal.txn) case.when) (all_cases xs) (all_cases ys)

named-first : (item : ℕ) (reads : List Read) (cases : List (Case ℤ)) → written item reads ≡ Some cases → (t : TxnId) → IsTrue (names cases t) → names (all_cases reads) t ≡ true
named-first item [] cases wrote t named = absurd (let wrong : ⊥ = cc in wrong)
named-first item (read ∷ reads) cases wrote t named =
    list_any-append (λ (case : Case ℤ). list_any (λ literal. is_same_txn t literal.txn) case.when) read.cases (all_cases reads)
    ∙ by (read.item == item) (named-first item reads cases) wrote
  where
    by : (b : Bool) → (written item reads ≡ Some cases → (t : TxnId) → IsTrue (names cases t) → names (all_cases reads) t ≡ true) → (if b then Some read.cases else written item reads) ≡ Some cases
        → (names read.cases t || names (all_cases reads) t) ≡ true
    by true later is = or_left (names read.cases t) (names (all_cases reads) t) (ap (λ cs. names cs t) (Some_inj is) ∙ named)
    by false later is = or_right (names read.cases t) (names (all_cases reads) t) (later is t named)

named-flat : (takens : List Taken) (taken : Taken) → Contains takens taken → (t : TxnId) → names (all_cases taken.values) t ≡ true
    → names (all_cases (flat_map (λ (k : Taken). k.values) takens)) t ≡ true
named-flat [] taken h t named = absurd (Contains-nil taken h)
named-flat (first ∷ takens) taken h t named =
    named-append t first.values (flat_map (λ (k : Taken). k.values) takens)
    ∙ ⊎_elim
    (λ same. or_left (names (all_cases first.values) t) _ (ap (λ (k : Taken). names (all_cases k.values) t) same ∙ named))
    (λ behind. or_right (names (all_cases first.values) t) _ (named-flat takens taken behind t named))
    (Contains-cases first takens taken h)

-- What was taken names only what is named together.
pub taken-names : (entry : Entry) (taken : Taken) → Contains entry.taken taken → NameOnly (names_taken entry) taken.values
taken-names entry taken h item cases wrote t named =
    names-listed (all_cases (reads_of entry)) t (named-flat entry.taken taken h t (named-first item taken.values cases wrote t named))

module _ (setup : Setup) (w v : World) (step : IsStep setup w v) (grounds : HasGrounds setup w) (before : AskedNameTaken w) where
  not-both : {stage : Stage} → stage ≡ locking → stage ≡ voting → ⊥
  not-both one other = let wrong : ⊥ = cc in wrong

  -- No vote is asked for of a transaction that still asks for locks.
  none-asked : (from to : ℕ) (txn : TxnId) (id : GrantId) (writes : List Read) → Sent w from to (prepare txn id writes) → (n : ℕ) (entry : Entry) → WorksAgeless w n txn entry → entry.stage ≡ locking → ⊥
  none-asked from to txn id writes sent n entry works asks =
      let is = grounds.asked from to txn id writes sent in
      false≢true (sym ((grounds.entries n txn entry works).unplaced asks) ∙ subst (λ t. commits (txns_of w.order) t ≡ true) is.is (placed-listed w.order is.placed is.in_order))

  old-asked : (from to : ℕ) (txn : TxnId) (id : GrantId) (writes : List Read) → Sent w from to (prepare txn id writes) → (n : ℕ) (entry : Entry) → WorksAgeless w n txn entry ⊎ NewEntry setup w v n txn entry
      → entry.stage ≡ voting → NameOnly (names_taken entry) writes
  old-asked from to txn id writes sent n entry (inl works) votes = before from to txn id writes sent n entry works votes
  old-asked from to txn id writes sent n _ (inr (has_begun program own fresh given runs)) votes = absurd (not-both refl votes)
  old-asked from to txn id writes sent n _ (inr (has_taken entry new works may)) votes = absurd (not-both may.asks votes)
  old-asked from to txn id writes sent n _ (inr (is_placed entry works may grown_by)) votes = absurd (none-asked from to txn id writes sent n entry works may.asks)
  old-asked from to txn id writes sent n _ (inr (has_counted entry other works may)) votes = before from to txn id writes sent n entry works votes

  -- The entry of a vote that is asked for now is that one.
  one-entry : (from n : ℕ) (txn : TxnId) (entry other : Entry) → WorksAgeless w from txn entry → WorksAgeless w n txn other → entry ≡ other
  one-entry from n txn entry other works also =
      let home = (grounds.entries from txn entry works).home in
      let there = (grounds.entries n txn other also).home in
      Some_inj (sym works ∙ subst (λ m. WorksAgeless w m txn other) (sym there ∙ home) also)

  asked-names : (from to : ℕ) (txn : TxnId) (id : GrantId) (writes : List Read) (may : MaySendPrepare setup w from to txn id writes) → NameOnly (names_taken may.entry) writes
  asked-names from to txn id writes may item cases wrote t named =
      let made = made-of (new_value (records_at w from) may.entry) item (exclusive_items (wants_at setup may.entry to)) cases (subst (λ ws. written item ws ≡ Some cases) may.computed wrote) in
      undecided-listed (records_at w from) (names_taken may.entry) t
      (new-names (records_at w from) may.entry item t (subst (λ cs. IsTrue (names cs t)) made.0 named))

  new-asked : (from to : ℕ) (txn : TxnId) (id : GrantId) (writes : List Read) (may : MaySendPrepare setup w from to txn id writes) (n : ℕ) (entry : Entry) → WorksAgeless w n txn entry ⊎ NewEntry setup w v n txn entry
      → entry.stage ≡ voting → NameOnly (names_taken entry) writes
  new-asked from to txn id writes may n entry (inl works) votes =
      subst (λ e. NameOnly (names_taken e) writes) (one-entry from n txn may.entry entry may.works works) (asked-names from to txn id writes may)
  new-asked from to txn id writes may n _ (inr (has_begun program own fresh given runs)) votes = absurd (not-both refl votes)
  new-asked from to txn id writes may n _ (inr (has_taken entry new works may_take)) votes = absurd (not-both may_take.asks votes)
  new-asked from to txn id writes may n _ (inr (is_placed entry works may_place grown_by)) votes =
      absurd (not-both may_place.asks (ap (λ (e : Entry). e.stage) (sym (one-entry from n txn may.entry entry may.works works)) ∙ may.asks))
  new-asked from to txn id writes may n _ (inr (has_counted entry other works may_count)) votes =
      subst (λ e. NameOnly (names_taken e) writes) (one-entry from n txn may.entry entry may.works works) (asked-names from to txn id writes may)

  pub asked-kept : AskedNameTaken v
  asked-kept from to txn id writes sent n entry works votes =
      ⊎_elim
      (λ old. old-asked from to txn id writes old n entry (step.entries n txn entry works) votes)
      (λ new. new-asked from to txn id writes new n entry (step.entries n txn entry works) votes)
      (sent-either setup w v step from to (prepare txn id writes) sent)

module _ (setup : Setup) where
  kept-from : (first w : World) → first ≡ opening setup → Acts setup first w → AskedNameTaken w
  kept-from first _ same (no_act w') = subst AskedNameTaken (sym same) (λ from to txn id writes sent. absurd (Contains-nil _ sent))
  kept-from first w same (one_more w' next u' acts act) =
      let reached = subst (λ z. Acts setup z next) same acts in
      asked-kept setup next w (act-step setup next w act) (grounds-from setup next (always-settled setup next reached)) (kept-from first next same acts)

  pub asked-name-taken : (w : World) → Acts setup (opening setup) w → AskedNameTaken w
  asked-name-taken w acts = kept-from (opening setup) w refl acts

  -- With the promise that a vote is asked for, an item names no more than what was taken and the transaction itself.
  pub votes-are-narrow : (w : World) → Acts setup (opening setup) w → (n : ℕ) (txn : TxnId) (entry : Entry) → WorksAgeless w n txn entry → entry.stage ≡ voting
      → (taken : Taken) → Contains entry.taken taken → (grant : Grant) → HoldsAgeless w taken.site grant → grant.txn ≡ txn → grant.id ≡ taken.grant → is_prepared (records_at w taken.site) txn ≡ false
      → (from : ℕ) (id : GrantId) (writes : List Read) → Sent w from taken.site (prepare txn id writes) → (item : ℕ) → IsSome (written item writes) → IsSome (written item taken.values)
      → length (names_of (shown setup.catalog (records_at w taken.site ++ prepared txn writes ∷ []) item)) ≤ length (names_taken entry) + 1
  votes-are-narrow w acts n txn entry works votes taken listed grant holds of is unprepared from id writes sent item some read =
      let kept = all-kept setup w acts in
      let grounds = grounds-from setup w kept.settled in
      let new = some-value (written item writes) some in
      let old = some-value (written item taken.values) read in
      let reported = ((grounds.entries n txn entry works).taken taken listed).reported in
      promise-few setup.catalog (records_at w taken.site) txn writes taken.values (names_taken entry) item new.0 old.0 new.1 old.1
      (asked-name-taken w acts from taken.site txn id writes sent n entry works votes item new.0 new.1)
      (taken-names entry taken listed item old.0 old.1)
      (λ b heeds. kept.values.reported taken.site n txn taken.grant taken.values reported grant holds of is unprepared b heeds item old.0 old.1)
