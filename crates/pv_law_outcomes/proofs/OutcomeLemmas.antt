-- One outcome, and assignments that fit.
use Rattle.std.proofs.Common.{◌≡◌, ◌⊎◌, ⊎_elim, ℕ, Bool, true, false, List, inl, inr, refl, sym, ◌∙◌}
use Rattle.std.specs.Prelude.{IsTrue}
use Rattle.std.specs.List.{Contains}
use Rattle.std.proofs.lemmas.Bool.{and_parts, and_from, false≢true, false_from_ne_true}
use Rattle.std.proofs.lemmas.Option.{none-some}
use Rattle.pv_base.specs.Assignment.{commits}
use Rattle.pv_base.specs.declared.txn.TxnId.{TxnId}
use Rattle.pv_law_acts.proofs.RecordLemmas.{known-listed}
use Rattle.pv_law_acts.proofs.StepLemmas.{commit-stays, place-stays}
use Rattle.pv_law_acts.proofs.ActSteps.{act-step}
use Rattle.pv_law_acts.specs.Acts as acts
use Rattle.pv_law_acts.specs.Acts.{Act, Acts, no_act}
use Rattle.pv_law_acts.specs.Guards.{HasOutcome}
use Rattle.pv_law_acts.specs.Seen.{records_at, IsDead}
use Rattle.pv_law_outcomes.proofs.DecidedLemmas.{IsSettled, stays-settled, stays-dead}
use Rattle.pv_law_outcomes.proofs.LiveLemmas.{live-before}
use Rattle.pv_law_outcomes.proofs.OpenLemmas.{open-from, open-to, placed-listed, listed-placed}
use Rattle.pv_law_outcomes.specs.Decided.{IsPreparedEverywhere, MayCommitYet, IsCommittedOrOpen, is_placed, IsCutTo}
use Rattle.pv_protocol.specs.Committed.{is_committed, IsOpen, Fits}
use Rattle.pv_protocol.specs.Outcomes.{Knows, IsOut}
use Rattle.pv_protocol.specs.State.{Setup, Placed}
use Rattle.pv_protocol.specs.World.{World}

-- Of one world.
module _ (setup : Setup) (world : World) (settled : IsSettled setup world) where
  -- An outcome that a site knows is the transaction's.
  pub known-outcome : (n : ℕ) (txn : TxnId) (outcome : Bool) → Knows world n txn outcome → HasOutcome world txn outcome
  known-outcome n txn outcome knows = settled.decided.known n txn outcome (known-listed (records_at world n) txn outcome knows)

  pub dead-uncommitted : (txn : TxnId) → IsDead world txn → is_committed world txn ≡ true → ⊥
  dead-uncommitted txn dead is = false≢true (sym dead.uncommitted ∙ is)

  one-of-two : (txn : TxnId) (outcome reported : Bool) → HasOutcome world txn outcome → HasOutcome world txn reported → outcome ≡ reported
  one-of-two txn true true is other = refl
  one-of-two txn false false is other = refl
  one-of-two txn true false is other = absurd (dead-uncommitted txn other is)
  one-of-two txn false true is other = absurd (dead-uncommitted txn is other)

  pub one-outcome : (n other : ℕ) (txn : TxnId) (outcome reported : Bool) → Knows world n txn outcome → Knows world other txn reported → outcome ≡ reported
  one-outcome n other txn outcome reported knows also =
      one-of-two txn outcome reported (known-outcome n txn outcome knows) (known-outcome other txn reported also)

  pub dead-out : (txn : TxnId) → IsDead world txn → IsOut txn world
  dead-out txn dead = record {
    uncommitted = dead.uncommitted;
    closed = λ is. let open_ : MayCommitYet world txn = open-from world txn is in none-some _ (sym dead.idle ∙ open_.works);
  }

  -- An assignment that fits has every outcome that a site knows.
  pub fits-known : (assignment : List TxnId) → Fits world assignment → (n : ℕ) (txn : TxnId) (outcome : Bool) → Knows world n txn outcome
      → commits assignment txn ≡ outcome
  fits-known assignment fits n txn true knows = fits.whole txn (known-outcome n txn true knows)
  fits-known assignment fits n txn false knows =
      let out : IsOut txn world = dead-out txn (known-outcome n txn false knows) in
      false_from_ne_true (commits assignment txn) (λ is. ⊎_elim (λ yes_. false≢true (sym out.uncommitted ∙ yes_)) out.closed (fits.only txn is))

  -- A committed transaction is in the order.
  pub committed-placed : (txn : TxnId) → is_committed world txn ≡ true → is_placed world txn ≡ true
  committed-placed txn is =
      let everywhere : IsPreparedEverywhere world txn = settled.decided.committed txn is in
      listed-placed world txn everywhere.placed everywhere.in_order everywhere.own

-- Along acts.
module _ (setup : Setup) where
  pub settled-after : (w v : World) → Acts setup w v → IsSettled setup w → IsSettled setup v
  settled-after w v (no_act world) settled = settled
  settled-after w v (acts.one_more first next after before act) settled =
      stays-settled setup next after (act-step setup next after act) (settled-after first next before settled)

  pub dead-after : (txn : TxnId) (w v : World) → Acts setup w v → IsSettled setup w → IsDead w txn → IsDead v txn
  dead-after txn w v (no_act world) settled dead = dead
  dead-after txn w v (acts.one_more first next after before act) settled dead =
      let then_ : IsSettled setup next = settled-after first next before settled in
      stays-dead setup next after (act-step setup next after act) then_.sound then_.decided txn (dead-after txn first next before settled dead)

  pub committed-after : (txn : TxnId) (w v : World) → Acts setup w v → is_committed w txn ≡ true → is_committed v txn ≡ true
  committed-after txn w v (no_act world) is = is
  committed-after txn w v (acts.one_more first next after before act) is =
      commit-stays setup next after (act-step setup next after act) txn (committed-after txn first next before is)

  pub placed-after : (placed : Placed) (w v : World) → Acts setup w v → Contains w.order placed → Contains v.order placed
  placed-after placed w v (no_act world) is = is
  placed-after placed w v (acts.one_more first next after before act) is =
      place-stays setup next after (act-step setup next after act) placed (placed-after placed first next before is)

  pub live-earlier : (placed : Placed) (txn : TxnId) → placed.txn ≡ txn → (w v : World) → Acts setup w v → IsSettled setup w → Contains w.order placed
      → IsCommittedOrOpen v txn → IsCommittedOrOpen w txn
  live-earlier placed txn own w v (no_act world) settled in_order live = live
  live-earlier placed txn own w v (acts.one_more first next after before act) settled in_order live =
      live-earlier placed txn own first next before settled in_order
      (live-before setup next after (act-step setup next after act) (settled-after first next before settled) placed (placed-after placed first next before in_order) txn own live)

  open-live : (world : World) (txn : TxnId) → IsTrue (is_committed world txn) ⊎ IsOpen world txn → IsCommittedOrOpen world txn
  open-live world txn is = ⊎_elim (λ yes_. inl yes_) (λ open_. inr (open-from world txn open_)) is

  live-open : (world : World) (txn : TxnId) → IsCommittedOrOpen world txn → IsTrue (is_committed world txn) ⊎ IsOpen world txn
  live-open world txn is = ⊎_elim (λ yes_. inl yes_) (λ open_. inr (open-to world txn open_)) is

  pub open-earlier : (txn : TxnId) (w v : World) → Acts setup w v → IsSettled setup w → is_placed w txn ≡ true
      → IsTrue (is_committed v txn) ⊎ IsOpen v txn → IsTrue (is_committed w txn) ⊎ IsOpen w txn
  open-earlier txn w v acts settled placed is =
      let found = placed-listed w txn placed in
      live-open w txn (live-earlier found.0 txn found.1.1 w v acts settled found.1.0 (open-live v txn is))

  -- What fits later fits earlier, cut to what was in the order then.
  pub fits-earlier : (w v : World) → Acts setup w v → IsSettled setup w → (whole part : List TxnId) → Fits v whole → IsCutTo w whole part → Fits w part
  fits-earlier w v acts settled whole part fits cut = record {
    whole = λ txn is. cut txn ∙ and_from (commits whole txn) (is_placed w txn) (fits.whole txn (committed-after txn w v acts is)) (committed-placed setup w settled txn is);
    only = λ txn is.
        let both = and_parts (commits whole txn) (is_placed w txn) (sym (cut txn) ∙ is) in
        open-earlier txn w v acts settled both.1 (fits.only txn both.0);
  }
