-- A proposal that nothing disturbs is settled.
use Rattle.std.proofs.Common.{◌≡◌, ◌⊎◌, ⊎_elim, ℕ, zero, suc, ◌+◌, ◌*◌, ◌<◌, Bool, true, false, Option, List, inl, inr, refl, sym, subst, ◌∙◌, arith}
use Rattle.std.specs.Prelude.{if◌then◌else◌, ⊤}
use Rattle.std.specs.List.{Contains}
use Rattle.std.proofs.lemmas.Bool.{ltb-true, ltb-false, false≢true}
use Rattle.pv_base.proofs.Basics.{Some_inj}
use Rattle.pv_base.specs.declared.txn.TxnId.{TxnId}
use Rattle.pv_law_quorum.specs.Ballot.{Ballot, number_of, is_majority}
use Rattle.pv_law_quorum.specs.Record.{ballot_promised, value_accepted, Vote}
use Rattle.pv_law_quorum.specs.Decider.{Setup, prepare, promise, accept, accepted, Phase, asking, accepting, Entry, is_among}
use Rattle.pv_law_quorum.specs.World.{Envelope, World, proposal, after, IsFit}
use Rattle.pv_law_quorum.specs.Steps.{Sent, Has}
use Rattle.pv_law_quorum.specs.Undisturbed.{after_all, IsDelivered, IsOf, IsSettled, by_decision, by_full_log}
use Rattle.pv_law_quorum.proofs.StageLemmas.{Failed, Done, Asked, Carries, stays_in, moves_on, Works, Stage, failed, done, works, Hears, stage-stays, stage-heard}
use Rattle.pv_law_quorum.proofs.DeliveryLemmas.{found-sent, sent-all, Fine, Run, run-last, eventually, MayHaveTaken, may_have-stays, MayHaveSaid, may_have_said-stays, prepare-makes, accept-makes, asking-alone, Counts, counts-asking, CountsLast, counts-last}

-- Of more deciders one isn't among fewer.

missing-by : (x y : ℕ) (a b : Bool) → (if b then 1 else 0) + y < (if a then 1 else 0) + x → ((a ≡ true) × (b ≡ false)) ⊎ (y < x)
missing-by x y true true h = inr (omega (arith, h))
missing-by x y true false h = inl (refl, refl)
missing-by x y false true h = inr (omega (arith, h))
missing-by x y false false h = inr (omega (arith, h))

missing : (p q : ℕ → Bool) (count : ℕ) → number_of q count < number_of p count → (k : ℕ) × ((p k ≡ true) × (q k ≡ false))
missing p q zero h = absurd (omega (arith, h))
missing p q (suc c) h =
    ⊎_elim (λ here. (c, here)) (λ below. missing p q c below) (missing-by (number_of p c) (number_of q c) (p c) (q c) h)

module _ (setup : Setup) (fit : IsFit setup) (members : ℕ → Bool) (n : ℕ) (txn : TxnId) (ballot : Ballot) (own : ballot.decider ≡ n) (small : n < setup.deciders) (included : members n ≡ true)
    (most : is_majority setup.deciders members ≡ true) (inside : (k : ℕ) → members k ≡ true → k < setup.deciders) (numbers : List ℕ) (u : World)
    (is_run : Run setup fit members n txn ballot own small included u numbers)
    (asks : (k : ℕ) → k < setup.deciders → (k ≡ n → ⊥) → Sent u n k (prepare txn ballot))
    (all : (envelope : Envelope) → Contains (after_all setup u numbers).sent envelope → IsOf txn ballot envelope.message → IsDelivered setup envelope u numbers) where
  abbrev Last : World
  Last = after_all setup u numbers

  abbrev FineHere : World → Type 0
  FineHere w = Fine setup fit members n txn ballot own small included w

  abbrev StageHere : (Entry → Type 0) → World → Type 0
  StageHere Q w = Stage setup fit.least members n included txn ballot Q w

  abbrev WorksHere : World → Entry → Type 0
  WorksHere w entry = Works setup fit.least members n included txn ballot w entry

  last-fine : FineHere Last
  last-fine = run-last setup fit members n txn ballot own small included numbers u is_run

  -- A promise that was sent is counted.
  promise-counted : (k : ℕ) (last : Option Vote) → Sent Last k n (promise txn ballot last) → StageHere (Counts setup fit members n txn ballot own small included asking k) Last
  promise-counted k last sent =
      let Q : Entry → Type 0 = Counts setup fit members n txn ballot own small included asking k in
      eventually setup fit members n txn ballot own small included (StageHere Q)
      (λ w number fine h. stage-stays setup fit.least members n included txn ballot Q (counts-asking setup fit members n txn ballot own small included k) w (fine.free n) number h)
      (record { from = k; to = n; message = promise txn ballot last })
      (λ w number fine is. stage-heard setup fit.least members n included txn ballot Q w (fine.free n) k (promise txn ballot last)
      (λ entry after works carries heard phase. heard refl refl phase) number is fine.kept.stage)
      numbers u is_run (all (record { from = k; to = n; message = promise txn ballot last }) sent (refl, refl))

  -- That a value is accepted is heard in the second phase.
  heard-last : (k : ℕ) (w : World) → FineHere w → Sent w k n (accepted txn ballot) → (entry after : Entry) → WorksHere w entry → Carries entry after
      → Hears setup fit.least members n included txn ballot k (accepted txn ballot) entry after → CountsLast setup fit members n txn ballot own small included k after
  heard-last k w fine sent entry after is carries heard = by entry.phase refl carries where
    by : (phase : Phase) → entry.phase ≡ phase → Carries entry after → CountsLast setup fit members n txn ballot own small included k after
    by asking at carries =
        let said : (commits : Bool) × Has w k (value_accepted txn ballot commits) = fine.kept.sound.sent (record { from = k; to = n; message = accepted txn ballot }) sent in
        absurd (asking-alone setup fit members n txn ballot own small included w fine entry is at k said.0 said.1)
    by accepting at (stays_in same more) = (same ∙ at, heard refl refl at)
    by accepting at (moves_on before now) = (now, heard refl refl at)

  accepted-counted : (k : ℕ) → Sent Last k n (accepted txn ballot) → StageHere (CountsLast setup fit members n txn ballot own small included k) Last
  accepted-counted k sent =
      let Q : Entry → Type 0 = CountsLast setup fit members n txn ballot own small included k in
      let envelope : Envelope = record { from = k; to = n; message = accepted txn ballot } in
      eventually setup fit members n txn ballot own small included (StageHere Q)
      (λ w number fine h. stage-stays setup fit.least members n included txn ballot Q (counts-last setup fit members n txn ballot own small included k) w (fine.free n) number h)
      envelope
      (λ w number fine is. stage-heard setup fit.least members n included txn ballot Q w (fine.free n) k (accepted txn ballot)
      (heard-last k w fine (found-sent w number envelope is)) number is fine.kept.stage)
      numbers u is_run (all envelope sent (refl, refl))

  -- While the proposer asks in the end, each member is counted.
  asking-stage : (entry : Entry) → WorksHere Last entry → entry.phase ≡ asking → (k : ℕ) → members k ≡ true → (k ≡ n → ⊥)
      → StageHere (Counts setup fit members n txn ballot own small included asking k) Last
  asking-stage entry is phase k member apart = by taken where
    taken : MayHaveTaken setup fit members n txn ballot own small included k Last
    taken =
        let envelope : Envelope = record { from = n; to = k; message = prepare txn ballot } in
        eventually setup fit members n txn ballot own small included (MayHaveTaken setup fit members n txn ballot own small included k)
        (may_have-stays setup fit members n txn ballot own small included k) envelope
        (λ w number fine is. prepare-makes setup fit members n txn ballot own small included w number fine k member is)
        numbers u is_run (all envelope (sent-all setup numbers u envelope (asks k (inside k member) apart)) (refl, refl))

    by : MayHaveTaken setup fit members n txn ballot own small included k Last → StageHere (Counts setup fit members n txn ballot own small included asking k) Last
    by (inl h) = failed h
    by (inr (inl h)) =
        let said = last-fine.kept.replies k apart (ballot_promised txn ballot) h refl refl in promise-counted k said.0 said.1
    by (inr (inr h)) = absurd (asking-alone setup fit members n txn ballot own small included Last last-fine entry is phase k h.0 h.1)

  -- So is each when it doesn't ask any more.
  accepting-stage : (entry : Entry) → WorksHere Last entry → entry.phase ≡ accepting → (k : ℕ) → members k ≡ true → (k ≡ n → ⊥)
      → StageHere (CountsLast setup fit members n txn ballot own small included k) Last
  accepting-stage entry is phase k member apart = by said where
    asked : Sent Last n k (accept txn ballot entry.commits)
    asked =
        subst (λ (p : Phase). Asked setup fit.least members n included txn ballot Last entry.commits p) phase is.asked k (inside k member) apart

    said : MayHaveSaid setup fit members n txn ballot own small included k Last
    said =
        let envelope : Envelope = record { from = n; to = k; message = accept txn ballot entry.commits } in
        eventually setup fit members n txn ballot own small included (MayHaveSaid setup fit members n txn ballot own small included k)
        (may_have_said-stays setup fit members n txn ballot own small included k) envelope
        (λ w number fine is. accept-makes setup fit members n txn ballot own small included w number fine k member entry.commits is)
        numbers u is_run (all envelope asked (refl, refl))

    by : MayHaveSaid setup fit members n txn ballot own small included k Last → StageHere (CountsLast setup fit members n txn ballot own small included k) Last
    by (inl h) = failed h
    by (inr h) = accepted-counted k h

  -- What holds of the proposer's entry holds of the one that it has.
  stage-now : (Q : Entry → Type 0) (entry : Entry) → WorksHere Last entry → StageHere Q Last → (Failed members Last ⊎ Done setup fit.least members n included txn ballot Last) ⊎ Q entry
  stage-now Q entry is (failed h) = inl (inl h)
  stage-now Q entry is (done h) = inl (inr h)
  stage-now Q entry is (works other also q) = inr (subst Q (Some_inj (sym also.found ∙ is.found)) q)

  settled-by : StageHere (λ entry. ⊤) Last → Failed members Last ⊎ Done setup fit.least members n included txn ballot Last
  settled-by (failed h) = inl h
  settled-by (done h) = inr h
  settled-by (works entry is q) = by entry.phase refl where
    lack : (k : ℕ) × ((members k ≡ true) × (is_among entry.counted k ≡ false))
    lack =
        missing members (is_among entry.counted) setup.deciders
        (omega (
          arith,
          ltb-true setup.deciders (2 * number_of members setup.deciders) most,
          ltb-false setup.deciders (2 * number_of (is_among entry.counted) setup.deciders) is.few,
        ))

    apart : lack.0 ≡ n → ⊥
    apart at = false≢true (sym lack.1.1 ∙ subst (λ (m : ℕ). is_among entry.counted m ≡ true) (sym at) is.itself)

    by : (phase : Phase) → entry.phase ≡ phase → Failed members Last ⊎ Done setup fit.least members n included txn ballot Last
    by asking at =
        ⊎_elim (λ settled. settled) (λ counts. absurd (false≢true (sym lack.1.1 ∙ counts at)))
        (stage-now (Counts setup fit members n txn ballot own small included asking lack.0) entry is (asking-stage entry is at lack.0 lack.1.0 apart))
    by accepting at =
        ⊎_elim (λ settled. settled) (λ counts. absurd (false≢true (sym lack.1.1 ∙ counts.1)))
        (stage-now (CountsLast setup fit members n txn ballot own small included lack.0) entry is (accepting-stage entry is at lack.0 lack.1.0 apart))

  pub settles : IsSettled members Last n txn
  settles = by (settled-by last-fine.kept.stage) where
    by : Failed members Last ⊎ Done setup fit.least members n included txn ballot Last → IsSettled members Last n txn
    by (inl h) = by_full_log h.0 h.1.1.0 h.1.0 h.1.1.1
    by (inr h) = by_decision h.0 h.1
