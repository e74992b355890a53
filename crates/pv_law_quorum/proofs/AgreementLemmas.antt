-- One value is chosen: what is chosen in a ballot is the value of each ballot above it.
use Rattle.std.proofs.Common.{◌≡◌, ◌⊎◌, ⊎_elim, ℕ, zero, suc, ◌<◌, ◌≤◌, Bool, true, Some, None, Option, inl, inr, sym, subst, ◌∙◌, arith}
use Rattle.pv_base.specs.declared.txn.TxnId.{TxnId}
use Rattle.pv_law_quorum.specs.Ballot.{Ballot, rank, is_majority}
use Rattle.pv_law_quorum.specs.Record.{value_accepted, Vote, has_accepted}
use Rattle.pv_law_quorum.specs.Decider.{Setup, is_among}
use Rattle.pv_law_quorum.specs.World.{World, records_at, IsChosen}
use Rattle.pv_law_quorum.specs.Steps.{Has}
use Rattle.pv_law_quorum.specs.Sound.{Reaches, IsBacked, Follows, IsSafe, IsValueSound, IsSound}
use Rattle.pv_law_quorum.proofs.BallotLemmas.{majorities-meet}
use Rattle.pv_law_quorum.proofs.OrderLemmas.{ranks-apart, le-cases, le-either}
use Rattle.pv_law_quorum.proofs.RecordLemmas.{accepted-listed}
use Rattle.pv_law_quorum.proofs.SoundLemmas.{has-within}

module _ (setup : Setup) (Proposed : TxnId → Bool → Type 0) (w : World) (sound : IsSound setup Proposed w) (txn : TxnId) where
  value-of : (n : ℕ) (ballot : Ballot) (commits : Bool) → Has w n (value_accepted txn ballot commits) → IsValueSound setup Proposed w txn ballot commits
  value-of n ballot commits h = sound.records n (value_accepted txn ballot commits) h

  small-of : (n : ℕ) (ballot : Ballot) (commits : Bool) → Has w n (value_accepted txn ballot commits) → ballot.decider < 256
  small-of n ballot commits h =
      let within = has-within setup Proposed w sound ballot.decider (value_accepted txn ballot commits) (value-of n ballot commits h).own in
      omega (arith, within, sound.few)

  -- Values of one rank are one.
  one-rank : (n m : ℕ) (ballot other : Ballot) (one two : Bool) → Has w n (value_accepted txn ballot one) → Has w m (value_accepted txn other two)
      → rank ballot ≡ rank other → one ≡ two
  one-rank n m ballot other one two h k same =
      let parts = ranks-apart ballot.number other.number ballot.decider other.decider (small-of n ballot one h) (small-of m other two k) same in
      let ballots : ballot ≡ other = (λ i. record { number = parts.0 i; decider = parts.1 i }) in
      sound.one txn ballot one two (value-of n ballot one h).own
      (subst (λ (b : Ballot). Has w b.decider (value_accepted txn b two)) (sym ballots) (value-of m other two k).own)

  module _ (ballot : Ballot) (commits : Bool) (most : is_majority setup.deciders (λ n. has_accepted (records_at w n) txn ballot commits) ≡ true) where
    -- One of the majority that accepted the value is among any majority.
    accepted-among : (p : ℕ → Bool) → is_majority setup.deciders p ≡ true → (n : ℕ) × ((p n ≡ true) × Has w n (value_accepted txn ballot commits))
    accepted-among p is =
        let both = majorities-meet setup.deciders p (λ n. has_accepted (records_at w n) txn ballot commits) is most in
        (both.0, (both.1.0, accepted-listed (records_at w both.0) txn ballot commits both.1.1))

    chosen-somewhere : (n : ℕ) × Has w n (value_accepted txn ballot commits)
    chosen-somewhere =
        let found = accepted-among (λ n. has_accepted (records_at w n) txn ballot commits) most in (found.0, found.1.1)

    -- By induction on the ballot: the majority that promised it shares a decider with the one that accepted the value, which told of a vote
    -- at least as great; that vote is below the ballot.
    followed : (bound m : ℕ) (other : Ballot) (value : Bool) → rank other < bound → rank ballot ≤ rank other → Has w m (value_accepted txn other value) → value ≡ commits
    followed zero m other value below least h = absurd (omega (arith, below))
    followed (suc bound) m other value below least h =
        by (le-cases (rank ballot) (rank other) least) safe.last safe.backed safe.follows reached (followed bound) where
          safe : IsSafe setup w txn other value
          safe = (value-of m other value h).safe

          reached : rank ballot < rank other → Reaches (λ (vote : Vote). vote.ballot) safe.last (rank ballot)
          reached less =
              let shared = accepted-among (is_among safe.counted) safe.most in
              (safe.promises shared.0 shared.1.0).tells ballot commits shared.1.1 less

          by : (rank ballot ≡ rank other) ⊎ (rank ballot < rank other) → (last : Option Vote) → IsBacked w txn other last → Follows last value
              → (rank ballot < rank other → Reaches (λ (vote : Vote). vote.ballot) last (rank ballot))
              → ((m : ℕ) (other : Ballot) (value : Bool) → rank other < bound → rank ballot ≤ rank other → Has w m (value_accepted txn other value) → value ≡ commits)
              → value ≡ commits
          by (inl same) last backed follows reached earlier =
              one-rank m chosen-somewhere.0 other ballot value commits h chosen-somewhere.1 (sym same)
          by (inr less) None backed follows reached earlier = absurd (reached less)
          by (inr less) (Some vote) backed follows reached earlier =
              follows ∙ earlier backed.1.0 vote.ballot vote.commits (omega (arith, below, backed.0)) (reached less) backed.1.1

  pub one-chosen : (one other : Bool) → IsChosen setup w txn one → IsChosen setup w txn other → one ≡ other
  one-chosen one other first second =
      let here = chosen-somewhere first.ballot one first.by_most in
      let there = chosen-somewhere second.ballot other second.by_most in
      ⊎_elim
      (λ below. sym (followed first.ballot one first.by_most (suc (rank second.ballot)) there.0 second.ballot other (omega arith) below there.1))
      (λ above. followed second.ballot other second.by_most (suc (rank first.ballot)) here.0 first.ballot one (omega arith) above here.1)
      (le-either (rank first.ballot) (rank second.ballot))

  pub chosen-proposed : (commits : Bool) → IsChosen setup w txn commits → Proposed txn commits
  chosen-proposed commits is =
      let here = chosen-somewhere is.ballot commits is.by_most in (value-of here.0 is.ballot commits here.1).proposed
