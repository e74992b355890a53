-- From values to turns, to rounds, and back to values.
use Rattle.std.proofs.Common.{◌≡◌, ℕ, ◌<◌, List, All, length, get_or, sym, ◌∙◌, subst}
use base.Growing.{prefix_trans}
use mathlib.Core.List.{IsPrefix}
use Rattle.pv_rings.specs.Rings.{Each}
use Rattle.pv_rings.proofs.EachLemmas.{each-trans}
use Rattle.pv_turn.specs.Seats.{seen}
use Rattle.pv_turn.specs.declared.seat.Seat.{Seat}
use Rattle.pv_turn.specs.declared.turn.Turn.{Turn}
use Rattle.pv_crew.specs.Dealing.{AreDealt, AreReady, IsSeenBy}
use Rattle.pv_crew.specs.Rounds.{IsLaterRound, IsRoundOf}
use Rattle.pv_crew.specs.Seated.{IsLater, IsReady}
use Rattle.pv_crew.specs.declared.round.Round.{Round}
use Rattle.pv_crew.proofs.ListLemmas.{element_at}

module _ {V E : Type 0} (entries : V → List E) (workers : ℕ) (values : List V) (turns : List (Turn V E)) (rounds : List (Round V E))
    (dealt : AreDealt entries (length values) workers values turns rounds) where
  pub dealt-rounds : All (IsRoundOf turns) rounds
  dealt-rounds k d less = let round = dealt.3 k d less in (subst (λ n. (get_or rounds k d).from < n) (sym dealt.1) round.0, round.1)

  -- All have ended.
  module _ (ended : List (Round V E)) (later : Each (λ _. IsLaterRound) rounds ended) (some : 0 < workers) where
    count : workers ≡ length ended
    count = sym dealt.0 ∙ later.0

    pub ended-ready : AreReady turns ended
    ended-ready = (
      subst (λ n. 0 < n) count some,
      λ k d less. dealt.2 k d less ∙ count,
      λ k d less.
          let within : k < length rounds = subst (λ n. k < n) (sym later.0) less in
          each-trans (λ _. IsReady) (λ _. IsLater) (λ _. IsReady) turns (get_or rounds k d).seats.items (get_or ended k d).seats.items
          (λ j turn one other less is next. (next.0 turn is.0, next.1)) (dealt.3 k d within).1 (later.1 k d d within).1,
    )

    -- Any worker's seats show it.
    pub served : (news : List V) → All (IsSeenBy entries news) ended → Each (λ _ old new. IsPrefix (entries old) (entries new)) values news
    served news seen_by =
        let first : 0 < length rounds = subst (λ n. 0 < n) (sym dealt.0) some in
        let d = element_at rounds 0 first in
        let before = (get_or rounds 0 d).seats.items in
        let after = (get_or ended 0 d).seats.items in
        let Shows = λ (_ : ℕ) (v : V) (s : Seat V E). IsPrefix (entries v) (seen s) in
        let grown : Each Shows values after = each-trans (λ _ v s. seen s ≡ entries v) (λ _. IsLater) Shows values before after
        (λ k v s t less is next. subst (λ l. IsPrefix l (seen t)) is next.2) (dealt.3 0 d first).2 (later.1 0 d d first).1 in
        each-trans Shows (λ _ s new. IsPrefix (seen s) (entries new)) (λ _ old new. IsPrefix (entries old) (entries new)) values after news
        (λ k v s new less. prefix_trans (entries v) (seen s) (entries new)) grown (seen_by 0 d (subst (λ n. 0 < n) later.0 first))
