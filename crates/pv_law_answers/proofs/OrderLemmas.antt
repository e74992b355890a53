-- The committed transactions fit, and stand in the order once.
use Rattle.std.proofs.Common.{◌≡◌, ⊎_elim, Bool, true, false, List, [], ◌∷◌, ◌++◌, cond, filter, inl, refl, sym, ap, subst, ◌∙◌}
use Rattle.std.specs.List.{Contains}
use Rattle.std.proofs.lemmas.List.{append_assoc}
use Rattle.std.proofs.lemmas.List.Elements.{Contains-append_cases, Contains-append_right}
use Rattle.pv_base.proofs.AssignmentLemmas.{same-eq, same-from-eq}
use Rattle.pv_base.proofs.ContainsLemmas.{Contains-first, Contains-nil, Contains-cases, Contains-filter}
use Rattle.pv_base.proofs.MapLemmas.{Contains-map, Contains-unmap}
use Rattle.pv_base.specs.Assignment.{is_same_txn, commits}
use Rattle.pv_base.specs.declared.txn.TxnId.{TxnId}
use Rattle.pv_law_acts.proofs.ListLemmas.{any-listed, listed-any}
use Rattle.pv_law_agreement.proofs.Lists.{cut-at}
use Rattle.pv_law_answers.specs.Orders.{committed_in, CommittedFit, CommittedStandOnce}
use Rattle.pv_law_outcomes.proofs.DecidedLemmas.{IsSettled}
use Rattle.pv_law_outcomes.specs.Decided.{IsPreparedEverywhere}
use Rattle.pv_protocol.specs.Committed.{is_committed}
use Rattle.pv_protocol.specs.State.{Setup, Placed}
use Rattle.pv_protocol.specs.World.{World}

-- What a filter keeps passes its test.

kept-by : {X : Type 0} (b : Bool) (p : X → Bool) (x : X) (rest : List X) (y : X) → p x ≡ b → (Contains rest y → p y ≡ true)
    → Contains (cond b (x ∷ rest) rest) y → p y ≡ true
kept-by true p x rest y is later h = ⊎_elim (λ same. subst (λ z. p z ≡ true) same is) later (Contains-cases x rest y h)
kept-by false p x rest y is later h = later h

kept-passes : {X : Type 0} (p : X → Bool) (xs : List X) (y : X) → Contains (filter p xs) y → p y ≡ true
kept-passes p [] y h = absurd (Contains-nil y h)
kept-passes p (x ∷ xs) y h = kept-by (p x) p x (filter p xs) y refl (kept-passes p xs y) h

module _ (setup : Setup) (world : World) (settled : IsSettled setup world) where
  abbrev is_done : Placed → Bool
  is_done placed = is_committed world placed.txn

  committed-listed : (txn : TxnId) → is_committed world txn ≡ true → commits (committed_in world) txn ≡ true
  committed-listed txn is =
      let at : IsPreparedEverywhere world txn = settled.decided.committed txn is in
      let kept : Contains (filter is_done world.order) at.placed =
      Contains-filter is_done world.order at.placed (subst (λ t. is_committed world t ≡ true) (sym at.own) is) at.in_order in
      listed-any (λ t. is_same_txn t txn) (committed_in world) at.placed.txn
      (Contains-map (λ (placed : Placed). placed.txn) (filter is_done world.order) at.placed kept)
      (same-from-eq at.own)

  listed-committed : (txn : TxnId) → commits (committed_in world) txn ≡ true → is_committed world txn ≡ true
  listed-committed txn is =
      let found = any-listed (λ t. is_same_txn t txn) (committed_in world) is in
      let place = Contains-unmap (λ (placed : Placed). placed.txn) (filter is_done world.order) found.0 found.1.0 in
      subst (λ t. is_committed world t ≡ true) (place.1.1 ∙ same-eq {t = found.0} {u = txn} found.1.1) (kept-passes is_done world.order place.0 place.1.0)

  pub committed-fit : CommittedFit world
  committed-fit = record { whole = λ txn is. committed-listed txn is; only = λ txn is. inl (listed-committed txn is) }

  pub committed-once : CommittedStandOnce world
  committed-once txn is =
      let at : IsPreparedEverywhere world txn = settled.decided.committed txn is in
      let cut = cut-at world.order at.placed at.in_order in
      record {
        earlier = cut.front;
        placed = at.placed;
        later = cut.rest;
        split = cut.split;
        own = at.own;
        once = λ other h same. ⊎_elim
            (λ before. settled.sound.right.once cut.front cut.rest at.placed other cut.split before (same ∙ sym at.own))
            (λ behind.
            let there = cut-at cut.rest other behind in
            settled.sound.right.once (cut.front ++ at.placed ∷ there.front) there.rest other at.placed
            (cut.split ∙ ap (λ rest. cut.front ++ at.placed ∷ rest) there.split ∙ sym (append_assoc cut.front (at.placed ∷ there.front) (other ∷ there.rest)))
            (Contains-append_right cut.front (at.placed ∷ there.front) at.placed (Contains-first at.placed there.front))
            (at.own ∙ sym same))
            (Contains-append_cases cut.front cut.rest other h);
      }
