-- In a run, a transaction that nothing disturbs commits.
use Rattle.std.proofs.Common.{◌≡◌, ◌<◌, Bool, true, false, Some, List, [], ◌∷◌, ◌++◌, refl, sym, ap, subst, ◌∙◌}
use Rattle.std.specs.Prelude.{All, IsTrue}
use Rattle.std.proofs.lemmas.List.{append_assoc}
use Rattle.std.proofs.lemmas.List.Elements.{All-nil, All-cons}
use Rattle.pv_base.specs.declared.txn.TxnId.{TxnId}
use Rattle.pv_law_refusals.proofs.Chains.{IsLink, AreLinks}
use Rattle.pv_law_refusals.proofs.WaitHistories.{ages-after}
use Rattle.pv_law_complete.proofs.BeginLemmas.{begins-going}
use Rattle.pv_law_complete.proofs.EndLemmas.{never-open}
use Rattle.pv_law_complete.proofs.GoneLemmas.{HasGone, AreGone}
use Rattle.pv_law_complete.specs.Undisturbed.{IsUndisturbed, UndisturbedCommit}
use Rattle.pv_law_outcomes.proofs.OutcomeLemmas.{committed-after}
use Rattle.pv_law_world.proofs.AppendLemmas.{world_after-append}
use Rattle.pv_model.specs.Syntax.{Program}
use Rattle.pv_protocol.specs.Committed.{entry_of, is_committed}
use Rattle.pv_protocol.specs.Run.{world_after, worlds_of}
use Rattle.pv_protocol.specs.State.{Setup}
use Rattle.pv_protocol.specs.World.{World, opening}
use Rattle.pv_protocol.specs.WorldStep.{Transition}

module _ (setup : Setup) where
  gone-there : (first : World) (earlier : List Transition) (t : Transition) (later : List Transition) → AreGone setup first (earlier ++ t ∷ later)
      → HasGone setup (world_after first earlier) t × AreGone setup t.world later
  gone-there first [] t later gone = gone
  gone-there first (e ∷ earlier) t later gone = gone-there e.world earlier t later gone.1

  links-there : (first : World) (earlier : List Transition) (t : Transition) (later : List Transition) → AreLinks setup first (earlier ++ t ∷ later)
      → IsLink setup (world_after first earlier) t × AreLinks setup t.world later
  links-there first [] t later links = links
  links-there first (e ∷ earlier) t later links = links-there e.world earlier t later links.1

  gone-front : (first : World) (front rest : List Transition) → AreGone setup first (front ++ rest) → AreGone setup first front
  gone-front first [] rest gone = tt
  gone-front first (t ∷ front) rest gone = (gone.0, gone-front t.world front rest gone.1)

  links-cut : (first : World) (front rest : List Transition) → AreLinks setup first (front ++ rest) → AreLinks setup first front × AreLinks setup (world_after first front) rest
  links-cut first [] rest links = (tt, links)
  links-cut first (t ∷ front) rest links = let more = links-cut t.world front rest links.1 in ((links.0, more.0), more.1)

  committed-on : (txn : TxnId) (w : World) (rest : List Transition) → AreLinks setup w rest → is_committed w txn ≡ true → All (λ world. IsTrue (is_committed world txn)) (worlds_of w rest)
  committed-on txn w [] links is = All-cons (λ world. IsTrue (is_committed world txn)) w [] is (All-nil (λ world. IsTrue (is_committed world txn)))
  committed-on txn w (t ∷ later) links is =
      All-cons (λ world. IsTrue (is_committed world txn)) w (worlds_of t.world later) is
      (committed-on txn t.world later links.1 (committed-after setup txn w t.world links.0.acts is))

  module _ (room : setup.read_names < setup.held_names) where
    front-commits : (earlier : List Transition) (t : Transition) (window : List Transition) → AreGone setup (opening setup) (earlier ++ t ∷ window)
        → AreLinks setup (opening setup) (earlier ++ t ∷ window) → (txn : TxnId) (program : Program)
        → IsUndisturbed setup txn program (world_after (opening setup) earlier) t window → is_committed (world_after t.world window) txn ≡ true
    front-commits earlier t window gone links txn program is = by (is_committed (world_after t.world window) txn) refl where
      by : (b : Bool) → is_committed (world_after t.world window) txn ≡ b → b ≡ true
      by true has = refl
      by false lacks =
          let gone_at = gone-there (opening setup) earlier t window gone in
          let links_at = links-there (opening setup) earlier t window links in
          let going = begins-going setup txn program (world_after (opening setup) earlier) links_at.0.known t gone_at.0 is.submitted is.up_then in
          absurd (never-open setup room txn program t.world window gone_at.1 links_at.1 _ going is.calm is.delivered
          (λ found works.
          (ages-after setup (earlier ++ t ∷ window) links txn found
          (subst (λ v. entry_of v txn ≡ Some found) (sym (world_after-append (opening setup) earlier (t ∷ window))) works)).waiting)
          lacks)

    pub undisturbed-commit : (all : List Transition) → AreGone setup (opening setup) all → AreLinks setup (opening setup) all → UndisturbedCommit setup (opening setup) all
    undisturbed-commit all gone links place window rest cut txn program is =
        let t = place.transition in
        let split : all ≡ (place.earlier ++ t ∷ window) ++ rest =
        place.split ∙ (ap (λ later. place.earlier ++ t ∷ later) cut ∙ sym (append_assoc place.earlier (t ∷ window) rest)) in
        let parts = links-cut (opening setup) (place.earlier ++ t ∷ window) rest (subst (AreLinks setup (opening setup)) split links) in
        committed-on txn (world_after t.world window) rest
        (subst (λ w. AreLinks setup w rest) (world_after-append (opening setup) place.earlier (t ∷ window)) parts.1)
        (front-commits place.earlier t window (gone-front (opening setup) (place.earlier ++ t ∷ window) rest (subst (AreGone setup (opening setup)) split gone)) parts.0 txn program is)
