-- The run of a script keeps the promises.
use Rattle.std.proofs.Common.{◌≡◌, ⊎_elim, ℕ, Bool, List, [], ◌∷◌, sym, subst, ◌∙◌, ap}
use Rattle.std.specs.List.{Contains}
use Rattle.std.proofs.lemmas.List.Elements.{Contains-append_left, Contains-append_right}
use Rattle.pv_base.proofs.ContainsLemmas.{Contains-cases, Contains-first, Contains-nil}
use Rattle.pv_base.specs.declared.txn.TxnId.{TxnId}
use Rattle.pv_law_decisions.specs.Lines.{Line, told, told_by, told_of}
use Rattle.pv_law_decisions.specs.Promises.{Reaches}
use Rattle.pv_law_decisions.specs.Runs.{Runs}
use Rattle.pv_law_decisions.specs.Scene.{Scene, at_first}
use Rattle.pv_law_decisions.proofs.FollowLemmas.{after-append, run-follows}
use Rattle.pv_law_quorum.specs.Decider as rules
use Rattle.pv_law_quorum.specs.Decider.{Setup, decided}
use Rattle.pv_law_quorum.specs.World.{World, after, opening, IsChosen, IsFit}
use Rattle.pv_law_quorum.proofs.RunLemmas.{decided-chosen, one-ever-chosen, was-proposed}
use Rattle.pv_quorum_script.specs.declared.event.QuorumEvent.{QuorumEvent}
use Rattle.pv_quorum_script.specs.declared.event.QuorumEvent.TheVariants.{Propose}

-- what a line tells that is printed
told-contained : (lines : List Line) (line : rules.Line) → Contains lines (told line) → Contains (told_of lines) line
told-contained [] line h = absurd (Contains-nil (told line) h)
told-contained (one ∷ lines) line h =
    ⊎_elim
    (λ same. Contains-append_left (told_by one) (told_of lines) line (subst (λ (l : Line). Contains (told_by l) line) (sym same) (Contains-first line [])))
    (λ behind. Contains-append_right (told_by one) (told_of lines) line (told-contained lines line behind)) (Contains-cases one lines (told line) h)

module _ (setup : Setup) (fit : IsFit setup) where
  pub keeps-one : (front rest : List QuorumEvent) (lines later : List Line) (scene last : Scene) → Reaches setup front lines scene → Runs setup scene rest later last
      → (txn : TxnId) (v u : Bool) → IsChosen setup scene.world txn v → IsChosen setup last.world txn u → v ≡ u
  keeps-one front rest lines later scene last reached runs txn v u first second =
      let one = run-follows setup (at_first setup) front lines scene reached in
      let two = run-follows setup scene rest later last runs in
      one-ever-chosen setup fit one.happened two.happened txn v u (subst (λ (w : World). IsChosen setup w txn v) one.world_is first)
      (subst (λ (w : World). IsChosen setup w txn u)
      (two.world_is ∙ ap (λ (w : World). after setup w two.happened) one.world_is ∙ sym (after-append setup one.happened two.happened (opening setup))) second)

  pub keeps-decided : (events : List QuorumEvent) (lines : List Line) (last : Scene) → Reaches setup events lines last → (n : ℕ) (txn : TxnId) (v : Bool)
      → Contains lines (told (decided n txn v)) → IsChosen setup last.world txn v
  keeps-decided events lines last reached n txn v h =
      let is = run-follows setup (at_first setup) events lines last reached in
      subst (λ (w : World). IsChosen setup w txn v) (sym is.world_is)
      (decided-chosen setup fit is.happened n txn v
      (subst (λ (w : World). Contains w.lines (decided n txn v)) is.world_is
      (subst (λ (ls : List rules.Line). Contains ls (decided n txn v)) (sym is.lines_are) (told-contained lines (decided n txn v) h))))

  pub keeps-proposed : (events : List QuorumEvent) (lines : List Line) (last : Scene) → Reaches setup events lines last → (txn : TxnId) (v : Bool) → IsChosen setup last.world txn v
      → (n : ℕ) × Contains events (Propose n txn v)
  keeps-proposed events lines last reached txn v chosen =
      let is = run-follows setup (at_first setup) events lines last reached in
      let found = was-proposed setup fit is.happened txn v (subst (λ (w : World). IsChosen setup w txn v) is.world_is chosen) in
      (found.0, is.proposals found.0 txn v found.1.0 found.1.1)
