-- The laws of worlds that acts lead to, in every world of a run.
use Rattle.std.proofs.Common.{◌≡◌, ℕ, List, [], ◌∷◌, ◌++◌, map, refl, sym, ap, subst, ◌∙◌}
use Rattle.std.specs.Prelude.{All}
use Rattle.std.specs.List.{Contains}
use Rattle.std.proofs.lemmas.List.Elements.{All-contains, All-head, Contains-append_right}
use Rattle.pv_base.proofs.ContainsLemmas.{Contains-first, Contains-behind}
use Rattle.pv_base.specs.declared.reply.Reply.{Reply}
use Rattle.pv_base.specs.declared.txn.TxnId.{TxnId}
use Rattle.pv_format.specs.Record.{outcome_known}
use Rattle.pv_law_acts.specs.Acts.{Acts}
use Rattle.pv_law_acts.specs.Seen.{records_at}
use Rattle.pv_law_agreement.proofs.GroundLemmas.{grounds-from}
use Rattle.pv_law_agreement.proofs.Lists.{cut-at}
use Rattle.pv_law_agreement.proofs.RunLemmas.{all-kept, all-agree, falls-back}
use Rattle.pv_law_agreement.specs.Falls.{FitsFallBack}
use Rattle.pv_law_answers.proofs.AnswerLemmas.{are-possible, are-serial}
use Rattle.pv_law_answers.proofs.LineLemmas.{ended-ends, come-ends, line-noted}
use Rattle.pv_law_answers.proofs.Origin.{IsTxnLine, IsNoted}
use Rattle.pv_law_answers.specs.Settling.{SettlingKeepsValues, WhatFitsFitted}
use Rattle.pv_law_events.specs.Reached.{AreReached}
use Rattle.pv_law_outcomes.proofs.DecidedLemmas.{IsSettled, always-settled}
use Rattle.pv_law_step.proofs.Lists.{all-from}
use Rattle.pv_law_values.proofs.NewestLemmas.{item-more}
use Rattle.pv_law_values.specs.Heeds.{Heeds}
use Rattle.pv_law_world.proofs.DisarmLemmas.{site-disarmed}
use Rattle.pv_law_world.specs.Sites.{AreMemoriesInOrder}
use Rattle.pv_law_world.specs.Transitions as transitions
use Rattle.pv_law_world.specs.Transitions.{AreTransitions}
use Rattle.pv_protocol.specs.Agreement.{Agrees, WorldsAgree, ReportsAgree}
use Rattle.pv_protocol.specs.Anywhere as anywhere
use Rattle.pv_protocol.specs.Anywhere.{MayFollow, IsRunWithFaults}
use Rattle.pv_protocol.specs.Attempt.{begun}
use Rattle.pv_protocol.specs.CommitAnswers.{ArePossible, HaveSerialReplies, CommitsAnswer}
use Rattle.pv_protocol.specs.Lines.{Line}
use Rattle.pv_protocol.specs.Places.{Place, world_before}
use Rattle.pv_protocol.specs.Run.{world_after, worlds_of}
use Rattle.pv_protocol.specs.Shown.{item_value}
use Rattle.pv_protocol.specs.State.{Setup, Site}
use Rattle.pv_protocol.specs.World.{World, opening}
use Rattle.pv_protocol.specs.WorldStep.{Transition, transition_of}

-- The worlds of a run, cut before a transition.
pub worlds-cut : (first : World) (earlier : List Transition) (t : Transition) (later : List Transition)
    → (before : List World) × (worlds_of first (earlier ++ t ∷ later) ≡ before ++ world_after first earlier ∷ (t.world ∷ map (λ (t : Transition). t.world) later))
worlds-cut first [] t later = ([], refl)
worlds-cut first (e ∷ earlier) t later = let rest = worlds-cut e.world earlier t later in (first ∷ rest.0, ap (λ ws. first ∷ ws) rest.1)

-- A transition of a run follows on the world before it.
pub follows-there : (setup : Setup) (first : World) (earlier : List Transition) (t : Transition) (later : List Transition) → IsRunWithFaults setup first (earlier ++ t ∷ later)
    → MayFollow setup (world_after first earlier) t
follows-there setup first [] t later (anywhere.goes_on first' t' later' follows rest) = follows
follows-there setup first (e ∷ earlier) t later (anywhere.goes_on first' e' rest' follows rest) = follows-there setup e.world earlier t later rest

pub is-transition : (setup : Setup) (first : World) (earlier : List Transition) (t : Transition) (later : List Transition) → AreTransitions setup first (earlier ++ t ∷ later)
    → t ≡ transition_of setup (world_after first earlier) t.event
is-transition setup first [] t later (transitions.one_more first' t' later' is rest) = is
is-transition setup first (e ∷ earlier) t later (transitions.one_more first' e' rest' is rest) = is-transition setup e.world earlier t later rest

-- A line of a transition of a run that says what becomes of a transaction is of a note.
pub noted-there : (setup : Setup) (now : World) (t : Transition) (line : Line) → t ≡ transition_of setup now t.event → IsTxnLine line → Contains t.lines line → IsNoted setup now t.event line t.world
unfolding transition_of
noted-there setup now t line is decides listed =
    subst (λ (u : Transition). IsNoted setup now t.event line u.world) (sym is)
    (line-noted setup now line decides t.event _ _ (ended-ends (begun setup now t.event)) (subst (λ (u : Transition). Contains u.lines line) is listed))

module _ (setup : Setup) (worlds : List World) (reached : AreReached setup worlds) where
  pub world-reached : (world : World) → Contains worlds world → Acts setup (opening setup) world
  world-reached world h = let cut = cut-at worlds world h in (reached cut.front cut.rest world cut.split).0

  -- What holds of each world that is settled holds of each of these.
  pub all-settled : (P : World → Type 0) → ((world : World) → IsSettled setup world → P world) → All P worlds
  all-settled P holds = all-from P worlds (λ world h. holds world (always-settled setup world (world-reached world h)))

  pub worlds-agree : WorldsAgree setup worlds
  worlds-agree = all-from (Agrees setup) worlds (λ world h. all-agree setup world (world-reached world h))

  pub fits-before : WhatFitsFitted worlds
  fits-before before later world split =
      let at = reached before later world split in
      all-from (FitsFallBack world) later (λ after h. falls-back setup world after (always-settled setup world at.0) (All-contains (Acts setup world) later after at.1 h))

module _ (setup : Setup) (all : List Transition) (reached : AreReached setup (worlds_of (opening setup) all)) where
  -- The world before a transition is reached, and acts lead on to the world after it.
  pub record IsReachedThere (place : Place all) : Type 0 where
    pub before : Acts setup (opening setup) (world_before (opening setup) place)
    pub goes : Acts setup (world_before (opening setup) place) place.transition.world
    pub listed : Contains (worlds_of (opening setup) all) (world_before (opening setup) place)
    pub after : Contains (worlds_of (opening setup) all) place.transition.world

  pub there : (place : Place all) → IsReachedThere place
  there place =
      let cut = worlds-cut (opening setup) place.earlier place.transition place.later in
      let now = world_before (opening setup) place in
      let rest = place.transition.world ∷ map (λ (t : Transition). t.world) place.later in
      let split : worlds_of (opening setup) all ≡ cut.0 ++ now ∷ rest = ap (worlds_of (opening setup)) place.split ∙ cut.1 in
      let at = reached cut.0 rest now split in
      record {
        before = at.0;
        goes = All-head (Acts setup now) place.transition.world (map (λ (t : Transition). t.world) place.later) at.1;
        listed = subst (λ ws. Contains ws now) (sym split) (Contains-append_right cut.0 (now ∷ rest) now (Contains-first now rest));
        after = subst (λ ws. Contains ws place.transition.world) (sym split)
            (Contains-append_right cut.0 (now ∷ rest) place.transition.world
            (Contains-behind now rest place.transition.world (Contains-first place.transition.world (map (λ (t : Transition). t.world) place.later))));
      }

  pub reports-agree : ReportsAgree setup all
  reports-agree place is = All-contains (Agrees setup) (worlds_of (opening setup) all) place.transition.world (worlds-agree setup (worlds_of (opening setup) all) reached) (there place).after

  pub settling-keeps : SettlingKeepsValues setup (opening setup) all
  settling-keeps place n txn outcome is a fits item =
      let after = world-reached setup (worlds_of (opening setup) all) reached place.transition.world (there place).after in
      let grounds = grounds-from setup place.transition.world (always-settled setup place.transition.world after) in
      ap (λ rs. item_value setup.catalog rs item a) is
      ∙ item-more setup.catalog (records_at (world_before (opening setup) place) n) (outcome_known txn outcome) item a (subst (λ rs. Heeds rs a) is (grounds.heeded a fits n))

  module _ (ordered : All AreMemoriesInOrder (worlds_of (opening setup) all)) where
    answers-by : (place : Place all) (txn : TxnId) (replies : List Reply) (left : World) → IsNoted setup (world_before (opening setup) place) place.transition.event (Line.commit txn replies) left
        → ((n : ℕ) → records_at place.transition.world n ≡ records_at left n)
        → ArePossible (world_before (opening setup) place) place.transition txn replies × HaveSerialReplies setup place.transition.world txn replies
    answers-by place txn replies left noted same =
        let at = there place in
        let now = world_before (opening setup) place in
        let in_order = All-contains AreMemoriesInOrder (worlds_of (opening setup) all) now ordered at.listed in
        let kept = all-kept setup now at.before in (
          are-possible setup now place.transition txn replies left noted same in_order kept at.goes,
          are-serial setup now place.transition txn replies left noted same in_order kept at.goes,
        )

    pub any-answers : IsRunWithFaults setup (opening setup) all → CommitsAnswer setup (opening setup) all
    any-answers run place txn replies listed =
        let now = world_before (opening setup) place in
        let follows : MayFollow setup now place.transition = follows-there setup (opening setup) place.earlier place.transition place.later (subst (IsRunWithFaults setup (opening setup)) place.split run) in
        answers-by place txn replies follows.left
        (line-noted setup now (Line.commit txn replies) tt place.transition.event place.transition.lines follows.left
        (come-ends (begun setup now place.transition.event) place.transition.lines follows.left follows.comes) listed)
        (λ n. ap (λ w. records_at w n) follows.after ∙ ap (λ (s : Site). s.records) (site-disarmed follows.left n))

    pub run-answers : AreTransitions setup (opening setup) all → CommitsAnswer setup (opening setup) all
    run-answers are place txn replies listed =
        let now = world_before (opening setup) place in
        let is = is-transition setup (opening setup) place.earlier place.transition place.later (subst (AreTransitions setup (opening setup)) place.split are) in
        answers-by place txn replies place.transition.world (noted-there setup now place.transition (Line.commit txn replies) is tt listed) (λ n. refl)
