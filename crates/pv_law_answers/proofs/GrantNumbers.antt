-- What stands at a site under one number is one grant.
use Rattle.std.proofs.Common.{◌≡◌, ⊎_elim, ℕ, List, ◌∷◌, ◌++◌, sym, ap, subst, ◌∙◌}
use Rattle.std.specs.List.{Contains}
use Rattle.std.proofs.lemmas.List.{append_assoc}
use Rattle.std.proofs.lemmas.List.Elements.{All-contains, Contains-append_right}
use Rattle.pv_base.proofs.ContainsLemmas.{Contains-cases, Contains-first}
use Rattle.pv_base.proofs.MapLemmas.{Contains-map, Contains-unmap}
use Rattle.pv_base.specs.declared.grant.GrantId.{GrantId}
use Rattle.pv_law_acts.proofs.PassedLemmas.{numbers-passed, no-grant-yet, numbers-always-passed}
use Rattle.pv_law_acts.proofs.StepLemmas.{acts-hold}
use Rattle.pv_law_acts.specs.Acts.{Acts, no_act}
use Rattle.pv_law_acts.specs.Passed.{AreNumbersPassed}
use Rattle.pv_law_acts.specs.Seen.{memory_at, HoldsAgeless, ageless_grant, IsGrantPassed}
use Rattle.pv_law_acts.specs.Steps.{NewGrant, IsStep}
use Rattle.pv_law_answers.specs.Numbers.{IsStanding, AreOneGrant, IsGone, GrantsAreNew}
use Rattle.pv_law_events.specs.Reached.{AreReached}
use Rattle.pv_law_step.proofs.Lists.{all-from}
use Rattle.pv_protocol.specs.Committed.{grants_of}
use Rattle.pv_protocol.specs.State.{Setup, Grant}
use Rattle.pv_protocol.specs.World.{World, opening}

-- Grants that stand, however old.

stands-holds : (world : World) (n : ℕ) (grant : Grant) → IsStanding world n grant → HoldsAgeless world n (ageless_grant grant)
stands-holds world n grant h = Contains-map ageless_grant (grants_of (memory_at world n)) grant h

holds-stands : (world : World) (n : ℕ) (grant : Grant) → HoldsAgeless world n grant → (other : Grant) × (IsStanding world n other × (other.id ≡ grant.id))
holds-stands world n grant h =
    let found = Contains-unmap ageless_grant (grants_of (memory_at world n)) grant h in
    (found.0, (found.1.0, ap (λ (g : Grant). g.id) found.1.1))

module _ (setup : Setup) where
  -- Numbers are passed, and grants of one number that stand at one site are one.
  record AreNumbered (w : World) : Type 0 where
    passed : AreNumbersPassed w
    one : (n : ℕ) (grant other : Grant) → HoldsAgeless w n grant → HoldsAgeless w n other → grant.id ≡ other.id → grant ≡ other

  numbered-kept : (w v : World) → IsStep setup w v → AreNumbered w → AreNumbered v
  numbered-kept w v step is = record {
    passed = numbers-passed setup w v step is.passed;
    one = λ n grant other here there same. ⊎_elim
        (λ old. ⊎_elim
        (λ also. is.one n grant other old also same)
        (λ (new : NewGrant setup w v n other). absurd (new.fresh (subst (IsGrantPassed w n) same (is.passed.grants n grant old).1)))
        (step.grants n other there))
        (λ (new : NewGrant setup w v n grant). ⊎_elim
        (λ also. absurd (new.fresh (subst (IsGrantPassed w n) (sym same) (is.passed.grants n other also).1)))
        (λ itself. sym itself)
        (new.only other there))
        (step.grants n grant here);
  }

  always-numbered : (world : World) → Acts setup (opening setup) world → AreNumbered world
  always-numbered world acts =
      acts-hold setup AreNumbered numbered-kept (opening setup) world acts (record {
        passed = numbers-always-passed setup (opening setup) (no_act (opening setup));
        one = λ n grant other here there same. absurd (no-grant-yet setup n grant here);
      })

  -- What stands under a number that was passed stood when it was.
  module _ (first : World) (n : ℕ) (id : GrantId) where
    record StoodBefore (w : World) : Type 0 where
      passed : IsGrantPassed w n id
      stood : (grant : Grant) → HoldsAgeless w n grant → grant.id ≡ id → HoldsAgeless first n grant

    stood-kept : (w v : World) → IsStep setup w v → StoodBefore w → StoodBefore v
    stood-kept w v step is = record {
      passed = step.ids n id is.passed;
      stood = λ grant h same. ⊎_elim
          (λ old. is.stood grant old same)
          (λ (new : NewGrant setup w v n grant). absurd (new.fresh (subst (IsGrantPassed w n) (sym same) is.passed)))
          (step.grants n grant h);
    }

    stood-before : (world : World) → Acts setup first world → IsGrantPassed first n id → StoodBefore world
    stood-before world acts passed = acts-hold setup StoodBefore stood-kept first world acts (record { passed = passed; stood = λ grant h same. h })

  module _ (worlds : List World) (reached : AreReached setup worlds) where
    passed-at : (world : World) → Acts setup (opening setup) world → (n : ℕ) (grant : Grant) → IsStanding world n grant → IsGrantPassed world n grant.id
    passed-at world acts n grant h = ((always-numbered world acts).passed.grants n (ageless_grant grant) (stands-holds world n grant h)).1

    one-of : (world after : World) → Acts setup (opening setup) world → Acts setup world after → (n : ℕ) (grant other : Grant) → IsStanding world n grant → IsStanding after n other
        → grant.id ≡ other.id → AreOneGrant grant other
    one-of world after acts goes n grant other here there same =
        let stood = (stood-before world n grant.id after goes (passed-at world acts n grant here)).stood (ageless_grant other) (stands-holds after n other there) (sym same) in
        let one : ageless_grant grant ≡ ageless_grant other =
        (always-numbered world acts).one n (ageless_grant grant) (ageless_grant other) (stands-holds world n grant here) stood same in
        record { txn = ap (λ (g : Grant). g.txn) one; wants = ap (λ (g : Grant). g.wants) one }

    gone-for-good : (next last : World) → Acts setup next last → (n : ℕ) (id : GrantId) → IsGrantPassed next n id → IsGone n id next → IsGone n id last
    gone-for-good next last goes n id passed gone grant h same =
        let stood = (stood-before next n id last goes passed).stood (ageless_grant grant) (stands-holds last n grant h) same in
        let there = holds-stands next n (ageless_grant grant) stood in
        gone there.0 there.1.0 (there.1.1 ∙ same)

    pub grants-new : GrantsAreNew worlds
    grants-new before later world split =
        let at = reached before later world split in
        record {
          one = λ n grant other after here listed there same. one-of world after at.0
              (⊎_elim
              (λ itself. subst (Acts setup world) itself (no_act world))
              (λ behind. All-contains (Acts setup world) later after at.1 behind)
              (Contains-cases world later after listed))
              n grant other here there same;
          gone = λ n grant here between after next cut gone.
              let all : worlds ≡ (before ++ world ∷ between) ++ next ∷ after =
              split ∙ ap (λ rest. before ++ world ∷ rest) cut ∙ sym (append_assoc before (world ∷ between) (next ∷ after)) in
              let on = (reached (before ++ world ∷ between) after next all).1 in
              let goes : Acts setup world next = All-contains (Acts setup world) later next at.1 (subst (λ ws. Contains ws next) (sym cut) (Contains-append_right between (next ∷ after) next (Contains-first next after))) in
              let passed : IsGrantPassed next n grant.id = (stood-before world n grant.id next goes (passed-at world at.0 n grant here)).passed in
              all-from (IsGone n grant.id) after (λ last h. gone-for-good next last (All-contains (Acts setup next) after last on h) n grant.id passed gone);
        }
