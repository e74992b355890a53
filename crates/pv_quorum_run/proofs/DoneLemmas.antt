-- Marks of which none of the first so many is set.
use Rattle.std.proofs.Common.{◌≡◌, ◌∙◌, ℕ, zero, suc, ◌+◌, ◌<◌, ◌≤◌, Bool, true, false, cond, ltb, Some, None, List, [], ◌∷◌, ◌++◌, length, map, get_or, set, take, drop, refl, sym, ap, subst, arith}
use Rattle.std.specs.Prelude.{◌&&◌, not, ◌==◌, position}
use Rattle.std.specs.List.{position_or_len}
use Rattle.std.proofs.lemmas.Bool.{le-ltb, lt-ltb}
use Rattle.std.proofs.lemmas.List.{length-map, take-append-le, take_all}
use Rattle.pv_law_decisions.specs.Scene.{without}
use Rattle.pv_law_quorum.specs.World.{Envelope}
use Rattle.pv_quorum_run.proofs.MarkLemmas.{marks-all, marks-long}
use Rattle.pv_quorum_run.specs.Mail.{envelope_of}
use Rattle.pv_quorum_run.specs.Marks.{AreDone, AreMarked}
use Rattle.pv_quorum_run.specs.declared.mail.Sent.{Sent}

pub done-within : (n : ℕ) (marks : List Bool) → AreDone n marks → n ≤ length marks
done-within zero marks done = omega arith
done-within (suc n) [] done = absurd done
done-within (suc n) (mark ∷ marks) done = let rest = done-within n marks done.1 in omega (arith, rest)

-- One more isn't set.
pub done-next : (n : ℕ) (marks : List Bool) → AreDone n marks → n < length marks → get_or marks n false ≡ false → AreDone (suc n) marks
done-next zero [] done within is = absurd (omega (arith, within))
done-next zero (mark ∷ marks) done within is = (is, tt)
done-next (suc n) [] done within is = absurd done
done-next (suc n) (mark ∷ marks) done within is = (done.0, done-next n marks done.1 (omega (arith, within)) is)

-- The first mark's part in where the first set one stands.
place-behind : (n : ℕ) (mark : Bool) (marks : List Bool) → mark ≡ false → n ≡ position_or_len (λ mark. mark) marks → suc n ≡ position_or_len (λ mark. mark) (mark ∷ marks)
place-behind n mark marks is rest =
    let one : suc n ≡ 1 + position_or_len (λ mark. mark) marks = omega (arith, rest) in
    one ∙ sym (ap (λ (b : Bool). cond (not b) (1 + position_or_len (λ mark. mark) marks) 0) is)

-- The first one that is set is the next,
pub done-here : (n : ℕ) (marks : List Bool) → AreDone n marks → n < length marks → get_or marks n false ≡ true → n ≡ position_or_len (λ mark. mark) marks
done-here zero [] done within is = absurd (omega (arith, within))
done-here zero (mark ∷ marks) done within is = sym (ap (λ (b : Bool). cond (not b) (1 + position_or_len (λ mark. mark) marks) 0) is)
done-here (suc n) [] done within is = absurd done
done-here (suc n) (mark ∷ marks) done within is = place-behind n mark marks done.0 (done-here n marks done.1 (omega (arith, within)) is)

-- or none is.
pub done-all : (n : ℕ) (marks : List Bool) → AreDone n marks → length marks ≤ n → n ≡ position_or_len (λ mark. mark) marks
done-all zero [] done past = refl
done-all zero (mark ∷ marks) done past = absurd (omega (arith, past))
done-all (suc n) [] done past = absurd done
done-all (suc n) (mark ∷ marks) done past = place-behind n mark marks done.0 (done-all n marks done.1 (omega (arith, past)))

pub place-found : (marks : List Bool) (n : ℕ) → n ≡ position_or_len (λ mark. mark) marks → n < length marks → position (λ mark. mark) marks ≡ Some n
place-found marks n is within =
    ap (λ (k : ℕ). cond (ltb k (length marks)) (Some k) None) (sym is) ∙ ap (λ (b : Bool). cond b (Some n) None) (lt-ltb n (length marks) within)

pub place-missing : (marks : List Bool) (n : ℕ) → n ≡ position_or_len (λ mark. mark) marks → length marks ≤ n → position (λ mark. mark) marks ≡ None
place-missing marks n is past =
    ap (λ (k : ℕ). cond (ltb k (length marks)) (Some k) None) (sym is) ∙ ap (λ (b : Bool). cond b (Some n) None) (le-ltb n (length marks) past)

-- ---- what becomes of marks

pub done-set : (n k : ℕ) (marks : List Bool) → AreDone n marks → AreDone n (set marks k false)
done-set zero k marks done = tt
done-set (suc n) k [] done = absurd done
done-set (suc n) zero (mark ∷ marks) done = (refl, done.1)
done-set (suc n) (suc k) (mark ∷ marks) done = (done.0, done-set n k marks done.1)

pub done-push : (n : ℕ) (marks : List Bool) (last : Bool) → AreDone n marks → AreDone n (marks ++ last ∷ [])
done-push zero marks last done = tt
done-push (suc n) [] last done = absurd done
done-push (suc n) (mark ∷ marks) last done = (done.0, done-push n marks last done.1)

pub done-without : (n decider : ℕ) (sent : List Envelope) (marks : List Bool) → length marks ≡ length sent → AreDone n marks → AreDone n (without decider sent marks)
done-without zero decider sent marks long done = tt
done-without (suc n) decider sent [] long done = absurd done
done-without (suc n) decider [] (mark ∷ marks) long done = absurd (omega (arith, long))
done-without (suc n) decider (envelope ∷ sent) (mark ∷ marks) long done =
    (ap (λ (b : Bool). b && not (envelope.to == decider)) done.0, done-without n decider sent marks (omega (arith, long)) done.1)

pub ruleset marks = (done-set, done-push)

-- The marks of the messages to a decider were taken, in the room where they stand.
pub marked-without : (first room decider : ℕ) (sent : List Sent) (marks new : List Bool) → AreMarked first sent marks → length marks ≡ room
    → new ≡ without decider (map envelope_of sent) marks → AreMarked first sent (take room (new ++ drop (length new) marks))
marked-without first room decider sent marks new marked full is =
    let long : length new ≡ length marks = ap length (is ∙ sym (marks-all decider sent marks marked.long)) ∙ marks-long decider (length sent) sent marks in
    let whole : take room (new ++ drop (length new) marks) ≡ new =
    take-append-le room new (drop (length new) marks) (omega (arith, full, long)) ∙ take_all room new (omega (arith, full, long)) in
    subst (AreMarked first sent) (sym whole) (record {
      long = long ∙ marked.long;
      done = subst (AreDone first) (sym is)
          (done-without first decider (map envelope_of sent) marks (omega (arith, marked.long, length-map sent envelope_of)) marked.done);
    })
