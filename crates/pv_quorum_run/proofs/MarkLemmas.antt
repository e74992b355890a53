-- Marks that are taken one after another.
use Rattle.std.proofs.Common.{◌≡◌, ℕ, zero, suc, ◌<◌, Bool, List, [], ◌∷◌, length, map, set, get_or, refl, ap, ap₂, arith}
use Rattle.std.specs.Prelude.{◌&&◌, not, ◌==◌}
use Rattle.pv_law_decisions.specs.Scene.{without}
use Rattle.pv_quorum_run.specs.Mail.{envelope_of}
use Rattle.pv_quorum_run.specs.declared.mail.Sent.{Sent}

-- the marks, where those of the first so many messages to a decider are taken
abbrev pub marks_to : (decider n : ℕ) → List Sent → List Bool → List Bool
marks_to decider zero sent marks = marks
marks_to decider (suc n) [] marks = marks
marks_to decider (suc n) (post ∷ sent) [] = []
marks_to decider (suc n) (post ∷ sent) (mark ∷ marks) = (mark && not (post.to == decider)) ∷ marks_to decider n sent marks

pub marks-long : (decider n : ℕ) (sent : List Sent) (marks : List Bool) → length (marks_to decider n sent marks) ≡ length marks
marks-long decider zero sent marks = refl
marks-long decider (suc n) [] marks = refl
marks-long decider (suc n) (post ∷ sent) [] = refl
marks-long decider (suc n) (post ∷ sent) (mark ∷ marks) = ap suc (marks-long decider n sent marks)

-- One message more is looked at.
pub marks-next : (decider n : ℕ) (sent : List Sent) (marks : List Bool) (mark : Bool) (post : Sent) (unmarked : Bool) (unsent : Sent) → length marks ≡ length sent → n < length sent
    → mark ≡ get_or (marks_to decider n sent marks) n unmarked → post ≡ get_or sent n unsent
    → set (marks_to decider n sent marks) n (mark && not (post.to == decider)) ≡ marks_to decider (suc n) sent marks
marks-next decider n [] marks mark post unmarked unsent long small here there = absurd (omega (arith, small))
marks-next decider n (first ∷ sent) [] mark post unmarked unsent long small here there = absurd (omega (arith, long))
marks-next decider zero (first ∷ sent) (one ∷ marks) mark post unmarked unsent long small here there =
    ap₂ (λ (m : Bool) (p : Sent). (m && not (p.to == decider)) ∷ marks) here there
marks-next decider (suc n) (first ∷ sent) (one ∷ marks) mark post unmarked unsent long small here there =
    ap (λ (rest : List Bool). (one && not (first.to == decider)) ∷ rest)
    (marks-next decider n sent marks mark post unmarked unsent (omega (arith, long)) (omega (arith, small)) here there)

-- All messages were looked at.
pub marks-all : (decider : ℕ) (sent : List Sent) (marks : List Bool) → length marks ≡ length sent → marks_to decider (length sent) sent marks ≡ without decider (map envelope_of sent) marks
marks-all decider [] [] long = refl
marks-all decider [] (mark ∷ marks) long = absurd (omega (arith, long))
marks-all decider (post ∷ sent) [] long = refl
marks-all decider (post ∷ sent) (mark ∷ marks) long =
    ap (λ (rest : List Bool). (mark && not (post.to == decider)) ∷ rest) (marks-all decider sent marks (omega (arith, long)))
