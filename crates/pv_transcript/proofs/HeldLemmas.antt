-- What a buffer still holds, after one thing and another, and how much it has of what was put.
use Rattle.std.proofs.Common.{◌≡◌, ◌++◌, List, ℕ, Result, Ok, Err, ap, subst, sym, ◌∙◌, append_assoc}
use Rattle.std.specs.Prelude.{OnErr}
use Rattle.pv_report.specs.StillHeld.{StillHeld}
use Rattle.pv_transcript.specs.Begins.{Begins}

-- What a buffer begins with after each of two things, it begins with after both.
pub held_further : (old mid new : List ℕ) → StillHeld old mid → StillHeld mid new → StillHeld old new
held_further old mid new first second = record {
  more = first.more ++ second.more;
  is = second.is ∙ ap (λ front. front ++ second.more) first.is ∙ append_assoc old first.more second.more;
}

-- What is so is so where a call was refused.
pub on_err : {X E : Type 0} (r : Result X E) (P : Type 0) → P → OnErr r P
on_err (Ok x) P p = tt
on_err (Err e) P p = p

-- Nothing of the text is a beginning of it.
pub begun_none : (old text new : List ℕ) → new ≡ old → Begins new (old ++ text)
begun_none old text new same = record { left = text; is = ap (λ front. front ++ text) (sym same) }

-- A beginning of the first part is one of all.
pub begun_first : (old first more new : List ℕ) → Begins new (old ++ first) → Begins new (old ++ (first ++ more))
begun_first old first more new begun = record {
  left = begun.left ++ more;
  is = sym (append_assoc old first more) ∙ ap (λ front. front ++ more) begun.is ∙ append_assoc new begun.left more;
}

-- The first part and a beginning of the rest are a beginning of all.
pub begun_next : (old first more mid new : List ℕ) → mid ≡ old ++ first → Begins new (mid ++ more) → Begins new (old ++ (first ++ more))
begun_next old first more mid new put begun = record {
  left = begun.left;
  is = sym (append_assoc old first more) ∙ ap (λ front. front ++ more) (sym put) ∙ begun.is;
}

-- So where what was put is known to be the first part.
pub begun_first_as : (old first put more new : List ℕ) → put ≡ first → Begins new (old ++ put) → Begins new (old ++ (first ++ more))
begun_first_as old first put more new same begun = begun_first old first more new (subst (λ it. Begins new (old ++ it)) same begun)

pub begun_next_as : (old first put more mid new : List ℕ) → put ≡ first → mid ≡ old ++ put → Begins new (mid ++ more) → Begins new (old ++ (first ++ more))
begun_next_as old first put more mid new same is begun = begun_next old first more mid new (is ∙ ap (λ it. old ++ it) same) begun

-- The line of a look is what stands before its words, and its words and the line's end.
look_line : (head number space words end : List ℕ) → head ++ ((number ++ (space ++ words)) ++ end) ≡ (head ++ (number ++ space)) ++ (words ++ end)
look_line head number space words end =
    ap (λ it. head ++ it)
    (append_assoc number (space ++ words) end ∙ ap (λ it. number ++ it) (append_assoc space words end) ∙ sym (append_assoc number space (words ++ end)))
    ∙ sym (append_assoc head (number ++ space) (words ++ end))

-- A beginning of what stands before the words of a look is one of its line.
pub begun_look : (old head number space words end new : List ℕ) → Begins new (old ++ (head ++ (number ++ space)))
    → Begins new (old ++ (head ++ ((number ++ (space ++ words)) ++ end)))
begun_look old head number space words end new begun =
    subst (λ it. Begins new (old ++ it)) (sym (look_line head number space words end)) (begun_first old (head ++ (number ++ space)) (words ++ end) new begun)

-- So are that and a beginning of the rest.
pub begun_words : (old head number space words end mid new : List ℕ) → mid ≡ old ++ (head ++ (number ++ space)) → Begins new (mid ++ (words ++ end))
    → Begins new (old ++ (head ++ ((number ++ (space ++ words)) ++ end)))
begun_words old head number space words end mid new put begun =
    subst (λ it. Begins new (old ++ it)) (sym (look_line head number space words end))
    (begun_next old (head ++ (number ++ space)) (words ++ end) mid new put begun)

pub ruleset beginnings = (begun_none, begun_first, begun_next)
