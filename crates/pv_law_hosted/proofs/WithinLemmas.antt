-- What was let out is within what was made: more of both, a beginning of it, and what stands in it.
use Rattle.std.proofs.Common.{◌≡◌, ℕ, List, [], ◌∷◌, ◌++◌, All, append_assoc, refl, sym, ap, ◌∙◌, subst, arith}
use Rattle.std.specs.List.{Contains}
use Rattle.std.proofs.lemmas.List.Elements.{All-nil, All-cons, All-weaker, Contains-append_right}
use Rattle.pv_protocol.specs.Lines.{Line}
use Rattle.pv_law_hosted.specs.Made.{Made, IsLetOutOf, IsWithin, prints, none, same, starts, stops}

module _ (n : ℕ) where
  pub within-same : (made : List Made) → IsWithin n made made
  within-same [] = none
  within-same (one ∷ made) = same one made made (within-same made)

  pub within-append : (out made more made_more : List Made) → IsWithin n out made → IsWithin n more made_more → IsWithin n (out ++ more) (made ++ made_more)
  within-append out made more made_more none then_on = then_on
  within-append out made more made_more (same one out' made' within) then_on = same one (out' ++ more) (made' ++ made_more) (within-append out' made' more made_more within then_on)
  within-append out made more made_more (starts epoch out' made' within) then_on = starts epoch (out ++ more) (made' ++ made_more) (within-append out made' more made_more within then_on)
  within-append out made more made_more (stops out' all lost made' is within) then_on =
      stops (out ++ more) (made ++ made_more) lost (made' ++ made_more)
      (ap (λ (l : List Made). l ++ made_more) is ∙ append_assoc lost (prints (Line.stopped n) ∷ made') made_more)
      (within-append out made' more made_more within then_on)

  -- more is made, and none of it let out
  pub within-stop : (out front back : List Made) → IsWithin n out front → IsWithin n out (front ++ (back ++ prints (Line.stopped n) ∷ []))
  within-stop out front back within =
      subst (λ (l : List Made). IsWithin n l (front ++ (back ++ prints (Line.stopped n) ∷ []))) (nothing-more out)
      (within-append out front [] (back ++ prints (Line.stopped n) ∷ []) within (stops [] (back ++ prints (Line.stopped n) ∷ []) back [] refl none))
    where
      nothing-more : (l : List Made) → l ++ [] ≡ l
      nothing-more [] = refl
      nothing-more (one ∷ l) = ap (λ (rest : List Made). one ∷ rest) (nothing-more l)

  -- What comes first of what was let out is within a beginning of what was made.
  nothing-front : (front later : List Made) → [] ≡ front ++ later → front ≡ []
  nothing-front [] later is = refl
  nothing-front (one ∷ front) later is = cc

  pub within-front : (front later out made : List Made) → out ≡ front ++ later → IsWithin n out made → IsLetOutOf n front made
  within-front front later out made is none =
      record { done = []; rest = []; is = refl; within = subst (λ (l : List Made). IsWithin n l []) (sym (nothing-front front later is)) none }
  within-front [] later out made is (same one out' made' within) = record { done = []; rest = made; is = refl; within = none }
  within-front (first ∷ front) later out made is (same one out' made' within) =
      let head : first ≡ one = cc in
      let tail : out' ≡ front ++ later = cc in
      let rest = within-front front later out' made' tail within in
      record {
        done = one ∷ rest.done;
        rest = rest.rest;
        is = ap (λ (l : List Made). one ∷ l) rest.is;
        within = subst (λ (it : Made). IsWithin n (it ∷ front) (one ∷ rest.done)) (sym head) (same one front rest.done rest.within);
      }
  within-front front later out made is (starts epoch out' made' within) =
      let rest = within-front front later out made' is within in
      record {
        done = prints (Line.started n epoch) ∷ rest.done;
        rest = rest.rest;
        is = ap (λ (l : List Made). prints (Line.started n epoch) ∷ l) rest.is;
        within = starts epoch front rest.done rest.within;
      }
  within-front front later out made is (stops out' all lost made' split within) =
      let rest = within-front front later out made' is within in
      record {
        done = lost ++ prints (Line.stopped n) ∷ rest.done;
        rest = rest.rest;
        is = split ∙ ap (λ (l : List Made). lost ++ prints (Line.stopped n) ∷ l) rest.is
            ∙ sym (append_assoc lost (prints (Line.stopped n) ∷ rest.done) rest.rest);
        within = stops front (lost ++ prints (Line.stopped n) ∷ rest.done) lost rest.done refl rest.within;
      }

  -- What was let out was made.
  one-more : (one : Made) (made out : List Made) → All (Contains made) out → All (Contains (one ∷ made)) out
  one-more one made out all = All-weaker (Contains made) (Contains (one ∷ made)) (λ x there. Contains-append_right (one ∷ []) made x there) out all

  pub within-made : (out made : List Made) → IsWithin n out made → All (Contains made) out
  within-made out made none = All-nil (Contains [])
  within-made out made (same one out' made' within) =
      All-cons (Contains (one ∷ made')) one out' (0, omega arith, refl) (one-more one made' out' (within-made out' made' within))
  within-made out made (starts epoch out' made' within) = one-more (prints (Line.started n epoch)) made' out (within-made out made' within)
  within-made out made (stops out' all lost made' is within) =
      subst (λ (l : List Made). All (Contains l) out) (sym is)
      (All-weaker (Contains made') (Contains (lost ++ prints (Line.stopped n) ∷ made'))
      (λ x there. Contains-append_right lost (prints (Line.stopped n) ∷ made') x (Contains-append_right (prints (Line.stopped n) ∷ []) made' x there))
      out (within-made out made' within))
