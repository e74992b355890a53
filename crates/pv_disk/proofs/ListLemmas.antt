-- How a copy of a list of contents grows.
use Rattle.std.proofs.Common.{◌≡◌, ◌⊎◌, inl, inr, ⊎_elim, ℕ, ◌+◌, ◌<◌, ◌≤◌, List, [], ◌∷◌, ◌++◌, Option, Some, map, length, take, get_or, arith, sym, ◌∙◌, ap, Vec, Global, length-append, refl, true, false}
use Rattle.std.proofs.lemmas.List.{take_more, map-append, take-append-le, take_all}
use Rattle.std.proofs.lemmas.List.Sums.{sum_by-append, sum_by-cons}
use Rattle.std.proofs.lemmas.Bool.{cases_lt}
use Rattle.pv_base.specs.Fault.{risen}
use Rattle.pv_disk_model.specs.Size.{Contents, size_of}
use Rattle.pv_disk_model.specs.Log.{LeavesOnly, IsBeforeOrAfter, GoesDown, MayAdd}
use Rattle.pv_disk.specs.ListLog.{ListState, WasHeld}
use Rattle.pv_disk.specs.ListLaws.{list_model, held_now}

abbrev Held : Type 0
Held = Vec ℕ Global

-- One more content is copied.
pub copied_more : (copies contents grown : List Held) (i : ℕ) (copy item : Held) → i < length contents → get_or contents i item ≡ item
    → copy.items ≡ item.items → grown ≡ copies ++ copy ∷ [] → map (λ it. it.items) copies ≡ map (λ it. it.items) (take i contents)
    → map (λ it. it.items) grown ≡ map (λ it. it.items) (take (i + 1) contents)
copied_more copies contents grown i copy item within here same pushed before =
    let front = take_more contents i item within in
    let all : map (λ it. it.items) (take (i + 1) contents) ≡ map (λ it. it.items) (take i contents) ++ item.items ∷ [] =
    rw (front, here) (map-append (λ it. it.items) (take i contents) (item ∷ [])) in
    let new : map (λ it. it.items) grown ≡ map (λ it. it.items) copies ++ copy.items ∷ [] =
    rw pushed (map-append (λ it. it.items) copies (copy ∷ [])) in
    rw (new, same, before) (sym all)

-- At each moment of an append a crash leaves the contents from before, or these with the new one.
pub pushed_moments : (old new : ListState) (content : List ℕ) (was : Contents) → new.contents ≡ old.contents ++ content ∷ [] → Some old.contents ≡ Some was
    → LeavesOnly list_model old new (IsBeforeOrAfter was content)
pushed_moments old new content was grown is =
    let same : old.contents ≡ was = cc in
    let longer : length new.contents ≡ length old.contents + 1 = ap length grown ∙ length-append old.contents (content ∷ []) in
    let front : (k : ℕ) → k ≤ length old.contents → take k new.contents ≡ take k old.contents =
    λ k le. ap (λ (l : Contents). take k l) grown ∙ take-append-le k old.contents (content ∷ []) le in
    let whole : take (length old.contents + 1) new.contents ≡ old.contents ++ content ∷ [] =
    take_all _ new.contents (omega (arith, longer)) ∙ grown in
    let since : (t : ℕ) (left : Option Contents) → WasHeld new t left → WasHeld old t left ⊎ (left ≡ Some (was ++ content ∷ [])) =
    λ t left held. elim (cases_lt held.0 (length old.contents + 1)) [
      | inl early ↦ inl (held.0, held.1, omega arith, held.3 ∙ ap Some (front held.0 (omega arith)))
      | inr late ↦
          let last : held.0 ≡ length old.contents + 1 = omega (arith, held.2, longer) in
          inr (held.3 ∙ ap (λ k. Some (take k new.contents)) last ∙ ap Some whole ∙ ap (λ (l : Contents). Some (l ++ content ∷ [])) same)
    ] in
    record {
      later = omega (arith, longer);
      each = λ left held. ⊎_elim (λ was_held. inl (held_now old left was_held ∙ is)) (λ new_one. inr new_one) (since (length old.contents) left held);
      before = λ t left le held. ⊎_elim (λ was_held. inl was_held) (λ new_one. inr (inr new_one)) (since t left held);
      keeps = λ t left le held. (held.0, held.1, omega (arith, held.2, longer), held.3 ∙ ap Some (sym (front held.0 held.2)));
    }

size_of-push : (contents : Contents) (content : List ℕ) → size_of (contents ++ content ∷ []) ≡ size_of contents + (5 + length content)
size_of-push contents content =
    omega (arith, sum_by-append (λ c. 5 + length c) contents (content ∷ []), sum_by-cons (λ c. 5 + length c) content [])

-- An append that fails and keeps its content.
pub kept_append : (old new : ListState) (content : List ℕ) → old.is_down ≡ false → new.is_down ≡ true → old.faults ≤ new.faults → new.faults ≡ risen old.faults → new.limit ≡ old.limit
    → new.contents ≡ old.contents ++ content ∷ [] → GoesDown list_model old new × MayAdd list_model old new content
kept_append old new content up down rises counted limit grown = (
  record { was_up = up; is_down = down; faults = rises; fault = omega (arith, counted) },
  record {
    contents = λ was is. let same : old.contents ≡ was = cc in inr (ap Some grown ∙ ap (λ (l : Contents). Some (l ++ content ∷ [])) same);
    known = refl;
    size = inr (ap size_of grown ∙ size_of-push old.contents content);
    limit = limit;
    any_moment = λ was is. pushed_moments old new content was grown is;
  },
)

pub ruleset list_appends = (pushed_moments, kept_append)
