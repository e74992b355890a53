-- Lists of parts: their last part, their beginnings, and one part more.
use Rattle.std.proofs.Common.{◌≡◌, ⊎_elim, ℕ, ◌+◌, ◌-◌, ◌<◌, ◌≤◌, leb, true, false, Result, Ok, Err, MatchResult, List, [], ◌∷◌, ◌++◌, length, get_or, fold, All, refl, sym, ap, ap₂, subst, ◌∙◌, arith, append_assoc, length-append}
use Rattle.std.specs.Option.{option_map_or}
use Rattle.std.proofs.lemmas.Bool.Decides.{leb_tells}
use Rattle.std.proofs.lemmas.List.{append-nil, get_or_append_left}
use Rattle.std.proofs.lemmas.List.Elements.{All-nil, All-push}
use Rattle.std.proofs.lemmas.List.Quantifiers.{all_pairs_push}
use Rattle.std.proofs.lemmas.Option.{slice_get-get_or}
use mathlib.Core.List.{IsPrefix}
use Rattle.pv_base.proofs.OrderLemmas.{pairs-nil}
use Rattle.pv_shelf.specs.Part.{Part}
use Rattle.pv_shelf.specs.Log.{steps_of, width_of, IsLog}

-- What operations add to a list stands behind it.
pub fold-added : (xs more : List Part) → fold (λ (log : List Part) part. log ++ part ∷ []) xs more ≡ xs ++ more
fold-added xs [] = sym (append-nil xs)
fold-added xs (part ∷ more) = fold-added (xs ++ part ∷ []) more ∙ append_assoc xs (part ∷ []) more

-- What is published first is all that is published.
pub first-published : (before pending more after : List Part) (opening : Part) → before ≡ [] → pending ≡ [] → more ≡ pending ++ opening ∷ []
    → after ≡ fold (λ (log : List Part) part. log ++ part ∷ []) before more → after ≡ opening ∷ []
first-published before pending more after opening none empty added is =
    is ∙ fold-added before more ∙ ap₂ (λ (xs ys : List Part). xs ++ ys) none (added ∙ ap (λ (xs : List Part). xs ++ opening ∷ []) empty)

pub prefix-none : (before after : List Part) → before ≡ [] → IsPrefix before after
prefix-none before after none = (after, ap (λ (xs : List Part). xs ++ after) none)

pub width-longer : (xs more : List Part) → 0 < length xs → width_of (xs ++ more) ≡ width_of xs
width-longer [] more some = absurd (omega arith)
width-longer (part ∷ xs) more some = refl

pub width-prefix : (xs ys : List Part) → 0 < length xs → IsPrefix xs ys → width_of ys ≡ width_of xs
width-prefix xs ys some begins = subst (λ (log : List Part). width_of log ≡ width_of xs) begins.1 (width-longer xs begins.0 some)

pub steps-last : (xs : List Part) (d : Part) → 0 < length xs → steps_of xs ≡ (get_or xs (length xs - 1) d).steps
steps-last xs d some = ap (λ found. option_map_or (λ (part : Part). part.steps) found 0) (slice_get-get_or xs (length xs - 1) d (omega arith))

-- Each part is of no more steps than the last.
pub below-last : (xs : List Part) (k : ℕ) (d : Part) → IsLog xs → k < length xs → (get_or xs k d).steps ≤ steps_of xs
below-last xs k d log less =
    let end = length xs - 1 in
    let last = steps-last xs d (omega arith) in
    ⊎_elim
    (λ (at : (leb end k ≡ true) × (end ≤ k)).
    let same : k ≡ end = omega (arith, at.1, less) in
    let e = ap (λ (i : ℕ). (get_or xs i d).steps) same in
    omega (arith, e, last))
    (λ (before : (leb end k ≡ false) × (k < end)). let l = log.rising k end d before.1 (omega (arith, less)) in omega (arith, l, last)) (leb_tells end k)

-- A longer log is of no fewer steps.
pub steps-rise : (xs ys : List Part) → IsLog ys → IsPrefix xs ys → steps_of xs ≤ steps_of ys
steps-rise [] ys log begins = omega arith
steps-rise (part ∷ xs) ys log begins =
    let front = part ∷ xs in
    let last = steps-last front part (omega arith) in
    let size : length front + length begins.0 ≡ length ys = sym (length-append front begins.0) ∙ ap length begins.1 in
    let here : get_or ys (length front - 1) part ≡ get_or front (length front - 1) part =
    subst (λ (log : List Part). get_or log (length front - 1) part ≡ get_or front (length front - 1) part) begins.1 (get_or_append_left front begins.0 part (length front - 1) (omega arith)) in
    let below = below-last ys (length front - 1) part log (omega (arith, size)) in
    let e = ap (λ (p : Part). p.steps) here in
    omega (arith, last, below, e)

pub log-nil : IsLog []
log-nil = record { even = All-nil (λ part. length part.faces ≡ 0); rising = pairs-nil (λ (part later : Part). part.steps < later.steps) }

-- One part more, of more steps and with as many faces.
pub log-push : (xs : List Part) (part : Part) → IsLog xs → 0 < length xs → steps_of xs < part.steps → length part.faces ≡ width_of xs → IsLog (xs ++ part ∷ [])
log-push xs part log some later wide =
    let width = width-longer xs (part ∷ []) some in
    let Wide = λ (wide : ℕ) (p : Part). length p.faces ≡ wide in record {
      even = subst (λ (w : ℕ). All (Wide w) (xs ++ part ∷ [])) (sym width) (All-push (Wide (width_of xs)) xs part log.even wide);
      rising = all_pairs_push (λ (p q : Part). p.steps < q.steps) xs part log.rising (λ k d less. let below = below-last xs k d log less in omega (arith, below, later));
    }

pub log-one : (part : Part) → IsLog (part ∷ [])
log-one part = record {
  even = All-push (λ (p : Part). length p.faces ≡ length part.faces) [] part (All-nil (λ p. length p.faces ≡ length part.faces)) refl;
  rising = all_pairs_push (λ (p q : Part). p.steps < q.steps) [] part (pairs-nil (λ (p q : Part). p.steps < q.steps)) (λ k d less. absurd (omega (arith, less)));
}

-- A part is added to what is pending, or nothing is.
pub log-added : {E : Type 0} (Refused : E → Type 0) (answer : Result (Unit {0}) E) (published pending more : List Part) (part : Part)
    → MatchResult answer (λ _. more ≡ pending ++ part ∷ []) (λ refused. Refused refused × (more ≡ pending))
    → IsLog (published ++ pending) → 0 < length published → steps_of (published ++ pending) < part.steps → length part.faces ≡ width_of published → IsLog (published ++ more)
log-added Refused (Ok done) published pending more part is log some later wide =
    let some_added : 0 < length (published ++ pending) = omega (arith, length-append published pending) in
    let added = log-push (published ++ pending) part log some_added later (wide ∙ sym (width-longer published pending some)) in
    subst IsLog (append_assoc published pending (part ∷ []) ∙ ap (λ (xs : List Part). published ++ xs) (sym is)) added
log-added Refused (Err refused) published pending more part is log some later wide = subst (λ (xs : List Part). IsLog (published ++ xs)) (sym is.1) log
