-- What may be released as is computed is ready, and the first such output is the next one.
use Rattle.std.proofs.Common.{◌≡◌, ℕ, zero, suc, ◌<◌, Option, Some, None, List, [], ◌∷◌, ◌++◌, take, drop, get_or, MatchOption, refl, ap, subst, ◌∙◌, arith}
use Rattle.std.specs.Prelude.{slice_get, All}
use Rattle.std.proofs.Math.Seq.{split_at}
use Rattle.std.proofs.lemmas.List.Elements.{All-cons, All-nil}
use Rattle.std.proofs.lemmas.Option.{slice_get-get_or, slice_get_within, get_or_from_slice_get}
use Rattle.pv_base.specs.Polyvalue.{IsCanonical}
use Rattle.pv_law_outbox.specs.Ready.{IsReady, NoneReady, IsNext}
use Rattle.pv_law_outbox.specs.State.{Held, State}
use Rattle.pv_law_outbox.proofs.CertainLemmas.{certain-from, certain-computed}
use Rattle.pv_outbox.specs.Covers.{MayGo}
use Rattle.pv_outbox.specs.Next.{IsFirst, NoneMayGo}

ready-may : (state : State) (entry : Held) → IsCanonical entry.1 → IsReady state entry → MayGo state entry
ready-may state entry canonical ready = record { untaken = ready.untaken; certain = certain-computed state.outcomes entry.1 canonical ready.certain }

may-ready : (state : State) (entry : Held) → IsCanonical entry.1 → MayGo state entry → IsReady state entry
may-ready state entry canonical may = record { untaken = may.untaken; certain = certain-from state.outcomes entry.1 canonical may.certain }

all-before : {X : Type 0} (P : X → Type 0) (xs : List X) (end : ℕ) → ((place : ℕ) (x : X) → place < end → slice_get xs place ≡ Some x → P x) → All P (take end xs)
all-before P [] zero each = All-nil P
all-before P [] (suc end) each = All-nil P
all-before P (x ∷ xs) zero each = All-nil P
all-before P (x ∷ xs) (suc end) each =
    All-cons P x (take end xs) (each 0 x (omega arith) refl)
    (all-before P xs end (λ place y below there. each (suc place) y (omega (arith, below)) there))

module _ (state : State) (canonical : All (λ (entry : Held). IsCanonical entry.1) state.held) where
  canonical-at : (place : ℕ) (entry : Held) → slice_get state.held place ≡ Some entry → IsCanonical entry.1
  canonical-at place entry there =
      subst (λ (e : Held). IsCanonical e.1) (get_or_from_slice_get state.held place entry entry there)
      (canonical place entry (slice_get_within state.held place entry there))

  pub none-ready : NoneMayGo state → NoneReady state state.held
  none-ready none = λ place d within ready.
      let there = slice_get-get_or state.held place d within in
      none place (get_or state.held place d) there (ready-may state (get_or state.held place d) (canonical place d within) ready)

  pub first-next : (output : ℕ) → IsFirst state output → IsNext state output
  first-next output first = record {
    entry = first.entry;
    output_is = first.output_is;
    earlier = take first.place state.held;
    later = drop (suc first.place) state.held;
    held =
        split_at state.held first.place first.entry (slice_get_within state.held first.place first.entry first.there)
        ∙ ap (λ (e : Held). take first.place state.held ++ e ∷ drop (suc first.place) state.held) (get_or_from_slice_get state.held first.place first.entry first.entry first.there);
    ready = may-ready state first.entry (canonical-at first.place first.entry first.there) first.may;
    first =
        all-before (λ (entry : Held). IsReady state entry → ⊥) state.held first.place
        (λ place entry below there ready. first.none place entry below there (ready-may state entry (canonical-at place entry there) ready));
  }

  pub next-found : (found : Option ℕ) → MatchOption found (NoneMayGo state) (IsFirst state) → MatchOption found (NoneReady state state.held) (IsNext state)
  next-found None none = none-ready none
  next-found (Some output) first = first-next output first
