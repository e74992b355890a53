-- What a site took in of another one's messages stands in its history in order.
use Rattle.std.proofs.Common.{◌≡◌, ℕ, zero, suc, ◌==◌, Bool, true, false, if◌then◌else◌, List, [], ◌∷◌, ◌++◌, replicate, refl, sym, ap, ◌∙◌, subst, inl, inr, ◌⊎◌, append-nil, append_assoc}
use Rattle.std.specs.List.{AllZip}
use mathlib.Core.List.{Sublist, Sublistᴰ, sublist-append_left}
use mathlib.Core.List.Sublistᴰ as derived
use mathlib.Core.List.Sublist.{append as sublist-append, refl as sublist-refl, trans as sublist-trans}
use mathlib.Core.Logic.{∥∥₁_map}
use Rattle.pv_law_histories.specs.History.{Intake, request, parcel, tick, Stamped}
use Rattle.pv_law_histories.specs.Posting.{Parcel}
use Rattle.pv_law_passing.proofs.RingLemmas.{one-parcel}
use Rattle.pv_law_passing.proofs.TrafficLemmas.{all-zip-append}
use Rattle.pv_law_passing.specs.Coming.{ComesInOrder, SealsAlike, counted, parcels_from, with_parcel}
use Rattle.pv_law_passing.specs.Rings.{Sealed, Seals}

-- ## One entry more
one-parcel-before : (test : Bool) (one : Parcel) (came more : List Parcel)
    → (if test then one ∷ (came ++ more) else came ++ more) ≡ (if test then one ∷ came else came) ++ more
one-parcel-before true one came more = refl
one-parcel-before false one came more = refl

with-parcel-append : (from : ℕ) (intake : Intake) (came more : List Parcel) → with_parcel from intake (came ++ more) ≡ with_parcel from intake came ++ more
with-parcel-append from (parcel sender stamp place message) came more =
    one-parcel-before (sender == from) (record { stamp = stamp; place = place; message = message }) came more
with-parcel-append from (request asker one) came more = refl
with-parcel-append from tick came more = refl

pub parcels-push : (from : ℕ) (history : List Stamped) (entry : Stamped)
    → parcels_from from (history ++ entry ∷ []) ≡ parcels_from from history ++ with_parcel from entry.intake []
parcels-push from [] entry = refl
parcels-push from (first ∷ history) entry =
    ap (with_parcel from first.intake) (parcels-push from history entry)
    ∙ with-parcel-append from first.intake (parcels_from from history) (with_parcel from entry.intake [])

-- What comes next is what counts once more, and then what the ring gives.
come-next : (held more left now taken given : List Sealed) → Sublist (held ++ left) taken → Sublist (more ++ now) (left ++ given)
    → Sublist ((held ++ more) ++ now) (taken ++ given)
come-next held more left now taken given in_order next =
    subst (λ (all : List Sealed). Sublist all (taken ++ given)) (sym (append_assoc held more now))
    (sublist-trans (sublist-append (sublist-refl held) next)
    (subst (λ (all : List Sealed). Sublist all (taken ++ given)) (append_assoc held left given) (sublist-append in_order (sublist-refl given))))

module _ (from me : ℕ) (history : List Stamped) (left now given : List Sealed) (old new : List (Sealed × ℕ)) (comes : ComesInOrder from me history left old)
    (gives : counted new ≡ counted old ++ given) where
  -- The site takes in one more, of which these are that one's messages.
  pub come-more : (entry : Stamped) (more : List Sealed) → AllZip (Seals from me) more (with_parcel from entry.intake []) → Sublist (more ++ now) (left ++ given)
      → ComesInOrder from me (history ++ entry ∷ []) now new
  come-more entry more seals next = record {
    held = comes.held ++ more;
    seals = subst (λ (all : List Parcel). AllZip (Seals from me) (comes.held ++ more) all) (sym (parcels-push from history entry))
        (all-zip-append (Seals from me) comes.held more (parcels_from from history) (with_parcel from entry.intake []) comes.seals seals);
    in_order = subst (λ (all : List Sealed). Sublist ((comes.held ++ more) ++ now) all) (sym gives)
        (come-next comes.held more left now (counted old) given comes.in_order next);
  }

  -- It takes in none.
  pub come-none : Sublist now (left ++ given) → ComesInOrder from me history now new
  come-none next = record {
    held = comes.held;
    seals = comes.seals;
    in_order = subst (λ (all : List Sealed). Sublist (comes.held ++ now) all) (sym gives)
        (subst (λ (all : List Sealed). Sublist (all ++ now) (counted old ++ given)) (append-nil comes.held)
        (come-next comes.held [] left now (counted old) given comes.in_order next));
  }

-- ## What was taken, as the parcels that it seals
copies-alike : {A B : Type 0} (R : A → B → Type 0) (x : A) (y : B) → R x y → (n : ℕ) → AllZip R (replicate n x) (replicate n y)
copies-alike {A} {B} R x y is zero = tt
copies-alike {A} {B} R x y is (suc n) = (is, copies-alike R x y is n)

counted-alike : (from to : ℕ) (taken : List (Sealed × ℕ)) (sent : List (Parcel × ℕ)) → AllZip (SealsAlike from to) taken sent
    → AllZip (Seals from to) (counted taken) (counted sent)
counted-alike from to [] [] zip = tt
counted-alike from to [] (one ∷ sent) zip = absurd zip
counted-alike from to (one ∷ taken) [] zip = absurd zip
counted-alike from to (one ∷ taken) (other ∷ sent) zip =
    all-zip-append (Seals from to) (replicate one.1 one.0) (counted taken) (replicate other.1 other.0) (counted sent)
    (subst (λ (n : ℕ). AllZip (Seals from to) (replicate one.1 one.0) (replicate n other.0)) zip.0.1
    (copies-alike (Seals from to) one.0 other.0 zip.0.0 one.1))
    (counted-alike from to taken sent zip.1)

-- What is some of the one list is some of its partners, where each has one partner alone.
module _ {A B : Type 0} (R : A → B → Type 0) (alone : (x : A) (y z : B) → R x y → R x z → y ≡ z) where
  no-partners : (some : List A) (others : List B) → AllZip R some others → some ≡ [] → others ≡ []
  no-partners some [] rest none = refl
  no-partners some (y ∷ others) rest none = absurd (subst (λ (all : List A). AllZip R all (y ∷ others)) none rest)

  -- The first of the one list is among the some, or it isn't.
  first-partner : (x : A) (y : B) (xs some : List A) (ys others : List B) → R x y
      → ((more : List A) (partners : List B) → AllZip R more partners → Sublistᴰ more xs → Sublistᴰ partners ys) → AllZip R some others
      → Sublistᴰ some xs ⊎ ((more : List A) × (some ≡ x ∷ more) × Sublistᴰ more xs) → Sublistᴰ others (y ∷ ys)
  first-partner x y xs some ys others is behind rest (inl left) = derived.cons (behind some others rest left)
  first-partner x y xs some ys others is behind rest (inr (more, same, left)) =
      with-first others (subst (λ (all : List A). AllZip R all others) same rest)
    where
      with-first : (partners : List B) → AllZip R (x ∷ more) partners → Sublistᴰ partners (y ∷ ys)
      with-first [] zip = absurd zip
      with-first (z ∷ partners) zip = derived.cons-cons (alone x z y zip.0 is) (behind more partners zip.1 left)

  some-partners : (xs some : List A) (ys others : List B) → AllZip R xs ys → AllZip R some others → Sublistᴰ some xs → Sublistᴰ others ys
  some-partners [] some [] others zip rest is =
      subst (λ (all : List B). Sublistᴰ all []) (sym (no-partners some others rest (derived.eq-nil is))) derived.slnil
  some-partners [] some (y ∷ ys) others zip rest is = absurd zip
  some-partners (x ∷ xs) some [] others zip rest is = absurd zip
  some-partners (x ∷ xs) some (y ∷ ys) others zip rest is =
      first-partner x y xs some ys others zip.0 (λ more partners both left. some-partners xs more ys partners zip.1 both left) rest (derived.cases_cons is)

pub come-in-order : (from me : ℕ) (history : List Stamped) (left : List Sealed) (taken : List (Sealed × ℕ)) (sent : List (Parcel × ℕ))
    → ComesInOrder from me history left taken → AllZip (SealsAlike from me) taken sent → Sublist (parcels_from from history) (counted sent)
come-in-order from me history left taken sent comes alike =
    ∥∥₁_map {B = Sublistᴰ (parcels_from from history) (counted sent)} (sublist-trans (sublist-append_left comes.held left) comes.in_order)
    (λ some. some-partners (Seals from me) (one-parcel from me) (counted taken) comes.held (counted sent) (parcels_from from history)
    (counted-alike from me taken sent alike) comes.seals some)
