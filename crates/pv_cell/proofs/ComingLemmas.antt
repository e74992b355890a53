-- What rings bring of messages, and what rings to sites keep of what they are handed.
use Rattle.std.proofs.Common.{◌≡◌, ◌≢◌, ℕ, ◌+◌, ◌<◌, ◌==◌, Bool, true, false, if◌then◌else◌, List, [], ◌∷◌, ◌++◌, length, map, replicate, refl, sym, ap, ◌∙◌, subst, inl, inr, arith, append-nil, eqb-true, All}
use Rattle.std.proofs.lemmas.Bool.{eqb-false}
use Rattle.std.proofs.lemmas.Grind.{flat_map-append}
use Rattle.std.proofs.lemmas.List.{map-append}
use Rattle.std.proofs.lemmas.List.Elements.{All-from_get_or, All-get_or, All-nil}
use Rattle.std.specs.List.{AllZip}
use Rattle.std.specs.Prelude.{Option, Some, None}
use mathlib.Core.List.{Sublist, sublist-append_left}
use mathlib.Core.List.Sublist.{append as sublist-append, refl as sublist-refl}
use Rattle.pv_base.specs.Catalog.{Declared}
use Rattle.pv_base.specs.declared.txn.SiteId.{SiteId}
use Rattle.pv_law_histories.specs.History.{Came, Intake, done, fault, down}
use Rattle.pv_law_histories.specs.Posting as posting
use Rattle.pv_law_passing.specs.Coming.{counted, with_parcel}
use Rattle.pv_law_passing.specs.Rings.{Sealed, Seals}
use Rattle.pv_law_passing.specs.Traffic.{taken_at}
use Rattle.pv_mail.specs.Arrivals.{IsIntakeOf}
use Rattle.pv_mail.specs.declared.arrival.Arrival.{Arrival}
use Rattle.pv_mail.specs.declared.arrival.Arrival.TheVariants as arrival
use Rattle.pv_mail.specs.declared.ends.Ends.{Ends}
use Rattle.pv_mail.specs.declared.ends.Parcel.{Parcel}
use Rattle.pv_post.specs.Ends.{IsCount, offered, plan_of, posted, taken}
use Rattle.pv_post.specs.declared.fault_plan.FaultPlan.{FaultPlan}
use Rattle.pv_post.specs.declared.inlet.In.{In}
use Rattle.pv_post.specs.declared.outlet.Out.{Out}
use Rattle.pv_protocol.specs.State.{Outgoing}
use Rattle.pv_rings.proofs.EachLemmas.{each-weaker}
use Rattle.pv_rings.proofs.RingLemmas.{keeps-trans}
use Rattle.pv_rings.specs.Rings.{Each, Gives, GivesOne, Hands, HandsEach, Keeps, Rests}
use Rattle.pv_script.specs.declared.live.Request as script
use Rattle.pv_cell.proofs.TrafficLemmas.{each-shows, rests-show}
use Rattle.pv_cell.specs.Changes.{Posts}
use Rattle.pv_cell.specs.Course.{sealed_again}
use Rattle.pv_cell.specs.Lending.{PostsNothing}
use Rattle.pv_cell.specs.Traffic.{KeepsItsPlan, sealed_count, sealed_of, sealed_taken, traffic_of}
use Rattle.pv_cell.specs.declared.site_box.SiteBox.{SiteBox}

-- ## Rings out
-- What is so of each ring before is so of each after.
each-all : {A : Type 0} (P : A → Type 0) (old new : List A) → Each (λ k one other. P one → P other) old new → All P old → All P new
each-all P old [] each all = All-nil P
each-all {A} P old (first ∷ rest) each all =
    All-from_get_or P (first ∷ rest) first (λ i within.
    let less : i < length old = subst (λ (n : ℕ). i < n) (sym each.0) within in each.1 i first first less (All-get_or P old i first less all))

module _ {M : Type 0} where
  hands-plan : (more : List M) (old new : Out M) → Hands more old new → KeepsItsPlan old → KeepsItsPlan new
  hands-plan more old new hands keeps =
      subst (λ (plan : FaultPlan). Keeps plan 1 (offered new) (posted new)) (sym hands.0.1)
      (subst (λ (all : List M). Keeps (plan_of old) 1 all (posted new)) (sym hands.1)
      (subst (λ (all : List (M × ℕ)). Keeps (plan_of old) 1 (offered old ++ more) all) (sym hands.2.1)
      (keeps-trans (plan_of old) 1 (length (offered old) + 1) (offered old) more (posted old) hands.2.0 (omega arith) keeps hands.2.2)))

  still-plan : (old new : Out M) → PostsNothing old new → KeepsItsPlan old → KeepsItsPlan new
  still-plan old new nothing keeps =
      subst (λ (plan : FaultPlan). Keeps plan 1 (offered new) (posted new)) (sym nothing.0.1)
      (subst (λ (all : List M). Keeps (plan_of old) 1 all (posted new)) (sym nothing.2)
      (subst (λ (all : List (M × ℕ)). Keeps (plan_of old) 1 (offered old) all) (sym nothing.1) keeps))

  pub still-plans : (old new : List (Out M)) → Each (λ k one other. PostsNothing one other) old new → All KeepsItsPlan old → All KeepsItsPlan new
  still-plans old new each keep =
      each-all (λ (out : Out M). KeepsItsPlan out) old new
      (each-weaker (λ (k : ℕ) (one other : Out M). PostsNothing one other) (λ (k : ℕ) (one other : Out M). KeepsItsPlan one → KeepsItsPlan other) old new
      (λ k x y within nothing. still-plan x y nothing) each)
      keep

  pub fresh-plan : (out : Out M) → offered out ≡ [] → posted out ≡ [] → KeepsItsPlan out
  fresh-plan out none nothing = subst (λ (all : List M). Keeps (plan_of out) 1 all (posted out)) (sym none) nothing

  pub each-plans : (P : ℕ → List M → Type 0) (old new : List (Out M)) → HandsEach P old new → All KeepsItsPlan old → All KeepsItsPlan new
  each-plans P old new each keep =
      each-all (λ (out : Out M). KeepsItsPlan out) old new
      (each-weaker (λ (k : ℕ) (one other : Out M). (more : List M) × Hands more one other × P k more)
      (λ (k : ℕ) (one other : Out M). KeepsItsPlan one → KeepsItsPlan other) old new (λ k x y within hands. hands-plan hands.0 x y hands.1) each)
      keep

-- Whatever came of an entry, the rings to sites keep to their plans.
pub posts-plans : (me stamp : ℕ) (came : Came) (sends : List Outgoing) (old new : List (Out Parcel)) → Posts me stamp came sends old new → All KeepsItsPlan old
    → All KeepsItsPlan new
posts-plans me stamp (done notes) sends old new posts keep = each-plans _ old new posts keep
posts-plans me stamp fault sends old new same keep = subst (λ (outs : List (Out Parcel)). All KeepsItsPlan outs) (sym same) keep
posts-plans me stamp down sends old new same keep = subst (λ (outs : List (Out Parcel)). All KeepsItsPlan outs) (sym same) keep

-- ## Rings in
-- what the ring from this site gave, where that one's gave this, as often as it counts
abbrev given_from : (from sender : ℕ) → Parcel → ℕ → List Sealed
given_from from sender parcel count = if sender == from then replicate count (sealed_of parcel) else []

rests-counted : (old new : Ends) → Each (λ k one other. Rests one other) old.sites_in.items new.sites_in.items → (from : ℕ)
    → counted (taken_at (traffic_of new) from) ≡ counted (taken_at (traffic_of old) from)
rests-counted old new each from =
    ap (λ (all : List (Sealed × ℕ)). counted all) (rests-show (λ (all : List (Parcel × ℕ)). map sealed_count all) [] old.sites_in.items new.sites_in.items each from)

module _ (old new : Ends) (ring : ℕ) (parcel : Parcel) (count : ℕ) (gives : GivesOne ring parcel count old.sites_in.items new.sites_in.items) where
  counted-one : (x y : In Parcel) → Gives parcel count x y → counted (sealed_taken y) ≡ counted (sealed_taken x) ++ replicate count (sealed_of parcel)
  counted-one x y gave =
      let one : List (Sealed × ℕ) = (sealed_of parcel, count) ∷ [] in
      ap (λ (all : List (Parcel × ℕ)). counted (map sealed_count all)) gave.2
      ∙ ap (λ (all : List (Sealed × ℕ)). counted all) (map-append sealed_count (taken x) ((parcel, count) ∷ []))
      ∙ flat_map-append (λ (it : Sealed × ℕ). replicate it.1 it.0) (sealed_taken x) one
      ∙ ap (λ (all : List Sealed). counted (sealed_taken x) ++ all) (append-nil (replicate count (sealed_of parcel)))

  gives-counted : (from : ℕ) → counted (taken_at (traffic_of new) from) ≡ counted (taken_at (traffic_of old) from) ++ given_from from ring parcel count
  gives-counted from =
      each-shows (λ (k : ℕ) (one other : In Parcel). (k ≡ ring → Gives parcel count one other) × (k ≢ ring → Rests one other)) sealed_taken []
      (λ (k : ℕ) (one other : List (Sealed × ℕ)). counted other ≡ counted one ++ given_from k ring parcel count) old.sites_in.items new.sites_in.items gives.1
      (λ k x y inside one. at k (ring == k) refl x y one)
      (λ k past. let inside = gives.0 in beyond k (ring == k) refl (omega (arith, past, inside))) from
    where
      at : (k : ℕ) (test : Bool) → (ring == k) ≡ test → (x y : In Parcel) → (k ≡ ring → Gives parcel count x y) × (k ≢ ring → Rests x y)
          → counted (sealed_taken y) ≡ counted (sealed_taken x) ++ (if ring == k then replicate count (sealed_of parcel) else [])
      at k true is x y one =
          counted-one x y (one.0 (sym (eqb-true ring k is)))
          ∙ ap (λ (test : Bool). counted (sealed_taken x) ++ (if test then replicate count (sealed_of parcel) else [])) (sym is)
      at k false is x y one =
          ap (λ (all : List (Parcel × ℕ)). counted (map sealed_count all)) (one.1 (λ same. eqb-false ring k is (sym same))).1
          ∙ sym (append-nil (counted (sealed_taken x)))
          ∙ ap (λ (test : Bool). counted (sealed_taken x) ++ (if test then replicate count (sealed_of parcel) else [])) (sym is)

      beyond : (k : ℕ) (test : Bool) → (ring == k) ≡ test → ring < k → [] ≡ (if ring == k then replicate count (sealed_of parcel) else [])
      beyond k true is less = let same = eqb-true ring k is in absurd (omega (arith, same, less))
      beyond k false is less = ap (λ (test : Bool). if test then replicate count (sealed_of parcel) else []) (sym is)

-- ## What comes
twice : (test : Bool) (one : Sealed) → (if test then one ∷ [] else []) ++ (if test then one ∷ [] else []) ≡ (if test then one ∷ (one ∷ []) else [])
twice true one = refl
twice false one = refl

-- The rings gave some, where so much of each site's is added to the history and some counts once more.
abbrev pub BringsMessages : {W : Type 0} → SiteBox W → SiteBox W → (ℕ → List Sealed) → Type 0
BringsMessages old new held =
    (from : ℕ)
    → (given : List Sealed)
    × (counted (taken_at (traffic_of new.ends) from) ≡ counted (taken_at (traffic_of old.ends) from) ++ given)
    × Sublist (held from ++ sealed_again from new.again) (sealed_again from old.again ++ given)

module _ {W : Type 0} (old new : SiteBox W) where
  pub messages-none : Each (λ k one other. Rests one other) old.ends.sites_in.items new.ends.sites_in.items → new.again ≡ old.again
      → BringsMessages old new (λ from. [])
  messages-none rests same from = (
    [],
    rests-counted old.ends new.ends rests from ∙ sym (append-nil (counted (taken_at (traffic_of old.ends) from))),
    subst (λ (left : Option Arrival). Sublist (sealed_again from left) (sealed_again from old.again ++ [])) (sym same)
        (sublist-append_left (sealed_again from old.again) []),
  )

  module _ (came : Arrival) (held : ℕ → List Sealed) (few : (from : ℕ) → Sublist (held from) (sealed_again from (Some came))) where
    pub messages-again : Each (λ k one other. Rests one other) old.ends.sites_in.items new.ends.sites_in.items → old.again ≡ Some came → new.again ≡ None
        → BringsMessages old new held
    messages-again rests was none from = (
      [],
      rests-counted old.ends new.ends rests from ∙ sym (append-nil (counted (taken_at (traffic_of old.ends) from))),
      subst (λ (left : Option Arrival). Sublist (held from ++ sealed_again from left) (sealed_again from old.again ++ [])) (sym none)
          (subst (λ (left : Option Arrival). Sublist (held from ++ []) (sealed_again from left ++ [])) (sym was) (sublist-append (few from) (sublist-refl []))),
    )

  module _ (held : ℕ → List Sealed) (was : old.again ≡ None) where
    pub messages-parcel : (sender : SiteId) (parcel : Parcel) (count : ℕ)
        → ((from : ℕ) → Sublist (held from) (sealed_again from (Some (arrival.Parcel sender parcel))))
        → new.again ≡ (if count == 2 then Some (arrival.Parcel sender parcel) else None)
        → IsCount count → GivesOne sender.0 parcel count old.ends.sites_in.items new.ends.sites_in.items → BringsMessages old new held
    messages-parcel sender parcel count few again counts gives from = (
      given_from from sender.0 parcel count,
      gives-counted old.ends new.ends sender.0 parcel count gives from,
      subst (λ (left : Option Arrival). Sublist (held from ++ sealed_again from left) (sealed_again from old.again ++ given_from from sender.0 parcel count)) (sym again)
          (subst (λ (left : Option Arrival).
          Sublist (held from ++ sealed_again from (if count == 2 then Some (arrival.Parcel sender parcel) else None)) (sealed_again from left ++ given_from from sender.0 parcel count))
          (sym was) (copies counts)),
    )
      where
        copies : IsCount count
            → Sublist (held from ++ sealed_again from (if count == 2 then Some (arrival.Parcel sender parcel) else None)) (given_from from sender.0 parcel count)
        copies (inl one) =
            subst (λ (n : ℕ). Sublist (held from ++ sealed_again from (if n == 2 then Some (arrival.Parcel sender parcel) else None)) (given_from from sender.0 parcel n)) (sym one)
            (subst (λ (all : List Sealed). Sublist all (given_from from sender.0 parcel 1)) (sym (append-nil (held from))) (few from))
        copies (inr two) =
            subst (λ (n : ℕ). Sublist (held from ++ sealed_again from (if n == 2 then Some (arrival.Parcel sender parcel) else None)) (given_from from sender.0 parcel n)) (sym two)
            (subst (λ (all : List Sealed). Sublist (held from ++ sealed_again from (Some (arrival.Parcel sender parcel))) all)
            (twice (sender.0 == from) (sealed_of parcel))
            (sublist-append (few from) (sublist-refl (sealed_again from (Some (arrival.Parcel sender parcel))))))

    pub messages-request : (asker : ℕ) (request : script.Request) (test : Bool)
        → ((from : ℕ) → Sublist (held from) (sealed_again from (Some (arrival.Request asker request))))
        → new.again ≡ (if test then Some (arrival.Request asker request) else None)
        → Each (λ k one other. Rests one other) old.ends.sites_in.items new.ends.sites_in.items → BringsMessages old new held
    messages-request asker request test few again rests from = (
      [],
      rests-counted old.ends new.ends rests from ∙ sym (append-nil (counted (taken_at (traffic_of old.ends) from))),
      subst (λ (left : Option Arrival). Sublist (held from ++ sealed_again from left) (sealed_again from old.again ++ [])) (sym again)
          (subst (λ (left : Option Arrival). Sublist (held from ++ sealed_again from (if test then Some (arrival.Request asker request) else None)) (sealed_again from left ++ []))
          (sym was) (sublist-append (few from) (no-message test))),
    )
      where
        no-message : (test : Bool) → Sublist {A = Sealed} (sealed_again from (if test then Some (arrival.Request asker request) else None)) []
        no-message true = sublist-refl []
        no-message false = sublist-refl []

-- ## What the history has of it
-- The parcel where it is that site's, and nothing where it isn't.
sealed-if : (from me : ℕ) (test : Bool) (one : Sealed) (sent : posting.Parcel) → (test ≡ true → Seals from me one sent)
    → AllZip (Seals from me) (if test then one ∷ [] else []) (if test then sent ∷ [] else [])
sealed-if from me true one sent is = (is refl, tt)
sealed-if from me false one sent is = tt

pub sealed-came : (catalog : Declared) (me : ℕ) (came : Arrival) (intake : Intake) → IsIntakeOf catalog me came intake → (from : ℕ)
    → AllZip (Seals from me) (sealed_again from (Some came)) (with_parcel from intake [])
sealed-came catalog me (arrival.Request client request) intake is from =
    subst (λ (it : Intake). AllZip (Seals from me) [] (with_parcel from it [])) (sym is) tt
sealed-came catalog me (arrival.Parcel sender parcel) intake is from =
    subst (λ (it : Intake). AllZip (Seals from me) (sealed_again from (Some (arrival.Parcel sender parcel))) (with_parcel from it [])) (sym is.1)
    (sealed-if from me (sender.0 == from) (sealed_of parcel) (record { stamp = parcel.stamp; place = parcel.place; message = is.0 })
    (λ same. subst (λ (n : ℕ). Seals n me (sealed_of parcel) (record { stamp = parcel.stamp; place = parcel.place; message = is.0 })) (eqb-true sender.0 from same) (refl, refl, is.2)))
