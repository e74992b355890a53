-- What is posted to sites, message by message.
use Rattle.std.proofs.Common.{◌≡◌, ℕ, suc, ◌+◌, ◌-◌, ◌≤◌, ◌==◌, Bool, true, false, if◌then◌else◌, List, [], ◌∷◌, ◌++◌, length, map, take, drop, refl, sym, ap, ◌∙◌, subst, add-one, length-drop, eqb-true, arith}
use Rattle.std.specs.Prelude.{All, OnOk, Result, Ok, Err, is_err}
use Rattle.std.proofs.lemmas.List.{length-map, length-take-le}
use Rattle.std.proofs.lemmas.List.Elements.{All-tail}
use Rattle.pv_law_histories.specs.Posting as law
use Rattle.pv_law_histories.specs.Posting.{parcels_to}
use Rattle.pv_post.specs.declared.outlet.Out.{Out}
use Rattle.pv_protocol.specs.State.{Outgoing}
use Rattle.pv_rings.proofs.RingLemmas.{handed-at, handed-then, none-handed}
use Rattle.pv_rings.specs.Rings.{Each, Hands}
use Rattle.pv_site.specs.Inputs.{IsSpelledFrom}
use Rattle.pv_site.specs.Values.{outgoing_of}
use Rattle.pv_site.specs.declared.input.Outgoing as site
use Rattle.pv_mail.specs.Posting.{AreParcels, IsParcel, PostsAll}
use Rattle.pv_mail.specs.declared.ends.Parcel.{Parcel}
use Rattle.pv_mail.proofs.ListLemmas.{drop-next, drop-within, take-next, turned}

are-parcels-append : (from to : ℕ) (parcels others : List Parcel) (posted more : List law.Parcel) → AreParcels from to parcels posted → AreParcels from to others more
    → AreParcels from to (parcels ++ others) (posted ++ more)
are-parcels-append from to [] others [] more are rest = rest
are-parcels-append from to [] others (first ∷ posted) more are rest = absurd are
are-parcels-append from to (parcel ∷ parcels) others [] more are rest = absurd are
are-parcels-append from to (parcel ∷ parcels) others (first ∷ posted) more are rest = (are.0, are-parcels-append from to parcels others posted more are.1 rest)

if-append : (test : Bool) (first : law.Parcel) (front back whole : List law.Parcel) → whole ≡ front ++ back
    → (if test then first ∷ whole else whole) ≡ (if test then first ∷ front else front) ++ back
if-append true first front back whole is = ap (λ (all : List law.Parcel). first ∷ all) is
if-append false first front back whole is = is

parcels-append : (to stamp place : ℕ) (sends more : List Outgoing)
    → parcels_to to stamp place (sends ++ more) ≡ parcels_to to stamp place sends ++ parcels_to to stamp (place + length sends) more
parcels-append to stamp place [] more = let same : place ≡ place + 0 = omega arith in ap (λ (n : ℕ). parcels_to to stamp n more) same
parcels-append to stamp place (first ∷ sends) more =
    let same : place + 1 + length sends ≡ place + suc (length sends) = omega arith in
    if-append (first.to == to) record { stamp = stamp; place = place; message = first.message } (parcels_to to stamp (place + 1) sends)
    (parcels_to to stamp (place + suc (length sends)) more) (parcels_to to stamp (place + 1) (sends ++ more))
    (parcels-append to stamp (place + 1) sends more ∙ ap (λ (n : ℕ). parcels_to to stamp (place + 1) sends ++ parcels_to to stamp n more) same)

module _ (from stamp : ℕ) where
  -- what the parcels to a site are
  abbrev Such : ℕ → List Outgoing → ℕ → List Parcel → Type 0
  Such place sends to parcels = AreParcels from to parcels (parcels_to to stamp place sends)

  pub posts-nothing : (place : ℕ) (outs : List (Out Parcel)) → PostsAll from stamp place [] outs outs
  posts-nothing place outs = none-handed (Such place []) outs (λ to within. tt)

  pub posts-then : (place : ℕ) (sends more : List Outgoing) (a b c : List (Out Parcel)) → PostsAll from stamp place sends a b
      → PostsAll from stamp (place + length sends) more b c → PostsAll from stamp place (sends ++ more) a c
  posts-then place sends more a b c one other =
      handed-then (Such place sends) (Such (place + length sends) more) (Such place (sends ++ more)) a b c
      (λ to first later is are. subst (λ (posted : List law.Parcel). AreParcels from to (first ++ later) posted) (sym (parcels-append to stamp place sends more))
      (are-parcels-append from to first later (parcels_to to stamp place sends) (parcels_to to stamp (place + length sends) more) is are))
      one other

  module _ (place : ℕ) (outgoing : Outgoing) where
    abbrev posted : law.Parcel
    posted = record { stamp = stamp; place = place; message = outgoing.message }

    one-case : (to : ℕ) (parcel : Parcel) (test other : Bool) → test ≡ other → (test ≡ true → IsParcel from to parcel posted)
        → AreParcels from to (if test then parcel ∷ [] else []) (if other then posted ∷ [] else [])
    one-case to parcel true true same is = (is refl, tt)
    one-case to parcel true false same is = absurd cc
    one-case to parcel false true same is = absurd cc
    one-case to parcel false false same is = tt

    pub posts-one : (parcel : Parcel) (old new : List (Out Parcel)) → IsParcel from outgoing.to parcel posted
        → Each (λ to one other. Hands (if to == outgoing.to then parcel ∷ [] else []) one other) old new → PostsAll from stamp place (outgoing ∷ []) old new
    posts-one parcel old new is each =
        handed-at outgoing.to parcel (Such place (outgoing ∷ [])) old new
        (λ to. one-case to parcel (to == outgoing.to) (outgoing.to == to) (turned to outgoing.to)
        (λ same. subst (λ (n : ℕ). IsParcel from n parcel posted) (sym (eqb-true to outgoing.to same)) is))
        each

  -- ## A list of messages that is posted from the front
  -- The messages before this place are posted, and these are left.
  pub record Passes (sends rest : List site.Outgoing) (place : ℕ) (first outs : List (Out Parcel)) : Type 0 where
    pub split : drop place sends ≡ rest
    pub within : place ≤ length sends
    pub spelled : All (IsSpelledFrom from) rest
    pub posts : PostsAll from stamp 0 (take place (map outgoing_of sends)) first outs

  pub passes-first : (sends : List site.Outgoing) (outs : List (Out Parcel)) → All (IsSpelledFrom from) sends → Passes sends sends 0 outs outs
  passes-first sends outs spelled = record { split = refl; within = omega arith; spelled = spelled; posts = posts-nothing 0 outs }

  pub passes-next : (sends rest left : List site.Outgoing) (one : site.Outgoing) (place : ℕ) (first outs new : List (Out Parcel)) → Passes sends rest place first outs
      → rest ≡ one ∷ left → PostsAll from stamp place (outgoing_of one ∷ []) outs new → Passes sends left (place + 1) first new
  passes-next sends rest left one place first outs new passes is posts =
      let here = passes.split ∙ is in
      let within = drop-within sends place one left here in
      let long = length-map sends outgoing_of in
      let taken = length-take-le place (map outgoing_of sends) (omega arith) in
      let count : 0 + length (take place (map outgoing_of sends)) ≡ place = omega arith in
      record {
        split = ap (λ (n : ℕ). drop n sends) (add-one place) ∙ drop-next sends place one left here;
        within = omega arith;
        spelled = All-tail (IsSpelledFrom from) one left (subst (λ (all : List site.Outgoing). All (IsSpelledFrom from) all) is passes.spelled);
        posts = subst (λ (all : List Outgoing). PostsAll from stamp 0 all first new)
            (sym (ap (λ (n : ℕ). take n (map outgoing_of sends)) (add-one place) ∙ take-next outgoing_of sends place one left here))
            (posts-then 0 (take place (map outgoing_of sends)) (outgoing_of one ∷ []) first outs new passes.posts
            (subst (λ (n : ℕ). PostsAll from stamp n (outgoing_of one ∷ []) outs new) (sym count) posts));
      }

  -- Those that are left are lost.
  pub passes-short : (sends rest : List site.Outgoing) (place : ℕ) (first outs : List (Out Parcel)) → Passes sends rest place first outs
      → PostsAll from stamp 0 (take (length sends - (length sends - place)) (map outgoing_of sends)) first outs
  passes-short sends rest place first outs passes =
      let within = passes.within in
      let same : place ≡ length sends - (length sends - place) = omega arith in
      subst (λ (n : ℕ). PostsAll from stamp 0 (take n (map outgoing_of sends)) first outs) same passes.posts

  pub passes-all : (sends rest : List site.Outgoing) (place : ℕ) (first outs : List (Out Parcel)) → Passes sends rest place first outs → rest ≡ []
      → PostsAll from stamp 0 (take (length sends - 0) (map outgoing_of sends)) first outs
  passes-all sends rest place first outs passes none =
      let within = passes.within in
      let gone : length (drop place sends) ≡ 0 = ap (λ (all : List site.Outgoing). length all) (passes.split ∙ none) in
      let left = length-drop place sends in
      let same : place ≡ length sends - 0 = omega arith in
      subst (λ (n : ℕ). PostsAll from stamp 0 (take n (map outgoing_of sends)) first outs) same passes.posts

-- What is so where there is no error.
pub where-ok : {A E : Type 0} (P : Type 0) (result : Result A E) → is_err result ≡ false → OnOk result P → P
where-ok P (Ok value) isnt so = so
where-ok P (Err error) isnt so = absurd cc
