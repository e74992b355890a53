-- What was taken from a ring was posted; and how rings, and what stands of a client's requests, go on.
use Rattle.std.proofs.Common.{◌≡◌, ℕ, ◌<◌, List, [], ◌∷◌, length, All, sym, ◌∙◌, subst, refl, ap, append-nil, eq-eqb, Bool, true, false, ◌==◌, if◌then◌else◌, ◌++◌}
use Rattle.std.specs.Prelude.{Contains}
use Rattle.std.specs.List.{AllZip}
use Rattle.std.proofs.lemmas.List.Elements.{All-nil, All-cons, All-push, All-weaker, All-contains, Contains-append_left, Contains-append_right, Contains-push}
use mathlib.Core.List.{IsPrefix, Sublist, sublist-append_left}
use base.Growing.{prefix_trans}
use mathlib.Core.List.Sublist.{trans as sublist-trans, append as sublist-append, refl as sublist-refl}
use Rattle.pv_format.specs.MessageSpelling.{SpellsEnvelope}
use Rattle.pv_law_format.proofs.AnswerLemmas.{one-value}
use Rattle.pv_law_format.proofs.EnvelopeCode.{envelope-read}
use Rattle.pv_law_histories.specs.Fitting.{history_of}
use Rattle.pv_law_histories.specs.History.{Intake, request, parcel, tick, Stamped}
use Rattle.pv_law_histories.specs.Posting.{Parcel, posted_to, WasPosted, PassMessages}
use Rattle.pv_protocol.specs.State.{Setup}
use Rattle.pv_protocol.specs.World.{first_site}
use Rattle.pv_model.specs.LiveScript.{Request}
use Rattle.pv_law_passing.specs.Asking.{AsksInOrder, asked_by, with_asked}
use Rattle.pv_law_passing.specs.Rings.{Brings, Sealed, Seals, Ring, WasTaken, GoByRings}

-- What stands in a beginning stands in the whole.
in-whole : {A : Type 0} (front whole : List A) (x : A) → IsPrefix front whole → Contains front x → Contains whole x
in-whole {A} front whole x begins there = subst (λ (all : List A). Contains all x) begins.1 (Contains-append_left front begins.0 x there)

-- Each of the first list has its partner in the second.
partners : {A B : Type 0} (R : A → B → Type 0) (xs : List A) (ys : List B) → AllZip R xs ys → All (λ x. (y : B) × Contains ys y × R x y) xs
partners {A} {B} R [] ys zip = All-nil (λ (x : A). (y : B) × Contains ys y × R x y)
partners {A} {B} R (x ∷ xs) [] zip = absurd zip
partners {A} {B} R (x ∷ xs) (y ∷ ys) zip =
    All-cons (λ (a : A). (b : B) × Contains (y ∷ ys) b × R a b) x xs (y, Contains-append_left (y ∷ []) ys y (Contains-push [] y), zip.0)
    (All-weaker (λ (a : A). (b : B) × Contains ys b × R a b) (λ (a : A). (b : B) × Contains (y ∷ ys) b × R a b)
    (λ a found. (found.0, Contains-append_right (y ∷ []) ys found.0 found.1, found.2)) xs (partners R xs ys zip.1))

-- Bytes seal one parcel.
pub one-parcel : (from to : ℕ) (sealed : Sealed) (one other : Parcel) → Seals from to sealed one → Seals from to sealed other → one ≡ other
one-parcel from to sealed one other is too =
    let stamp = sym is.0 ∙ too.0 in
    let place = sym is.1 ∙ too.1 in
    let envelope = one-value SpellsEnvelope envelope-read sealed.bytes _ _ is.2 too.2 in
    λ i. record { stamp = stamp i; place = place i; message = (envelope i).message }

module _ (setup : Setup) (histories : List (List Stamped)) (rings : ℕ → ℕ → Ring) (go : GoByRings setup histories rings) (to : ℕ) (there : to < length histories) where
  taken-posted : (intake : Intake) → WasTaken (λ from. (rings from to).taken) (length histories) to intake → WasPosted setup histories to intake
  taken-posted (request client asked) was = tt
  taken-posted tick was = tt
  taken-posted (parcel from stamp place message) was =
      let ring = rings from to in
      let posts = posted_to setup from to first_site (history_of histories from) in
      let sent : Parcel = record { stamp = stamp; place = place; message = message } in
      let one = was.1.0 in
      let brings = go.rings_bring from to was.0 there in
      let in_ring : Contains ring.posted one = in-whole ring.taken ring.posted one brings.taken was.1.1 in
      let handed : Contains ring.offered one.0 = All-contains (λ (it : Sealed × ℕ). Contains ring.offered it.0) ring.posted one brings.posted in_ring in
      let partner = All-contains (λ (it : Sealed). (p : Parcel) × Contains posts p × Seals from to it p) ring.offered one.0
      (partners (Seals from to) ring.offered posts (go.offered from to was.0 there)) handed in
      (was.0, subst (λ (p : Parcel). Contains posts p) (one-parcel from to one.0 partner.0 sent partner.2 was.1.2) partner.1)

pub pass-messages : (setup : Setup) (histories : List (List Stamped)) (rings : ℕ → ℕ → Ring) → GoByRings setup histories rings → PassMessages setup histories
pass-messages setup histories rings go = record {
  count = go.count;
  stamps = go.stamps;
  steps = go.steps;
  posted = λ n less. All-weaker (λ entry. WasTaken (λ from. (rings from n).taken) (length histories) n entry.intake) (λ entry. WasPosted setup histories n entry.intake)
      (λ entry was. taken-posted setup histories rings go n less entry.intake was) (history_of histories n) (go.taken n less);
}

-- ## One step on
pub ring-loses : (ring : Ring) (one : Sealed) → Brings ring → Brings (record ring { offered = ring.offered ++ one ∷ [] })
ring-loses ring one brings = record {
  posted = All-weaker (λ (it : Sealed × ℕ). Contains ring.offered it.0) (λ (it : Sealed × ℕ). Contains (ring.offered ++ one ∷ []) it.0)
      (λ it there. Contains-append_left ring.offered (one ∷ []) it.0 there) ring.posted brings.posted;
  taken = brings.taken;
}

pub ring-takes : (ring : Ring) (one : Sealed) (count : ℕ) → Brings ring
    → Brings (record ring { offered = ring.offered ++ one ∷ []; posted = ring.posted ++ (one, count) ∷ [] })
ring-takes ring one count brings = record {
  posted = All-push (λ (it : Sealed × ℕ). Contains (ring.offered ++ one ∷ []) it.0) ring.posted (one, count) (ring-loses ring one brings).posted
      (Contains-push ring.offered one);
  taken = prefix_trans ring.taken ring.posted (ring.posted ++ (one, count) ∷ []) brings.taken ((one, count) ∷ [], refl);
}

pub still-taken : (taken later : ℕ → List (Sealed × ℕ)) (sites to : ℕ) (intake : Intake) → ((from : ℕ) → from < sites → IsPrefix (taken from) (later from))
    → WasTaken taken sites to intake → WasTaken later sites to intake
still-taken taken later sites to (request client asked) longer was = tt
still-taken taken later sites to tick longer was = tt
still-taken taken later sites to (parcel from stamp place message) longer was =
    (was.0, (was.1.0, in-whole (taken from) (later from) was.1.0 (longer from was.0) was.1.1, was.1.2))

-- ## Requests
-- A beginning leaves out none but the last.
front-stands : {A : Type 0} (front whole : List A) → IsPrefix front whole → Sublist front whole
front-stands {A} front whole begins = subst (λ (all : List A). Sublist front all) begins.1 (sublist-append_left front begins.0)

pub stand-once : (client : ℕ) (script posted taken : List Request) (history : List Stamped) → AsksInOrder client script posted taken history
    → Sublist (asked_by client history) script
stand-once client script posted taken history asks =
    sublist-trans asks.stands (sublist-trans (front-stands taken posted asks.takes) (front-stands posted script asks.posts))

one-before : (test : Bool) (one : Request) (asked more : List Request)
    → (if test then one ∷ (asked ++ more) else asked ++ more) ≡ (if test then one ∷ asked else asked) ++ more
one-before true one asked more = refl
one-before false one asked more = refl

with-asked-append : (client : ℕ) (intake : Intake) (asked more : List Request) → with_asked client intake (asked ++ more) ≡ with_asked client intake asked ++ more
with-asked-append client (request asker one) asked more = one-before (asker == client) one asked more
with-asked-append client (parcel from stamp place message) asked more = refl
with-asked-append client tick asked more = refl

pub asked-push : (client : ℕ) (history : List Stamped) (entry : Stamped) → asked_by client (history ++ entry ∷ []) ≡ asked_by client history ++ with_asked client entry.intake []
asked-push client [] entry = refl
asked-push client (first ∷ history) entry =
    ap (with_asked client first.intake) (asked-push client history entry) ∙ with-asked-append client first.intake (asked_by client history) (with_asked client entry.intake [])

-- A client's own request is one more.
own-asked : (client : ℕ) (intake : Intake) (asked : Request) → intake ≡ request client asked → with_asked client intake [] ≡ asked ∷ []
own-asked client intake asked is = ap (λ (it : Intake). with_asked client it []) is ∙ ap (λ (test : Bool). if test then asked ∷ [] else []) (eq-eqb client client refl)

pub stands-more : (client : ℕ) (taken : List Request) (history : List Stamped) (entry : Stamped) (asked : Request) → entry.intake ≡ request client asked
    → Sublist (asked_by client history) taken → Sublist (asked_by client (history ++ entry ∷ [])) (taken ++ asked ∷ [])
stands-more client taken history entry asked is stands =
    subst (λ (all : List Request). Sublist all (taken ++ asked ∷ []))
    (sym (asked-push client history entry ∙ ap (λ (more : List Request). asked_by client history ++ more) (own-asked client entry.intake asked is)))
    (sublist-append stands (sublist-refl (asked ∷ [])))

pub stands-lost : (client : ℕ) (taken : List Request) (history : List Stamped) (asked : Request)
    → Sublist (asked_by client history) taken → Sublist (asked_by client history) (taken ++ asked ∷ [])
stands-lost client taken history asked stands = sublist-trans stands (sublist-append_left taken (asked ∷ []))

pub stands-other : (client : ℕ) (history : List Stamped) (entry : Stamped) → with_asked client entry.intake [] ≡ []
    → asked_by client (history ++ entry ∷ []) ≡ asked_by client history
stands-other client history entry none =
    asked-push client history entry ∙ ap (λ (more : List Request). asked_by client history ++ more) none ∙ append-nil (asked_by client history)
