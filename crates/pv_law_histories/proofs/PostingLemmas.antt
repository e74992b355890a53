-- What was posted was sent.
use Rattle.std.proofs.Common.{◌≡◌, ℕ, ◌+◌, ◌-◌, ◌<◌, max, Bool, true, false, Some, ◌==◌, if◌then◌else◌, List, [], ◌∷◌, ◌++◌, length, length-append, drop, take-append-drop, slice_get, All, append_assoc, append-nil, eqb-true, sym, refl, ap, ◌∙◌, inl, inr, arith}
use Rattle.std.proofs.lemmas.List.Elements.{All-nil, All-cons, All-head, All-tail, All-append, All-weaker, All-contains}
use Rattle.pv_law_histories.specs.Course.{course, left_by, sent_by, Sent}
use Rattle.pv_law_histories.specs.Fitting.{history_of, HasRisingStamps, WasSentBefore, FitTogether}
use Rattle.pv_law_histories.specs.History.{Intake, request, parcel, tick, Stamped}
use Rattle.pv_law_histories.specs.Posting.{Parcel, parcels_to, kept_by, posted_to, stamp_with, AreStamped, last_stamp, WasPosted, PassMessages}
use Rattle.pv_protocol.specs.State.{Setup, Site, Outgoing}
use Rattle.pv_protocol.specs.World.{first_site}

-- The element behind a front stands at the front's length.
at-front : {A : Type 0} (front : List A) (x : A) (back : List A) → slice_get (front ++ x ∷ back) (length front) ≡ Some x
at-front [] x back = refl
at-front (first ∷ front) x back = at-front front x back

-- This parcel is of this stamp, and stands at its place among these messages.
abbrev IsAmong : (to stamp : ℕ) → List Outgoing → Parcel → Type 0
IsAmong to stamp sends posted = (stamp ≡ posted.stamp) × (slice_get sends posted.place ≡ Some record { to = to; message = posted.message })

if-parcel : (P : Parcel → Type 0) (test : Bool) (posted : Parcel) (more : List Parcel) → (test ≡ true → P posted) → All P more
    → All P (if test then posted ∷ more else more)
if-parcel P true posted more here rest = All-cons P posted more (here refl) rest
if-parcel P false posted more here rest = rest

parcels-among : (to stamp : ℕ) (sends front more back : List Outgoing) (place : ℕ) → sends ≡ front ++ (more ++ back) → place ≡ length front
    → All (IsAmong to stamp sends) (parcels_to to stamp place more)
parcels-among to stamp sends front [] back place split here = All-nil (IsAmong to stamp sends)
parcels-among to stamp sends front (outgoing ∷ more) back place split here =
    if-parcel (IsAmong to stamp sends) (outgoing.to == to) record { stamp = stamp; place = place; message = outgoing.message } (parcels_to to stamp (place + 1) more)
    (λ is. (
      refl,
      ap (λ (all : List Outgoing). slice_get all place) split ∙ ap (slice_get (front ++ (outgoing ∷ (more ++ back)))) here ∙ at-front front outgoing (more ++ back)
          ∙ ap Some (let same = eqb-true outgoing.to to is in λ i. record { to = same i; message = outgoing.message }),
    ))
    (parcels-among to stamp sends (front ++ outgoing ∷ []) more back (place + 1) (split ∙ sym (append_assoc front (outgoing ∷ []) (more ++ back)))
    (let longer = length-append front (outgoing ∷ []) in omega arith))

module _ (setup : Setup) (me to : ℕ) where
  abbrev IsSent : Site → List Stamped → Parcel → Type 0
  IsSent site entries posted = Sent setup me site entries posted.stamp posted.place record { to = to; message = posted.message }

  posted-sent : (site : Site) (entries : List Stamped) → All (IsSent site entries) (posted_to setup me to site entries)
  posted-sent site [] = All-nil (IsSent site [])
  posted-sent site (entry ∷ entries) =
      let sends = sent_by setup me site entry in
      let kept = kept_by setup me site entry in
      let left = left_by setup me site entry in
      All-append (IsSent site (entry ∷ entries)) (parcels_to to entry.stamp 0 kept) (posted_to setup me to left entries)
      (All-weaker (IsAmong to entry.stamp sends) (IsSent site (entry ∷ entries)) (λ posted among. inl among) (parcels_to to entry.stamp 0 kept)
      (parcels-among to entry.stamp sends [] kept (drop (length sends - entry.short) sends) 0 (sym (take-append-drop (length sends - entry.short) sends)) refl))
      (All-weaker (IsSent left entries) (IsSent site (entry ∷ entries)) (λ posted later. inr later) (posted_to setup me to left entries) (posted-sent left entries))

-- ## Stamps
stamped-rise : (last : ℕ) (entries : List Stamped) → AreStamped last entries → All (λ entry. last < entry.stamp) entries × HasRisingStamps entries
stamped-rise last [] are = (All-nil (λ (entry : Stamped). last < entry.stamp), tt)
stamped-rise last (entry ∷ entries) are =
    let rest = stamped-rise entry.stamp entries are.1 in
    let is = are.0 in
    let above : last < entry.stamp = omega arith in (
      All-cons (λ (e : Stamped). last < e.stamp) entry entries above
          (All-weaker (λ (e : Stamped). entry.stamp < e.stamp) (λ (e : Stamped). last < e.stamp) (λ e later. omega arith) entries rest.0),
      (rest.0, rest.1),
    )

stamped-above : (last : ℕ) (entries : List Stamped) → AreStamped last entries → All (λ entry. stamp_with entry.intake < entry.stamp) entries
stamped-above last [] are = All-nil (λ (entry : Stamped). stamp_with entry.intake < entry.stamp)
stamped-above last (entry ∷ entries) are =
    let is = are.0 in
    All-cons (λ (e : Stamped). stamp_with e.intake < e.stamp) entry entries (omega arith) (stamped-above entry.stamp entries are.1)

pub stamped-append : (last : ℕ) (entries : List Stamped) (entry : Stamped) → AreStamped last entries
    → entry.stamp ≡ max (last_stamp last entries) (stamp_with entry.intake) + 1 → AreStamped last (entries ++ entry ∷ [])
stamped-append last [] entry are is = (is, tt)
stamped-append last (first ∷ entries) entry are is = (are.0, stamped-append first.stamp entries entry are.1 is)

pub posted-append : (setup : Setup) (me to : ℕ) (site : Site) (entries : List Stamped) (entry : Stamped)
    → posted_to setup me to site (entries ++ entry ∷ []) ≡ posted_to setup me to site entries ++ parcels_to to entry.stamp 0 (kept_by setup me (course setup me site entries) entry)
posted-append setup me to site [] entry = append-nil (parcels_to to entry.stamp 0 (kept_by setup me site entry))
posted-append setup me to site (first ∷ entries) entry =
    let here = parcels_to to first.stamp 0 (kept_by setup me site first) in
    let left = left_by setup me site first in
    ap (λ (rest : List Parcel). here ++ rest) (posted-append setup me to left entries entry)
    ∙ sym (append_assoc here (posted_to setup me to left entries) (parcels_to to entry.stamp 0 (kept_by setup me (course setup me left entries) entry)))

-- ## All histories
was-sent : (setup : Setup) (histories : List (List Stamped)) (to stamp : ℕ) (intake : Intake) → stamp_with intake < stamp → WasPosted setup histories to intake
    → WasSentBefore setup histories to stamp intake
was-sent setup histories to stamp (request client asked) above was = tt
was-sent setup histories to stamp (parcel from sent place message) above was = (
  was.0,
  above,
  All-contains (IsSent setup from to first_site (history_of histories from)) (posted_to setup from to first_site (history_of histories from))
      record { stamp = sent; place = place; message = message } (posted-sent setup from to first_site (history_of histories from)) was.1,
)
was-sent setup histories to stamp tick above was = tt

all-both : {A : Type 0} (P Q R : A → Type 0) (xs : List A) → ((x : A) → P x → Q x → R x) → All P xs → All Q xs → All R xs
all-both P Q R [] joins ps qs = All-nil R
all-both P Q R (x ∷ xs) joins ps qs =
    All-cons R x xs (joins x (All-head P x xs ps) (All-head Q x xs qs)) (all-both P Q R xs joins (All-tail P x xs ps) (All-tail Q x xs qs))

pub fit-together : (setup : Setup) (histories : List (List Stamped)) → PassMessages setup histories → FitTogether setup histories
fit-together setup histories pass = record {
  count = pass.count;
  rising = λ n within. (stamped-rise 0 (history_of histories n) (pass.stamps n within)).1;
  steps = pass.steps;
  sent = λ n within. all-both (λ (entry : Stamped). stamp_with entry.intake < entry.stamp) (λ (entry : Stamped). WasPosted setup histories n entry.intake)
      (λ (entry : Stamped). WasSentBefore setup histories n entry.stamp entry.intake) (history_of histories n)
      (λ entry above was. was-sent setup histories n entry.stamp entry.intake above was)
      (stamped-above 0 (history_of histories n) (pass.stamps n within)) (pass.posted n within);
}
