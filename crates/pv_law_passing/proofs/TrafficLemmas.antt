-- Sites that each go by their rings go by rings together; and how one site's part grows.
use Rattle.std.proofs.Common.{◌≡◌, ℕ, ◌+◌, ◌<◌, max, sym, subst, List, [], ◌∷◌, ◌++◌, length, All}
use Rattle.std.proofs.lemmas.List.Elements.{All-append, All-push, All-weaker, Contains-append_left, Contains-append_right}
use Rattle.std.specs.List.{AllZip}
use Rattle.std.specs.Prelude.{Contains}
use Rattle.pv_law_histories.specs.Course.{AreSteps, IsStep, course}
use Rattle.pv_law_histories.specs.Fitting.{history_of}
use Rattle.pv_law_histories.specs.History.{Stamped}
use Rattle.pv_law_histories.specs.Posting.{AreStamped, Parcel, kept_by, last_stamp, parcels_to, posted_to, stamp_with}
use Rattle.pv_law_passing.proofs.RingLemmas.{still-taken}
use Rattle.pv_law_passing.specs.Rings.{GoByRings, Sealed, Seals, WasTaken}
use Rattle.pv_law_passing.specs.Traffic.{GivesMore, GoTogether, GoesByItsRings, TakesOneMore, Traffic, offered_at, posted_at, rings_of, taken_at, traffic_of}
use Rattle.pv_protocol.specs.State.{Setup, Site}
use Rattle.pv_protocol.specs.World.{first_site}

module _ (setup : Setup) (histories : List (List Stamped)) (all : List Traffic) (go : GoTogether setup histories all) where
  of-sites : (n : ℕ) → n < length histories → n < setup.catalog.sites
  of-sites n within = subst (λ (count : ℕ). n < count) go.count within

  pub go-by-rings : GoByRings setup histories (rings_of all)
  go-by-rings = record {
    count = go.count;
    stamps = λ n within. (go.sites n within).stamps;
    steps = λ n within. (go.sites n within).steps;
    rings_bring = λ from to of_from of_to.
        record { posted = (go.sites from of_from).posted to (of-sites to of_to); taken = go.brings from to of_from of_to };
    offered = λ from to of_from of_to. (go.sites from of_from).offered to (of-sites to of_to);
    taken = λ n within.
        subst (λ (sites : ℕ). All (λ entry. WasTaken (taken_at (traffic_of all n)) sites n entry.intake) (history_of histories n)) (sym go.count) (go.sites n within).taken;
  }

-- ## One site goes on
pub all-zip-append : {A B : Type 0} (R : A → B → Type 0) (xs more : List A) (ys others : List B) → AllZip R xs ys → AllZip R more others
    → AllZip R (xs ++ more) (ys ++ others)
all-zip-append R [] more [] others zip rest = rest
all-zip-append R [] more (y ∷ ys) others zip rest = absurd zip
all-zip-append R (x ∷ xs) more [] others zip rest = absurd zip
all-zip-append R (x ∷ xs) more (y ∷ ys) others zip rest = (zip.0, all-zip-append R xs more ys others zip.1 rest)

module _ (setup : Setup) (me : ℕ) (history : List Stamped) (old new : Traffic) (goes : GoesByItsRings setup me history old) where
  taken-still : GivesMore setup.catalog.sites old new → All (λ entry. WasTaken (taken_at new) setup.catalog.sites me entry.intake) history
  taken-still gives =
      All-weaker (λ (entry : Stamped). WasTaken (taken_at old) setup.catalog.sites me entry.intake)
      (λ (entry : Stamped). WasTaken (taken_at new) setup.catalog.sites me entry.intake)
      (λ entry was. still-taken (taken_at old) (taken_at new) setup.catalog.sites me entry.intake gives was) history goes.taken

  pub goes-none : new.offered ≡ old.offered → new.posted ≡ old.posted → GivesMore setup.catalog.sites old new → GoesByItsRings setup me history new
  goes-none offered posted gives = record {
    stamps = goes.stamps;
    steps = goes.steps;
    offered = λ to within.
        subst (λ (all : List (List Sealed)). AllZip (Seals me to) (offered_at (record new { offered = all }) to) (posted_to setup me to first_site history)) (sym offered)
        (goes.offered to within);
    posted = λ to within.
        subst (λ (all : List (List Sealed)). All (λ one. Contains (offered_at (record new { offered = all }) to) one.0) (posted_at new to)) (sym offered)
        (subst (λ (all : List (List (Sealed × ℕ))). All (λ one. Contains (offered_at old to) one.0) (posted_at (record old { posted = all }) to)) (sym posted)
        (goes.posted to within));
    taken = taken-still gives;
  }

  -- what is posted to a site, of what `histories_grow` says
  module _ (grow-steps : (n : ℕ) (site : Site) (entries : List Stamped) (entry : Stamped) → AreSteps setup n site entries
      → IsStep setup n (course setup n site entries) entry → AreSteps setup n site (entries ++ entry ∷ []))
      (grow-stamps : (last : ℕ) (entries : List Stamped) (entry : Stamped) → AreStamped last entries
      → entry.stamp ≡ max (last_stamp last entries) (stamp_with entry.intake) + 1 → AreStamped last (entries ++ entry ∷ []))
      (grow-posted : (n to : ℕ) (site : Site) (entries : List Stamped) (entry : Stamped) →
      posted_to setup n to site (entries ++ entry ∷ []) ≡
      posted_to setup n to site entries ++ parcels_to to entry.stamp 0 (kept_by setup n (course setup n site entries) entry))
      (entry : Stamped) (takes : TakesOneMore setup me history entry old new) where
    offered-more : (to : ℕ) → to < setup.catalog.sites → AllZip (Seals me to) (offered_at new to) (posted_to setup me to first_site (history ++ entry ∷ []))
    offered-more to within =
        let offers = takes.offers to within in
        let parcels = parcels_to to entry.stamp 0 (kept_by setup me (course setup me first_site history) entry) in
        let before = posted_to setup me to first_site history in
        subst (λ (all : List Parcel). AllZip (Seals me to) (offered_at new to) all) (sym (grow-posted me to first_site history entry))
        (subst (λ (all : List Sealed). AllZip (Seals me to) all (before ++ parcels)) (sym offers.offered)
        (all-zip-append (Seals me to) (offered_at old to) offers.more before parcels (goes.offered to within) offers.seals))

    posted-more : (to : ℕ) → to < setup.catalog.sites → All (λ one. Contains (offered_at new to) one.0) (posted_at new to)
    posted-more to within =
        let offers = takes.offers to within in
        let all = offered_at old to ++ offers.more in
        subst (λ (whole : List Sealed). All (λ one. Contains whole one.0) (posted_at new to)) (sym offers.offered)
        (subst (λ (held : List (Sealed × ℕ)). All (λ one. Contains all one.0) held) (sym offers.posted)
        (All-append (λ (one : Sealed × ℕ). Contains all one.0) (posted_at old to) offers.kept
        (All-weaker (λ (one : Sealed × ℕ). Contains (offered_at old to) one.0) (λ (one : Sealed × ℕ). Contains all one.0)
        (λ one there. Contains-append_left (offered_at old to) offers.more one.0 there) (posted_at old to) (goes.posted to within))
        (All-weaker (λ (one : Sealed × ℕ). Contains offers.more one.0) (λ (one : Sealed × ℕ). Contains all one.0)
        (λ one there. Contains-append_right (offered_at old to) offers.more one.0 there) offers.kept offers.among)))

    pub goes-more : GoesByItsRings setup me (history ++ entry ∷ []) new
    goes-more = record {
      stamps = grow-stamps 0 history entry goes.stamps takes.stamp;
      steps = grow-steps me first_site history entry goes.steps takes.step;
      offered = offered-more;
      posted = posted-more;
      taken = All-push (λ (it : Stamped). WasTaken (taken_at new) setup.catalog.sites me it.intake) history entry (taken-still takes.gives) takes.taken;
    }
