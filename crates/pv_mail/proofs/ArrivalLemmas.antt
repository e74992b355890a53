-- Two looks at the rings of a box, one after the other.
use Rattle.std.proofs.Common.{◌≡◌, ◌⊎◌, ℕ, ◌+◌, ◌-◌, ◌<◌, ◌≤◌, Option, None, Some, List, length, sym, subst, inl, inr, ⊎_elim, arith}
use Rattle.std.specs.Prelude.{IfNone, min}
use Rattle.pv_post.specs.declared.inlet.In.{In}
use Rattle.pv_rings.proofs.EachLemmas.{each-self, each-trans, each-weaker}
use Rattle.pv_rings.proofs.RingLemmas.{First, Looked, all-found-empty, all-rest, all-rest-trans, gives-one-after}
use Rattle.pv_rings.specs.Rings.{AreFoundEmpty, Each, IsFirst, IsFoundEmpty}
use Rattle.pv_mail.specs.Arrivals.{Comes, IsBefore, IsFirstOf, NoneBefore, place_of}
use Rattle.pv_mail.specs.Looks.{AllFoundEmpty}
use Rattle.pv_mail.specs.declared.arrival.Arrival.{Arrival}
use Rattle.pv_mail.specs.declared.arrival.Arrival.TheVariants as arrival
use Rattle.pv_mail.specs.declared.ends.Ends.{Ends}
use Rattle.pv_script.specs.declared.live.Request.{Request}

-- The first look found nothing in the rings of sites and of clients that it was for.
module _ (old mid new : Ends) (site site_end client client_end : ℕ) (sites : AreFoundEmpty site site_end old.sites_in.items mid.sites_in.items)
    (clients : AreFoundEmpty client client_end old.clients_in.items mid.clients_in.items) where
  -- The second one gave this.
  pub comes-after : (came : Arrival) (count : ℕ) → Comes mid new came count → Comes old new came count
  comes-after (arrival.Request from request) count comes = (
    gives-one-after from request count old.clients_in.items mid.clients_in.items new.clients_in.items
        (all-rest client client_end old.clients_in.items mid.clients_in.items clients) (comes.0),
    all-rest-trans old.sites_in.items mid.sites_in.items new.sites_in.items (all-rest site site_end old.sites_in.items mid.sites_in.items sites) (comes.1),
  )
  comes-after (arrival.Parcel from parcel) count comes = (
    gives-one-after from.0 parcel count old.sites_in.items mid.sites_in.items new.sites_in.items
        (all-rest site site_end old.sites_in.items mid.sites_in.items sites) (comes.0),
    all-rest-trans old.clients_in.items mid.clients_in.items new.clients_in.items
        (all-rest client client_end old.clients_in.items mid.clients_in.items clients) (comes.1),
  )

-- Those from these places on were found empty, and then those before them: all were.
pub nothing-found : (old mid new : Ends) (site client : ℕ) → AreFoundEmpty site (length old.sites_in.items) old.sites_in.items mid.sites_in.items
    → AreFoundEmpty client (length old.clients_in.items) old.clients_in.items mid.clients_in.items
    → AreFoundEmpty 0 site mid.sites_in.items new.sites_in.items → AreFoundEmpty 0 client mid.clients_in.items new.clients_in.items → AllFoundEmpty old new
nothing-found old mid new site client sites clients sites' clients' = (
  all-found-empty site old.sites_in.items mid.sites_in.items new.sites_in.items sites sites',
  all-found-empty client old.clients_in.items mid.clients_in.items new.clients_in.items clients clients',
)

-- What is so is so if there is nothing.
pub if-none : {A : Type 0} (came : Option A) (P : Type 0) → P → IfNone came P
if-none None P is = is
if-none (Some other) P is = tt

-- ## In turn
before-from : (first place other : ℕ) → first ≤ other → IsBefore first place other → (first ≤ place) × (place < other)
before-from first place other from before = ⊎_elim (λ is. is) (λ is. absurd (omega (arith, is.0, from))) before

before-past : (first place other : ℕ) → other < first → IsBefore first place other → (first ≤ place) ⊎ (place < other)
before-past first place other past before = ⊎_elim (λ is. inl is.0) (λ is. is.1) before

-- Among these rings, those from a place on were found empty at a first look, and those up to a later one that gave, at the second.
looked-twice : {M : Type 0} (a b c : List (In M)) (at end ring : ℕ) (Before : ℕ → Type 0) → end ≡ length a → ring < at
    → ((k : ℕ) → Before k → (at ≤ k) ⊎ (k < ring)) → AreFoundEmpty at end a b → IsFirst 0 at ring b c → Each (λ k one other. Before k → IsFoundEmpty one other) a c
looked-twice {M} a b c at end ring Before end_is less by first second =
    each-trans (Looked at end) (First 0 ring) (λ k x z. Before k → IsFoundEmpty x z) a b c
    (λ k x y z within r s before. ⊎_elim
    (λ past. subst (λ (v : In M). IsFoundEmpty x v) (sym (s.1 (inr (omega (arith, less, past))))) (r.0 past (omega (arith, within, end_is))))
    (λ lower. subst (λ (v : In M). IsFoundEmpty v z) (r.1 (inl (omega (arith, less, lower)))) (s.0 (omega arith) lower))
    (by k before))
    first second.2

module _ (old : Ends) (next site site_end client client_end : ℕ) (site_end_is : site_end ≡ length old.sites_in.items)
    (client_end_is : client_end ≡ length old.clients_in.items) (site_is : site ≡ min next site_end) (client_is : client ≡ min (next - site) client_end) where
  -- The first look gave.
  pub first-turn : (new : Ends) (came : Arrival) → IsFirstOf site site_end client client_end came old new
      → NoneBefore next (place_of (length old.sites_in.items) came) old new
  first-turn new (arrival.Request from request) turn =
      let from_next : next ≤ length old.sites_in.items + from = omega (arith, site_end_is, site_is, client_is, turn.1.0, turn.1.1) in (
        each-weaker (Looked site site_end) (λ k one other. IsBefore next k (length old.sites_in.items + from) → IsFoundEmpty one other) old.sites_in.items new.sites_in.items
            (λ k x y within r before.
            let is = before-from next k (length old.sites_in.items + from) from_next before in
            r.0 (omega (arith, site_is, is.0)) (omega (arith, within, site_end_is))) turn.0,
        each-weaker (First client from) (λ k one other. IsBefore next (length old.sites_in.items + k) (length old.sites_in.items + from) → IsFoundEmpty one other)
            old.clients_in.items new.clients_in.items
            (λ k x y within r before.
            let is = before-from next (length old.sites_in.items + k) (length old.sites_in.items + from) from_next before in
            r.0 (omega (arith, site_end_is, site_is, client_is, is.0)) (omega (arith, is.1))) turn.1.2,
      )
  first-turn new (arrival.Parcel from parcel) turn =
      let from_next : next ≤ from.0 = omega (arith, site_is, turn.0.0, turn.0.1) in (
        each-weaker (First site from.0) (λ k one other. IsBefore next k from.0 → IsFoundEmpty one other) old.sites_in.items new.sites_in.items
            (λ k x y within r before. let is = before-from next k from.0 from_next before in r.0 (omega (arith, site_is, is.0)) is.1) turn.0.2,
        subst (λ (all : List (In Request)). Each (λ k one other. IsBefore next (length old.sites_in.items + k) from.0 → IsFoundEmpty one other) old.clients_in.items all)
            (sym turn.1)
            (each-self (λ k one other. IsBefore next (length old.sites_in.items + k) from.0 → IsFoundEmpty one other) old.clients_in.items
            (λ k x within before.
            let is = before-from next (length old.sites_in.items + k) from.0 from_next before in absurd (omega (arith, is.1, turn.0.1, site_end_is)))),
      )

  -- The first look gave nothing, and the second one gave.
  module _ (mid new : Ends) (sites : AreFoundEmpty site site_end old.sites_in.items mid.sites_in.items)
      (clients : AreFoundEmpty client client_end old.clients_in.items mid.clients_in.items) where
    pub second-turn : (came : Arrival) → IsFirstOf 0 site 0 client came mid new → NoneBefore next (place_of (length old.sites_in.items) came) old new
    second-turn (arrival.Request from request) turn =
        let past : length old.sites_in.items + from < next = omega (arith, site_end_is, site_is, client_is, turn.1.1) in (
          each-weaker (λ k one other. IsFoundEmpty one other) (λ k one other. IsBefore next k (length old.sites_in.items + from) → IsFoundEmpty one other)
              old.sites_in.items new.sites_in.items (λ k x y within found before. found)
              (all-found-empty site old.sites_in.items mid.sites_in.items new.sites_in.items
              (subst (λ (n : ℕ). AreFoundEmpty site n old.sites_in.items mid.sites_in.items) site_end_is sites) turn.0),
          looked-twice old.clients_in.items mid.clients_in.items new.clients_in.items client client_end from
              (λ k. IsBefore next (length old.sites_in.items + k) (length old.sites_in.items + from)) client_end_is turn.1.1
              (λ k before. ⊎_elim (λ after. inl (omega (arith, site_end_is, site_is, client_is, after))) (λ lower. inr (omega (arith, lower)))
              (before-past next (length old.sites_in.items + k) (length old.sites_in.items + from) past before))
              clients turn.1,
        )
    second-turn (arrival.Parcel from parcel) turn =
        let past : from.0 < next = omega (arith, site_is, turn.0.1) in (
          looked-twice old.sites_in.items mid.sites_in.items new.sites_in.items site site_end from.0 (λ k. IsBefore next k from.0) site_end_is turn.0.1
              (λ k before. ⊎_elim (λ after. inl (omega (arith, site_is, after))) (λ lower. inr lower) (before-past next k from.0 past before))
              sites turn.0,
          subst (λ (all : List (In Request)). Each (λ k one other. IsBefore next (length old.sites_in.items + k) from.0 → IsFoundEmpty one other) old.clients_in.items all)
              (sym turn.1)
              (each-weaker (Looked client client_end) (λ k one other. IsBefore next (length old.sites_in.items + k) from.0 → IsFoundEmpty one other)
              old.clients_in.items mid.clients_in.items
              (λ k x y within r before.
              ⊎_elim (λ after. r.0 (omega (arith, site_end_is, site_is, client_is, after)) (omega (arith, within, client_end_is)))
              (λ lower. absurd (omega (arith, lower, turn.0.1, site_end_is, site_is)))
              (before-past next (length old.sites_in.items + k) from.0 past before))
              clients),
        )
