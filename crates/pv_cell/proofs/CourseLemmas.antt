-- The course of a box goes on by any visit and any tick.
use Rattle.std.proofs.Common.{◌≡◌, ◌⊎◌, ℕ, zero, suc, ◌+◌, ◌<◌, ◌==◌, Bool, true, false, if◌then◌else◌, max, List, [], ◌∷◌, ◌++◌, get_or, map, refl, sym, ap, ◌∙◌, subst, inl, inr, ⊎_elim, append-nil, append_assoc, eqb-true, All, Vec, Global}
use Rattle.std.proofs.lemmas.List.Elements.{All-head, All-nil, All-tail, All-weaker}
use Rattle.std.proofs.lemmas.List.{map-append}
use Rattle.std.specs.List.{AllZip}
use Rattle.std.specs.Prelude.{Contains, Option, Some, None, Result, Ok, Err}
use mathlib.Core.List.{Sublist, sublist-append_left}
use mathlib.Core.List.Sublist.{trans as sublist-trans, append as sublist-append, refl as sublist-refl}
use Rattle.pv_base.specs.Catalog.{Declared}
use Rattle.pv_base.specs.declared.txn.SiteId.{SiteId}
use Rattle.pv_disk_model.specs.LogModel.{LogModel}
use Rattle.pv_history.specs.Entries.{stamped_of, stamps_of}
use Rattle.pv_law_histories.specs.Course.{IsStep, course, left_by}
use Rattle.pv_law_histories.specs.History.{Intake, Stamped, tick}
use Rattle.pv_law_histories.specs.Posting.{kept_by, last_stamp, parcels_to, stamp_with}
use Rattle.pv_law_passing.proofs.ComingLemmas.{come-more, come-none}
use Rattle.pv_law_passing.proofs.RingLemmas.{asked-push}
use Rattle.pv_law_passing.specs.Asking.{asked_by, with_asked}
use Rattle.pv_law_passing.specs.Coming.{ComesInOrder, counted, with_parcel}
use Rattle.pv_law_passing.specs.Rings.{Sealed, Seals, WasTaken}
use Rattle.pv_law_passing.specs.Traffic.{GivesMore, GoesByItsRings, OffersMore, TakesOneMore, Traffic, offered_at, taken_at}
use Rattle.pv_mail.specs.Arrivals.{Comes, IsIntakeOf}
use Rattle.pv_mail.specs.Looks.{SameInRings}
use Rattle.pv_mail.specs.declared.arrival.Arrival.{Arrival}
use Rattle.pv_mail.specs.declared.arrival.Arrival.TheVariants as arrival
use Rattle.pv_mail.specs.declared.asked.Asker.{Asker}
use Rattle.pv_mail.specs.declared.ends.Parcel.{Parcel}
use Rattle.pv_model.specs.LiveScript.{Request}
use Rattle.pv_post.specs.Ends.{IsCount}
use Rattle.pv_post.specs.declared.inlet.In.{In}
use Rattle.pv_post.specs.declared.outlet.Out.{Out}
use Rattle.pv_protocol.specs.State as state
use Rattle.pv_protocol.specs.State.{Input, Running, Setup}
use Rattle.pv_protocol.specs.World.{first_site}
use Rattle.pv_rings.proofs.EachLemmas.{each-self, each-weaker}
use Rattle.pv_rings.proofs.RingLemmas.{rests-self}
use Rattle.pv_rings.specs.Rings.{Each, IsFoundEmpty, Rests}
use Rattle.pv_script.specs.LiveView.{request_of}
use Rattle.pv_script.specs.declared.live.Request as script
use Rattle.pv_site.specs.SiteState.{SiteState, setup_of}
use Rattle.pv_site.specs.Steps.{Steps}
use Rattle.pv_site.specs.declared.error.StepError.{StepError}
use Rattle.pv_site.specs.declared.error.StepError.TheVariants.{Fault, Down, NoMemory}
use Rattle.pv_site.specs.declared.input.Step.{Step}
use Rattle.pv_cell.proofs.ComingLemmas.{BringsMessages, fresh-plan, messages-again, messages-none, messages-parcel, messages-request, posts-plans, sealed-came}
use Rattle.pv_cell.proofs.TrafficLemmas.{gave-count, gave-it, given_of, gives-more, gives-requests, posts-more, rests-gives, rests-requests}
use Rattle.pv_cell.specs.Box.{IsBox, IsTickDue, course_site}
use Rattle.pv_cell.specs.Changes.{Enters, Kept, Loses, kept_of}
use Rattle.pv_cell.specs.Course.{HasCourse, IsCourse, IsNew, IsToCountAgain, asked_again, sealed_again}
use Rattle.pv_cell.specs.Opens.{IsFreshOut}
use Rattle.pv_cell.specs.Traffic.{KeepsItsPlan, requests_of, sealed_count, sealed_of, sealed_offered, sealed_posted, sealed_taken, traffic_of}
use Rattle.pv_cell.specs.Visits.{Arrives, FindsNothing, IsNext, TakesArrival, TakesTick, Visits}
use Rattle.pv_cell.specs.declared.site_box.SiteBox.{SiteBox}
use Rattle.pv_cell.specs.declared.visit.Visit.{Visit}
use Rattle.pv_cell.specs.declared.visit.Visit.TheVariants.{Took, Idle, Worn, Lost, Stray}

last-push : (last : ℕ) (entries : List Stamped) (entry : Stamped) → last_stamp last (entries ++ entry ∷ []) ≡ entry.stamp
last-push last [] entry = refl
last-push last (first ∷ entries) entry = last-push first.stamp entries entry

-- Both are one site of one catalog.
abbrev pub AreOneSite : {W : Type 0} → SiteState W → SiteState W → Type 0
AreOneSite old new = (new.me ≡ old.me) × (new.catalog ≡ old.catalog)

pub one-site : {W : Type 0} (M : LogModel W) (old new : SiteState W) (running : Option Running) (input : Input) (answer : Result Step StepError)
    → Steps M old new running input answer → AreOneSite old new
one-site {W} M old new None input answer is = (ap (λ (s : SiteState W). s.me) is.1, ap (λ (s : SiteState W). s.catalog) is.1)
one-site {W} M old new (Some running) input (Ok step) made = (ap (λ (s : SiteState W). s.me) made.site, ap (λ (s : SiteState W). s.catalog) made.site)
one-site {W} M old new (Some running) input (Err Fault) breaks = (ap (λ (s : SiteState W). s.me) breaks.site, ap (λ (s : SiteState W). s.catalog) breaks.site)
one-site {W} M old new (Some running) input (Err Down) steps = absurd steps
one-site {W} M old new (Some running) input (Err NoMemory) stays = (ap (λ (s : SiteState W). s.me) stays.site, ap (λ (s : SiteState W). s.catalog) stays.site)

-- ## What comes in
all-rest : {M : Type 0} (old new : List (In M)) → new ≡ old → Each (λ (k : ℕ) (one other : In M). Rests one other) old new
all-rest {M} old new is =
    subst (λ (rings : List (In M)). Each (λ (k : ℕ) (one other : In M). Rests one other) old rings) (sym is) (each-self (λ (k : ℕ) (one other : In M). Rests one other) old (λ k ring within. rests-self ring))

two-copies : (test : Bool) (one : Request) → (if test then one ∷ [] else []) ++ (if test then one ∷ [] else []) ≡ (if test then one ∷ (one ∷ []) else [])
two-copies true one = refl
two-copies false one = refl

asked-few : (catalog : Declared) (me : ℕ) (came : Arrival) (intake : Intake) → IsIntakeOf catalog me came intake → (client : ℕ)
    → Sublist (with_asked client intake []) (asked_again client (Some came))
asked-few catalog me (arrival.Request asker request) intake is client =
    subst (λ (it : Intake). Sublist (with_asked client it []) (asked_again client (Some (arrival.Request asker request)))) (sym is)
    (sublist-refl (asked_again client (Some (arrival.Request asker request))))
asked-few catalog me (arrival.Parcel from parcel) intake is client =
    subst (λ (it : Intake). Sublist (with_asked client it []) (asked_again client (Some (arrival.Parcel from parcel)))) (sym is.1) (sublist-refl [])

nothing-few : (came : Arrival) (client : ℕ) → Sublist {A = Request} [] (asked_again client (Some came))
nothing-few came client = sublist-append_left [] (asked_again client (Some came))

nothing-held : (came : Arrival) (from : ℕ) → Sublist {A = Sealed} [] (sealed_again from (Some came))
nothing-held came from = sublist-append_left [] (sealed_again from (Some came))

module _ {W : Type 0} where
  -- The rings in gave what they gave, some of which counts once more, where so much of each client's and of each site's is added to the history.
  pub record BringsIn (old new : SiteBox W) (added : ℕ → List Request) (held : ℕ → List Sealed) : Type 0 where
    pub gives : GivesMore old.site.catalog.sites (traffic_of old.ends) (traffic_of new.ends)
    pub again : IsToCountAgain old.site.catalog.sites (traffic_of new.ends) new.again
    pub asked : (client : ℕ)
        → (given : List Request)
        × (get_or (requests_of new.ends) client [] ≡ get_or (requests_of old.ends) client [] ++ given)
        × Sublist (added client ++ asked_again client new.again) (asked_again client old.again ++ given)
    pub messages : BringsMessages old new held

  -- ## Nothing comes
  module _ (old new : SiteBox W) where
    pub brings-none : Each (λ k one other. Rests one other) old.ends.sites_in.items new.ends.sites_in.items
        → Each (λ k one other. Rests one other) old.ends.clients_in.items new.ends.clients_in.items → new.again ≡ old.again
        → IsToCountAgain old.site.catalog.sites (traffic_of new.ends) new.again → BringsIn old new (λ client. []) (λ from. [])
    brings-none sites clients same once = record {
      gives = rests-gives old.site.catalog.sites old.ends new.ends sites;
      again = once;
      asked = λ client. (
        [],
        rests-requests old.ends new.ends clients client ∙ sym (append-nil (get_or (requests_of old.ends) client [])),
        subst (λ (left : Option Arrival). Sublist (asked_again client left) (asked_again client old.again ++ [])) (sym same)
            (sublist-append_left (asked_again client old.again) []),
      );
      messages = messages-none old new sites same;
    }

    same-once : IsToCountAgain old.site.catalog.sites (traffic_of old.ends) old.again → new.again ≡ old.again → SameInRings old.ends new.ends
        → IsToCountAgain old.site.catalog.sites (traffic_of new.ends) new.again
    same-once once same rings =
        subst (λ (left : Option Arrival). IsToCountAgain old.site.catalog.sites (traffic_of new.ends) left) (sym same)
        (once-at old.again once)
      where
        once-at : (left : Option Arrival) → IsToCountAgain old.site.catalog.sites (traffic_of old.ends) left → IsToCountAgain old.site.catalog.sites (traffic_of new.ends) left
        once-at None was = tt
        once-at (Some (arrival.Request client request)) was = tt
        once-at (Some (arrival.Parcel from parcel)) was = (
          was.0,
          subst (λ (ins : List (In Parcel)). Contains (get_or (map sealed_taken ins) from.0 []) (sealed_of parcel, 2)) (sym (ap (λ (all : Vec (In Parcel) Global). all.items) rings.0))
              was.1,
        )

    -- A tick, or what is lost before it comes to rings.
    pub brings-same : IsToCountAgain old.site.catalog.sites (traffic_of old.ends) old.again → new.again ≡ old.again → SameInRings old.ends new.ends
        → BringsIn old new (λ client. []) (λ from. [])
    brings-same once same rings =
        brings-none
        (all-rest old.ends.sites_in.items new.ends.sites_in.items (ap (λ (all : Vec (In Parcel) Global). all.items) rings.0))
        (all-rest old.ends.clients_in.items new.ends.clients_in.items (ap (λ (all : Vec (In script.Request) Global). all.items) rings.1))
        same (same-once once same rings)

  -- ## Something comes
  module _ (M : LogModel W) (old new : SiteBox W) (is_box : IsBox M old) (once : IsToCountAgain old.site.catalog.sites (traffic_of old.ends) old.again) where
    abbrev Sites : ℕ
    Sites = old.site.catalog.sites

    sites-rest : SameInRings old.ends new.ends → Each (λ k one other. Rests one other) old.ends.sites_in.items new.ends.sites_in.items
    sites-rest rings = all-rest old.ends.sites_in.items new.ends.sites_in.items (ap (λ (all : Vec (In Parcel) Global). all.items) rings.0)

    -- No more is added than comes.
    module _ (came : Arrival) (count : ℕ) (added : ℕ → List Request) (few : (client : ℕ) → Sublist (added client) (asked_again client (Some came)))
        (held : ℕ → List Sealed) (few_held : (from : ℕ) → Sublist (held from) (sealed_again from (Some came)))
        (again : new.again ≡ (if count == 2 then Some came else None)) where
      none-left : count ≡ 1 → new.again ≡ None
      none-left one = again ∙ ap (λ (n : ℕ). if n == 2 then Some came else None) one

      -- for the second time
      comes-again : old.again ≡ Some came → count ≡ 1 → SameInRings old.ends new.ends → BringsIn old new added held
      comes-again was one rings = record {
        gives = rests-gives Sites old.ends new.ends (sites-rest rings);
        messages = messages-again old new came held few_held (sites-rest rings) was (none-left one);
        again = subst (λ (left : Option Arrival). IsToCountAgain Sites (traffic_of new.ends) left) (sym (none-left one)) tt;
        asked = λ client. (
          [],
          rests-requests old.ends new.ends
              (all-rest old.ends.clients_in.items new.ends.clients_in.items (ap (λ (all : Vec (In script.Request) Global). all.items) rings.1)) client
              ∙ sym (append-nil (get_or (requests_of old.ends) client [])),
          subst (λ (left : Option Arrival). Sublist (added client ++ asked_again client left) (asked_again client old.again ++ [])) (sym (none-left one))
              (subst (λ (left : Option Arrival). Sublist (added client ++ []) (asked_again client left ++ [])) (sym was) (sublist-append (few client) (sublist-refl []))),
        );
      }

    parcel-comes : (from : SiteId) (parcel : Parcel) (count : ℕ) (added : ℕ → List Request) → ((client : ℕ) → Sublist (added client) [])
        → (held : ℕ → List Sealed) → ((sender : ℕ) → Sublist (held sender) (sealed_again sender (Some (arrival.Parcel from parcel))))
        → new.again ≡ (if count == 2 then Some (arrival.Parcel from parcel) else None) → old.again ≡ None
        → Comes old.ends new.ends (arrival.Parcel from parcel) count → BringsIn old new added held
    parcel-comes from parcel count added few held few_held again was comes = record {
      gives = gives-more old.ends new.ends from.0 parcel count comes.0 Sites;
      again = subst (λ (left : Option Arrival). IsToCountAgain Sites (traffic_of new.ends) left) (sym again) (left-of (count == 2) refl);
      asked = λ client. (
        [],
        rests-requests old.ends new.ends comes.1 client ∙ sym (append-nil (get_or (requests_of old.ends) client [])),
        subst (λ (left : Option Arrival). Sublist (added client ++ asked_again client left) (asked_again client old.again ++ [])) (sym again)
            (subst (λ (left : Option Arrival). Sublist (added client ++ asked_again client (if count == 2 then Some (arrival.Parcel from parcel) else None)) (asked_again client left ++ []))
            (sym was) (sublist-append (few client) (no-request client (count == 2)))),
      );
      messages = messages-parcel old new held was from parcel count few_held again
          (gave-count from.0 parcel count old.ends.sites_in.items new.ends.sites_in.items comes.0) comes.0;
    }
      where
        left-of : (test : Bool) → (count == 2) ≡ test → IsToCountAgain Sites (traffic_of new.ends) (if test then Some (arrival.Parcel from parcel) else None)
        left-of true is = (
          subst (λ (n : ℕ). from.0 < n) is_box.rings.0 comes.0.0,
          subst (λ (n : ℕ). Contains (taken_at (traffic_of new.ends) from.0) (sealed_of parcel, n)) (eqb-true count 2 is)
              (gave-it old.ends new.ends from.0 parcel count comes.0),
        )
        left-of false is = tt

        no-request : (client : ℕ) (test : Bool) → Sublist {A = Request} (asked_again client (if test then Some (arrival.Parcel from parcel) else None)) []
        no-request client true = sublist-refl []
        no-request client false = sublist-refl []

    request-comes : (asker : ℕ) (request : script.Request) (count : ℕ) (added : ℕ → List Request)
        → ((client : ℕ) → Sublist (added client) (asked_again client (Some (arrival.Request asker request))))
        → (held : ℕ → List Sealed) → ((sender : ℕ) → Sublist (held sender) (sealed_again sender (Some (arrival.Request asker request))))
        → new.again ≡ (if count == 2 then Some (arrival.Request asker request) else None) → old.again ≡ None
        → Comes old.ends new.ends (arrival.Request asker request) count → BringsIn old new added held
    request-comes asker request count added few held few_held again was comes = record {
      gives = rests-gives Sites old.ends new.ends comes.1;
      again = subst (λ (left : Option Arrival). IsToCountAgain Sites (traffic_of new.ends) left) (sym again) (left-of (count == 2));
      asked = λ client. (
        given_of client asker request count,
        gives-requests old.ends new.ends asker request count comes.0 client,
        subst (λ (left : Option Arrival). Sublist (added client ++ asked_again client left) (asked_again client old.again ++ given_of client asker request count)) (sym again)
            (subst (λ (left : Option Arrival).
            Sublist (added client ++ asked_again client (if count == 2 then Some (arrival.Request asker request) else None)) (asked_again client left ++ given_of client asker request count))
            (sym was) (copies client (gave-count asker request count old.ends.clients_in.items new.ends.clients_in.items comes.0))),
      );
      messages = messages-request old new held was asker request (count == 2) few_held again comes.1;
    }
      where
        left-of : (test : Bool) → IsToCountAgain Sites (traffic_of new.ends) (if test then Some (arrival.Request asker request) else None)
        left-of true = tt
        left-of false = tt

        copies : (client : ℕ) → IsCount count
            → Sublist (added client ++ asked_again client (if count == 2 then Some (arrival.Request asker request) else None)) (given_of client asker request count)
        copies client (inl one) =
            subst (λ (n : ℕ). Sublist (added client ++ asked_again client (if n == 2 then Some (arrival.Request asker request) else None)) (given_of client asker request n)) (sym one)
            (subst (λ (all : List Request). Sublist all (given_of client asker request 1)) (sym (append-nil (added client))) (few client))
        copies client (inr two) =
            subst (λ (n : ℕ). Sublist (added client ++ asked_again client (if n == 2 then Some (arrival.Request asker request) else None)) (given_of client asker request n)) (sym two)
            (subst (λ (all : List Request). Sublist (added client ++ asked_again client (Some (arrival.Request asker request))) all)
            (two-copies (asker == client) (request_of request))
            (sublist-append (few client) (sublist-refl (asked_again client (Some (arrival.Request asker request))))))

    brings-next : (came : Arrival) (count : ℕ) (added : ℕ → List Request) → ((client : ℕ) → Sublist (added client) (asked_again client (Some came)))
        → (held : ℕ → List Sealed) → ((from : ℕ) → Sublist (held from) (sealed_again from (Some came)))
        → new.again ≡ (if count == 2 then Some came else None) → IsNext old new came count → BringsIn old new added held
    brings-next came count added few held few_held again (inl left) = comes-again came count added few held few_held again left.0 left.1 left.3
    brings-next (arrival.Parcel from parcel) count added few held few_held again (inr next) =
        parcel-comes from parcel count added few held few_held again next.0 next.1
    brings-next (arrival.Request asker request) count added few held few_held again (inr next) =
        request-comes asker request count added few held few_held again next.0 next.1

    pub brings-came : (came : Arrival) (added : ℕ → List Request) → ((client : ℕ) → Sublist (added client) (asked_again client (Some came)))
        → (held : ℕ → List Sealed) → ((from : ℕ) → Sublist (held from) (sealed_again from (Some came))) → Arrives old new came → BringsIn old new added held
    brings-came came added few held few_held arrives = brings-next came arrives.0 added few held few_held arrives.2 arrives.1

    -- A parcel that comes was given by its ring.
    was-given : (from : SiteId) (parcel : Parcel) (count : ℕ) → IsNext old new (arrival.Parcel from parcel) count
        → (from.0 < Sites) × ((n : ℕ) × Contains (taken_at (traffic_of new.ends) from.0) (sealed_of parcel, n))
    was-given from parcel count (inl left) =
        let was = subst (λ (it : Option Arrival). IsToCountAgain Sites (traffic_of old.ends) it) left.0 once in (
          was.0,
          (
            2,
            subst (λ (ins : List (In Parcel)). Contains (get_or (map sealed_taken ins) from.0 []) (sealed_of parcel, 2))
                (sym (ap (λ (all : Vec (In Parcel) Global). all.items) left.3.0)) was.1,
          ),
        )
    was-given from parcel count (inr next) = (
      subst (λ (n : ℕ). from.0 < n) is_box.rings.0 next.1.0.0,
      (count, gave-it old.ends new.ends from.0 parcel count next.1.0),
    )

    pub was-taken : (came : Arrival) (intake : Intake) → Arrives old new came → IsIntakeOf old.site.catalog old.site.me came intake
        → WasTaken (taken_at (traffic_of new.ends)) Sites old.site.me intake
    was-taken (arrival.Request client request) intake arrives is =
        subst (λ (it : Intake). WasTaken (taken_at (traffic_of new.ends)) Sites old.site.me it) (sym is) tt
    was-taken (arrival.Parcel from parcel) intake arrives is =
        let given = was-given from parcel arrives.0 arrives.1 in
        subst (λ (it : Intake). WasTaken (taken_at (traffic_of new.ends)) Sites old.site.me it) (sym is.1)
        (given.0, ((sealed_of parcel, given.1.0), given.1.1, (refl, refl, is.2)))

-- ## The course
module _ {W : Type 0} (M : LogModel W)
    (grow-course : (setup : Setup) (n : ℕ) (site : state.Site) (entries : List Stamped) (entry : Stamped) →
    course setup n site (entries ++ entry ∷ []) ≡ left_by setup n (course setup n site entries) entry)
    (more : (setup : Setup) (me : ℕ) (history : List Stamped) (entry : Stamped) (old new : Traffic) → GoesByItsRings setup me history old →
    TakesOneMore setup me history entry old new → GoesByItsRings setup me (history ++ entry ∷ []) new)
    (none : (setup : Setup) (me : ℕ) (history : List Stamped) (old new : Traffic) → GoesByItsRings setup me history old →
    new.offered ≡ old.offered → new.posted ≡ old.posted → GivesMore setup.catalog.sites old new → GoesByItsRings setup me history new)
    (old new : SiteBox W) (is_box : IsBox M old) (has : HasCourse old) where
  abbrev Here : ℕ → Declared → Type 0
  Here me catalog =
      IsCourse (setup_of catalog) me (course_site new.site) (stamps_of new.history.items) new.stamp new.again new.ends

  in-place : AreOneSite old.site new.site → Here old.site.me old.site.catalog → HasCourse new
  in-place one here = subst (λ (me : ℕ). Here me new.site.catalog) (sym one.0) (subst (λ (catalog : Declared). Here old.site.me catalog) (sym one.1) here)

  asked-more : (added : ℕ → List Request) (held : ℕ → List Sealed) → BringsIn old new added held → (client : ℕ)
      → Sublist ((asked_by client (stamps_of old.history.items) ++ added client) ++ asked_again client new.again) (get_or (requests_of new.ends) client [])
  asked-more added held brings client =
      let asked = asked_by client (stamps_of old.history.items) in
      let left = asked_again client old.again in
      let now = asked_again client new.again in
      let before = get_or (requests_of old.ends) client [] in
      let given = (brings.asked client).0 in
      let front : Sublist (asked ++ (left ++ given)) (before ++ given) =
      subst (λ (all : List Request). Sublist all (before ++ given)) (append_assoc asked left given) (sublist-append (has.asked client) (sublist-refl given)) in
      subst (λ (all : List Request). Sublist all (get_or (requests_of new.ends) client [])) (sym (append_assoc asked (added client) now))
      (subst (λ (all : List Request). Sublist (asked ++ (added client ++ now)) all) (sym (brings.asked client).1)
      (sublist-trans (sublist-append (sublist-refl asked) (brings.asked client).2) front))

  -- An entry comes.
  enters-course : (intake : Intake) (held : ℕ → List Sealed) → Enters M (kept_of old) (kept_of new) intake
      → BringsIn old new (λ client. with_asked client intake []) held
      → WasTaken (taken_at (traffic_of new.ends)) old.site.catalog.sites old.site.me intake
      → ((from : ℕ) → AllZip (Seals from old.site.me) (held from) (with_parcel from intake [])) → HasCourse new
  enters-course intake held e brings taken seals =
      let setup = setup_of old.site.catalog in
      let me = old.site.me in
      let entry = stamped_of e.entry in
      let history = stamps_of old.history.items in
      let before = traffic_of old.ends in
      let after = traffic_of new.ends in
      let stands = course setup me first_site history in
      let grown : stamps_of new.history.items ≡ history ++ entry ∷ [] = ap stamps_of e.history ∙ map-append stamped_of old.history.items (e.entry ∷ []) in
      let takes : TakesOneMore setup me history entry before after = record {
        step = subst (λ (s : state.Site). IsStep setup me s entry) has.site e.step;
        stamp = e.stamp ∙ (λ i. max (has.last i) (stamp_with (sym e.intake_is i)) + 1);
        offers = λ to within.
            subst (λ (s : state.Site). OffersMore me to (parcels_to to entry.stamp 0 (kept_by setup me s entry)) before after) has.site
            (posts-more setup me (course_site old.site) entry old.ends new.ends to (subst (λ (n : ℕ). to < n) (sym is_box.rings.1) within) entry.came refl e.posts);
        gives = brings.gives;
        taken = subst (λ (it : Intake). WasTaken (taken_at after) old.site.catalog.sites me it) (sym e.intake_is) taken;
      } in
      in-place (one-site M old.site new.site old.site.running _ e.answer e.made) record {
        goes = subst (λ (all : List Stamped). GoesByItsRings setup me all after) (sym grown) (more setup me history entry before after has.goes takes);
        site = e.left ∙ ap (λ (s : state.Site). left_by setup me s entry) has.site ∙ sym (grow-course setup me first_site history entry)
            ∙ ap (course setup me first_site) (sym grown);
        last = e.new_stamp ∙ sym (last-push 0 history entry) ∙ ap (last_stamp 0) (sym grown);
        asked = λ client.
            subst (λ (all : List Request). Sublist (all ++ asked_again client new.again) (get_or (requests_of new.ends) client []))
            (ap (λ (it : Intake). asked_by client history ++ with_asked client it []) (sym e.intake_is) ∙ sym (asked-push client history entry)
            ∙ ap (asked_by client) (sym grown))
            (asked-more (λ who. with_asked who intake []) held brings client);
        again = brings.again;
        came = λ from.
            let next = brings.messages from in
            subst (λ (all : List Stamped). ComesInOrder from me all (sealed_again from new.again) (taken_at after from)) (sym grown)
            (come-more from me history (sealed_again from old.again) (sealed_again from new.again) next.0 (taken_at before from) (taken_at after from) (has.came from) next.1
            entry (held from)
            (subst (λ (it : Intake). AllZip (Seals from me) (held from) (with_parcel from it [])) (sym e.intake_is) (seals from)) next.2);
        plans = posts-plans me e.entry.stamp entry.came _ old.ends.sites_out.items new.ends.sites_out.items e.posts has.plans;
      }

  -- None comes, and the site is as it was.
  stays-course : AreOneSite old.site new.site → course_site new.site ≡ course_site old.site → new.history.items ≡ old.history.items → new.stamp ≡ old.stamp
      → new.ends.sites_out.items ≡ old.ends.sites_out.items → BringsIn old new (λ client. []) (λ from. []) → HasCourse new
  stays-course one site history stamp outs brings =
      let setup = setup_of old.site.catalog in
      let me = old.site.me in
      let same : stamps_of old.history.items ≡ stamps_of new.history.items = ap stamps_of (sym history) in
      in-place one (subst (λ (all : List Stamped).
      IsCourse setup me (course_site new.site) all new.stamp new.again new.ends) same record {
        goes = none setup me (stamps_of old.history.items) (traffic_of old.ends) (traffic_of new.ends) has.goes (ap (map sealed_offered) outs) (ap (map sealed_posted) outs)
            brings.gives;
        site = site ∙ has.site;
        last = stamp ∙ has.last;
        asked = λ client.
            subst (λ (all : List Request). Sublist (all ++ asked_again client new.again) (get_or (requests_of new.ends) client []))
            (append-nil (asked_by client (stamps_of old.history.items))) (asked-more (λ who. []) (λ from. []) brings client);
        again = brings.again;
        came = λ from.
            let next = brings.messages from in
            come-none from me (stamps_of old.history.items) (sealed_again from old.again) (sealed_again from new.again) next.0 (taken_at (traffic_of old.ends) from)
            (taken_at (traffic_of new.ends) from) (has.came from) next.1 next.2;
        plans = subst (λ (rings : List (Out Parcel)). All KeepsItsPlan rings) (sym outs) has.plans;
      })

  loses-course : (asker : Option Asker) → Loses M (kept_of old) (kept_of new) asker → BringsIn old new (λ client. []) (λ from. []) → HasCourse new
  loses-course asker loses brings =
      let is : AreOneSite old.site new.site × (course_site new.site ≡ course_site old.site) =
      ⊎_elim (λ same. ((ap (λ (s : SiteState W). s.me) same, ap (λ (s : SiteState W). s.catalog) same), ap (λ (s : SiteState W). course_site s) same))
      (λ stays. ((ap (λ (s : SiteState W). s.me) stays.site, ap (λ (s : SiteState W). s.catalog) stays.site), ap (λ (s : SiteState W). course_site s) stays.site))
      loses.site in
      stays-course is.0 is.1 (ap (λ (k : Kept W). k.history) loses.changed) (ap (λ (k : Kept W). k.stamp) loses.changed)
      (ap (λ (k : Kept W). k.sites_out) loses.changed) brings

  same-course : kept_of new ≡ kept_of old → BringsIn old new (λ client. []) (λ from. []) → HasCourse new
  same-course same brings =
      stays-course (ap (λ (k : Kept W). k.site.me) same, ap (λ (k : Kept W). k.site.catalog) same) (ap (λ (k : Kept W). course_site k.site) same)
      (ap (λ (k : Kept W). k.history) same) (ap (λ (k : Kept W). k.stamp) same) (ap (λ (k : Kept W). k.sites_out) same) brings

  -- ## By the answer
  pub tick-course : (visit : Visit) → TakesTick M old new visit → HasCourse new
  tick-course Took takes = enters-course tick (λ from. []) takes.2 (brings-same old new has.again takes.1.0 takes.1.2) tt (λ from. tt)
  tick-course Worn takes = subst (λ (box : SiteBox W). HasCourse box) (sym takes.1) has
  tick-course Lost takes = loses-course None takes.2 (brings-same old new has.again takes.1.0 takes.1.2)
  tick-course Idle takes = absurd takes
  tick-course Stray takes = absurd takes

  arrival-course : (came : Arrival) → Arrives old new came → (visit : Visit) → TakesArrival M old new came visit → HasCourse new
  arrival-course came arrives Took takes =
      let intake = takes.1.0 in
      let is = takes.1.1 in
      let held : ℕ → List Sealed = λ from. sealed_again from (Some came) in
      enters-course intake held takes.1.2
      (brings-came M old new is_box has.again came (λ client. with_asked client intake []) (asked-few old.site.catalog old.site.me came intake is) held
      (λ from. sublist-refl (held from)) arrives)
      (was-taken M old new is_box has.again came intake arrives is)
      (sealed-came old.site.catalog old.site.me came intake is)
  arrival-course came arrives Lost takes =
      loses-course _ takes (brings-came M old new is_box has.again came (λ client. []) (nothing-few came) (λ from. []) (nothing-held came) arrives)
  arrival-course came arrives Stray takes =
      same-course takes.1 (brings-came M old new is_box has.again came (λ client. []) (nothing-few came) (λ from. []) (nothing-held came) arrives)
  arrival-course came arrives Idle takes = absurd takes
  arrival-course came arrives Worn takes = absurd takes

  idle-course : FindsNothing old new → HasCourse new
  idle-course finds =
      let none_left : new.again ≡ None = finds.none_left.1 in
      same-course finds.kept
      (brings-none old new
      (each-weaker (λ (k : ℕ) (one other : In Parcel). IsFoundEmpty one other) (λ (k : ℕ) (one other : In Parcel). Rests one other) old.ends.sites_in.items new.ends.sites_in.items (λ k x y within is. is.0) finds.rings.0)
      (each-weaker (λ (k : ℕ) (one other : In script.Request). IsFoundEmpty one other) (λ (k : ℕ) (one other : In script.Request). Rests one other) old.ends.clients_in.items new.ends.clients_in.items (λ k x y within is. is.0) finds.rings.1)
      (none_left ∙ sym finds.none_left.0)
      (subst (λ (left : Option Arrival). IsToCountAgain old.site.catalog.sites (traffic_of new.ends) left) (sym none_left) tt))

  taking-course : (visit : Visit)
      → (IsTickDue old × TakesTick M old new visit)
      ⊎ ((IsTickDue old → ⊥) × (new.idle ≡ 0) × ((came : Arrival) × Arrives old new came × TakesArrival M old new came visit)) → HasCourse new
  taking-course visit (inl due) = tick-course visit due.1
  taking-course visit (inr came) = arrival-course came.2.0 came.2.1 visit came.2.2

  pub visit-course : (visit : Visit) → Visits M old new visit → HasCourse new
  visit-course Worn visits = subst (λ (box : SiteBox W). HasCourse box) (sym visits.1) has
  visit-course Idle visits = idle-course visits.2
  visit-course Took visits = taking-course Took visits.1
  visit-course Lost visits = taking-course Lost visits.1
  visit-course Stray visits = taking-course Stray visits.1

-- ## A new box
-- Rings of which each shows nothing show nothing at any place.
pub none-shown : {A X : Type 0} (show : A → List X) (rings : List A) → All (λ (ring : A). show ring ≡ []) rings → (k : ℕ) → get_or (map show rings) k [] ≡ []
none-shown {A} {X} show [] none k = refl
none-shown {A} {X} show (ring ∷ rings) none zero = All-head (λ (ring : A). show ring ≡ []) ring rings none
none-shown {A} {X} show (ring ∷ rings) none (suc k) = none-shown show rings (All-tail (λ (ring : A). show ring ≡ []) ring rings none) k

module _ {W : Type 0} (box : SiteBox W) (is : IsNew box) where
  pub new-course : HasCourse box
  new-course =
      let ends = box.ends in
      let no_history : [] ≡ stamps_of box.history.items = ap stamps_of (sym is.history.0) in
      subst (λ (all : List Stamped). IsCourse (setup_of box.site.catalog) box.site.me (course_site box.site) all box.stamp box.again ends) no_history
      record {
        goes = record {
          stamps = tt;
          steps = tt;
          offered = λ to within.
              subst (λ (all : List Sealed). AllZip (Seals box.site.me to) all []) (sym (none-shown sealed_offered ends.sites_out.items
              (All-weaker (λ (out : Out Parcel). IsFreshOut out) (λ (out : Out Parcel). sealed_offered out ≡ []) (λ out fresh. ap (map sealed_of) fresh.0) ends.sites_out.items is.fresh.1) to)) tt;
          posted = λ to within.
              subst (λ (all : List (Sealed × ℕ)). All (λ (one : Sealed × ℕ). Contains (offered_at (traffic_of ends) to) one.0) all) (sym (none-shown sealed_posted ends.sites_out.items
              (All-weaker (λ (out : Out Parcel). IsFreshOut out) (λ (out : Out Parcel). sealed_posted out ≡ []) (λ out fresh. ap (map sealed_count) fresh.1) ends.sites_out.items is.fresh.1) to))
              (All-nil (λ (one : Sealed × ℕ). Contains (offered_at (traffic_of ends) to) one.0));
          taken = All-nil (λ (entry : Stamped). WasTaken (taken_at (traffic_of ends)) box.site.catalog.sites box.site.me entry.intake);
        };
        site = is.site;
        last = is.history.1;
        asked = λ client.
            subst (λ (left : Option Arrival). Sublist (asked_again client left) (get_or (requests_of ends) client [])) (sym is.history.2)
            (sublist-append_left [] (get_or (requests_of ends) client []));
        again = subst (λ (left : Option Arrival). IsToCountAgain box.site.catalog.sites (traffic_of ends) left) (sym is.history.2) tt;
        came = λ from. record {
          held = [];
          seals = tt;
          in_order = subst (λ (left : Option Arrival). Sublist (sealed_again from left) (counted (taken_at (traffic_of ends) from))) (sym is.history.2)
              (sublist-append_left [] (counted (taken_at (traffic_of ends) from)));
        };
        plans = All-weaker (λ (out : Out Parcel). IsFreshOut out) (λ (out : Out Parcel). KeepsItsPlan out) (λ out fresh. fresh-plan out fresh.0 fresh.1)
            ends.sites_out.items is.fresh.1;
      }
