-- What a visit makes of what went through the rings of a box.
use Rattle.std.proofs.Common.{◌≡◌, ◌≢◌, ℕ, zero, suc, ◌+◌, ◌-◌, ◌<◌, ◌≤◌, ◌==◌, Bool, true, false, if◌then◌else◌, List, [], ◌∷◌, ◌++◌, length, get_or, map, take, replicate, refl, sym, ap, ◌∙◌, subst, inl, inr, ⊎_elim, arith, append-nil, eqb-true, All}
use Rattle.std.proofs.lemmas.Bool.{eqb-false}
use Rattle.std.proofs.lemmas.Grind.{flat_map-append}
use Rattle.std.proofs.lemmas.List.{get_or-map, get_or_past, length-map, map-append}
use Rattle.std.proofs.lemmas.List.Elements.{All-cons, All-nil, All-weaker, Contains-append_left, Contains-append_right, Contains-push}
use Rattle.std.proofs.lemmas.Option.{slice_get_cases}
use Rattle.std.proofs.Math.Seq.{take-nil}
use Rattle.std.specs.List.{AllZip}
use Rattle.std.specs.Prelude.{Contains, Option, Some, None}
use mathlib.Core.List.{IsPrefix}
use Rattle.pv_format.specs.Record.{Record}
use Rattle.pv_law_histories.specs.Course.{sent_at, sent_by, sent_up}
use Rattle.pv_law_histories.specs.History.{Came, done, fault, down, Stamped}
use Rattle.pv_law_histories.specs.Posting as law
use Rattle.pv_law_histories.specs.Posting.{kept_by, parcels_to}
use Rattle.pv_law_passing.specs.Rings.{Sealed, Seals}
use Rattle.pv_law_passing.specs.Traffic.{GivesMore, OffersMore}
use Rattle.pv_mail.specs.Posting.{AreParcels, PostsAll}
use Rattle.pv_mail.specs.declared.ends.Ends.{Ends}
use Rattle.pv_mail.specs.declared.ends.Parcel.{Parcel}
use Rattle.pv_model.specs.LiveScript as model
use Rattle.pv_post.specs.Ends.{IsCount, offered, plan_of, posted, taken}
use Rattle.pv_post.specs.declared.fault_plan.FaultPlan.{FaultPlan}
use Rattle.pv_post.specs.declared.inlet.In.{In}
use Rattle.pv_post.specs.declared.outlet.Out.{Out}
use Rattle.pv_protocol.specs.State.{Outgoing, Running, Setup, Site}
use Rattle.pv_rings.specs.Rings.{Each, Gives, GivesOne, Keeps, Rests}
use Rattle.pv_script.specs.LiveView.{request_of}
use Rattle.pv_script.specs.declared.live.Request.{Request}
use Rattle.pv_cell.specs.Changes.{Posts}
use Rattle.pv_cell.specs.Traffic.{counted, requests_of, requests_taken, sealed_count, sealed_of, sealed_offered, sealed_posted, sealed_taken, traffic_of}

-- ## Rings out
-- Each message that a ring keeps is one of those that it was handed.
pub keeps-among : {A B : Type 0} (shown : A → B) (plan : FaultPlan) (number : ℕ) (more : List A) (kept : List (A × ℕ)) → Keeps plan number more kept
    → All (λ (one : B × ℕ). Contains (map shown more) one.0) (map (λ (one : A × ℕ). (shown one.0, one.1)) kept)
keeps-among {A} {B} shown plan number [] kept none =
    subst (λ (all : List (A × ℕ)). All (λ (one : B × ℕ). Contains (map shown []) one.0) (map (λ (one : A × ℕ). (shown one.0, one.1)) all)) (sym none)
    (All-nil (λ (one : B × ℕ). Contains (map shown []) one.0))
keeps-among {A} {B} shown plan number (message ∷ more) kept (inl lost) =
    All-weaker (λ (one : B × ℕ). Contains (map shown more) one.0) (λ (one : B × ℕ). Contains (shown message ∷ map shown more) one.0)
    (λ one there. Contains-append_right (shown message ∷ []) (map shown more) one.0 there) (map (λ (one : A × ℕ). (shown one.0, one.1)) kept)
    (keeps-among shown plan (number + 1) more kept lost)
keeps-among {A} {B} shown plan number (message ∷ more) kept (inr held) =
    let Among : B × ℕ → Type 0 = λ one. Contains (shown message ∷ map shown more) one.0 in
    subst (λ (all : List (A × ℕ)). All Among (map (λ (one : A × ℕ). (shown one.0, one.1)) all)) (sym held.1)
    (All-cons Among _ (map (λ (one : A × ℕ). (shown one.0, one.1)) held.0)
    (Contains-append_left (shown message ∷ []) (map shown more) (shown message) (Contains-push [] (shown message)))
    (All-weaker (λ (one : B × ℕ). Contains (map shown more) one.0) Among
    (λ one there. Contains-append_right (shown message ∷ []) (map shown more) one.0 there) (map (λ (one : A × ℕ). (shown one.0, one.1)) held.0)
    (keeps-among shown plan (number + 1) more held.0 held.3)))

seals : (me to : ℕ) (parcels : List Parcel) (posts : List law.Parcel) → AreParcels me to parcels posts → AllZip (Seals me to) (map sealed_of parcels) posts
seals me to [] [] are = tt
seals me to [] (post ∷ posts) are = absurd are
seals me to (parcel ∷ parcels) [] are = absurd are
seals me to (parcel ∷ parcels) (post ∷ posts) are = (are.0, seals me to parcels posts are.1)

-- A step that was not made sends nothing.
unsent-at : (setup : Setup) (me : ℕ) (records : List Record) (running : Option Running) (entry : Stamped) (came : Came) → entry.came ≡ came
    → ((up : Running) → sent_up setup me records up entry came ≡ []) → sent_at setup me records running entry ≡ []
unsent-at setup me records None entry came is none = refl
unsent-at setup me records (Some running) entry came is none = ap (sent_up setup me records running entry) is ∙ none running

module _ (setup : Setup) (me : ℕ) (site : Site) (entry : Stamped) (old new : Ends) (to : ℕ) (within : to < length old.sites_out.items) where
  abbrev More : Type 0
  More = OffersMore me to (parcels_to to entry.stamp 0 (kept_by setup me site entry)) (traffic_of old) (traffic_of new)

  hands-more : PostsAll me entry.stamp 0 (kept_by setup me site entry) old.sites_out.items new.sites_out.items → More
  hands-more each =
      ⊎_elim (λ found.
      let x = found.0 in
      let within' : to < length new.sites_out.items = subst (λ (n : ℕ). to < n) each.0 within in
      let one = get_or old.sites_out.items to x in
      let other = get_or new.sites_out.items to x in
      let hands = each.1 to x x within in
      record {
        more = map sealed_of hands.0;
        kept = map sealed_count hands.1.2.0;
        offered = get_or-map sealed_offered new.sites_out.items to x [] within'
            ∙ ap (map sealed_of) hands.1.1
            ∙ map-append sealed_of (offered one) hands.0
            ∙ ap (λ (all : List Sealed). all ++ map sealed_of hands.0) (sym (get_or-map sealed_offered old.sites_out.items to x [] within));
        posted = get_or-map sealed_posted new.sites_out.items to x [] within'
            ∙ ap (map sealed_count) hands.1.2.1
            ∙ map-append sealed_count (posted one) hands.1.2.0
            ∙ ap (λ (all : List (Sealed × ℕ)). all ++ map sealed_count hands.1.2.0) (sym (get_or-map sealed_posted old.sites_out.items to x [] within));
        among = keeps-among sealed_of (plan_of one) (length (offered one) + 1) hands.0 hands.1.2.0 hands.1.2.2;
        seals = seals me to hands.0 _ hands.2;
      })
      (λ out. let past = out.0 in absurd (omega arith))
      ((slice_get_cases old.sites_out.items to).1)

  hands-none : sent_by setup me site entry ≡ [] → new.sites_out.items ≡ old.sites_out.items → More
  hands-none none same = record {
    more = [];
    kept = [];
    offered = ap (λ (outs : List (Out Parcel)). get_or (map sealed_offered outs) to []) same ∙ sym (append-nil (get_or (map sealed_offered old.sites_out.items) to []));
    posted = ap (λ (outs : List (Out Parcel)). get_or (map sealed_posted outs) to []) same ∙ sym (append-nil (get_or (map sealed_posted old.sites_out.items) to []));
    among = All-nil (λ (one : Sealed × ℕ). Contains [] one.0);
    seals = subst (λ (parcels : List law.Parcel). AllZip (Seals me to) [] parcels)
        (sym (ap (λ (sends : List Outgoing). parcels_to to entry.stamp 0 (take (length sends - entry.short) sends)) none
        ∙ ap (parcels_to to entry.stamp 0) (take-nil (0 - entry.short))))
        tt;
  }

  -- what was offered to a ring, by what came of the entry
  pub posts-more : (came : Came) → entry.came ≡ came → Posts me entry.stamp came (kept_by setup me site entry) old.sites_out.items new.sites_out.items → More
  posts-more (done notes) is posts = hands-more posts
  posts-more fault is same = hands-none (unsent-at setup me site.records site.running entry fault is (λ up. refl)) same
  posts-more down is same = hands-none (unsent-at setup me site.records site.running entry down is (λ up. refl)) same

-- ## Rings in
-- What lists show at a place, by what is so of each place of both.
module _ {A X : Type 0} (R : ℕ → A → A → Type 0) (show : A → X) (none : X) (S : ℕ → X → X → Type 0) (old new : List A) (each : Each R old new) where
  pub each-shows : ((k : ℕ) (x y : A) → k < length old → R k x y → S k (show x) (show y)) → ((k : ℕ) → length old ≤ k → S k none none)
      → (k : ℕ) → S k (get_or (map show old) k none) (get_or (map show new) k none)
  each-shows thus past k =
      ⊎_elim (λ found.
      let x = found.0 in
      let within : k < length old = found.1 in
      let within' : k < length new = subst (λ (n : ℕ). k < n) each.0 within in
      subst (λ (v : X). S k v (get_or (map show new) k none)) (sym (get_or-map show old k x none within))
      (subst (λ (v : X). S k (show (get_or old k x)) v) (sym (get_or-map show new k x none within'))
      (thus k (get_or old k x) (get_or new k x) within (each.1 k x x within))))
      (λ out.
      let over : length old ≤ k = out.0 in
      let long : length (map show old) ≡ length old = length-map old show in
      let long' : length (map show new) ≡ length new = length-map new show in
      let same = each.0 in
      subst (λ (v : X). S k v (get_or (map show new) k none)) (sym (get_or_past (map show old) k none (omega (arith, long, over))))
      (subst (λ (v : X). S k none v) (sym (get_or_past (map show new) k none (omega (arith, long', same, over)))) (past k over)))
      ((slice_get_cases old k).1)

-- Rings from which nothing was taken show the same.
pub rests-show : {M X : Type 0} (show : List (M × ℕ) → X) (none : X) (old new : List (In M)) → Each (λ k one other. Rests one other) old new
    → (k : ℕ) → get_or (map (λ ring. show (taken ring)) new) k none ≡ get_or (map (λ ring. show (taken ring)) old) k none
rests-show {M} {X} show none old new each =
    each-shows (λ (k : ℕ) (one other : In M). Rests one other) (λ (ring : In M). show (taken ring)) none (λ (k : ℕ) (one other : X). other ≡ one) old new each
    (λ k x y within rests. ap show rests.1) (λ k past. refl)

same-prefix : {A : Type 0} (xs ys : List A) → ys ≡ xs → IsPrefix xs ys
same-prefix xs ys is = ([], append-nil xs ∙ sym is)

-- What rings of sites gave is more, or the same.
pub rests-gives : (sites : ℕ) (old new : Ends) → Each (λ k one other. Rests one other) old.sites_in.items new.sites_in.items
    → GivesMore sites (traffic_of old) (traffic_of new)
rests-gives sites old new each from within =
    same-prefix _ _ (rests-show (map sealed_count) [] old.sites_in.items new.sites_in.items each from)

module _ (old new : Ends) (ring : ℕ) (parcel : Parcel) (count : ℕ) (gives : GivesOne ring parcel count old.sites_in.items new.sites_in.items) where
  pub gives-more : (sites : ℕ) → GivesMore sites (traffic_of old) (traffic_of new)
  gives-more sites from within =
      each-shows (λ (k : ℕ) (one other : In Parcel). (k ≡ ring → Gives parcel count one other) × (k ≢ ring → Rests one other)) sealed_taken [] (λ (k : ℕ) (one other : List (Sealed × ℕ)). IsPrefix one other)
      old.sites_in.items new.sites_in.items gives.1
      (λ k x y inside one. at k (k == ring) refl x y one) (λ k past. ([], refl)) from
    where
      at : (k : ℕ) (test : Bool) → (k == ring) ≡ test → (x y : In Parcel) → (k ≡ ring → Gives parcel count x y) × (k ≢ ring → Rests x y)
          → IsPrefix (sealed_taken x) (sealed_taken y)
      at k true is x y one =
          let gave = one.0 (eqb-true k ring is) in
          (sealed_count (parcel, count) ∷ [], sym (map-append sealed_count (taken x) ((parcel, count) ∷ [])) ∙ ap (map sealed_count) (sym gave.2))
      at k false is x y one = same-prefix _ _ (ap (map sealed_count) (one.1 (eqb-false k ring is)).1)

  -- It is among what its ring gave.
  pub gave-it : Contains (get_or (map sealed_taken new.sites_in.items) ring []) (sealed_of parcel, count)
  gave-it =
      each-shows (λ (k : ℕ) (one other : In Parcel). (k ≡ ring → Gives parcel count one other) × (k ≢ ring → Rests one other)) sealed_taken []
      (λ (k : ℕ) (one other : List (Sealed × ℕ)). k ≡ ring → Contains other (sealed_of parcel, count)) old.sites_in.items new.sites_in.items gives.1
      (λ k x y inside one is.
      let gave = one.0 is in
      subst (λ (all : List (Sealed × ℕ)). Contains all (sealed_of parcel, count))
      (sym (ap (map sealed_count) gave.2 ∙ map-append sealed_count (taken x) ((parcel, count) ∷ [])))
      (Contains-push (map sealed_count (taken x)) (sealed_of parcel, count)))
      (λ k past is. let inside = gives.0 in absurd (omega (arith, past, is, inside))) ring refl

-- A message counts once or twice.
pub gave-count : {M : Type 0} (ring : ℕ) (message : M) (count : ℕ) (old new : List (In M)) → GivesOne ring message count old new → IsCount count
gave-count ring message count old new gives =
    ⊎_elim (λ found. ((gives.1.1 ring found.0 found.0 found.1).0 refl).1) (λ out. let past = out.0 in let inside = gives.0 in absurd (omega arith))
    ((slice_get_cases old ring).1)

-- ## Rings of clients
pub rests-requests : (old new : Ends) → Each (λ k one other. Rests one other) old.clients_in.items new.clients_in.items
    → (client : ℕ) → get_or (requests_of new) client [] ≡ get_or (requests_of old) client []
rests-requests old new each client = rests-show (λ (all : List (Request × ℕ)). map request_of (counted all)) [] old.clients_in.items new.clients_in.items each client

-- what this client's ring gave, where that one gave this, as often as it counts
abbrev pub given_of : (client asker : ℕ) → Request → ℕ → List model.Request
given_of client asker request count = if asker == client then replicate count (request_of request) else []

module _ (old new : Ends) (ring : ℕ) (request : Request) (count : ℕ) (gives : GivesOne ring request count old.clients_in.items new.clients_in.items) where
  map-replicate : (n : ℕ) → map request_of (replicate n request) ≡ replicate n (request_of request)
  map-replicate zero = refl
  map-replicate (suc n) = ap (λ (all : List model.Request). request_of request ∷ all) (map-replicate n)

  requests-one : (x y : In Request) → Gives request count x y → requests_taken y ≡ requests_taken x ++ replicate count (request_of request)
  requests-one x y gave =
      let one : List (Request × ℕ) = (request, count) ∷ [] in
      ap (λ (all : List (Request × ℕ)). map request_of (counted all)) gave.2
      ∙ ap (map request_of) (flat_map-append (λ (it : Request × ℕ). replicate it.1 it.0) (taken x) one)
      ∙ map-append request_of (counted (taken x)) (counted one)
      ∙ ap (λ (all : List model.Request). requests_taken x ++ all) (ap (map request_of) (append-nil (replicate count request)) ∙ map-replicate count)

  pub gives-requests : (client : ℕ) → get_or (requests_of new) client [] ≡ get_or (requests_of old) client [] ++ given_of client ring request count
  gives-requests client =
      each-shows (λ (k : ℕ) (one other : In Request). (k ≡ ring → Gives request count one other) × (k ≢ ring → Rests one other)) requests_taken []
      (λ (k : ℕ) (one other : List model.Request). other ≡ one ++ given_of k ring request count) old.clients_in.items new.clients_in.items gives.1
      (λ k x y inside one. at k (ring == k) refl x y one)
      (λ k past. let inside = gives.0 in beyond k (ring == k) refl (omega (arith, past, inside))) client
    where
      at : (k : ℕ) (test : Bool) → (ring == k) ≡ test → (x y : In Request) → (k ≡ ring → Gives request count x y) × (k ≢ ring → Rests x y)
          → requests_taken y ≡ requests_taken x ++ (if ring == k then replicate count (request_of request) else [])
      at k true is x y one =
          requests-one x y (one.0 (sym (eqb-true ring k is)))
          ∙ ap (λ (test : Bool). requests_taken x ++ (if test then replicate count (request_of request) else [])) (sym is)
      at k false is x y one =
          ap (λ (all : List (Request × ℕ)). map request_of (counted all)) (one.1 (λ same. eqb-false ring k is (sym same))).1
          ∙ sym (append-nil (requests_taken x))
          ∙ ap (λ (test : Bool). requests_taken x ++ (if test then replicate count (request_of request) else [])) (sym is)

      beyond : (k : ℕ) (test : Bool) → (ring == k) ≡ test → ring < k → [] ≡ (if ring == k then replicate count (request_of request) else [])
      beyond k true is less = let same = eqb-true ring k is in absurd (omega (arith, same, less))
      beyond k false is less = ap (λ (test : Bool). if test then replicate count (request_of request) else []) (sym is)
