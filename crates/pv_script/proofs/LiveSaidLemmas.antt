-- The clients of a live script, of which the last one wants more, and how messages fail.
use Rattle.std.proofs.Common.{◌≡◌, ◌≢◌, ℕ, zero, suc, ◌<◌, ◌≤◌, ◌-◌, Bool, true, false, Option, Some, None, Result, Ok, Err, OnOk, List, [], ◌∷◌, ◌++◌, All, length, map, get_or, Bor, refl, sym, ap, ◌∙◌, subst, arith}
use Rattle.std.specs.Prelude.{slice_set, pos, ◌==◌, ◌^◌}
use Rattle.std.specs.Option.{is_some, option_map}
use mathlib.Core.List.{map-append}
use Rattle.std.proofs.lemmas.Bool.{both_ways, and_left, and_right}
use Rattle.std.proofs.lemmas.Grind.{common_steps}
use Rattle.std.proofs.lemmas.List.{length-map}
use Rattle.std.proofs.lemmas.List.Elements.{All-nil, All-push, All-set, All-get_or}
use Rattle.std.specs.Str.{bytes_eq}
use Rattle.std.proofs.lemmas.List.Quantifiers.{position-Some}
use Rattle.std.proofs.lemmas.Option.{none-some, slice_get-get_or}
use Rattle.pv_base.specs.Catalog.{Declared, Item, place_of}
use Rattle.pv_model.specs.LineForms.{live, Field, site, number, has_good_number}
use Rattle.pv_model.specs.LineCauses.{home_of, last_requests, last_site}
use Rattle.pv_model.specs.LiveScript as model
use Rattle.pv_model.specs.Schedule.{with_one_more, with_wish}
use Rattle.pv_script.specs.LineFaults.{texts, form_among, IsFieldFault}
use Rattle.pv_script.specs.LiveSaid.{fault_plan_in, before_of_live, IsSound}
use Rattle.pv_script.specs.LiveView.{client_of, wish_of, HasPlans, IsPlanned}
use Rattle.pv_script.specs.Said.{nothing_beside, before_with, IsLimited}
use Rattle.pv_script.specs.declared.live_said.FaultPlan.{FaultPlan}
use Rattle.pv_script.specs.declared.live_said.LiveSaid.{LiveSaid}
use Rattle.pv_script.specs.declared.live.Client.{Client}
use Rattle.pv_script.specs.declared.live.Wish.{Wish}
use Rattle.pv_script.specs.declared.schedule.LineCause.TheVariants.{WrongCount, BadNumber}

pub no-clients : (clients : List Client) → length clients < 1 → map client_of clients ≡ []
no-clients [] few = refl
no-clients (c ∷ clients) few = absurd (omega arith)

pub some-clients : (clients : List Client) → 1 ≤ length clients → map client_of clients ≢ []
some-clients [] some none = omega arith
some-clients (c ∷ clients) some none = cc

pub last_requests-map : (clients : List Client) (d : Client) → 1 ≤ length clients
    → last_requests (map client_of clients) ≡ length (get_or clients (length clients - 1) d).requests.items
last_requests-map clients d some = go clients (length clients - 1) (omega arith)
  where
    go : (cs : List Client) (k : ℕ) → length cs ≡ suc k → last_requests (map client_of cs) ≡ length (get_or cs k d).requests.items
    go [] k e = absurd (omega (arith, e))
    go (c ∷ []) zero e = length-map c.requests.items wish_of
    go (c ∷ []) (suc k) e = absurd (omega (arith, e))
    go (c ∷ n ∷ cs) zero e = absurd (omega (arith, e))
    go (c ∷ n ∷ cs) (suc k) e = go (n ∷ cs) k (omega (arith, e))

-- the site of the last client
pub last_site-map : (clients : List Client) (d : Client) → 1 ≤ length clients
    → last_site (map client_of clients) ≡ Some (get_or clients (length clients - 1) d).site.0
last_site-map clients d some = go clients (length clients - 1) (omega arith)
  where
    go : (cs : List Client) (k : ℕ) → length cs ≡ suc k → last_site (map client_of cs) ≡ Some (get_or cs k d).site.0
    go [] k e = absurd (omega (arith, e))
    go (c ∷ []) zero e = refl
    go (c ∷ []) (suc k) e = absurd (omega (arith, e))
    go (c ∷ n ∷ cs) zero e = absurd (omega (arith, e))
    go (c ∷ n ∷ cs) (suc k) e = go (n ∷ cs) k (omega (arith, e))

pub ruleset last_clients = (no-clients, some-clients, last_requests-map, last_site-map)

-- Where there is no client, an item that is there is at the site of none.
pub home-none : (items : List Item) (name : List ℕ) (place : ℕ) (clients : List Client) → place_of name items ≡ Some place → length clients < 1
    → home_of items place ≡ last_site (map client_of clients) → ⊥
home-none items name place clients found few same =
    let sites = map (λ (declared : Item). declared.site) items in
    let there = (position-Some (λ (item : Item). bytes_eq name item.name) items place (record { name = []; site = 0; value = pos 0 }) found).0 in
    let home : home_of items place ≡ Some (get_or sites place 0) =
    slice_get-get_or sites place 0 (subst (λ (n : ℕ). place < n) (sym (length-map items (λ (declared : Item). declared.site))) there) in
    none-some (get_or sites place 0) (sym (same ∙ ap last_site (no-clients clients few)) ∙ home)

-- A client wants one thing more.
pub one-more : (old new : Client) (wish : Wish) → new.site ≡ old.site → new.requests.items ≡ old.requests.items ++ wish ∷ []
    → client_of new ≡ with_one_more (client_of old) (wish_of wish)
one-more old new wish place requests =
    let more : map wish_of new.requests.items ≡ map wish_of old.requests.items ++ wish_of wish ∷ [] =
    ap (map wish_of) requests ∙ map-append wish_of old.requests.items (wish ∷ []) in
    λ i. record { site = (place i).0; requests = more i }

-- A write at the last place changes the last client.
pub with_wish-set : (clients : List Client) (d new : Client) (wish : model.Wish) → 1 ≤ length clients
    → client_of new ≡ with_one_more (client_of (get_or clients (length clients - 1) d)) wish
    → map client_of (slice_set clients (length clients - 1) new) ≡ with_wish (map client_of clients) wish
with_wish-set clients d new wish some same = go clients (length clients - 1) (omega arith) same
  where
    go : (cs : List Client) (k : ℕ) → length cs ≡ suc k → client_of new ≡ with_one_more (client_of (get_or cs k d)) wish
        → map client_of (slice_set cs k new) ≡ with_wish (map client_of cs) wish
    go [] k e is = absurd (omega (arith, e))
    go (c ∷ []) zero e is = ap (λ (x : model.Client). x ∷ []) is
    go (c ∷ []) (suc k) e is = absurd (omega (arith, e))
    go (c ∷ n ∷ cs) zero e is = absurd (omega (arith, e))
    go (c ∷ n ∷ cs) (suc k) e is = ap (λ (more : List model.Client). client_of c ∷ more) (go (n ∷ cs) k (omega (arith, e)) is)

-- what is written at the last place, of so many, by a push onto what the client there wants
pub push-clients : (clients : List Client) (n : ℕ) (old new : Client) (wish : Wish) → n ≡ length clients → 1 ≤ length clients → old ≡ get_or clients (n - 1) old
    → new.site ≡ old.site → new.requests.items ≡ old.requests.items ++ wish ∷ []
    → map client_of (slice_set clients (n - 1) new) ≡ with_wish (map client_of clients) (wish_of wish)
push-clients clients n old new wish count some at place grown =
    let here : old ≡ get_or clients (length clients - 1) old = at ∙ ap (λ (m : ℕ). get_or clients (m - 1) old) count in
    ap (λ (m : ℕ). map client_of (slice_set clients (m - 1) new)) count
    ∙ with_wish-set clients old new (wish_of wish) some
    (one-more old new wish place grown ∙ ap (λ (c : Client). with_one_more (client_of c) (wish_of wish)) here)

-- ---- plans

pub push-plans : (catalog : Declared) (clients : List Client) (n : ℕ) (old new : Client) (wish : Wish) → n ≡ length clients → 1 ≤ length clients
    → old ≡ get_or clients (n - 1) old → new.requests.items ≡ old.requests.items ++ wish ∷ [] → All (HasPlans catalog) clients
    → IsPlanned catalog wish → All (HasPlans catalog) (slice_set clients (n - 1) new)
push-plans catalog clients n old new wish count some at grown each plan =
    let before : All (IsPlanned catalog) old.requests.items =
    subst (HasPlans catalog) (sym at) (All-get_or (HasPlans catalog) clients (n - 1) old (omega (arith, count, some)) each) in
    All-set (HasPlans catalog) clients (n - 1) new
    (subst (All (IsPlanned catalog)) (sym grown) (All-push (IsPlanned catalog) old.requests.items wish before plan)) each

-- a client more, which wants nothing
pub client-plans : (catalog : Declared) (old new : List Client) (c : Client) → new ≡ old ++ c ∷ [] → c.requests.items ≡ [] → All (HasPlans catalog) old
    → All (HasPlans catalog) new
client-plans catalog old new c grown empty each =
    subst (All (HasPlans catalog)) (sym grown)
    (All-push (HasPlans catalog) old c each (subst (All (IsPlanned catalog)) (sym empty) (All-nil (IsPlanned catalog))))

-- without clients
pub sound-none : (said : LiveSaid) → IsLimited said.said → said.clients.items ≡ [] → IsSound said
sound-none said limited none = record {
  limited = limited;
  early = λ quiet. none;
  plans = subst (All (HasPlans said.said.catalog)) (sym none) (All-nil (HasPlans said.said.catalog));
}

-- the first line, before what a live script alone says
pub before-first : (said : LiveSaid) → said.fault_plan ≡ None → said.clients.items ≡ [] → before_with (nothing_beside live) said.said ≡ before_of_live said
before-first said plan none =
    λ i. before_with (record { script = live; fault_plan = option_map fault_plan_in (sym plan i); clients = map client_of (sym none i) }) said.said

pub on-ok : {A E : Type 0} {P Q : Type 0} (r : Result A E) → OnOk r P → (P → Q) → OnOk r Q
on-ok (Ok a) p f = f p
on-ok (Err e) p f = tt

-- ---- `plan`

pub some-plan : (said : Option FaultPlan) (r : Bool) → r ≡ is_some said → r ≡ true → option_map fault_plan_in said ≢ None
some-plan None r is there none = both_ways r is there
some-plan (Some plan) r is there none = cc

pub none-plan : (said : Option FaultPlan) (r : Bool) → r ≡ is_some said → r ≡ false → option_map fault_plan_in said ≡ None
none-plan None r is refuted = refl
none-plan (Some plan) r is refuted = absurd (both_ways r refuted is)

abbrev PlanForms : List (List Field)
PlanForms = (number 0 (2 ^ 32 - 1) ∷ number 0 (2 ^ 32 - 1) ∷ []) ∷ []

pub plan-few : (sites : ℕ) (args : List (Bor (List ℕ))) → length args < 2 → IsFieldFault sites PlanForms (texts args) WrongCount
plan-few sites [] few = refl
plan-few sites (a ∷ []) few = refl
plan-few sites (a ∷ b ∷ more) few = absurd (omega arith)

pub plan-many : (sites : ℕ) (args : List (Bor (List ℕ))) → 3 ≤ length args → IsFieldFault sites PlanForms (texts args) WrongCount
plan-many sites [] many = absurd (omega arith)
plan-many sites (a ∷ []) many = absurd (omega arith)
plan-many sites (a ∷ b ∷ []) many = absurd (omega arith)
plan-many sites (a ∷ b ∷ c ∷ more) many = grind (arith, common_steps)

pub plan-bad_first : (sites : ℕ) (args : List (Bor (List ℕ))) (d : Bor (List ℕ)) → 2 ≤ length args → length args < 3
    → has_good_number sites (number 0 (2 ^ 32 - 1), (get_or args 0 d).now) ≡ false → IsFieldFault sites PlanForms (texts args) BadNumber
plan-bad_first sites [] d some few wrong = absurd (omega arith)
plan-bad_first sites (a ∷ []) d some few wrong = absurd (omega arith)
plan-bad_first sites (a ∷ b ∷ []) d some few wrong = (λ none. cc, and_left (has_good_number sites (number 0 (2 ^ 32 - 1), a.now)) _ wrong)
plan-bad_first sites (a ∷ b ∷ c ∷ more) d some few wrong = absurd (omega arith)

pub plan-bad_second : (sites : ℕ) (args : List (Bor (List ℕ))) (d : Bor (List ℕ)) → 2 ≤ length args → length args < 3
    → has_good_number sites (number 0 (2 ^ 32 - 1), (get_or args 1 d).now) ≡ false → IsFieldFault sites PlanForms (texts args) BadNumber
plan-bad_second sites [] d some few wrong = absurd (omega arith)
plan-bad_second sites (a ∷ []) d some few wrong = absurd (omega arith)
plan-bad_second sites (a ∷ b ∷ []) d some few wrong =
    (λ none. cc, and_right (has_good_number sites (number 0 (2 ^ 32 - 1), a.now)) _ (and_left (has_good_number sites (number 0 (2 ^ 32 - 1), b.now)) true wrong))
plan-bad_second sites (a ∷ b ∷ c ∷ more) d some few wrong = absurd (omega arith)

-- ---- `client`

pub client-few : (args : List (Bor (List ℕ))) → length args < 1 → form_among ((site ∷ []) ∷ []) (texts args) ≡ None
client-few [] few = refl
client-few (a ∷ more) few = absurd (omega arith)

pub client-many : (args : List (Bor (List ℕ))) → 2 ≤ length args → form_among ((site ∷ []) ∷ []) (texts args) ≡ None
client-many [] many = absurd (omega arith)
client-many (a ∷ []) many = absurd (omega arith)
client-many (a ∷ b ∷ more) many = grind (arith, common_steps)

-- ---- requests

pub some-args : (args : List (Bor (List ℕ))) (r : Bool) → r ≡ (length args == 0) → r ≡ false → 1 ≤ length args
some-args [] r is refuted = absurd (both_ways r refuted is)
some-args (a ∷ args) r is refuted = omega arith
