-- The plan of a program is the one that is computed from the catalog's items.
use Rattle.std.proofs.Common.{◌≡◌, ◌⊎◌, ⊎_elim, ℕ, zero, suc, ◌+◌, ◌<◌, Bool, true, false, Some, List, [], ◌∷◌, map, length, slice_index_or, inl, inr, refl, sym, ap, subst, ◌∙◌, arith}
use Rattle.std.specs.Prelude.{◌&&◌, ◌==◌, nat_lt, IsTrue}
use Rattle.std.specs.List.{All, AllPairs, Any, Contains}
use Rattle.std.proofs.lemmas.Bool.{cond_both, and_from, and_parts, eqb-true, eqb-false, eq-eqb, ltb-true, ltb-false, false≢true}
use Rattle.std.proofs.lemmas.List.Elements.{All-contains, All-contains_itself}
use Rattle.pv_base.specs.Want.{Want}
use Rattle.pv_base.specs.Catalog.{Item}
use Rattle.pv_base.proofs.Basics.{Some_inj}
use Rattle.pv_base.proofs.ContainsLemmas.{Contains-first, Contains-behind, Contains-nil, Contains-cases}
use Rattle.pv_base.proofs.MapLemmas.{Contains-map, Contains-unmap}
use Rattle.pv_base.proofs.OrderLemmas.{pairs-nil, pairs-tail, pairs-first, pairs-cons, pairs-map, one-ascending_by, same-key}
use Rattle.pv_model.specs.Syntax.{Program}
use Rattle.pv_model.specs.Check.{Part, names_item, IsAt, IsWant, IsPart, IsPlan}
use Rattle.pv_model.specs.Plan.{want_of, wants_from, wants_of, with_participant, sites_from, participants_of, part_of, plan_of}

-- The list with one more site.

with_participant-has : (site : ℕ) (sites : List ℕ) → Contains (with_participant site sites) site
with_participant-has site [] = Contains-first site []
with_participant-has site (first ∷ rest) =
    cond_both (site == first) (first ∷ rest) _ (λ (sites : List ℕ). Contains sites site)
    (λ same. subst (λ (n : ℕ). Contains (first ∷ rest) n) (sym (eqb-true site first same)) (Contains-first first rest))
    (λ other. cond_both (nat_lt site first) (site ∷ (first ∷ rest)) _ (λ (sites : List ℕ). Contains sites site)
    (λ before. Contains-first site (first ∷ rest))
    (λ after. Contains-behind first (with_participant site rest) site (with_participant-has site rest)))

with_participant-keeps : (site : ℕ) (sites : List ℕ) (other : ℕ) → Contains sites other → Contains (with_participant site sites) other
with_participant-keeps site [] other h = absurd (Contains-nil other h)
with_participant-keeps site (first ∷ rest) other h =
    cond_both (site == first) (first ∷ rest) _ (λ (sites : List ℕ). Contains sites other)
    (λ same. h)
    (λ differ. cond_both (nat_lt site first) (site ∷ (first ∷ rest)) _ (λ (sites : List ℕ). Contains sites other)
    (λ before. Contains-behind site (first ∷ rest) other h)
    (λ after. ⊎_elim
    (λ here. subst (λ (n : ℕ). Contains (first ∷ with_participant site rest) n) here (Contains-first first (with_participant site rest)))
    (λ behind. Contains-behind first (with_participant site rest) other (with_participant-keeps site rest other behind))
    (Contains-cases first rest other h)))

with_participant-cases : (site : ℕ) (sites : List ℕ) (other : ℕ) → Contains (with_participant site sites) other → (site ≡ other) ⊎ Contains sites other
with_participant-cases site [] other = λ h. Contains-cases site [] other h
with_participant-cases site (first ∷ rest) other =
    cond_both (site == first) (first ∷ rest) _ (λ (sites : List ℕ). Contains sites other → (site ≡ other) ⊎ Contains (first ∷ rest) other)
    (λ same h. inr h)
    (λ differ. cond_both (nat_lt site first) (site ∷ (first ∷ rest)) _ (λ (sites : List ℕ). Contains sites other → (site ≡ other) ⊎ Contains (first ∷ rest) other)
    (λ before h. Contains-cases site (first ∷ rest) other h)
    (λ after h. ⊎_elim
    (λ here. inr (subst (λ (n : ℕ). Contains (first ∷ rest) n) here (Contains-first first rest)))
    (λ behind. ⊎_elim
    (λ same. inl same)
    (λ inside. inr (Contains-behind first rest other inside))
    (with_participant-cases site rest other behind))
    (Contains-cases first (with_participant site rest) other h)))

abbrev pub Ascends : List ℕ → Type 0
Ascends sites = AllPairs (λ site later. site < later) sites

with_participant-ascends : (site : ℕ) (sites : List ℕ) → Ascends sites → Ascends (with_participant site sites)
with_participant-ascends site [] up = pairs-cons (λ site later. site < later) site [] (λ y h. absurd (Contains-nil y h)) up
with_participant-ascends site (first ∷ rest) up =
    let below : (y : ℕ) → Contains rest y → first < y = pairs-first (λ site later. site < later) first rest up in
    cond_both (site == first) (first ∷ rest) _ Ascends
    (λ same. up)
    (λ differ. cond_both (nat_lt site first) (site ∷ (first ∷ rest)) _ Ascends
    (λ before. pairs-cons (λ site later. site < later) site (first ∷ rest)
    (λ y h. ⊎_elim
    (λ here. omega (arith, ltb-true site first before, here))
    (λ behind. omega (arith, ltb-true site first before, below y behind))
    (Contains-cases first rest y h))
    up)
    (λ after. pairs-cons (λ site later. site < later) first (with_participant site rest)
    (λ y h. ⊎_elim
    (λ here. omega (arith, ltb-false site first after, eqb-false site first differ, here))
    (λ behind. below y behind)
    (with_participant-cases site rest y h))
    (with_participant-ascends site rest (pairs-tail (λ site later. site < later) first rest up))))

-- The participants.

pub sites-ascend : (program : Program) (item : ℕ) (items : List Item) → Ascends (sites_from program item items)
sites-ascend program item [] = pairs-nil (λ site later. site < later)
sites-ascend program item (declared ∷ items) =
    cond_both (names_item program item) _ _ Ascends
    (λ named. with_participant-ascends declared.site (sites_from program (item + 1) items) (sites-ascend program (item + 1) items))
    (λ unnamed. sites-ascend program (item + 1) items)

pub sites-have : (program : Program) (item : ℕ) (items : List Item) (place site n : ℕ) → n ≡ item + place → IsAt items place site → IsTrue (names_item program n)
    → Contains (sites_from program item items) site
sites-have program item [] place site n same at named = cc
sites-have program item (declared ∷ items) zero site n same at named =
    let here : names_item program item ≡ true = ap (λ (n : ℕ). names_item program n) (omega (arith, same)) ∙ named in
    cond_both (names_item program item) _ _ (λ (sites : List ℕ). Contains sites site)
    (λ is. subst (λ (n : ℕ). Contains (with_participant declared.site (sites_from program (item + 1) items)) n) (Some_inj at)
    (with_participant-has declared.site (sites_from program (item + 1) items)))
    (λ not. absurd (false≢true (sym not ∙ here)))
sites-have program item (declared ∷ items) (suc place) site n same at named =
    let rest = sites-have program (item + 1) items place site n (omega (arith, same)) at named in
    cond_both (names_item program item) _ _ (λ (sites : List ℕ). Contains sites site)
    (λ is. with_participant-keeps declared.site (sites_from program (item + 1) items) site rest)
    (λ not. rest)

-- An item at the site that the program names, among items that are numbered from here on.
pub record IsNamedAt (program : Program) (item : ℕ) (items : List Item) (site n : ℕ) : Type 0 where
  pub place : ℕ
  pub same : n ≡ item + place
  pub at : IsAt items place site
  pub named : IsTrue (names_item program n)

named-here : (program : Program) (item : ℕ) (declared : Item) (items : List Item) (site : ℕ) → IsTrue (names_item program item) → declared.site ≡ site
    → IsNamedAt program item (declared ∷ items) site item
named-here program item declared items site named home =
    record { place = 0; same = omega arith; at = ap Some home; named = named }

named-later : (program : Program) (item : ℕ) (declared : Item) (items : List Item) (site n : ℕ) → IsNamedAt program (item + 1) items site n
    → IsNamedAt program item (declared ∷ items) site n
named-later program item declared items site n is =
    record { place = suc is.place; same = omega (arith, is.same); at = is.at; named = is.named }

pub sites-known : (program : Program) (item : ℕ) (items : List Item) (site : ℕ) → Contains (sites_from program item items) site
    → (n : ℕ) × IsNamedAt program item items site n
sites-known program item [] site = λ h. absurd (Contains-nil site h)
sites-known program item (declared ∷ items) site =
    let later : Contains (sites_from program (item + 1) items) site → (n : ℕ) × IsNamedAt program item (declared ∷ items) site n =
    λ h. let found = sites-known program (item + 1) items site h in (found.0, named-later program item declared items site found.0 found.1) in
    cond_both (names_item program item) _ _ (λ (sites : List ℕ). Contains sites site → (n : ℕ) × IsNamedAt program item (declared ∷ items) site n)
    (λ named h. ⊎_elim
    (λ here. (item, named-here program item declared items site named here))
    later
    (with_participant-cases declared.site (sites_from program (item + 1) items) site h))
    (λ unnamed. later)

-- The wants of a site.

pub wants-have : (program : Program) (site item : ℕ) (items : List Item) (place n : ℕ) → n ≡ item + place → IsAt items place site → IsTrue (names_item program n)
    → Contains (wants_from program site item items) (want_of program n)
wants-have program site item [] place n same at named = cc
wants-have program site item (declared ∷ items) zero n same at named =
    let here : item ≡ n = omega (arith, same) in
    let test : (declared.site == site && names_item program item) ≡ true =
    and_from _ _ (eq-eqb declared.site site (Some_inj at)) (ap (λ (n : ℕ). names_item program n) here ∙ named) in
    cond_both (declared.site == site && names_item program item) _ _ (λ (wants : List Want). Contains wants (want_of program n))
    (λ is. subst (λ (n : ℕ). Contains (want_of program item ∷ wants_from program site (item + 1) items) (want_of program n)) here
    (Contains-first (want_of program item) (wants_from program site (item + 1) items)))
    (λ not. absurd (false≢true (sym not ∙ test)))
wants-have program site item (declared ∷ items) (suc place) n same at named =
    let rest = wants-have program site (item + 1) items place n (omega (arith, same)) at named in
    cond_both (declared.site == site && names_item program item) _ _ (λ (wants : List Want). Contains wants (want_of program n))
    (λ is. Contains-behind (want_of program item) (wants_from program site (item + 1) items) (want_of program n) rest)
    (λ not. rest)

wants-known : (program : Program) (site item : ℕ) (items : List Item) (want : Want) → Contains (wants_from program site item items) want
    → (n : ℕ) × (IsNamedAt program item items site n × (want_of program n ≡ want))
wants-known program site item [] want = λ h. absurd (Contains-nil want h)
wants-known program site item (declared ∷ items) want =
    let later : Contains (wants_from program site (item + 1) items) want → (n : ℕ) × (IsNamedAt program item (declared ∷ items) site n × (want_of program n ≡ want)) =
    λ h. let found = wants-known program site (item + 1) items want h in (found.0, (named-later program item declared items site found.0 found.1.0, found.1.1)) in
    cond_both (declared.site == site && names_item program item) _ _
    (λ (wants : List Want). Contains wants want → (n : ℕ) × (IsNamedAt program item (declared ∷ items) site n × (want_of program n ≡ want)))
    (λ is h.
    let both = and_parts (declared.site == site) (names_item program item) is in
    ⊎_elim
    (λ here. (item, (named-here program item declared items site both.1 (eqb-true declared.site site both.0), here)))
    later
    (Contains-cases (want_of program item) (wants_from program site (item + 1) items) want h))
    (λ not. later)

abbrev Ascending : List Want → Type 0
Ascending wants = AllPairs (λ want later. want.item < later.item) wants

wants-ascend : (program : Program) (site item : ℕ) (items : List Item) → Ascending (wants_from program site item items)
wants-ascend program site item [] = pairs-nil (λ want later. want.item < later.item)
wants-ascend program site item (declared ∷ items) =
    let rest = wants-ascend program site (item + 1) items in
    cond_both (declared.site == site && names_item program item) _ _ Ascending
    (λ is. pairs-cons (λ (want later : Want). want.item < later.item) (want_of program item) (wants_from program site (item + 1) items)
    (λ want h.
    let found = wants-known program site (item + 1) items want h in
    let same : found.0 ≡ want.item = ap (λ (want : Want). want.item) found.1.1 in
    omega (arith, found.1.0.same, same))
    rest)
    (λ not. rest)

-- What is computed is a plan.

some-long : {X : Type 0} (xs : List X) (x : X) → Contains xs x → 0 < length xs
some-long xs x (k, within, at) = omega (arith, within)

pub wants-each : (program : Program) (items : List Item) (site : ℕ) → All (IsWant program items site) (wants_of program items site)
wants-each program items site k d within =
    let wants = wants_of program items site in
    let found = wants-known program site 0 items _ (All-contains_itself wants k d within) in
    let is = found.1.0 in
    subst (IsWant program items site) found.1.1 (record {
      named = is.named;
      home = subst (λ (n : ℕ). IsAt items n site) (omega (arith, is.same)) is.at;
      exclusive = refl;
    })

part-is : (program : Program) (items : List Item) (site : ℕ) → Contains (participants_of program items) site → IsPart program items (part_of program items site)
part-is program items site h =
    let found = sites-known program 0 items site h in
    let is = found.1 in
    record {
      some = some-long (wants_of program items site) (want_of program found.0)
          (wants-have program site 0 items is.place found.0 is.same is.at is.named);
      ascending = wants-ascend program site 0 items;
      each = wants-each program items site;
    }

-- An item of the catalog is at a site.
pub at-some : (items : List Item) (n : ℕ) → n < length items → (site : ℕ) × IsAt items n site
at-some [] n within = absurd (omega (arith, within))
at-some (declared ∷ items) zero within = (declared.site, refl)
at-some (declared ∷ items) (suc n) within = at-some items n (omega (arith, within))

at-within : (items : List Item) (n site : ℕ) → IsAt items n site → n < length items
at-within [] n site at = cc
at-within (declared ∷ items) zero site at = omega arith
at-within (declared ∷ items) (suc n) site at = omega (arith, at-within items n site at)

any-from : {X : Type 0} (P : X → Type 0) (xs : List X) (x : X) → Contains xs x → P x → Any P xs
any-from P xs x (k, within, at) is = (k, x, within, at, is)

pub some_plan : (program : Program) (items : List Item) → ((n : ℕ) → IsTrue (names_item program n) → n < length items)
    → IsPlan program items (plan_of program items)
unfolding plan_of
some_plan program items known =
    let sites = participants_of program items in
    record {
      ascending = pairs-map (λ (part later : Part). part.site < later.site) (part_of program items) sites (sites-ascend program 0 items);
      each = λ k d within.
          let found = Contains-unmap (part_of program items) sites _ (All-contains_itself (map (part_of program items) sites) k d within) in
          subst (IsPart program items) found.1.1 (part-is program items found.0 found.1.0);
      whole = λ n named.
          let place = at-some items n (known n named) in
          any-from (λ (part : Part). Contains part.wants (want_of program n)) (map (part_of program items) sites) (part_of program items place.0)
          (Contains-map (part_of program items) sites place.0 (sites-have program 0 items n place.0 n (omega arith) place.1 named))
          (wants-have program place.0 0 items n n (omega arith) place.1 named);
    }

-- A program has one plan at most.

module _ (program : Program) (items : List Item) where
  -- A want of a part of one plan is in the part of the same site of another.
  record HasPart (parts : List Part) (site : ℕ) (want : Want) : Type 0 where
    part : Part
    inside : Contains parts part
    same : part.site ≡ site
    wanted : Contains part.wants want

  one-home : (n site other : ℕ) → IsAt items n site → IsAt items n other → site ≡ other
  one-home n site other at there = Some_inj (sym at ∙ there)

  other-part : (parts : List Part) → IsPlan program items parts → (site : ℕ) (want : Want) → IsWant program items site want → HasPart parts site want
  other-part parts are site want is =
      let any = are.whole want.item is.named in
      let part : Part = any.1 in
      let inside : Contains parts part = (any.0, any.2, any.3) in
      let wanted : Contains part.wants (want_of program want.item) = any.4 in
      let home = (All-contains (IsWant program items part.site) part.wants _ (All-contains (IsPart program items) parts part are.each inside).each wanted).home in
      record {
        part = part;
        inside = inside;
        same = one-home want.item part.site site home is.home;
        wanted = subst (λ (b : Bool). Contains part.wants (record { item = want.item; exclusive = b })) (sym is.exclusive) wanted;
      }

  -- Each want of a part is one of another plan's part of the same site.
  wants-kept : (parts : List Part) → IsPlan program items parts → (part other : Part) → IsPart program items part → Contains parts other → other.site ≡ part.site
      → (want : Want) → Contains part.wants want → Contains other.wants want
  wants-kept parts are part other is inside same want h =
      let found = other-part parts are part.site want (All-contains (IsWant program items part.site) part.wants want is.each h) in
      subst (λ (part : Part). Contains part.wants want)
      (same-key (λ (part : Part). part.site) parts found.part other are.ascending found.inside inside (found.same ∙ sym same))
      found.wanted

  one-part : (part other : Part) → other.site ≡ part.site → other.wants ≡ part.wants → other ≡ part
  one-part part other same alike =
      ap (λ (site : ℕ). record { site = site; wants = other.wants }) same
      ∙ ap (λ (wants : List Want). record { site = part.site; wants = wants }) alike

  part-kept : (parts others : List Part) → IsPlan program items parts → IsPlan program items others → (part : Part) → Contains parts part → Contains others part
  part-kept parts others are them part inside =
      let is = All-contains (IsPart program items) parts part are.each inside in
      let first : Want = slice_index_or part.wants 0 (record { item = 0; exclusive = false }) in
      let found = other-part others them part.site first (is.each 0 _ is.some) in
      let other : Part = found.part in
      let there = All-contains (IsPart program items) others other them.each found.inside in
      subst (λ (part : Part). Contains others part)
      (one-part part other found.same
      (one-ascending_by (λ (want : Want). want.item) other.wants part.wants there.ascending is.ascending
      (wants-kept parts are other part there inside (sym found.same))
      (wants-kept others them part other is found.inside found.same)))
      found.inside

  one-plan : (parts others : List Part) → IsPlan program items parts → IsPlan program items others → parts ≡ others
  one-plan parts others are them =
      one-ascending_by (λ (part : Part). part.site) parts others are.ascending them.ascending
      (part-kept parts others are them) (part-kept others parts them are)

  -- The items of a program that has a plan are of the catalog.
  plan-known : (parts : List Part) → IsPlan program items parts → (n : ℕ) → IsTrue (names_item program n) → n < length items
  plan-known parts are n named =
      let any = are.whole n named in
      let part : Part = any.1 in
      let each = (All-contains (IsPart program items) parts part are.each (any.0, any.2, any.3)).each in
      at-within items n part.site (All-contains (IsWant program items part.site) part.wants (want_of program n) each any.4).home

  pub one_plan : (parts : List Part) → IsPlan program items parts → parts ≡ plan_of program items
  one_plan parts are = one-plan parts (plan_of program items) are (some_plan program items (plan-known parts are))
