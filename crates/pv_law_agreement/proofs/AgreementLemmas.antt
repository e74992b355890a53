-- A world in which promises and grants follow the order agrees with the serial run.
use Rattle.std.proofs.Common.{◌≡◌, ◌⊎◌, ⊎_elim, ℕ, ℤ, Bool, true, false, Some, None, Option, List, [], ◌∷◌, ◌++◌, inl, inr, refl, sym, ap, subst, ◌∙◌}
use Rattle.std.specs.Prelude.{IsSome, IsTrue, is_some, is_none, if◌then◌else◌, ◌==◌}
use Rattle.std.specs.List.{Contains, list_any}
use Rattle.std.proofs.lemmas.Bool.{false_from_ne_true, and_from, eq-eqb, false≢true}
use Rattle.std.proofs.lemmas.List.{append_assoc}
use Rattle.std.proofs.lemmas.List.Elements.{All-contains, Contains-append_right, Contains-append_cases}
use Rattle.pv_base.specs.Assignment.{commits}
use Rattle.pv_base.specs.Want.{Want}
use Rattle.pv_base.specs.declared.txn.TxnId.{TxnId}
use Rattle.pv_base.proofs.Basics.{never}
use Rattle.pv_base.proofs.ContainsLemmas.{Contains-first, Contains-behind, Contains-nil, Contains-cases}
use Rattle.pv_base.proofs.MapLemmas.{Contains-unmap}
use Rattle.pv_base.proofs.OrderLemmas.{pairs-first}
use Rattle.pv_format.specs.Record.{Record, prepared}
use Rattle.pv_law_acts.proofs.ListLemmas.{listed-any}
use Rattle.pv_law_acts.proofs.RecordLemmas.{prepared-listed}
use Rattle.pv_law_acts.specs.Seen.{records_at, memory_at, ageless_grant, holdings_in, HoldsAgeless}
use Rattle.pv_law_agreement.proofs.Lists.{cut-at, pairs-across, pairs-rest}
use Rattle.pv_law_outcomes.proofs.OpenLemmas.{open-from}
use Rattle.pv_law_outcomes.specs.Decided.{IsBoundBy, is_promised, is_held}
use Rattle.pv_law_agreement.proofs.PlaceLemmas.{Apart, one-placed, not-behind, programs-append}
use Rattle.pv_law_agreement.proofs.WriteLemmas.{assigns-names, named-wanted, named-participates, promised-written, item-at}
use Rattle.pv_law_agreement.specs.Orderly.{IsOrderly}
use Rattle.pv_law_agreement.specs.Places.{AreDistinct, StandsBefore}
use Rattle.pv_law_agreement.specs.Promises.{Precedes, AreInSequence}
use Rattle.pv_law_step.proofs.Lists.{all-from}
use Rattle.pv_law_values.proofs.NewestLemmas.{item-comes-from}
use Rattle.pv_law_values.proofs.SerialLemmas.{serial-append, serial-stays, value-declared}
use Rattle.pv_law_values.specs.Newest.{does_write, WriteNothing, ComesFrom, nothing, write}
use Rattle.pv_law_values.specs.Unassigned.{AssignNothing}
use Rattle.pv_model.specs.Alternatives.{Read}
use Rattle.pv_model.specs.Check.{names_item, IsAt}
use Rattle.pv_model.specs.Meaning.{Row, value_in}
use Rattle.pv_model.specs.Plan.{want_of, wants_of, participants_of}
use Rattle.pv_model.specs.ProgramLaws.{assigns}
use Rattle.pv_model.specs.Serial.{Ordered, declared_rows, serial}
use Rattle.pv_protocol.specs.Agreement.{Agrees}
use Rattle.pv_protocol.specs.Committed.{Fits, wants_alone, holder_of, is_readable, programs_of}
use Rattle.pv_protocol.specs.Records.{is_prepared}
use Rattle.pv_protocol.specs.Shown.{written, declared_value, item_value}
use Rattle.pv_protocol.specs.State.{Setup, Grant, Running, TakenGrant, Placed}
use Rattle.pv_protocol.specs.World.{World}

-- Nobody of an order assigns the item and commits, where none of its places does.
of-places : (a : List TxnId) (n : ℕ) (order : List Placed) → ((p : Placed) → Contains order p → commits a p.txn ≡ true → assigns p.program n ≡ false) → AssignNothing n a (programs_of order)
of-places a n order each = all-from (λ (e : Ordered). commits a e.txn ≡ true → assigns e.program n ≡ false) (programs_of order) (λ e h.
    let back = Contains-unmap (λ (p : Placed). let o : Ordered = record { txn = p.txn; program = p.program } in o) order e h in
    subst (λ (e : Ordered). commits a e.txn ≡ true → assigns e.program n ≡ false) back.1.1 (each back.0 back.1.0))

-- An item that a grant holds exclusively can't be read.

held-by : (n : ℕ) (first : Grant) (grants : List Grant) (b : Bool) → (b ≡ true) ⊎ (is_none (holder_of grants n) ≡ false) → is_none (if b then Some first.txn else holder_of grants n) ≡ false
held-by n first grants true h = refl
held-by n first grants false (inl h) = absurd (never h)
held-by n first grants false (inr h) = h

held : (n : ℕ) (grants : List Grant) (grant : Grant) → Contains grants grant → list_any (wants_alone n) grant.wants ≡ true → is_none (holder_of grants n) ≡ false
held n [] grant h alone = absurd (Contains-nil grant h)
held n (first ∷ grants) grant h alone =
    held-by n first grants (list_any (wants_alone n) first.wants)
    (⊎_elim
    (λ same. inl (ap (λ (g : Grant). list_any (wants_alone n) g.wants) same ∙ alone))
    (λ behind. inr (held n grants grant behind alone))
    (Contains-cases first grants grant h))

held-unreadable : (n : ℕ) (memory : Option Running) (grant : Grant) → Contains (holdings_in memory) grant → list_any (wants_alone n) grant.wants ≡ true → IsTrue (is_readable memory n) → ⊥
held-unreadable n None grant h alone readable = Contains-nil grant h
held-unreadable n (Some running) grant h alone readable =
    let back = Contains-unmap ageless_grant running.grants grant h in
    false≢true (sym (held n running.grants back.0 back.1.0 (ap (λ (g : Grant). list_any (wants_alone n) g.wants) back.1.1 ∙ alone)) ∙ readable)

module _ (setup : Setup) (world : World) (orderly : IsOrderly setup world) (a : List TxnId) (fits : Fits world a) (n : ℕ) (site : ℕ) (home : IsAt setup.catalog.items n site) where
  abbrev records : List Record
  records = records_at world site

  -- Each transaction of the order that commits and assigns the item is prepared at the item's site.
  abbrev pub NonePending : Type 0
  NonePending = (placed : Placed) → Contains world.order placed → commits a placed.txn ≡ true → assigns placed.program n ≡ true → is_prepared records placed.txn ≡ true

  -- what a transaction of the order that commits and assigns the item has promised for it
  record Wrote (placed : Placed) : Type 0 where
    writes : List Read
    listed : Contains records (prepared placed.txn writes)
    some : IsSome (written n writes)

  wrote : NonePending → (placed : Placed) → Contains world.order placed → commits a placed.txn ≡ true → assigns placed.program n ≡ true → Wrote placed
  wrote none placed h committed assigned =
      let promise = prepared-listed records placed.txn (none placed h committed assigned) in
      let is = orderly.promised site placed.txn promise.0 promise.1 in
      let same : is.placed ≡ placed = one-placed world.order orderly.distinct is.placed placed is.in_order h is.is in
      record {
        writes = promise.0;
        listed = promise.1;
        some = promised-written setup.catalog world.order site placed.txn promise.0 is n
            (record { home = home; assigned = ap (λ (p : Placed). assigns p.program n) same ∙ assigned });
      }

  writes-it : (placed : Placed) (w : Wrote placed) → commits a placed.txn ≡ true → does_write n a (prepared placed.txn w.writes) ≡ true
  writes-it placed w committed = and_from (commits a placed.txn) (is_some (written n w.writes)) committed w.some

  -- Where no record writes the item for a transaction that commits, nobody who commits assigns it.
  none-assign : NonePending → WriteNothing n a records → AssignNothing n a (programs_of world.order)
  none-assign none nothing_written = of-places a n world.order (λ p h in_a. false_from_ne_true (assigns p.program n) (λ assigned.
      let w = wrote none p h in_a assigned in
      false≢true (sym (All-contains (λ k. does_write n a k ≡ false) records (prepared p.txn w.writes) nothing_written w.listed) ∙ writes-it p w in_a)))

  -- What stands behind the transaction of the last write doesn't assign the item, where it commits.
  rest-assign : NonePending → (before after : List Record) (txn : TxnId) (writes : List Read) → records ≡ before ++ prepared txn writes ∷ after → WriteNothing n a after → IsSome (written n writes)
      → (front rest : List Placed) (p : Placed) → world.order ≡ front ++ p ∷ rest → p.txn ≡ txn → (u : Placed) → Contains rest u → commits a u.txn ≡ true → assigns u.program n ≡ true → ⊥
  rest-assign none before after txn writes split nothing_written some front rest p cut is u behind in_a assigned =
      let distinct = subst AreDistinct cut orderly.distinct in
      let in_order : Contains world.order u = subst (λ o. Contains o u) (sym cut) (Contains-append_right front (p ∷ rest) u (Contains-behind p rest u behind)) in
      let w = wrote none u in_order in_a assigned in
      let sequence = subst (λ rs. AreInSequence world.order rs) split (orderly.sequence site) in
      ⊎_elim
      (λ earlier.
      let stands : StandsBefore world.order u.txn txn = pairs-across (Precedes world.order) before (prepared txn writes ∷ after) sequence (prepared u.txn w.writes) (prepared txn writes)
      earlier (Contains-first (prepared txn writes) after) n w.some some in
      not-behind front rest p u distinct behind (subst (λ o. StandsBefore o u.txn p.txn) cut (subst (λ t. StandsBefore world.order u.txn t) (sym is) stands)))
      (λ later. ⊎_elim
      (λ here. let same : txn ≡ u.txn = cc in pairs-first Apart p rest (pairs-rest Apart front (p ∷ rest) distinct) u behind (is ∙ same))
      (λ after_it. false≢true (sym (All-contains (λ k. does_write n a k ≡ false) after (prepared u.txn w.writes) nothing_written after_it) ∙ writes-it u w in_a))
      (Contains-cases (prepared txn writes) after (prepared u.txn w.writes) later))
      (Contains-append_cases before (prepared txn writes ∷ after) (prepared u.txn w.writes) (subst (λ rs. Contains rs (prepared u.txn w.writes)) split w.listed))

  abbrev declared : List Row
  declared = declared_rows setup.catalog

  by-source : NonePending → (value : ℤ) → ComesFrom n a (declared_value setup.catalog n) records value → value ≡ value_in (serial declared (programs_of world.order) a) n
  by-source none value (nothing none_written is) =
      is ∙ sym (value-declared setup.catalog n) ∙ sym (serial-stays declared (programs_of world.order) a n (none-assign none none_written))
  by-source none value (write before after txn writes cases split committed new none_written is) =
      let listed : Contains records (prepared txn writes) = subst (λ rs. Contains rs (prepared txn writes)) (sym split)
      (Contains-append_right before (prepared txn writes ∷ after) (prepared txn writes) (Contains-first (prepared txn writes) after)) in
      let promised = orderly.promised site txn writes listed in
      let p = promised.placed in
      let cut = cut-at world.order p promised.in_order in
      let stretch : List Placed = cut.front ++ p ∷ [] in
      let some : IsSome (written n writes) = ap is_some new in
      let nobody : AssignNothing n a (programs_of cut.rest) = of-places a n cut.rest
      (λ u behind in_a. false_from_ne_true (assigns u.program n) (rest-assign none before after txn writes split none_written some cut.front cut.rest p cut.split promised.is u behind in_a)) in
      is
      ∙ orderly.values site txn writes listed cut.front cut.rest p cut.split promised.is a fits committed n cases new
      ∙ sym (serial-stays (serial declared (programs_of stretch) a) (programs_of cut.rest) a n nobody)
      ∙ ap (λ (rows : List Row). value_in rows n) (sym (serial-append declared (programs_of stretch) (programs_of cut.rest) a))
      ∙ ap (λ (o : List Ordered). value_in (serial declared o a) n) (sym (programs-append stretch cut.rest))
      ∙ ap (λ (o : List Placed). value_in (serial declared (programs_of o) a) n) (append_assoc cut.front (p ∷ []) cut.rest ∙ sym cut.split)

  -- Where nobody is pending, the item has the value that the serial run leaves.
  pub none-pending-agrees : NonePending → item_value setup.catalog records n a ≡ value_in (serial declared (programs_of world.order) a) n
  none-pending-agrees none = by-source none (item_value setup.catalog records n a) (item-comes-from setup.catalog records n a (orderly.heeded a fits site))

  -- A grant of the transaction stands here.
  pub record HoldsHere (placed : Placed) : Type 0 where
    pub grant : Grant
    pub holds : HoldsAgeless world site grant
    pub of : grant.txn ≡ placed.txn

  bound-here : (placed : Placed) (taken : TakenGrant) → taken.site ≡ site → IsBoundBy world placed.txn taken → (is_prepared records placed.txn ≡ true) ⊎ HoldsHere placed
  bound-here placed taken here (is_promised is) = inl (subst (λ s. is_prepared (records_at world s) placed.txn ≡ true) here is)
  bound-here placed taken here (is_held wants holds) =
      let grant : Grant = record { txn = placed.txn; id = taken.grant; wants = wants; age = 0 } in
      inr (record { grant = grant; holds = subst (λ s. HoldsAgeless world s grant) here holds; of = refl })

  -- Each transaction that commits and takes part here is prepared here, or a grant of it stands.
  pub bound : (placed : Placed) → Contains world.order placed → commits a placed.txn ≡ true → names_item placed.program n ≡ true
      → (is_prepared records placed.txn ≡ true) ⊎ HoldsHere placed
  bound placed h in_a named =
      let there : Contains (participants_of placed.program setup.catalog.items) site = named-participates setup.catalog.items placed.program site n home named in
      ⊎_elim
      (λ committed.
      let is = orderly.committed placed.txn committed in
      let same : is.placed ≡ placed = one-placed world.order orderly.distinct is.placed placed is.in_order h is.is in
      inl (is.everywhere site (subst (λ (p : Placed). Contains (participants_of p.program setup.catalog.items) site) (sym same) there)))
      (λ open_it.
      let yet = open-from world placed.txn open_it in
      let same : yet.placed ≡ placed = one-placed world.order orderly.distinct yet.placed placed yet.in_order h yet.own in
      let part = orderly.whole placed h site there in
      bound-here placed part.0 part.2 (yet.bound part.0 (subst (λ (p : Placed). Contains p.grants part.0) (sym same) part.1)))
      (fits.only placed.txn in_a)

  pub holds-wants : (placed : Placed) → Contains world.order placed → (here : HoldsHere placed) → here.grant.wants ≡ wants_of placed.program setup.catalog.items site
  holds-wants placed h here = orderly.wants site placed here.grant h here.holds here.of

  pub readable-none : IsTrue (is_readable (memory_at world site) n) → NonePending
  readable-none readable placed h in_a assigned =
      ⊎_elim
      (λ prepared_it. prepared_it)
      (λ holds. absurd
      (held-unreadable n (memory_at world site) holds.grant holds.holds
      (listed-any (wants_alone n) holds.grant.wants (want_of placed.program n)
      (subst (λ (ws : List Want). Contains ws (want_of placed.program n)) (sym (holds-wants placed h holds)) (named-wanted setup.catalog.items placed.program site n home (assigns-names placed.program n assigned)))
      (and_from (assigns placed.program n) (n == n) assigned (eq-eqb n n refl)))
      readable))
      (bound placed h in_a (assigns-names placed.program n assigned))

pub agrees : (setup : Setup) (world : World) → IsOrderly setup world → Agrees setup world
agrees setup world orderly = λ a fits n item there readable.
    let home = item-at setup.catalog.items n item there in
    none-pending-agrees setup world orderly a fits n item.site home (readable-none setup world orderly a fits n item.site home readable)
