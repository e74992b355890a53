-- At the lock point each participant is asked for its vote on the new values of its exclusive items, under its grant.
use Rattle.std.proofs.Common.{◌≡◌, ℕ, Bool, true, false, Some, None, Option, List, [], ◌∷◌, map, refl, sym, ap, ◌∙◌}
use Rattle.std.specs.Prelude.{◌==◌, if◌then◌else◌, nat_lt, All, IsTrue, filter, filter_map, find}
use Rattle.std.specs.List.{cons_option, list_any}
use Rattle.std.specs.Option.{option_map}
use Rattle.std.proofs.lemmas.Bool.{eqb-true, eq-eqb, false≢true, or_parts}
use Rattle.std.proofs.lemmas.List.Elements.{All-cons, All-nil}
use Rattle.pv_base.specs.Catalog.{Item}
use Rattle.pv_base.specs.Want.{Want}
use Rattle.pv_coord.specs.Work.{Work, grant_from, with_grant}
use Rattle.pv_format.specs.Message.{prepare}
use Rattle.pv_format.specs.Record.{Record}
use Rattle.pv_law_programs.proofs.PlanLemmas.{wants-each}
use Rattle.pv_law_step.proofs.Appended.{found-passes}
use Rattle.pv_law_step.proofs.Lists.{all-head, all-tail}
use Rattle.pv_model.specs.Alternatives.{Read}
use Rattle.pv_model.specs.Check.{IsWant, Part}
use Rattle.pv_model.specs.Plan.{participants_of, part_of, plan_of, wants_of}
use Rattle.pv_model.specs.ProgramLaws.{assigns}
use Rattle.pv_model.specs.Syntax.{Program}
use Rattle.pv_protocol.specs.Coordinate.{exclusive_items, new_value, with_taken, writes_to}
use Rattle.pv_protocol.specs.Granted.{asked_of, prepare_sends, prepare_under, taken_from}
use Rattle.pv_protocol.specs.Here.{Here}
use Rattle.pv_protocol.specs.State.{Entry, Taken}
use Rattle.pv_site.proofs.TakenReads.{turned}
use Rattle.pv_site.specs.Shares.{prepare_if, prepare_send, prepares, writes_in}

-- Lists.

filter_map-map : {X Y Z : Type 0} (f : Y → Option Z) (g : X → Y) (xs : List X) → filter_map f (map g xs) ≡ filter_map (λ x. f (g x)) xs
filter_map-map f g [] = refl
filter_map-map f g (x ∷ xs) = ap (cons_option (f (g x))) (filter_map-map f g xs)

filter_map-same : {X Y : Type 0} (f g : X → Option Y) (xs : List X) → ((x : X) → f x ≡ g x) → filter_map f xs ≡ filter_map g xs
filter_map-same f g [] same = refl
filter_map-same f g (x ∷ xs) same =
    ap (λ first. cons_option first (filter_map f xs)) (same x) ∙ ap (cons_option (g x)) (filter_map-same f g xs same)

-- What was taken, with one grant more.

module _ (new : Taken) (site : ℕ) where
  found-with : (taken : List Taken) → list_any (λ (t : Taken). t.site == new.site) taken ≡ false
      → find (λ (t : Taken). t.site == site) (with_taken new taken) ≡ (if new.site == site then Some new else find (λ (t : Taken). t.site == site) taken)
  found-with [] lacking = refl
  found-with (first ∷ rest) lacking =
      by (nat_lt new.site first.site) (found-with rest (or_parts (first.site == new.site) (list_any (λ (t : Taken). t.site == new.site) rest) lacking).1)
    where
      apart : (first.site == new.site) ≡ false
      apart = (or_parts (first.site == new.site) (list_any (λ (t : Taken). t.site == new.site) rest) lacking).0

      later : (b c : Bool) → (first.site == site) ≡ b → (new.site == site) ≡ c
          → (if b then Some first else (if c then Some new else find (λ (t : Taken). t.site == site) rest))
          ≡ (if c then Some new else (if b then Some first else find (λ (t : Taken). t.site == site) rest))
      later true true one other =
          absurd (false≢true (sym apart ∙ eq-eqb first.site new.site (eqb-true first.site site one ∙ sym (eqb-true new.site site other))))
      later true false one other = refl
      later false c one other = refl

      by : (b : Bool) → find (λ (t : Taken). t.site == site) (with_taken new rest) ≡ (if new.site == site then Some new else find (λ (t : Taken). t.site == site) rest)
          → find (λ (t : Taken). t.site == site) (if b then new ∷ (first ∷ rest) else first ∷ with_taken new rest)
          ≡ (if new.site == site then Some new else (if first.site == site then Some first else find (λ (t : Taken). t.site == site) rest))
      by true behind = refl
      by false behind =
          ap (λ (o : Option Taken). if first.site == site then Some first else o) behind
          ∙ later (first.site == site) (new.site == site) refl refl

-- The writes.

exclusive-assigned : (program : Program) (items : List Item) (site : ℕ) (wants : List Want) → All (IsWant program items site) wants
    → All (λ (n : ℕ). IsTrue (assigns program n)) (exclusive_items wants)
exclusive-assigned program items site [] are = All-nil (λ (n : ℕ). IsTrue (assigns program n))
exclusive-assigned program items site (want ∷ wants) are =
    by want.exclusive refl (exclusive-assigned program items site wants (all-tail (IsWant program items site) want wants are)) where
      by : (b : Bool) → want.exclusive ≡ b → All (λ (n : ℕ). IsTrue (assigns program n)) (exclusive_items wants)
          → All (λ (n : ℕ). IsTrue (assigns program n)) (map (λ (want : Want). want.item) (if b then want ∷ filter (λ (want : Want). want.exclusive) wants else filter (λ (want : Want). want.exclusive) wants))
      by true at rest =
          All-cons (λ (n : ℕ). IsTrue (assigns program n)) want.item (exclusive_items wants) (sym (all-head (IsWant program items site) want wants are).exclusive ∙ at) rest
      by false at rest = rest

module _ (records : List Record) (entry : Entry) (writes : List Read)
    (written : (n : ℕ) → IsTrue (assigns entry.program n) → find (λ (write : Read). write.item == n) writes ≡ Some (record { item = n; cases = new_value records entry n })) where
  writes-to : (items : List ℕ) → All (λ (n : ℕ). IsTrue (assigns entry.program n)) items → writes_in writes items ≡ writes_to records entry items
  writes-to [] are = refl
  writes-to (n ∷ items) are =
      ap (λ (o : Option Read). cons_option o (writes_in writes items)) (written n (all-head (λ (n : ℕ). IsTrue (assigns entry.program n)) n items are))
      ∙ ap (λ (rest : List Read). record { item = n; cases = new_value records entry n } ∷ rest)
      (writes-to items (all-tail (λ (n : ℕ). IsTrue (assigns entry.program n)) n items are))

  pub exclusive-writes : (items : List Item) (site : ℕ)
      → writes_in writes (exclusive_items (wants_of entry.program items site)) ≡ writes_to records entry (exclusive_items (wants_of entry.program items site))
  exclusive-writes items site =
      writes-to (exclusive_items (wants_of entry.program items site))
      (exclusive-assigned entry.program items site (wants_of entry.program items site) (wants-each entry.program items site))

-- The messages.

module _ (here : Here) (work : Work) (new : Taken) (writes : List Read)
    (planned : work.parts ≡ plan_of work.entry.program here.setup.catalog.items)
    (lacking : list_any (λ (t : Taken). t.site == new.site) work.entry.taken ≡ false)
    (written : (n : ℕ) → IsTrue (assigns work.entry.program n)
    → find (λ (write : Read). write.item == n) writes ≡ Some (record { item = n; cases = new_value here.records (with_grant work new).entry n })) where
  abbrev entry : Entry
  entry = (with_grant work new).entry

  abbrev items : List Item
  items = here.setup.catalog.items

  -- A participant whose grant this is.
  sent-under : (site : ℕ) (taken : Taken) → taken.site ≡ site
      → Some (prepare_send entry.txn taken.grant writes (part_of entry.program items site)) ≡ prepare_under here entry (Some taken)
  sent-under site taken at =
      ap (λ (own : List Read). Some (record { to = site; message = prepare entry.txn taken.grant own })) (exclusive-writes here.records entry writes written items site)
      ∙ ap (λ (n : ℕ). Some (record { to = n; message = prepare entry.txn taken.grant (writes_to here.records entry (exclusive_items (asked_of here entry n))) })) (sym at)

  sent-if : (site : ℕ) (taken : Option Taken) → find (λ (t : Taken). t.site == site) work.entry.taken ≡ taken
      → prepare_if entry.txn writes (part_of entry.program items site) (option_map (λ (t : Taken). t.grant) taken) ≡ prepare_under here entry taken
  sent-if site None is = refl
  sent-if site (Some taken) is = sent-under site taken (eqb-true taken.site site (found-passes (λ (t : Taken). t.site == site) work.entry.taken taken is))

  sent-to : (site : ℕ)
      → prepare_if entry.txn writes (part_of entry.program items site) (if site == new.site then Some new.grant else grant_from work site)
      ≡ prepare_under here entry (taken_from entry site)
  sent-to site = by (site == new.site) refl ∙ sym (ap (prepare_under here entry) (found-with new site work.entry.taken lacking)) where
    by : (b : Bool) → (site == new.site) ≡ b
        → prepare_if entry.txn writes (part_of entry.program items site) (if b then Some new.grant else grant_from work site)
        ≡ prepare_under here entry (if new.site == site then Some new else find (λ (t : Taken). t.site == site) work.entry.taken)
    by true at =
        sent-under site new (sym (eqb-true site new.site at))
        ∙ ap (λ (c : Bool). prepare_under here entry (if c then Some new else find (λ (t : Taken). t.site == site) work.entry.taken)) (sym (turned site new.site true at))
    by false at =
        sent-if site (find (λ (t : Taken). t.site == site) work.entry.taken) refl
        ∙ ap (λ (c : Bool). prepare_under here entry (if c then Some new else find (λ (t : Taken). t.site == site) work.entry.taken)) (sym (turned site new.site false at))

  pub prepares-all : prepares entry.txn writes new.site new.grant (grant_from work) work.parts ≡ prepare_sends here entry
  unfolding plan_of
  prepares-all =
      ap (prepares entry.txn writes new.site new.grant (grant_from work)) planned
      ∙ filter_map-map (λ (part : Part). prepare_if entry.txn writes part (if part.site == new.site then Some new.grant else grant_from work part.site))
      (part_of entry.program items) (participants_of entry.program items)
      ∙ filter_map-same
      (λ site. prepare_if entry.txn writes (part_of entry.program items site) (if site == new.site then Some new.grant else grant_from work site))
      (λ site. prepare_under here entry (taken_from entry site)) (participants_of entry.program items) sent-to
