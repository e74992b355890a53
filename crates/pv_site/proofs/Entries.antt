-- The entries that the definitions speak of, and the works of a coordinator, of which they are a part.
use Rattle.std.proofs.Common.{◌≡◌, ◌+◌, Bool, true, false, ◌&&◌, Some, Option, List, [], ◌∷◌, map, IsTrue, refl, sym, ap, ◌∙◌}
use Rattle.std.specs.Prelude.{nat_lt, not, if◌then◌else◌}
use Rattle.std.specs.List.{find, filter}
use Rattle.std.specs.Option.{option_map}
use Rattle.std.proofs.lemmas.Bool.{false≢true}
use Rattle.pv_base.proofs.AssignmentLemmas.{precedes-other, same-eq}
use Rattle.pv_base.proofs.Basics.{and-left}
use Rattle.pv_base.proofs.MapLemmas.{Contains-map, map-map}
use Rattle.pv_base.specs.declared.limits.TheConstants.{TICKS}
use Rattle.pv_base.specs.declared.txn.TxnId.{TxnId}
use Rattle.pv_base.specs.Assignment.{is_same_txn, precedes}
use Rattle.pv_coord.specs.Coordinator as own
use Rattle.pv_coord.specs.Coordinator.{Coordinator, work_of, locking_work, voting_work}
use Rattle.pv_coord.specs.Work.{Work, txn_of}
use Rattle.pv_law_polyvalues.proofs.AscendingLemmas.{ascending-first, ascending-tail}
use Rattle.pv_law_step.proofs.Appended.{found-passes}
use Rattle.pv_law_step.proofs.Kept.{find-of}
use Rattle.pv_law_step.proofs.Lists.{all-from, of-some}
use Rattle.pv_locks.specs.LockTable as table
use Rattle.pv_locks.specs.LockTable.{LockTable}
use Rattle.pv_protocol.specs.Coordinate.{is_locking, locking_entry, voting_entry}
use Rattle.pv_protocol.specs.Here.{with_entry, without_entry}
use Rattle.pv_protocol.specs.Keyed.{of_txn, with_one, without, AreInOrder}
use Rattle.pv_protocol.specs.State.{Entry}
use Rattle.pv_protocol.specs.Tick.{older, older_entries, lasting_entries, expired_entries}
use Rattle.pv_site.specs.SiteParts.{running_of}

module _ {X Y : Type 0} (f : X → Y) where
  found-by : (b : Bool) (x : X) (rest : Option X) (other : Option Y) → other ≡ option_map f rest
      → (if b then Some (f x) else other) ≡ option_map f (if b then Some x else rest)
  found-by true x rest other same = refl
  found-by false x rest other same = same

  -- What is found in a list of parts is a part of what is found in the whole.
  pub find-map : (test : Y → Bool) (list : List X) → find test (map f list) ≡ option_map f (find (λ x. test (f x)) list)
  find-map test [] = refl
  find-map test (x ∷ list) = found-by (test (f x)) x (find (λ x. test (f x)) list) (find test (map f list)) (find-map test list)

  kept-by : (b : Bool) (x : X) (rest : List X) (others : List Y) → others ≡ map f rest → (if b then f x ∷ others else others) ≡ map f (if b then x ∷ rest else rest)
  kept-by true x rest others same = ap (λ ys. f x ∷ ys) same
  kept-by false x rest others same = same

  pub filter-map : (test : Y → Bool) (list : List X) → filter test (map f list) ≡ map f (filter (λ x. test (f x)) list)
  filter-map test [] = refl
  filter-map test (x ∷ list) = kept-by (test (f x)) x (filter (λ x. test (f x)) list) (filter test (map f list)) (filter-map test list)

  put-by : (a b : Bool) (x first : X) (rest put : List X) (others : List Y) → others ≡ map f put
      → (if a then f x ∷ map f rest else (if b then f x ∷ (f first ∷ map f rest) else f first ∷ others))
      ≡ map f (if a then x ∷ rest else (if b then x ∷ (first ∷ rest) else first ∷ put))
  put-by true b x first rest put others same = refl
  put-by false true x first rest put others same = refl
  put-by false false x first rest put others same = ap (λ ys. f first ∷ ys) same

  pub with_one-map : (txn_of : Y → TxnId) (x : X) (list : List X) → with_one txn_of (f x) (map f list) ≡ map f (with_one (λ x. txn_of (f x)) x list)
  with_one-map txn_of x [] = refl
  with_one-map txn_of x (first ∷ rest) =
      put-by (is_same_txn (txn_of (f x)) (txn_of (f first))) (precedes (txn_of (f x)) (txn_of (f first))) x first rest
      (with_one (λ x. txn_of (f x)) x rest) (with_one txn_of (f x) (map f rest)) (with_one-map txn_of x rest)

  pub without-map : (txn_of : Y → TxnId) (txn : TxnId) (list : List X) → without txn_of txn (map f list) ≡ map f (without (λ x. txn_of (f x)) txn list)
  without-map txn_of txn list = filter-map (λ y. not (is_same_txn txn (txn_of y))) list

pub ruleset find_map_rules = (find-map, with_one-map, without-map)

module _ {X : Type 0} (txn_of : X → TxnId) where
  -- What is found for a transaction belongs to it.
  pub found-txn : (txn : TxnId) (list : List X) (x : X) → of_txn txn_of txn list ≡ Some x → txn ≡ txn_of x
  found-txn txn list x is = same-eq {t = txn} {u = txn_of x} (found-passes (λ y. is_same_txn txn (txn_of y)) list x is)

  -- What is found by its transaction and a further test is found by its transaction.
  pub first-found : (test : X → Bool) (txn : TxnId) (list : List X) (x : X) → AreInOrder txn_of list
      → find (λ y. is_same_txn txn (txn_of y) && test y) list ≡ Some x → of_txn txn_of txn list ≡ Some x
  first-found test txn [] x up is = is
  first-found test txn (first ∷ rest) x up is =
      by (is_same_txn txn (txn_of first)) (test first) refl is (first-found test txn rest x (ascending-tail (txn_of first) (map txn_of rest) up)) where
        later : is_same_txn txn (txn_of first) ≡ true → find (λ y. is_same_txn txn (txn_of y) && test y) rest ≡ Some x → ⊥
        later same found =
            let behind : IsTrue (precedes (txn_of first) (txn_of x)) =
            of-some (λ y. IsTrue (precedes (txn_of first) (txn_of y))) (find (λ y. is_same_txn txn (txn_of y) && test y) rest) x
            (find-of (λ y. IsTrue (precedes (txn_of first) (txn_of y))) (λ y. is_same_txn txn (txn_of y) && test y) rest
            (all-from (λ y. IsTrue (precedes (txn_of first) (txn_of y))) rest
            (λ y h. ascending-first (txn_of first) (map txn_of rest) up (txn_of y) (Contains-map txn_of rest y h)))) found in
            let here : is_same_txn txn (txn_of x) ≡ true =
            and-left (is_same_txn txn (txn_of x)) (test x) (found-passes (λ y. is_same_txn txn (txn_of y) && test y) rest x found) in
            false≢true (sym (precedes-other (txn_of first) (txn_of x) behind)
            ∙ ap (λ t. is_same_txn t (txn_of x)) (sym (same-eq {t = txn} {u = txn_of first} same)) ∙ here)

        by : (b c : Bool) → is_same_txn txn (txn_of first) ≡ b
            → (if b && c then Some first else find (λ y. is_same_txn txn (txn_of y) && test y) rest) ≡ Some x
            → (find (λ y. is_same_txn txn (txn_of y) && test y) rest ≡ Some x → of_txn txn_of txn rest ≡ Some x)
            → (if b then Some first else of_txn txn_of txn rest) ≡ Some x
        by true true same found behind = found
        by true false same found behind = absurd (later same found)
        by false c same found behind = behind found

-- the entry of a work
abbrev pub entry_in : Work → Entry
entry_in work = work.entry

-- the coordinator after a tick
abbrev pub after_tick : Coordinator → Coordinator
after_tick coord = record coord { entries = own.lasting (own.older coord.entries) }

module _ (locks : LockTable) (coord : Coordinator) where
  -- The entry that is found is that of the work that is found.
  pub entry-of : (txn : TxnId) → of_txn (λ (entry : Entry). entry.txn) txn (running_of locks coord).entries ≡ option_map entry_in (work_of coord txn)
  entry-of txn = find-map entry_in (λ (entry : Entry). is_same_txn txn entry.txn) coord.entries

  pub locking-of : (txn : TxnId) → locking_entry (running_of locks coord) txn ≡ option_map entry_in (locking_work coord txn)
  locking-of txn = find-map entry_in (λ (entry : Entry). is_same_txn txn entry.txn && is_locking entry.stage) coord.entries

  pub voting-of : (txn : TxnId) → voting_entry (running_of locks coord) txn ≡ option_map entry_in (voting_work coord txn)
  voting-of txn = find-map entry_in (λ (entry : Entry). is_same_txn txn entry.txn && not (is_locking entry.stage)) coord.entries

  -- The entry of a work that is put in is put in.
  pub with-work : (work : Work) → with_entry (running_of locks coord) work.entry ≡ running_of locks (own.with_work coord work)
  with-work work = ap (λ (entries : List Entry). record (running_of locks coord) { entries = entries }) (with_one-map entry_in (λ (entry : Entry). entry.txn) work coord.entries)

  -- That of a work that is taken out is taken out.
  pub without-work : (txn : TxnId) → without_entry (running_of locks coord) txn ≡ running_of locks (own.without_work coord txn)
  without-work txn = ap (λ (entries : List Entry). record (running_of locks coord) { entries = entries }) (without-map entry_in (λ (entry : Entry). entry.txn) txn coord.entries)

  older-entries : older_entries (map entry_in coord.entries) ≡ map entry_in (own.older coord.entries)
  older-entries =
      map-map (λ (entry : Entry). record entry { age = entry.age + 1 }) entry_in coord.entries
      ∙ sym (map-map entry_in (λ (work : Work). record work { entry = record work.entry { age = work.entry.age + 1 } }) coord.entries)

  -- A tick makes the entries older, and ends those that are old enough.
  pub after-tick : older (running_of locks coord) ≡ running_of (table.older locks) (after_tick coord)
  after-tick =
      ap (λ (entries : List Entry). record (running_of (table.older locks) coord) { entries = entries })
      (ap lasting_entries older-entries ∙ filter-map entry_in (λ (entry : Entry). nat_lt entry.age TICKS) (own.older coord.entries))

  pub expired-entries : expired_entries (older_entries (running_of locks coord).entries) ≡ map entry_in (own.expired (own.older coord.entries))
  expired-entries = ap expired_entries older-entries ∙ filter-map entry_in (λ (entry : Entry). not (nat_lt entry.age TICKS)) (own.older coord.entries)
