-- The least item of the reads that has to be certain and isn't is the least of the catalog.
use Rattle.std.proofs.Common.{◌≡◌, ◌⊎◌, ⊎_elim, inl, inr, ℕ, ◌<◌, ◌≤◌, ℤ, Bool, true, false, Option, Some, None, List, [], ◌∷◌, length, refl, sym, ap, subst, ◌∙◌, arith}
use Rattle.std.specs.Prelude.{◌==◌, ◌&&◌, ◌||◌, find, nat_lt, if◌then◌else◌}
use Rattle.std.specs.List.{Contains}
use Rattle.std.proofs.lemmas.Bool.{and_parts, eq-eqb, false≢true, ltb-false, ltb-true, or_cases, or_left, or_right}
use Rattle.std.proofs.lemmas.Option.{none-some}
use Rattle.pv_base.proofs.Basics.{Some_inj}
use Rattle.pv_base.proofs.ContainsLemmas.{Contains-behind, Contains-cases, Contains-first, Contains-nil}
use Rattle.pv_base.proofs.OrderLemmas.{pairs-first, pairs-tail}
use Rattle.pv_base.specs.Catalog.{Item}
use Rattle.pv_base.specs.declared.limits.TheConstants.{HELD_NAMES}
use Rattle.pv_base.specs.declared.txn.TxnId.{TxnId}
use Rattle.pv_base.specs.Named.{names_of}
use Rattle.pv_base.specs.Polyvalue.{AreNames, Case, IsPolyvalue, value_at}
use Rattle.pv_format.specs.Record.{Record}
use Rattle.pv_law_polyvalues.proofs.NameLemmas.{one-names}
use Rattle.pv_law_polyvalues.proofs.PolyvalueLemmas.{canonical-complete, one-canonical}
use Rattle.pv_law_step.proofs.DoubtLemmas.{first-from, none-from, settled-canonical, settled-value}
use Rattle.pv_law_step.proofs.NameLists.{names-are}
use Rattle.pv_model.specs.Alternatives.{Read}
use Rattle.pv_model.specs.Check.{names_item, requires_certain}
use Rattle.pv_model.specs.Syntax.{Program, end, assign, require, certain, return, when, when_else}
use Rattle.pv_protocol.specs.Coordinate.{count_left, doubts, is_uncertain, reads_of, settled_value, uncertain_from, value_taken}
use Rattle.pv_protocol.specs.Records.{choice}
use Rattle.pv_protocol.specs.State.{Entry}
use Rattle.pv_site.proofs.LockPoint.{number-there}
use Rattle.pv_site.specs.declared.doubting.Doubt.{Doubt}
use Rattle.pv_site.specs.Doubts.{doubt_in, is_doubtful, least_from, lesser, names_left}
use Rattle.pv_site.specs.LockPoint.{HasItsReads, ReadApart}

-- A value with the known outcomes put in is the settled one, and so they name the same.
module _ (records : List Record) (before after : List (Case ℤ)) (polyvalue : IsPolyvalue HELD_NAMES after)
    (value : (assignment : List TxnId) → value_at after assignment ≡ value_at before (choice records assignment)) where
  settled-same : after ≡ settled_value records before
  settled-same =
      one-canonical after (settled_value records before) polyvalue.canonical (settled-canonical records before)
      (λ assignment.
      let some = canonical-complete after polyvalue.canonical assignment in
      value assignment ∙ number-there before (choice records assignment) some.0 (sym (value assignment) ∙ some.1) ∙ sym (settled-value records before assignment))

  pub names-settled : (txns : List TxnId) → AreNames after txns → length txns ≡ length (names_of (settled_value records before))
  names-settled txns are =
      ap (λ (all : List TxnId). length all) (one-names after after txns (names_of after) (λ t. refl) are (names-are after))
      ∙ ap (λ (cases : List (Case ℤ)). length (names_of cases)) settled-same

-- What has to be certain is named.
certain-named : (program : Program) (n : ℕ) → requires_certain program n ≡ true → names_item program n ≡ true
certain-named end n is = absurd (false≢true is)
certain-named (assign m e next) n is = or_right (m == n) _ (or_right _ (names_item next n) (certain-named next n is))
certain-named (require e next) n is = or_right _ (names_item next n) (certain-named next n is)
certain-named (certain m next) n is =
    ⊎_elim (λ here. or_left (m == n) (names_item next n) here) (λ behind. or_right (m == n) (names_item next n) (certain-named next n behind))
    (or_cases (m == n) (requires_certain next n) is)
certain-named (return e next) n is = or_right _ (names_item next n) (certain-named next n is)
certain-named (when e body next) n is =
    or_right _ (names_item body n || names_item next n)
    (⊎_elim (λ inside. or_left (names_item body n) (names_item next n) (certain-named body n inside))
    (λ behind. or_right (names_item body n) (names_item next n) (certain-named next n behind))
    (or_cases (requires_certain body n) (requires_certain next n) is))
certain-named (when_else e body other next) n is =
    or_right _ (names_item body n || (names_item other n || names_item next n))
    (⊎_elim (λ inside. or_left (names_item body n) (names_item other n || names_item next n) (certain-named body n inside))
    (λ rest. or_right (names_item body n) (names_item other n || names_item next n)
    (⊎_elim (λ inside. or_left (names_item other n) (names_item next n) (certain-named other n inside))
    (λ behind. or_right (names_item other n) (names_item next n) (certain-named next n behind))
    (or_cases (requires_certain other n) (requires_certain next n) rest)))
    (or_cases (requires_certain body n) (requires_certain other n || requires_certain next n) is))

module _ (records : List Record) (program : Program) where
  -- The doubt is that of one of the reads.
  record IsDoubtOf (reads : List Read) (doubt : Doubt) : Type 0 where
    read : Read
    listed : Contains reads read
    doubtful : is_doubtful records program read ≡ true
    item : read.item ≡ doubt.item.0
    outcomes : names_left records read ≡ doubt.outcomes

  doubt-is : (read : Read) (doubt : Doubt) (b : Bool) → is_doubtful records program read ≡ b
      → (if b then Some (record { item = record { 0 = read.item }; outcomes = names_left records read }) else None) ≡ Some doubt
      → (is_doubtful records program read ≡ true) × ((read.item ≡ doubt.item.0) × (names_left records read ≡ doubt.outcomes))
  doubt-is read doubt true at is = (at, (ap (λ (d : Doubt). d.item.0) (Some_inj is), ap (λ (d : Doubt). d.outcomes) (Some_inj is)))
  doubt-is read doubt false at is = absurd (none-some doubt is)

  doubt-some : (read : Read) → is_doubtful records program read ≡ true
      → doubt_in records program read ≡ Some (record { item = record { 0 = read.item }; outcomes = names_left records read })
  doubt-some read is = ap (λ (b : Bool). if b then Some (record { item = record { 0 = read.item }; outcomes = names_left records read }) else None) is

  -- What of two the lesser is.
  lesser-either : (first other : Option Doubt) (doubt : Doubt) → lesser first other ≡ Some doubt → (first ≡ Some doubt) ⊎ (other ≡ Some doubt)
  lesser-either None other doubt is = inr is
  lesser-either (Some one) None doubt is = inl is
  lesser-either (Some one) (Some two) doubt is = by (nat_lt two.item.0 one.item.0) is where
    by : (b : Bool) → (if b then Some two else Some one) ≡ Some doubt → (Some one ≡ Some doubt) ⊎ (Some two ≡ Some doubt)
    by true is = inr is
    by false is = inl is

  -- It is there where one of both is, and is of no greater item.
  lesser-first : (one : Doubt) (other : Option Doubt) → (less : Doubt) × ((lesser (Some one) other ≡ Some less) × (less.item.0 ≤ one.item.0))
  lesser-first one None = (one, (refl, omega arith))
  lesser-first one (Some two) = by (nat_lt two.item.0 one.item.0) refl where
    by : (b : Bool) → nat_lt two.item.0 one.item.0 ≡ b → (less : Doubt) × (((if b then Some two else Some one) ≡ Some less) × (less.item.0 ≤ one.item.0))
    by true at = (two, (refl, let below = ltb-true two.item.0 one.item.0 at in omega (arith, below)))
    by false at = (one, (refl, omega arith))

  lesser-second : (first : Option Doubt) (two : Doubt) → (less : Doubt) × ((lesser first (Some two) ≡ Some less) × (less.item.0 ≤ two.item.0))
  lesser-second None two = (two, (refl, omega arith))
  lesser-second (Some one) two = by (nat_lt two.item.0 one.item.0) refl where
    by : (b : Bool) → nat_lt two.item.0 one.item.0 ≡ b → (less : Doubt) × (((if b then Some two else Some one) ≡ Some less) × (less.item.0 ≤ two.item.0))
    by true at = (two, (refl, omega arith))
    by false at = (one, (refl, ltb-false two.item.0 one.item.0 at))

  -- What is found is what was there before or of one of the reads, and nothing of a lesser item is.
  found-of : (first : Option Doubt) (reads : List Read) (doubt : Doubt) → least_from records program first reads ≡ Some doubt → (first ≡ Some doubt) ⊎ IsDoubtOf reads doubt
  found-of first [] doubt is = inl is
  found-of first (read ∷ reads) doubt is =
      ⊎_elim
      (λ here. ⊎_elim (λ was. inl was)
      (λ new.
      let of = doubt-is read doubt (is_doubtful records program read) refl new in
      inr (record { read = read; listed = Contains-first read reads; doubtful = of.0; item = of.1.0; outcomes = of.1.1 }))
      (lesser-either first (doubt_in records program read) doubt here))
      (λ behind. inr (record { read = behind.read; listed = Contains-behind read reads behind.read behind.listed; doubtful = behind.doubtful; item = behind.item; outcomes = behind.outcomes }))
      (found-of (lesser first (doubt_in records program read)) reads doubt is)

  found-before : (one : Doubt) (reads : List Read) → (least : Doubt) × ((least_from records program (Some one) reads ≡ Some least) × (least.item.0 ≤ one.item.0))
  found-before one [] = (one, (refl, omega arith))
  found-before one (read ∷ reads) =
      let less = lesser-first one (doubt_in records program read) in
      let found = found-before less.0 reads in
      let low = less.1.1 in
      let lower = found.1.1 in
      (found.0, (ap (λ (first : Option Doubt). least_from records program first reads) less.1.0 ∙ found.1.0, omega (arith, low, lower)))

  found-least : (first : Option Doubt) (reads : List Read) (read : Read) → Contains reads read → is_doubtful records program read ≡ true
      → (least : Doubt) × ((least_from records program first reads ≡ Some least) × (least.item.0 ≤ read.item))
  found-least first [] read h is = absurd (Contains-nil read h)
  found-least first (head ∷ reads) read h is =
      ⊎_elim
      (λ here.
      let same : doubt_in records program head ≡ Some (record { item = record { 0 = read.item }; outcomes = names_left records read }) =
      ap (doubt_in records program) here ∙ doubt-some read is in
      let less = lesser-second first (record { item = record { 0 = read.item }; outcomes = names_left records read }) in
      let found = found-before less.0 reads in
      let low = less.1.1 in
      let lower = found.1.1 in (
        found.0,
        (
          ap (λ (other : Option Doubt). least_from records program (lesser first other) reads) same
              ∙ ap (λ (now : Option Doubt). least_from records program now reads) less.1.0
              ∙ found.1.0,
          omega (arith, low, lower),
        ),
      ))
      (λ behind. found-least (lesser first (doubt_in records program head)) reads read behind is)
      (Contains-cases head reads read h)

-- The reads of an entry.

read-found : (reads : List Read) (read : Read) → ReadApart reads → Contains reads read → find (λ (other : Read). other.item == read.item) reads ≡ Some read
read-found [] read apart h = absurd (Contains-nil read h)
read-found (first ∷ rest) read apart h =
    ⊎_elim
    (λ here. ap (λ (b : Bool). if b then Some first else find (λ (other : Read). other.item == read.item) rest) (eq-eqb first.item read.item (ap (λ (r : Read). r.item) here)) ∙ ap Some here)
    (λ behind.
    ap (λ (b : Bool). if b then Some first else find (λ (other : Read). other.item == read.item) rest)
    (pairs-first (λ (r later : Read). (r.item == later.item) ≡ false) first rest apart read behind)
    ∙ read-found rest read (pairs-tail (λ (r later : Read). (r.item == later.item) ≡ false) first rest apart) behind)
    (Contains-cases first rest read h)

module _ (records : List Record) (entry : Entry) (items : List Item) (apart : ReadApart (reads_of entry)) (has : HasItsReads entry.program (reads_of entry))
    (below : (read : Read) → Contains (reads_of entry) read → read.item < length items) where
  taken-there : (read : Read) → Contains (reads_of entry) read → value_taken entry read.item ≡ Some read
  taken-there read h = read-found (reads_of entry) read apart h

  uncertain-is : (read : Read) → Contains (reads_of entry) read → is_uncertain records entry read.item ≡ is_doubtful records entry.program read
  uncertain-is read h = ap (λ (taken : Option Read). requires_certain entry.program read.item && nat_lt 0 (count_left records taken)) (taken-there read h)

  -- Where an item isn't certain that has to be, it is read.
  doubt-read : (item : ℕ) → is_uncertain records entry item ≡ true
      → (read : Read) × (Contains (reads_of entry) read × ((read.item ≡ item) × (is_doubtful records entry.program read ≡ true)))
  doubt-read item is =
      let parts = and_parts (requires_certain entry.program item) (nat_lt 0 (doubts records entry item)) is in
      let found = has item (certain-named entry.program item parts.0) in (
        found.read,
        (found.listed, (found.same, sym (uncertain-is found.read found.listed) ∙ subst (λ n. is_uncertain records entry n ≡ true) (sym found.same) is)),
      )

  pub no-doubt : least_from records entry.program None (reads_of entry) ≡ None → uncertain_from records entry 0 items ≡ None
  no-doubt none = none-from records entry 0 items (λ other up down. by other (is_uncertain records entry other) refl) where
    by : (other : ℕ) (b : Bool) → is_uncertain records entry other ≡ b → b ≡ false
    by other true is =
        let read = doubt-read other is in
        let found = found-least records entry.program None (reads_of entry) read.0 read.1.0 read.1.1.1 in
        absurd (none-some found.0 (sym none ∙ found.1.0))
    by other false is = refl

  pub the-doubt : (doubt : Doubt) → least_from records entry.program None (reads_of entry) ≡ Some doubt
      → (uncertain_from records entry 0 items ≡ Some doubt.item.0) × (doubts records entry doubt.item.0 ≡ doubt.outcomes)
  the-doubt doubt is =
      ⊎_elim
      (λ before. absurd (none-some doubt before))
      (λ of.
      let inside : doubt.item.0 < length items = subst (λ n. n < length items) of.item (below of.read of.listed) in
      let doubtful : is_uncertain records entry doubt.item.0 ≡ true =
      subst (λ n. is_uncertain records entry n ≡ true) of.item (uncertain-is of.read of.listed ∙ of.doubtful) in (
        first-from records entry 0 items doubt.item.0 (record {
          from = omega arith;
          below = omega (arith, inside);
          is = doubtful;
          least = λ other up down. by other (is_uncertain records entry other) refl down;
        }),
        subst (λ n. doubts records entry n ≡ doubt.outcomes) of.item (ap (count_left records) (taken-there of.read of.listed) ∙ of.outcomes),
      ))
      (found-of records entry.program None (reads_of entry) doubt is)
    where
      by : (other : ℕ) (b : Bool) → is_uncertain records entry other ≡ b → other < doubt.item.0 → b ≡ false
      by other true at down =
          let read = doubt-read other at in
          let found = found-least records entry.program None (reads_of entry) read.0 read.1.0 read.1.1.1 in
          let same : found.0 ≡ doubt = Some_inj (sym found.1.0 ∙ is) in
          let low = found.1.1 in
          let of_item = read.1.1.0 in
          absurd (omega (arith, down, low, of_item, ap (λ (d : Doubt). d.item.0) same))
      by other false at down = refl
