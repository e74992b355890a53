-- Lists of parts: what was done so far, and what is left, come to the whole.
use Rattle.std.proofs.Common.{◌≡◌, ℕ, suc, ◌+◌, ◌-◌, ◌<◌, ◌≤◌, List, [], ◌∷◌, ◌++◌, length, drop, get_or, Option, refl, sym, ap, subst, ◌∙◌, append_assoc, length-append, add-one, arith}
use Rattle.std.proofs.lemmas.List.{append-nil}
use Rattle.std.proofs.Math.Seq.{drop-cons}
use Rattle.std.proofs.lemmas.List.{drop_all}
use Rattle.pv_bytes.specs.Reading.{Rest}
use Rattle.pv_format.specs.FirstFault.{Fault}
use Rattle.pv_format.specs.Layout.{Layout, repeated, entries_layout}
use Rattle.pv_format.specs.Spelling.{◌followed_by◌, IsEmpty, IsAllowed, SpellsEach, SpellsEntriesFrom, is_item_from}
use Rattle.pv_fields.specs.Decoding.{Passes, PassesNumber, Stops, StopsNumber}
use Rattle.pv_fields.proofs.PartLemmas.{passes_both, passes_after_number, stops_first, stops_second, stops_at_number, stops_after_number}

-- Nothing was read.
pub passes_none : (now : Rest) → Passes IsEmpty (λ next. next) now now
passes_none now = record {
  taken = record { front = []; is = refl; taken = record { bytes = refl; place = omega arith } };
  later = λ next fault has. has;
}

-- Of so many, one is left that is not left once it is done.
left_suc : {X : Type 0} (done : List X) (x : X) (count : ℕ) → length done < count → count - length done ≡ suc (count - length (done ++ x ∷ []))
left_suc done x count some = let more = length-append done (x ∷ []) in omega arith

left_one : {X : Type 0} (done : List X) (count : ℕ) → length done < count → count - length done ≡ suc (count - (length done + 1))
left_one done count some = omega arith

module _ {X : Type 0} (Spells : X → List ℕ → Type 0) (each : Layout → Layout) where
  -- Some values of so many were read. What reads the others from here on reads, with them, all from the start, and what stops the reading here
  -- stops it from the start.
  pub record IsReading (done : List X) (count : ℕ) (start now : Rest) : Type 0 where
    pub passes : (more : List X) (new : Rest) → Passes (SpellsEach Spells more) (repeated (count - length done) each) now new
        → Passes (SpellsEach Spells (done ++ more)) (repeated count each) start new
    pub stops : (told : Option Fault) → Stops (repeated (count - length done) each) now told → Stops (repeated count each) start told

  -- None was read.
  pub reading_starts : (count : ℕ) (start : Rest) → IsReading [] count start start
  reading_starts count start =
      let all : count - 0 ≡ count = omega arith in
      record {
        passes = λ more new passes. subst (λ left. Passes (SpellsEach Spells more) (repeated left each) start new) all passes;
        stops = λ told stops. subst (λ left. Stops (repeated left each) start told) all stops;
      }

  -- One more was read.
  pub reading_goes_on : (done : List X) (x : X) (count : ℕ) (start now new : Rest) → length done < count → IsReading done count start now → Passes (Spells x) each now new
      → IsReading (done ++ x ∷ []) count start new
  reading_goes_on done x count start now new some reading one =
      let left = left_suc done x count some in
      let fewer : ℕ = count - length (done ++ x ∷ []) in
      record {
        passes = λ more last passes.
            subst (λ xs. Passes (SpellsEach Spells xs) (repeated count each) start last) (sym (append_assoc done (x ∷ []) more))
            (reading.passes (x ∷ more) last
            (subst (λ n. Passes (SpellsEach Spells (x ∷ more)) (repeated n each) now last) (sym left)
            (passes_both (Spells x) (SpellsEach Spells more) each (repeated fewer each) now new last one passes)));
        stops = λ told stops. reading.stops told
            (subst (λ n. Stops (repeated n each) now told) (sym left) (stops_second (Spells x) each (repeated fewer each) now new told one stops));
      }

  -- The next one isn't read.
  pub reading_stops : (done : List X) (count : ℕ) (start now : Rest) (told : Option Fault) → length done < count → IsReading done count start now → Stops each now told
      → Stops (repeated count each) start told
  reading_stops done count start now told some reading stops =
      reading.stops told (subst (λ n. Stops (repeated n each) now told) (sym (left_one done count some))
      (stops_first each (repeated (count - (length done + 1)) each) now told stops))

  -- All were read.
  pub reading_ends : (done : List X) (count : ℕ) (start now : Rest) → count ≤ length done → IsReading done count start now → Passes (SpellsEach Spells done) (repeated count each) start now
  reading_ends done count start now enough reading =
      let none : count - length done ≡ 0 = omega arith in
      subst (λ xs. Passes (SpellsEach Spells xs) (repeated count each) start now) (append-nil done)
      (reading.passes [] now (subst (λ n. Passes IsEmpty (repeated n each) now now) (sym none) (passes_none now)))

module _ {X : Type 0} (Spells : X → List ℕ → Type 0) (item_of : X → ℕ) (each : Layout → Layout) where
  -- The same for entries, of which the next has at least this item.
  pub record IsReadingEntries (done : List X) (count least : ℕ) (start now : Rest) : Type 0 where
    pub passes : (more : List X) (new : Rest) → Passes (SpellsEntriesFrom Spells item_of least more) (entries_layout (count - length done) each least) now new
        → Passes (SpellsEntriesFrom Spells item_of 0 (done ++ more)) (entries_layout count each 0) start new
    pub stops : (told : Option Fault) → Stops (entries_layout (count - length done) each least) now told → Stops (entries_layout count each 0) start told

  -- None was read.
  pub entries_start : (count : ℕ) (start : Rest) → IsReadingEntries [] count 0 start start
  entries_start count start =
      let all : count - 0 ≡ count = omega arith in
      record {
        passes = λ more new passes. subst (λ left. Passes (SpellsEntriesFrom Spells item_of 0 more) (entries_layout left each 0) start new) all passes;
        stops = λ told stops. subst (λ left. Stops (entries_layout left each 0) start told) all stops;
      }

  -- An entry's item was read, and then what it has besides.
  passes_entry : (x : X) (more : List X) (left least : ℕ) (now mid new last : Rest)
      → PassesNumber (IsAllowed 4 (is_item_from least) (item_of x)) 4 (is_item_from least) (item_of x) now mid → Passes (Spells x) each mid new
      → Passes (SpellsEntriesFrom Spells item_of (item_of x + 1) more) (entries_layout left each (item_of x + 1)) new last
      → Passes (SpellsEntriesFrom Spells item_of least (x ∷ more)) (entries_layout (suc left) each least) now last
  passes_entry x more left least now mid new last item one rest =
      passes_after_number (IsAllowed 4 (is_item_from least) (item_of x)) 4 (is_item_from least) (item_of x) (λ number next. each (entries_layout left each (number + 1) next)) now mid item
      (Spells x followed_by SpellsEntriesFrom Spells item_of (item_of x + 1) more) last
      (passes_both (Spells x) (SpellsEntriesFrom Spells item_of (item_of x + 1) more) each (entries_layout left each (item_of x + 1)) mid new last one rest)

  -- One more was read.
  pub entries_go_on : (done : List X) (x : X) (count least : ℕ) (start now mid new : Rest) → length done < count → IsReadingEntries done count least start now
      → PassesNumber (IsAllowed 4 (is_item_from least) (item_of x)) 4 (is_item_from least) (item_of x) now mid → Passes (Spells x) each mid new
      → IsReadingEntries (done ++ x ∷ []) count (item_of x + 1) start new
  entries_go_on done x count least start now mid new some reading item one =
      let left = left_suc done x count some in
      let fewer : ℕ = count - length (done ++ x ∷ []) in
      record {
        passes = λ more last passes.
            subst (λ xs. Passes (SpellsEntriesFrom Spells item_of 0 xs) (entries_layout count each 0) start last) (sym (append_assoc done (x ∷ []) more))
            (reading.passes (x ∷ more) last
            (subst (λ n. Passes (SpellsEntriesFrom Spells item_of least (x ∷ more)) (entries_layout n each least) now last) (sym left)
            (passes_entry x more fewer least now mid new last item one passes)));
        stops = λ told stops. reading.stops told
            (subst (λ n. Stops (entries_layout n each least) now told) (sym left)
            (stops_after_number (IsAllowed 4 (is_item_from least) (item_of x)) 4 (is_item_from least) (item_of x) (λ number next. each (entries_layout fewer each (number + 1) next)) now mid item
            told (stops_second (Spells x) each (entries_layout fewer each (item_of x + 1)) mid new told one stops)));
      }

  -- The next item isn't read.
  pub entries_stop_at_item : (done : List X) (count least : ℕ) (start now : Rest) (told : Option Fault) → length done < count → IsReadingEntries done count least start now
      → StopsNumber 4 (is_item_from least) now told → Stops (entries_layout count each 0) start told
  entries_stop_at_item done count least start now told some reading stops =
      reading.stops told (subst (λ n. Stops (entries_layout n each least) now told) (sym (left_one done count some))
      (stops_at_number 4 (is_item_from least) (λ number next. each (entries_layout (count - (length done + 1)) each (number + 1) next)) now told stops))

  -- What stands after the next item isn't read.
  pub entries_stop : (done : List X) (item count least : ℕ) (start now mid : Rest) (told : Option Fault) → length done < count → IsReadingEntries done count least start now
      → PassesNumber (IsAllowed 4 (is_item_from least) item) 4 (is_item_from least) item now mid → Stops each mid told → Stops (entries_layout count each 0) start told
  entries_stop done item count least start now mid told some reading number stops =
      let fewer : ℕ = count - (length done + 1) in
      reading.stops told (subst (λ n. Stops (entries_layout n each least) now told) (sym (left_one done count some))
      (stops_after_number (IsAllowed 4 (is_item_from least) item) 4 (is_item_from least) item (λ n next. each (entries_layout fewer each (n + 1) next)) now mid number
      told (stops_first each (entries_layout fewer each (item + 1)) mid told stops)))

  -- All were read.
  pub entries_end : (done : List X) (count least : ℕ) (start now : Rest) → count ≤ length done → IsReadingEntries done count least start now
      → Passes (SpellsEntriesFrom Spells item_of 0 done) (entries_layout count each 0) start now
  entries_end done count least start now enough reading =
      let none : count - length done ≡ 0 = omega arith in
      subst (λ xs. Passes (SpellsEntriesFrom Spells item_of 0 xs) (entries_layout count each 0) start now) (append-nil done)
      (reading.passes [] now (subst (λ n. Passes IsEmpty (entries_layout n each least) now now) (sym none) (passes_none now)))

-- The item at a place stands in front of what follows it.
drop_item : {X : Type 0} (xs : List X) (i : ℕ) (x : X) → i < length xs → x ≡ get_or xs i x → drop i xs ≡ x ∷ drop (i + 1) xs
drop_item xs i x inside is = rw add-one (drop-cons xs i x inside ∙ ap (λ y. y ∷ drop (suc i) xs) (sym is))

module _ {X : Type 0} (Spells : X → List ℕ → Type 0) where
  -- Some values were written; what spells the others is to follow, so that the bytes of all of them stand there.
  pub record IsWriting (left : List X) (start whole now : List ℕ) : Type 0 where
    pub rest : List ℕ
    pub spelled : SpellsEach Spells left rest
    pub same : start ++ whole ≡ now ++ rest

  -- One more was written.
  pub writing_goes_on : (xs : List X) (i : ℕ) (x : X) (start whole now new : List ℕ) → i < length xs → x ≡ get_or xs i x → IsWriting (drop i xs) start whole now
      → ((bytes : List ℕ) → Spells x bytes → new ≡ now ++ bytes) → IsWriting (drop (i + 1) xs) start whole new
  writing_goes_on xs i x start whole now new inside is writing one =
      let here : drop i xs ≡ x ∷ drop (i + 1) xs = drop_item xs i x inside is in
      let spelled = subst (λ left. SpellsEach Spells left writing.rest) here writing.spelled in
      record {
        rest = spelled.back;
        spelled = spelled.second;
        same = writing.same ∙ ap (λ rest. now ++ rest) spelled.whole ∙ sym (append_assoc now spelled.front spelled.back)
            ∙ ap (λ done. done ++ spelled.back) (sym (one spelled.front spelled.first));
      }

  -- All were written.
  pub writing_ends : (xs : List X) (i : ℕ) (start whole now : List ℕ) → length xs ≤ i → IsWriting (drop i xs) start whole now → now ≡ start ++ whole
  writing_ends xs i start whole now outside writing =
      let none : writing.rest ≡ [] = subst (λ left. SpellsEach Spells left writing.rest) (drop_all i xs outside) writing.spelled in
      sym (writing.same ∙ ap (λ rest. now ++ rest) none ∙ append-nil now)
