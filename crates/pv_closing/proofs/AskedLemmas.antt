-- A request that doesn't stand in a history has no line of it.
use Rattle.std.proofs.Common.{◌≡◌, ℕ, ◌==◌, ◌&&◌, ◌||◌, Bool, true, false, Option, None, Some, List, [], ◌∷◌, ◌++◌, refl, ap, ◌∙◌, if◌then◌else◌, eqb-true}
use Rattle.std.specs.Prelude.{Contains, ⊤}
use Rattle.std.proofs.lemmas.List.Elements.{Contains-append_left, Contains-append_right, Contains-push}
use Rattle.pv_base.specs.Assignment.{is_same_txn}
use Rattle.pv_base.specs.declared.txn.TxnId.{TxnId}
use Rattle.pv_law_histories.specs.History.{Intake, request, parcel, tick, Came, done, fault, down, Stamped}
use Rattle.pv_law_passing.specs.Asking.{asked_by}
use Rattle.pv_mail.specs.Answers.{Told, asker_after, asker_in, asker_of, begun_after, begun_after_all, begun_by, told, told_by, told_of, told_of_all, without}
use Rattle.pv_mail.specs.declared.asked.Asker.{Asker}
use Rattle.pv_mail.specs.declared.asked.Begun.{Begun}
use Rattle.pv_model.specs.LiveScript.{Request}
use Rattle.pv_protocol.specs.Lines.{Line}
use Rattle.pv_protocol.specs.State.{Note, began, committed, refused, full, spent}
use Rattle.pv_told.specs.Along.{has_fault, has_fault_since, is_asked_by, is_same_asker, line_among, line_by, or_fault, told_along}

if-none : (test : Bool) (line : Line) (front : Option Line) (whole : Option Line) → (if test then Some line else front) ≡ None → (front ≡ None → whole ≡ None)
    → (if test then Some line else whole) ≡ None
if-none true line front whole none later = absurd cc
if-none false line front whole none later = later none

module _ (asker : Asker) where
  -- It isn't this request.
  abbrev IsOther : Option Asker → Type 0
  IsOther other = is_asked_by asker other ≡ false

  -- It isn't one of those that are begun.
  abbrev AreOthers : List Begun → Type 0
  AreOthers [] = ⊤
  AreOthers (first ∷ rest) = IsOther (Some first.asker) × AreOthers rest

  -- It isn't told of.
  abbrev IsUntold : List Told → Type 0
  IsUntold all = line_among asker all ≡ None

  -- No entry took it in.
  abbrev IsUnasked : List Stamped → Type 0
  IsUnasked [] = ⊤
  IsUnasked (entry ∷ entries) = IsOther (asker_of entry.intake) × IsUnasked entries

  if-other : (test : Bool) (first : Begun) (other : Option Asker) → IsOther (Some first.asker) → IsOther other → IsOther (if test then Some first.asker else other)
  if-other true first other one rest = one
  if-other false first other one rest = rest

  asker-other : (begun : List Begun) (txn : TxnId) → AreOthers begun → IsOther (asker_in begun txn)
  asker-other [] txn are = refl
  asker-other (first ∷ rest) txn are = if-other (is_same_txn first.txn txn) first (asker_in rest txn) are.0 (asker-other rest txn are.1)

  if-others : (test : Bool) (first : Begun) (rest left : List Begun) → IsOther (Some first.asker) → AreOthers rest → AreOthers left
      → AreOthers (if test then rest else first ∷ left)
  if-others true first rest left one are later = are
  if-others false first rest left one are later = (one, later)

  without-others : (begun : List Begun) (txn : TxnId) → AreOthers begun → AreOthers (without begun txn)
  without-others [] txn are = tt
  without-others (first ∷ rest) txn are = if-others (is_same_txn first.txn txn) first rest (without rest txn) are.0 are.1 (without-others rest txn are.1)

  one-more : (begun : List Begun) (last : Begun) → AreOthers begun → IsOther (Some last.asker) → AreOthers (begun ++ last ∷ [])
  one-more [] last are other = (other, tt)
  one-more (first ∷ rest) last are other = (are.0, one-more rest last are.1 other)

  begun-others : (other : Option Asker) (begun : List Begun) (note : Note) → IsOther other → AreOthers begun → AreOthers (begun_after other begun note)
  begun-others None begun (began txn) is are = are
  begun-others (Some one) begun (began txn) is are = one-more begun (record { txn = txn; asker = one }) are is
  begun-others other begun (committed txn replies) is are = without-others begun txn are
  begun-others other begun (refused txn cause) is are = without-others begun txn are
  begun-others other begun (full length) is are = are
  begun-others other begun spent is are = are

  left-other : (other : Option Asker) (note : Note) → IsOther other → IsOther (asker_after other note)
  left-other other (began txn) is = refl
  left-other other (committed txn replies) is = is
  left-other other (refused txn cause) is = is
  left-other other (full length) is = is
  left-other other spent is = is

  told-other : (other : Option Asker) (line : Line) → IsOther other → IsUntold (told other line)
  told-other None line is = refl
  told-other (Some one) line is = ap (λ (b : Bool). if b then Some line else None) is

  both-untold : (all more : List Told) → IsUntold all → IsUntold more → IsUntold (all ++ more)
  both-untold [] more none rest = rest
  both-untold (first ∷ all) more none rest =
      if-none (is_same_asker first.asker asker) first.line (line_among asker all) (line_among asker (all ++ more)) none (λ front. both-untold all more front rest)

  no-fault-since : (history : List Stamped) → IsUnasked history → has_fault_since asker history ≡ false
  no-fault-since [] none = refl
  no-fault-since (entry ∷ entries) none =
      ap (λ (b : Bool). (b && has_fault (entry ∷ entries)) || has_fault_since asker entries) none.0 ∙ no-fault-since entries none.1

  module _ (me : ℕ) where
    note-untold : (other : Option Asker) (begun : List Begun) (note : Note) → IsOther other → AreOthers begun → IsUntold (told_of me other begun note)
    note-untold other begun (began txn) is are = refl
    note-untold other begun (committed txn replies) is are = told-other (asker_in begun txn) _ (asker-other begun txn are)
    note-untold other begun (refused txn cause) is are = told-other (asker_in begun txn) _ (asker-other begun txn are)
    note-untold other begun (full length) is are = refl
    note-untold other begun spent is are = told-other other _ is

    notes-untold : (other : Option Asker) (begun : List Begun) (notes : List Note) → IsOther other → AreOthers begun
        → IsUntold (told_of_all me other begun notes) × AreOthers (begun_after_all other begun notes)
    notes-untold other begun [] is are = (refl, are)
    notes-untold other begun (note ∷ notes) is are =
        let later = notes-untold (asker_after other note) (begun_after other begun note) notes (left-other other note is) (begun-others other begun note is are) in
        (both-untold (told_of me other begun note) _ (note-untold other begun note is are) later.0, later.1)

    entry-untold : (begun : List Begun) (intake : Intake) (came : Came) → IsOther (asker_of intake) → AreOthers begun
        → IsUntold (told_by me begun intake came) × AreOthers (begun_by begun intake came)
    entry-untold begun intake (done notes) is are = notes-untold (asker_of intake) begun notes is are
    entry-untold begun intake fault is are = (refl, are)
    entry-untold begun intake down is are = (told-other (asker_of intake) (Line.down me) is, are)

    along-untold : (begun : List Begun) (history : List Stamped) → IsUnasked history → AreOthers begun → IsUntold (told_along me begun history)
    along-untold begun [] none are = refl
    along-untold begun (entry ∷ entries) none are =
        let first = entry-untold begun entry.intake entry.came none.0 are in
        both-untold (told_by me begun entry.intake entry.came) _ first.0 (along-untold (begun_by begun entry.intake entry.came) entries none.1 first.1)

    unasked-line : (history : List Stamped) → IsUnasked history → line_by me asker history ≡ None
    unasked-line history none =
        ap (or_fault me (has_fault_since asker history)) (along-untold [] history none tt) ∙ ap (λ (b : Bool). or_fault me b None) (no-fault-since history none)

-- ## What stands in a history
-- The client asked for nothing of this number.
abbrev AsksNothing : (client number : ℕ) → List Stamped → Type 0
AsksNothing client number history = (asked : Request) → Contains (asked_by client history) asked → asked.number ≡ number → ⊥

both-same : (one other : Bool) → (one ≡ true → other ≡ true → ⊥) → (one && other) ≡ false
both-same true true never = absurd (never refl refl)
both-same true false never = refl
both-same false other never = refl

if-asked : (test : Bool) (asked : Request) (later : List Request) → test ≡ true → Contains (if test then asked ∷ later else later) asked
if-asked true asked later is = Contains-append_left (asked ∷ []) later asked (Contains-push [] asked)
if-asked false asked later is = absurd cc

if-later : (test : Bool) (asked other : Request) (later : List Request) → Contains later other → Contains (if test then asked ∷ later else later) other
if-later true asked other later there = Contains-append_right (asked ∷ []) later other there
if-later false asked other later there = there

first-other : (client number : ℕ) (intake : Intake) (stamp sends short : ℕ) (came : Came) (entries : List Stamped)
    → AsksNothing client number (record { stamp = stamp; intake = intake; sends = sends; short = short; came = came } ∷ entries)
    → is_asked_by (record { client = client; number = number }) (asker_of intake) ≡ false
first-other client number (request other asked) stamp sends short came entries none =
    both-same (other == client) (asked.number == number)
    (λ same numbers. none asked (if-asked (other == client) asked (asked_by client entries) same) (eqb-true asked.number number numbers))
first-other client number (parcel from sent place message) stamp sends short came entries none = refl
first-other client number tick stamp sends short came entries none = refl

rest-none : (client number : ℕ) (intake : Intake) (stamp sends short : ℕ) (came : Came) (entries : List Stamped)
    → AsksNothing client number (record { stamp = stamp; intake = intake; sends = sends; short = short; came = came } ∷ entries) → AsksNothing client number entries
rest-none client number (request other asked) stamp sends short came entries none one there is =
    none one (if-later (other == client) asked one (asked_by client entries) there) is
rest-none client number (parcel from sent place message) stamp sends short came entries none one there is = none one there is
rest-none client number tick stamp sends short came entries none one there is = none one there is

none-asked : (client number : ℕ) (history : List Stamped) → AsksNothing client number history → IsUnasked (record { client = client; number = number }) history
none-asked client number [] none = tt
none-asked client number (entry ∷ entries) none = (
  first-other client number entry.intake entry.stamp entry.sends entry.short entry.came entries none,
  none-asked client number entries (rest-none client number entry.intake entry.stamp entry.sends entry.short entry.came entries none),
)

-- A request that doesn't stand in the history has no line of it.
pub no-line : (me client number : ℕ) (history : List Stamped) → AsksNothing client number history → line_by me (record { client = client; number = number }) history ≡ None
no-line me client number history none = unasked-line (record { client = client; number = number }) me history (none-asked client number history none)
