-- The first line of a text with a cause, where it is no trace.
use Rattle.std.proofs.Common.{◌≡◌, ◌⊎◌, ⊎_elim, ℕ, true, List, [], ◌∷◌, ◌++◌, inl, inr, refl, sym, ap, subst, ◌∙◌, arith, append_assoc, append-nil, le_antisymm}
use Rattle.std.specs.List.{Contains}
use Rattle.pv_audit.specs.Entries.{Entry, said, printed, entries, plain, printed_first, said_in}
use Rattle.pv_audit.specs.TraceFaults.{HasEntryCause, HasFirstTraceCause, HasTraceCause}
use Rattle.pv_audit.specs.Traces.{AreParts, IsTrace, Trace, TracePart}
use Rattle.pv_audit.specs.Views.{IsNoTraceAt, RefusedEntry}
use Rattle.pv_audit.proofs.EntryLemmas.{compare, later-entries, plain-append}
use Rattle.pv_audit.proofs.PartLemmas.{no-cause, nothing-said}
use Rattle.pv_audit.proofs.CutLemmas.{cut-has}
use Rattle.pv_law_schedules.proofs.LineFormLemmas.{none-some-sites}
use Rattle.pv_law_schedules.proofs.LineLawLemmas.{no-cause-event}
use Rattle.pv_law_schedules.proofs.OneCauseLemmas.{one-cause}
use Rattle.pv_law_schedules.proofs.OneScheduleLemmas.{one-lines}
use Rattle.pv_model.specs.Events.{Event}
use Rattle.pv_model.specs.LineCauses.{Before, LineCause, at_first}
use Rattle.pv_model.specs.LineForms.{scheduled}
use Rattle.pv_model.specs.Schedule.{AreLines}

-- None of the entries that are passed has a cause, before those that are left.
abbrev pub NoneIn : List (ℕ × Entry) → List (ℕ × Entry) → Type 0
NoneIn passed left =
    (front : List (ℕ × Entry)) (x : ℕ × Entry) (between : List (ℕ × Entry)) → passed ≡ front ++ x ∷ between → (events : List Event) (before : Before)
    → AreLines (at_first scheduled) (said_in (plain front)) events before → (cause : LineCause) → HasEntryCause before x.1 (plain (between ++ left)) cause → ⊥

-- Parts of a trace have none,
pub none-parts : (passed left : List (ℕ × Entry)) (parts : List TracePart) (last : Before) → AreParts (at_first scheduled) (plain passed) parts last
    → (last.begun ≡ true → printed_first (plain left) ≡ []) → NoneIn passed left
none-parts passed left parts last are quiet = λ front x between split events before lines cause has.
    no-cause are (plain left) quiet (plain front) x.1 (plain between) (ap plain split ∙ plain-append front (x ∷ between)) events before lines cause
    (subst (λ (l : List Entry). HasEntryCause before x.1 l cause) (plain-append between left) has)

-- and one more entry is passed that has none.
pub none-more : (passed : List (ℕ × Entry)) (x : ℕ × Entry) (left : List (ℕ × Entry)) → NoneIn passed (x ∷ left)
    → ((events : List Event) (before : Before) → AreLines (at_first scheduled) (said_in (plain passed)) events before → (cause : LineCause)
    → HasEntryCause before x.1 (plain left) cause → ⊥)
    → NoneIn (passed ++ x ∷ []) left
none-more passed x left none isnt = λ front y between split events before lines cause has.
    ⊎_elim
    (λ (here : (passed ≡ front) × (x ≡ y) × (between ≡ [])).
    isnt events before (subst (λ (l : List (ℕ × Entry)). AreLines (at_first scheduled) (said_in (plain l)) events before) (sym here.0) lines) cause
    (subst (λ (l : List (ℕ × Entry)). HasEntryCause before x.1 (plain (l ++ left)) cause) here.2
    (subst (λ (z : ℕ × Entry). HasEntryCause before z.1 (plain (between ++ left)) cause) (sym here.1) has)))
    (λ (earlier : (more : List (ℕ × Entry)) × (passed ≡ front ++ y ∷ more) × (between ≡ more ++ x ∷ [])).
    none front y earlier.0 earlier.1 events before lines cause
    (subst (λ (l : List Entry). HasEntryCause before y.1 l cause) (ap (λ (l : List (ℕ × Entry)). plain (l ++ left)) earlier.2 ∙ ap plain (append_assoc earlier.0 (x ∷ []) left)) has))
    (ends passed front x y between split)
  where
    longer : (front : List (ℕ × Entry)) (y : ℕ × Entry) (between : List (ℕ × Entry)) → [] ≡ front ++ y ∷ between → ⊥
    longer [] y between is = cc
    longer (z ∷ front) y between is = cc

    -- The entry is the last one, or stands before it.
    ends : (passed front : List (ℕ × Entry)) (x y : ℕ × Entry) (between : List (ℕ × Entry)) → passed ++ x ∷ [] ≡ front ++ y ∷ between
        → ((passed ≡ front) × (x ≡ y) × (between ≡ [])) ⊎ ((more : List (ℕ × Entry)) × (passed ≡ front ++ y ∷ more) × (between ≡ more ++ x ∷ []))
    ends [] [] x y between is = inl (refl, (let head : x ≡ y = cc in head), (let tail : between ≡ [] = cc in tail))
    ends [] (z ∷ front) x y between is = absurd (longer front y between (let tail : [] ≡ front ++ y ∷ between = cc in tail))
    ends (z ∷ passed) [] x y between is = inr (passed, (let head : z ≡ y = cc in λ i. head i ∷ passed), (let tail : between ≡ passed ++ x ∷ [] = cc in tail))
    ends (z ∷ passed) (w ∷ front) x y between is =
        let head : z ≡ w = cc in
        let tail : passed ++ x ∷ [] ≡ front ++ y ∷ between = cc in
        ⊎_elim (λ last. inl ((λ i. head i ∷ last.0 i), last.1, last.2)) (λ earlier. inr (earlier.0, (λ i. head i ∷ earlier.1 i), earlier.2)) (ends passed front x y between tail)

-- An entry with a cause behind entries that have none is the first.
pub first-cause : (text : List ℕ) (passed : List (ℕ × Entry)) (x : ℕ × Entry) (left : List (ℕ × Entry)) (events : List Event) (before : Before) (cause : LineCause)
    → entries text ≡ passed ++ x ∷ left → AreLines (at_first scheduled) (said_in (plain passed)) events before → HasEntryCause before x.1 (plain left) cause → NoneIn passed (x ∷ left)
    → HasFirstTraceCause text x.0 cause
first-cause text passed x left events before cause split lines has none = record {
  has = record { front = passed; entry = x.1; behind = left; split = split; events = events; before = before; are = lines; has = has };
  first = λ other another is.
      ⊎_elim
      (λ (earlier : (between : List (ℕ × Entry)) × (passed ≡ is.front ++ (other, is.entry) ∷ between) × (is.behind ≡ between ++ x ∷ left)).
      absurd (none is.front (other, is.entry) earlier.0 earlier.1 is.events is.before is.are another
      (subst (λ (l : List (ℕ × Entry)). HasEntryCause is.before is.entry (plain l) another) earlier.2 is.has)))
      (⊎_elim (λ (same : x ≡ (other, is.entry)). let number : x.0 ≡ other = ap (λ (y : ℕ × Entry). y.0) same in omega (arith, number))
      (λ (later : Contains left (other, is.entry)). let less = later-entries text passed x left split (other, is.entry) later in omega (arith, less)))
      (compare passed x left is.front (other, is.entry) is.behind (sym split ∙ is.split));
}

-- ---- a trace has no cause

pub no-fault : (text : List ℕ) (trace : Trace) (refused : RefusedEntry) → IsTrace text trace → IsNoTraceAt text refused → ⊥
no-fault text trace refused is (inl first) =
    let has = first.has in
    no-cause is.are [] (λ begun. refl) (plain has.front) has.entry (plain has.behind) (ap plain has.split ∙ plain-append has.front ((refused.number, has.entry) ∷ has.behind))
    has.events has.before has.are refused.cause (subst (λ (l : List Entry). HasEntryCause has.before has.entry l refused.cause) (sym (append-nil (plain has.behind))) has.has)
no-fault text trace refused is (inr lacks) =
    let last : is.last ≡ at_first scheduled = sym (nothing-said (subst (λ (l : List (ℕ × Entry)). AreParts (at_first scheduled) (plain l) trace.parts is.last) lacks.empty is.are)) in
    none-some-sites is.last.sites is.sites is.said (ap (λ (b : Before). b.sites) last)

-- ---- one fault

-- One entry has one cause.
one-cause-at : (before : Before) (entry : Entry) (behind : List Entry) (cause other : LineCause) → HasEntryCause before entry behind cause → HasEntryCause before entry behind other → cause ≡ other
one-cause-at before (said line) behind cause other (inl first) (inl second) = one-cause first second
one-cause-at before (said line) behind cause other (inl first) (inr cut) = absurd (no-cause-event cause cut.1.is first.has)
one-cause-at before (said line) behind cause other (inr cut) (inl second) = absurd (no-cause-event other cut.1.is second.has)
one-cause-at before (said line) behind cause other (inr cut) (inr short) = cut.0 ∙ sym short.0
one-cause-at before (printed line) behind cause other is also = is.0 ∙ sym also.0

-- Two splits at one number are one.
one-split : {X : Type 0} (front others : List X) (x y : X) (behind after : List X) → (Contains behind y → ⊥) → (Contains after x → ⊥) → front ++ x ∷ behind ≡ others ++ y ∷ after
    → (front ≡ others) × (x ≡ y) × (behind ≡ after)
one-split [] [] x y behind after none free is = (refl, (let head : x ≡ y = cc in head), (let tail : behind ≡ after = cc in tail))
one-split {X} [] (o ∷ others) x y behind after none free is =
    let tail : behind ≡ others ++ y ∷ after = cc in
    absurd (none (subst (λ (l : List X). Contains l y) (sym tail) (cut-has y others after)))
one-split {X} (f ∷ front) [] x y behind after none free is =
    let tail : after ≡ front ++ x ∷ behind = cc in
    absurd (free (subst (λ (l : List X). Contains l x) (sym tail) (cut-has x front behind)))
one-split (f ∷ front) (o ∷ others) x y behind after none free is =
    let head : f ≡ o = cc in
    let tail : front ++ x ∷ behind ≡ others ++ y ∷ after = cc in
    let rest = one-split front others x y behind after none free tail in
    ((λ i. head i ∷ rest.0 i), rest.1, rest.2)

nothing-split : (all front : List (ℕ × Entry)) (x : ℕ × Entry) (rest : List (ℕ × Entry)) → all ≡ [] → all ≡ front ++ x ∷ rest → ⊥
nothing-split all [] x rest e split = let never : ⊥ = cc in never
nothing-split all (y ∷ front) x rest e split = let never : ⊥ = cc in never

refused_at : (a b : RefusedEntry) → a.number ≡ b.number → a.cause ≡ b.cause → a ≡ b
refused_at a b number cause = λ i. record { number = number i; cause = cause i }

one-first : (text : List ℕ) (m n : ℕ) (cause other : LineCause) → m ≡ n → HasTraceCause text m cause → HasTraceCause text n other → cause ≡ other
one-first text m n cause other number is also =
    let same = one-split is.front also.front (m, is.entry) (n, also.entry) is.behind also.behind
    (λ has. let less = later-entries text is.front (m, is.entry) is.behind is.split (n, also.entry) has in omega (arith, less, number))
    (λ has. let less = later-entries text also.front (n, also.entry) also.behind also.split (m, is.entry) has in omega (arith, less, number))
    (sym is.split ∙ also.split) in
    let entry : is.entry ≡ also.entry = ap (λ (x : ℕ × Entry). x.1) same.1 in
    let before = (one-lines is.are (subst (λ (l : List (ℕ × Entry)). AreLines (at_first scheduled) (said_in (plain l)) also.events also.before) (sym same.0) also.are)).1 in
    one-cause-at is.before is.entry (plain is.behind) cause other is.has
    (subst (λ (l : List (ℕ × Entry)). HasEntryCause is.before is.entry (plain l) other) (sym same.2)
    (subst (λ (b : Before). HasEntryCause b is.entry (plain also.behind) other) (sym before)
    (subst (λ (x : Entry). HasEntryCause also.before x (plain also.behind) other) (sym entry) also.has)))

pub one-fault : (text : List ℕ) (refused other : RefusedEntry) → IsNoTraceAt text refused → IsNoTraceAt text other → refused ≡ other
one-fault text refused other (inl is) (inl also) =
    let number : refused.number ≡ other.number =
    le_antisymm (is.first other.number other.cause also.has) (also.first refused.number refused.cause is.has) in
    refused_at refused other number (one-first text refused.number other.number refused.cause other.cause number is.has also.has)
one-fault text refused other (inl is) (inr lacks) = absurd (nothing-split (entries text) is.has.front (refused.number, is.has.entry) is.has.behind lacks.empty is.has.split)
one-fault text refused other (inr lacks) (inl also) = absurd (nothing-split (entries text) also.has.front (other.number, also.has.entry) also.has.behind lacks.empty also.has.split)
one-fault text refused other (inr is) (inr also) = refused_at refused other (is.place ∙ sym also.place) (is.is ∙ sym also.is)
