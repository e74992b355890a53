-- Where what clients are told stands in histories: by the transactions that are begun, note by note and entry by entry.
use Rattle.std.proofs.Common.{length, ◌≡◌, ◌≢◌, ◌⊎◌, ⊎_elim, inl, inr, ℕ, ◌<◌, ◌==◌, ◌&&◌, Bool, true, false, Option, None, Some, List, [], ◌∷◌, ◌++◌, All, refl, sym, ap, ◌∙◌, subst, if◌then◌else◌, eqb-true}
use Rattle.std.specs.Prelude.{Contains}
use Rattle.std.proofs.lemmas.Bool.{and_parts, or_cases}
use Rattle.std.proofs.lemmas.List.Elements.{All-head, All-tail, Contains-append_cases, Contains-append_left, Contains-append_right, Contains-push_cases}
use mathlib.Core.Logic.{dite}
use native.Mathlib.Decide.{ℕ_discrete}
use Rattle.pv_base.proofs.AssignmentLemmas.{same-eq}
use Rattle.pv_base.proofs.Basics.{Some_inj}
use Rattle.pv_base.proofs.ContainsLemmas.{Contains-behind, Contains-cases, Contains-first, Contains-nil}
use Rattle.pv_base.specs.Assignment.{is_same_txn}
use Rattle.pv_base.specs.declared.txn.TxnId.{TxnId}
use Rattle.pv_law_histories.proofs.MomentLemmas.{entries-apart, entries-same}
use Rattle.pv_law_histories.specs.Fitting.{history_of}
use Rattle.pv_law_histories.specs.History.{Came, done, fault, down, Stamped, lines_of_came}
use Rattle.pv_law_histories.specs.Merge.{Moment, IsMerge, entries_of, lines_at, lines_of_merge}
use Rattle.pv_mail.specs.Answers.{Told, asker_after, asker_in, asker_of, begun_after, begun_after_all, begun_by, told, told_by, told_of, told_of_all, with_begun, without}
use Rattle.pv_mail.specs.declared.asked.Asker.{Asker}
use Rattle.pv_mail.specs.declared.asked.Begun.{Begun}
use Rattle.pv_protocol.specs.Lines.{Line, line_of, lines_of}
use Rattle.pv_protocol.specs.State.{Note, began, committed, refused, full, spent}
use Rattle.pv_told.specs.Along.{has_fault, has_fault_since, is_asked_by, is_fault, is_same_asker, line_among, line_by, or_fault, told_along}
use Rattle.pv_told.specs.Standing.{HasBegun, IsOwn, decided_by, lines_of_history}

-- ## Among what is begun
same-asker : (one other : Asker) → is_same_asker one other ≡ true → one ≡ other
same-asker one other same =
    let parts = and_parts (one.client == other.client) (one.number == other.number) same in
    let client = eqb-true one.client other.client parts.0 in
    let number = eqb-true one.number other.number parts.1 in
    λ i. record { client = client i; number = number i }

-- The transaction, if there is one, is begun for the asker.
abbrev IsBegun : Asker → Option TxnId → List Begun → Type 0
IsBegun asker None begun = ⊥
IsBegun asker (Some txn) begun = Contains begun record { txn = txn; asker = asker }

asker-case : (asker : Asker) (test : Bool) (txn : TxnId) (first : Begun) (rest : List Begun) (found : Option Asker) → (test ≡ true → first.txn ≡ txn)
    → (found ≡ Some asker → Contains rest record { txn = txn; asker = asker }) → (if test then Some first.asker else found) ≡ Some asker
    → Contains (first ∷ rest) record { txn = txn; asker = asker }
asker-case asker true txn first rest found same later is =
    let one : first.asker ≡ asker = Some_inj is in
    let two : first.txn ≡ txn = same refl in
    let both : first ≡ record { txn = txn; asker = asker } = λ i. record { txn = two i; asker = one i } in
    subst (Contains (first ∷ rest)) both (Contains-first first rest)
asker-case asker false txn first rest found same later is = Contains-behind first rest record { txn = txn; asker = asker } (later is)

asker-begun : (asker : Asker) (begun : List Begun) (txn : TxnId) → asker_in begun txn ≡ Some asker → Contains begun record { txn = txn; asker = asker }
asker-begun asker [] txn is = absurd (let wrong : ⊥ = cc in wrong)
asker-begun asker (first ∷ rest) txn is =
    asker-case asker (is_same_txn first.txn txn) txn first rest (asker_in rest txn) (λ same. same-eq {t = first.txn} {u = txn} same) (asker-begun asker rest txn) is

without-case : (test : Bool) (first one : Begun) (rest left : List Begun) → (Contains left one → Contains rest one) → Contains (if test then rest else first ∷ left) one
    → Contains (first ∷ rest) one
without-case true first one rest left later h = Contains-behind first rest one h
without-case false first one rest left later h =
    ⊎_elim (λ same. subst (Contains (first ∷ rest)) same (Contains-first first rest)) (λ behind. Contains-behind first rest one (later behind))
    (Contains-cases first left one h)

without-within : (begun : List Begun) (txn : TxnId) (one : Begun) → Contains (without begun txn) one → Contains begun one
without-within [] txn one h = h
without-within (first ∷ rest) txn one h =
    without-case (is_same_txn first.txn txn) first one rest (without rest txn) (without-within rest txn one) h

-- ## Of one asker
module _ (asker : Asker) where
  abbrev begun_for : TxnId → Begun
  begun_for txn = record { txn = txn; asker = asker }

  -- Somebody is this asker, and among the notes the transaction is begun, if there is one.
  abbrev Begins : Option Asker → Option TxnId → List Note → Type 0
  Begins who txn notes = (who ≡ Some asker) × HasBegun txn (done notes)

  left-asks : (who : Option Asker) (note : Note) → asker_after who note ≡ Some asker → who ≡ Some asker
  left-asks who (began txn) is = absurd (let wrong : ⊥ = cc in wrong)
  left-asks who (committed txn replies) is = is
  left-asks who (refused txn cause) is = is
  left-asks who (full length) is = is
  left-asks who spent is = is

  begun-behind : (txn : Option TxnId) (note : Note) (notes : List Note) → HasBegun txn (done notes) → HasBegun txn (done (note ∷ notes))
  begun-behind None note notes h = tt
  begun-behind (Some txn) note notes h = Contains-behind note notes (began txn) h

  -- What is begun after a note was begun before, or by the note.
  added-back : (who : Option Asker) (txn fresh : TxnId) (begun : List Begun) (notes : List Note) → Contains (with_begun who fresh begun) (begun_for txn)
      → Contains begun (begun_for txn) ⊎ Begins who (Some txn) (began fresh ∷ notes)
  added-back None txn fresh begun notes h = inl h
  added-back (Some one) txn fresh begun notes h =
      ⊎_elim inl
      (λ same.
      let asks : one ≡ asker = ap (λ (b : Begun). b.asker) same in
      let is : fresh ≡ txn = ap (λ (b : Begun). b.txn) same in
      inr (ap Some asks, subst (λ (t : TxnId). Contains (began fresh ∷ notes) (began t)) is (Contains-first (began fresh) notes)))
      (Contains-push_cases begun record { txn = fresh; asker = one } (begun_for txn) h)

  note-back : (who : Option Asker) (txn : TxnId) (begun : List Begun) (note : Note) (notes : List Note) → Contains (begun_after who begun note) (begun_for txn)
      → Contains begun (begun_for txn) ⊎ Begins who (Some txn) (note ∷ notes)
  note-back who txn begun (began fresh) notes h = added-back who txn fresh begun notes h
  note-back who txn begun (committed other replies) notes h = inl (without-within begun other (begun_for txn) h)
  note-back who txn begun (refused other cause) notes h = inl (without-within begun other (begun_for txn) h)
  note-back who txn begun (full length) notes h = inl h
  note-back who txn begun spent notes h = inl h

  begins-behind : (who : Option Asker) (txn : Option TxnId) (note : Note) (notes : List Note) → Begins (asker_after who note) txn notes → Begins who txn (note ∷ notes)
  begins-behind who txn note notes h = (left-asks who note h.0, begun-behind txn note notes h.1)

  -- The same of all notes of a step.
  notes-back : (who : Option Asker) (txn : TxnId) (begun : List Begun) (notes : List Note) → Contains (begun_after_all who begun notes) (begun_for txn)
      → Contains begun (begun_for txn) ⊎ Begins who (Some txn) notes
  notes-back who txn begun [] h = inl h
  notes-back who txn begun (note ∷ notes) h =
      ⊎_elim (note-back who txn begun note notes) (λ later. inr (begins-behind who (Some txn) note notes later))
      (notes-back (asker_after who note) txn (begun_after who begun note) notes h)

  -- The same of an entry.
  entry-back : (txn : Option TxnId) (begun : List Begun) (entry : Stamped) → IsBegun asker txn (begun_by begun entry.intake entry.came)
      → IsBegun asker txn begun ⊎ ((asker_of entry.intake ≡ Some asker) × HasBegun txn entry.came)
  entry-back None begun entry h = absurd h
  entry-back (Some txn) begun entry h = came-back entry.came h
    where
      came-back : (came : Came) → Contains (begun_by begun entry.intake came) (begun_for txn)
          → Contains begun (begun_for txn) ⊎ ((asker_of entry.intake ≡ Some asker) × HasBegun (Some txn) came)
      came-back (done notes) h = notes-back (asker_of entry.intake) txn begun notes h
      came-back fault h = inl h
      came-back down h = inl h

-- ## Of a line that the asker is told
module _ (me : ℕ) (asker : Asker) (line : Line) where
  abbrev its_line : Told
  its_line = record { asker = asker; line = line }

  -- The transaction that the line decides was begun for the asker before, or among these notes.
  abbrev IsItsOwn : Option Asker → List Begun → List Note → Type 0
  IsItsOwn who begun notes = IsBegun asker (decided_by line) begun ⊎ Begins asker who (decided_by line) notes

  told-line : (who : Option Asker) (other : Line) → Contains (told who other) its_line → (who ≡ Some asker) × (other ≡ line)
  told-line None other h = absurd (Contains-nil its_line h)
  told-line (Some one) other h =
      ⊎_elim (λ same. (ap (λ (t : Told). Some t.asker) same, ap (λ (t : Told). t.line) same)) (λ none. absurd (Contains-nil its_line none))
      (Contains-cases record { asker = one; line = other } [] its_line h)

  decided-own : (who : Option Asker) (txn : TxnId) (begun : List Begun) (other : Line) (notes : List Note) → decided_by other ≡ Some txn
      → Contains (told (asker_in begun txn) other) its_line → (other ≡ line) × IsItsOwn who begun notes
  decided-own who txn begun other notes decides h =
      let tells = told-line (asker_in begun txn) other h in
      let same : Some txn ≡ decided_by line = sym decides ∙ ap decided_by tells.1 in
      (tells.1, inl (subst (λ (t : Option TxnId). IsBegun asker t begun) same (asker-begun asker begun txn tells.0)))

  note-told : (who : Option Asker) (begun : List Begun) (note : Note) (notes : List Note) → Contains (told_of me who begun note) its_line
      → (line_of me note ≡ line) × IsItsOwn who begun notes
  note-told who begun (began txn) notes h = absurd (Contains-nil its_line h)
  note-told who begun (committed txn replies) notes h = decided-own who txn begun (line_of me (committed txn replies)) notes refl h
  note-told who begun (refused txn cause) notes h = decided-own who txn begun (line_of me (refused txn cause)) notes refl h
  note-told who begun (full length) notes h = absurd (Contains-nil its_line h)
  note-told who begun spent notes h =
      let tells = told-line who (Line.spent me) h in
      (tells.1, inr (tells.0, subst (λ (l : Line). HasBegun (decided_by l) (done notes)) tells.1 tt))

  later-own : (who : Option Asker) (begun : List Begun) (note : Note) (notes : List Note) (txn : Option TxnId)
      → IsBegun asker txn (begun_after who begun note) ⊎ Begins asker (asker_after who note) txn notes → IsBegun asker txn begun ⊎ Begins asker who txn (note ∷ notes)
  later-own who begun note notes None h = ⊎_elim (λ wrong. absurd wrong) (λ later. inr (begins-behind asker who None note notes later)) h
  later-own who begun note notes (Some txn) h =
      ⊎_elim (note-back asker who txn begun note notes) (λ later. inr (begins-behind asker who (Some txn) note notes later)) h

  -- What the notes of a step tell the asker is printed with them, and is its own.
  notes-told : (who : Option Asker) (begun : List Begun) (notes : List Note) → Contains (told_of_all me who begun notes) its_line
      → Contains (lines_of me notes) line × IsItsOwn who begun notes
  notes-told who begun [] h = absurd (Contains-nil its_line h)
  notes-told who begun (note ∷ notes) h =
      ⊎_elim
      (λ here.
      let is = note-told who begun note (note ∷ notes) here in
      (subst (Contains (lines_of me (note ∷ notes))) is.0 (Contains-first (line_of me note) (lines_of me notes)), is.1))
      (λ later.
      let is = notes-told (asker_after who note) (begun_after who begun note) notes later in
      (Contains-behind (line_of me note) (lines_of me notes) line is.0, later-own who begun note notes (decided_by line) is.1))
      (Contains-append_cases (told_of me who begun note) (told_of_all me (asker_after who note) (begun_after who begun note) notes) its_line h)

  -- The same of an entry.
  abbrev IsItsOwnAt : List Begun → Stamped → Type 0
  IsItsOwnAt begun entry = IsBegun asker (decided_by line) begun ⊎ ((asker_of entry.intake ≡ Some asker) × HasBegun (decided_by line) entry.came)

  entry-told : (begun : List Begun) (entry : Stamped) → Contains (told_by me begun entry.intake entry.came) its_line
      → Contains (lines_of_came me entry.came) line × IsItsOwnAt begun entry
  entry-told begun entry h = came-told entry.came h
    where
      came-told : (came : Came) → Contains (told_by me begun entry.intake came) its_line
          → Contains (lines_of_came me came) line
          × (IsBegun asker (decided_by line) begun ⊎ ((asker_of entry.intake ≡ Some asker) × HasBegun (decided_by line) came))
      came-told (done notes) h = notes-told (asker_of entry.intake) begun notes h
      came-told fault h = absurd (Contains-nil its_line h)
      came-told down h =
          let tells = told-line (asker_of entry.intake) (Line.down me) h in (
            subst (Contains (Line.down me ∷ [])) tells.1 (Contains-first (Line.down me) []),
            inr (tells.0, subst (λ (l : Line). HasBegun (decided_by l) down) tells.1 tt),
          )

  -- The same of a history.
  along-told : (begun : List Begun) (history : List Stamped) → Contains (told_along me begun history) its_line
      → (Contains (lines_of_history me history) line × IsBegun asker (decided_by line) begun) ⊎ IsOwn me asker line history
  along-told begun [] h = absurd (Contains-nil its_line h)
  along-told begun (entry ∷ entries) h =
      let front : List Line = lines_of_came me entry.came in
      let back : List Line = lines_of_history me entries in
      ⊎_elim
      (λ here.
      let is = entry-told begun entry here in
      let stands : Contains (front ++ back) line = Contains-append_left front back line is.0 in
      ⊎_elim (λ before. inl (stands, before)) (λ own. inr (inl (own.0, own.1, stands))) is.1)
      (λ later.
      ⊎_elim
      (λ is.
      let stands : Contains (front ++ back) line = Contains-append_right front back line is.0 in
      ⊎_elim (λ before. inl (stands, before)) (λ own. inr (inl (own.0, own.1, stands))) (entry-back asker (decided_by line) begun entry is.1))
      (λ own. inr (inr own))
      (along-told (begun_by begun entry.intake entry.came) entries later))
      (Contains-append_cases (told_by me begun entry.intake entry.came) (told_along me (begun_by begun entry.intake entry.came) entries) its_line h)

  none-begun : (txn : Option TxnId) → IsBegun asker txn [] → ⊥
  none-begun None h = h
  none-begun (Some txn) h = Contains-nil record { txn = txn; asker = asker } h

  among-case : (test : Bool) (first : Told) (rest : List Told) → (test ≡ true → first.asker ≡ asker) → (line_among asker rest ≡ Some line → Contains rest its_line)
      → (if test then Some first.line else line_among asker rest) ≡ Some line → Contains (first ∷ rest) its_line
  among-case true first rest same later is =
      let one : first.asker ≡ asker = same refl in
      let two : first.line ≡ line = Some_inj is in
      let both : first ≡ its_line = λ i. record { asker = one i; line = two i } in
      subst (Contains (first ∷ rest)) both (Contains-first first rest)
  among-case false first rest same later is = Contains-behind first rest its_line (later is)

  among : (all : List Told) → line_among asker all ≡ Some line → Contains all its_line
  among [] is = absurd (let wrong : ⊥ = cc in wrong)
  among (first ∷ rest) is = among-case (is_same_asker first.asker asker) first rest (same-asker first.asker asker) (among rest) is

  told-own : (history : List Stamped) → line_among asker (told_along me [] history) ≡ Some line → IsOwn me asker line history
  told-own history is =
      ⊎_elim (λ before. absurd (none-begun (decided_by line) before.1)) (λ own. own) (along-told [] history (among (told_along me [] history) is))

  -- ## What is its own stands in the history
  pub own-stands : (history : List Stamped) → IsOwn me asker line history → Contains (lines_of_history me history) line
  own-stands [] own = absurd own
  own-stands (entry ∷ entries) own =
      ⊎_elim (λ here. here.2) (λ later. Contains-append_right (lines_of_came me entry.came) (lines_of_history me entries) line (own-stands entries later)) own

  own-asked : (history : List Stamped) → All (λ entry. asker_of entry.intake ≢ Some asker) history → IsOwn me asker line history → ⊥
  own-asked [] none own = own
  own-asked (entry ∷ entries) none own =
      ⊎_elim (λ here. All-head (λ (e : Stamped). asker_of e.intake ≢ Some asker) entry entries none here.0)
      (own-asked entries (All-tail (λ (e : Stamped). asker_of e.intake ≢ Some asker) entry entries none)) own

  -- What stands in a site's entries among moments stands among all that they print.
  pub merge-stands : (moments : List Moment) → Contains (lines_of_history me (entries_of me moments)) line → Contains (lines_of_merge moments) line
  merge-stands [] h = h
  merge-stands (moment ∷ moments) h =
      dite (ℕ_discrete moment.site me)
      (λ same.
      let both : Contains (lines_of_came me moment.entry.came ++ lines_of_history me (entries_of me moments)) line =
      subst (λ (entries : List Stamped). Contains (lines_of_history me entries) line) (entries-same me moment moments same) h in
      ⊎_elim
      (λ here. Contains-append_left (lines_at moment) (lines_of_merge moments) line (subst (λ n. Contains (lines_of_came n moment.entry.came) line) (sym same) here))
      (λ later. Contains-append_right (lines_at moment) (lines_of_merge moments) line (merge-stands moments later))
      (Contains-append_cases (lines_of_came me moment.entry.came) (lines_of_history me (entries_of me moments)) line both))
      (λ apart.
      Contains-append_right (lines_at moment) (lines_of_merge moments) line
      (merge-stands moments (subst (λ (entries : List Stamped). Contains (lines_of_history me entries) line) (entries-apart me moment moments apart) h)))

-- ## Faults
asked-is : (asker : Asker) (found : Option Asker) → is_asked_by asker found ≡ true → found ≡ Some asker
asked-is asker None is = absurd (let wrong : ⊥ = cc in wrong)
asked-is asker (Some other) is = ap Some (same-asker other asker is)

fault-stands : (me : ℕ) (history : List Stamped) → has_fault history ≡ true → Contains (lines_of_history me history) (Line.fault me)
fault-stands me [] is = absurd (let wrong : ⊥ = cc in wrong)
fault-stands me (entry ∷ entries) is =
    ⊎_elim
    (λ here. Contains-append_left (lines_of_came me entry.came) (lines_of_history me entries) (Line.fault me) (came-fault entry.came here))
    (λ later. Contains-append_right (lines_of_came me entry.came) (lines_of_history me entries) (Line.fault me) (fault-stands me entries later))
    (or_cases (is_fault entry.came) (has_fault entries) is)
  where
    came-fault : (came : Came) → is_fault came ≡ true → Contains (lines_of_came me came) (Line.fault me)
    came-fault (done notes) is = absurd (let wrong : ⊥ = cc in wrong)
    came-fault fault is = Contains-first (Line.fault me) []
    came-fault down is = absurd (let wrong : ⊥ = cc in wrong)

fault-own : (me : ℕ) (asker : Asker) (history : List Stamped) → has_fault_since asker history ≡ true → IsOwn me asker (Line.fault me) history
fault-own me asker [] is = absurd (let wrong : ⊥ = cc in wrong)
fault-own me asker (entry ∷ entries) is =
    ⊎_elim
    (λ here.
    let both = and_parts (is_asked_by asker (asker_of entry.intake)) (has_fault (entry ∷ entries)) here in
    inl (asked-is asker (asker_of entry.intake) both.0, tt, fault-stands me (entry ∷ entries) both.1))
    (λ later. inr (fault-own me asker entries later))
    (or_cases (is_asked_by asker (asker_of entry.intake) && has_fault (entry ∷ entries)) (has_fault_since asker entries) is)

-- ## The line of a request
line-case : (me : ℕ) (asker : Asker) (history : List Stamped) (line : Line) (since : Bool) (found : Option Line) → line_among asker (told_along me [] history) ≡ found
    → has_fault_since asker history ≡ since → or_fault me since found ≡ Some line → IsOwn me asker line history
line-case me asker history line since (Some other) among_is since_is is = told-own me asker line history (among_is ∙ is)
line-case me asker history line true None among_is since_is is = subst (λ (l : Line). IsOwn me asker l history) (Some_inj is) (fault-own me asker history since_is)
line-case me asker history line false None among_is since_is is = absurd (let wrong : ⊥ = cc in wrong)

pub line-own : (me : ℕ) (asker : Asker) (history : List Stamped) (line : Line) → line_by me asker history ≡ Some line → IsOwn me asker line history
line-own me asker history line is =
    line-case me asker history line (has_fault_since asker history) (line_among asker (told_along me [] history)) refl refl is

none-case : (me : ℕ) (asker : Asker) (history : List Stamped) → All (λ entry. asker_of entry.intake ≢ Some asker) history → (found : Option Line)
    → line_by me asker history ≡ found → found ≡ None
none-case me asker history none None is = refl
none-case me asker history none (Some line) is = absurd (own-asked me asker line history none (line-own me asker history line is))

pub line-none : (me : ℕ) (asker : Asker) (history : List Stamped) → All (λ entry. asker_of entry.intake ≢ Some asker) history → line_by me asker history ≡ None
line-none me asker history none = none-case me asker history none (line_by me asker history) refl

pub line-merged : (histories : List (List Stamped)) (moments : List Moment) (me : ℕ) (asker : Asker) (line : Line) → IsMerge histories moments → me < length histories
    → line_by me asker (history_of histories me) ≡ Some line → Contains (lines_of_merge moments) line
line-merged histories moments me asker line merge within is =
    merge-stands me asker line moments
    (subst (λ (entries : List Stamped). Contains (lines_of_history me entries) line) (sym (merge.entries me within))
    (own-stands me asker line (history_of histories me) (line-own me asker (history_of histories me) line is)))
