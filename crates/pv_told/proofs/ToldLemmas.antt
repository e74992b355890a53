-- What clients are told, entry by entry and note by note; and what is found among it.
use Rattle.std.proofs.Common.{◌≡◌, ℕ, ◌&&◌, ◌||◌, Bool, true, false, Option, None, Some, List, [], ◌∷◌, ◌++◌, append_assoc, refl, sym, ap, ◌∙◌, if◌then◌else◌}
use Rattle.pv_law_histories.specs.History.{Stamped}
use Rattle.pv_protocol.specs.Lines.{Line}
use Rattle.pv_protocol.specs.State.{Note}
use Rattle.pv_mail.specs.Answers.{Told, asker_after, begun_after, begun_after_all, begun_by, told_by, told_of, told_of_all}
use Rattle.pv_mail.specs.declared.asked.Asker.{Asker}
use Rattle.pv_mail.specs.declared.asked.Begun.{Begun}
use Rattle.pv_told.specs.Along.{has_fault_since, is_asked_by, is_same_asker, line_among, line_by, or_fault, told_along}
use Rattle.pv_told.specs.Words.{has_asker}

module _ (me : ℕ) where
  -- With what is left of a history the clients are told what they are to be.
  pub along-next : (old new : List Told) (begun later : List Begun) (entry : Stamped) (rest : List Stamped) (whole : List Told)
      → old ++ told_along me begun (entry ∷ rest) ≡ whole → new ≡ old ++ told_by me begun entry.intake entry.came
      → later ≡ begun_by begun entry.intake entry.came → new ++ told_along me later rest ≡ whole
  along-next old new begun later entry rest whole before told_is begun_is =
      ap (λ (all : List Told). all ++ told_along me later rest) told_is
      ∙ ap (λ (b : List Begun). (old ++ told_by me begun entry.intake entry.came) ++ told_along me b rest) begun_is
      ∙ append_assoc old (told_by me begun entry.intake entry.came) (told_along me (begun_by begun entry.intake entry.came) rest)
      ∙ before

  -- The same of the notes that are left of a step.
  pub notes-next : (old new : List Told) (asker left : Option Asker) (begun later : List Begun) (note : Note) (rest : List Note) (whole : List Told)
      → old ++ told_of_all me asker begun (note ∷ rest) ≡ whole → new ≡ old ++ told_of me asker begun note
      → left ≡ asker_after asker note → later ≡ begun_after asker begun note → new ++ told_of_all me left later rest ≡ whole
  notes-next old new asker left begun later note rest whole before told_is left_is begun_is =
      ap (λ (all : List Told). all ++ told_of_all me left later rest) told_is
      ∙ ap (λ (a : Option Asker). (old ++ told_of me asker begun note) ++ told_of_all me a later rest) left_is
      ∙ ap (λ (b : List Begun). (old ++ told_of me asker begun note) ++ told_of_all me (asker_after asker note) b rest) begun_is
      ∙ append_assoc old (told_of me asker begun note) (told_of_all me (asker_after asker note) (begun_after asker begun note) rest)
      ∙ before

  -- ## The line of a request
  pub said-line : (asker : Asker) (history : List Stamped) (line : Line) → line_among asker (told_along me [] history) ≡ Some line
      → line_by me asker history ≡ Some line
  said-line asker history line is = ap (or_fault me (has_fault_since asker history)) is

  pub said-fault : (asker : Asker) (history : List Stamped) → line_among asker (told_along me [] history) ≡ None → has_fault_since asker history ≡ true
      → line_by me asker history ≡ Some (Line.fault me)
  said-fault asker history none since = ap (or_fault me (has_fault_since asker history)) none ∙ ap (λ (b : Bool). or_fault me b None) since

  pub said-nothing : (asker : Asker) (history : List Stamped) → line_among asker (told_along me [] history) ≡ None → has_fault_since asker history ≡ false
      → line_by me asker history ≡ None
  said-nothing asker history none since = ap (or_fault me (has_fault_since asker history)) none ∙ ap (λ (b : Bool). or_fault me b None) since

-- What is begun goes on with the notes that are left.
pub begun-next : (asker left : Option Asker) (begun later : List Begun) (note : Note) (rest : List Note) (whole : List Begun)
    → begun_after_all asker begun (note ∷ rest) ≡ whole → left ≡ asker_after asker note → later ≡ begun_after asker begun note
    → begun_after_all left later rest ≡ whole
begun-next asker left begun later note rest whole before left_is begun_is =
    ap (λ (a : Option Asker). begun_after_all a later rest) left_is ∙ ap (λ (b : List Begun). begun_after_all (asker_after asker note) b rest) begun_is ∙ before

-- The first one is of the request, or another one is.
pub line-found : (asker : Asker) (first : Told) (rest : List Told) → is_same_asker first.asker asker ≡ true → line_among asker (first ∷ rest) ≡ Some first.line
line-found asker first rest same = ap (λ (b : Bool). if b then Some first.line else line_among asker rest) same

pub line-behind : (asker : Asker) (first : Told) (rest : List Told) → is_same_asker first.asker asker ≡ false → line_among asker (first ∷ rest) ≡ line_among asker rest
line-behind asker first rest differs = ap (λ (b : Bool). if b then Some first.line else line_among asker rest) differs

-- ## Requests before a fault
or-swap : (a b c : Bool) → (a || (b || c)) ≡ (b || (a || c))
or-swap true true c = refl
or-swap true false c = refl
or-swap false b c = refl

-- One more at the end.
pub one-more : (asker other : Asker) (askers : List Asker) → has_asker asker (askers ++ other ∷ []) ≡ (is_same_asker other asker || has_asker asker askers)
one-more asker other [] = refl
one-more asker other (first ∷ askers) =
    ap (λ (b : Bool). is_same_asker first asker || b) (one-more asker other askers)
    ∙ or-swap (is_same_asker first asker) (is_same_asker other asker) (has_asker asker askers)

and-true : (b : Bool) → (b && true) ≡ b
and-true true = refl
and-true false = refl

-- A request is added, where it is to be.
pub added : (asker first : Asker) (found : Option Asker) (is_to_be : Bool) (askers new : List Asker) → found ≡ Some first → is_to_be ≡ true → new ≡ askers ++ first ∷ []
    → has_asker asker new ≡ ((is_asked_by asker found && is_to_be) || has_asker asker askers)
added asker first found is_to_be askers new found_is is new_is =
    let asked : (is_asked_by asker found && is_to_be) ≡ is_same_asker first asker =
    ap (λ (o : Option Asker). is_asked_by asker o && is_to_be) found_is ∙ (ap (λ (b : Bool). is_same_asker first asker && b) is ∙ and-true (is_same_asker first asker)) in
    ap (has_asker asker) new_is ∙ (one-more asker first askers ∙ ap (λ (b : Bool). b || has_asker asker askers) (sym asked))
