-- What a reservation and then an append come to, and what the log then holds.
use Rattle.std.proofs.Common.{◌≡◌, inl, inr, ℕ, true, false, List, [], ◌∷◌, ◌++◌, Option, Some, None, Err, is_some, length, refl, sym, subst, arith, ◌∙◌, ap, ⊎_elim}
use Rattle.std.specs.Option.{option_to_list}
use Rattle.std.proofs.lemmas.Bool.{true≢false}
use Rattle.std.proofs.lemmas.List.{append-nil}
use Rattle.pv_format.specs.Contents.{SpellRecords}
use Rattle.pv_format.specs.Record.{Record}
use Rattle.pv_format.specs.RecordSpelling.{SpellsRecord}
use Rattle.pv_disk_model.specs.Calls.{Makes, reserve, append}
use Rattle.pv_disk_model.specs.Log.{Keeps, Adds, StaysUp}
use Rattle.pv_disk_model.specs.LogModel.{LogModel}
use Rattle.pv_disk_model.specs.Size.{Contents}
use Rattle.pv_disk_model.proofs.LogLemmas.{Keeps-refl, StaysUp-trans, StaysUp-GoesDown, keeping_may_add}
use Rattle.pv_law_format.proofs.LengthLemmas.{record-length}
use Rattle.pv_law_format.proofs.ReplayLemmas.{spelled-more}
use Rattle.pv_law_step.proofs.JournalLemmas.{longer-more}
use Rattle.pv_site.specs.Calls.{append_calls, FailsToAppend, MayReserve}
use Rattle.pv_site.specs.OnLog.{HoldsRecords, Logs}
use Rattle.pv_site.specs.Room.{MakesRoomFor, Writes}
use Rattle.pv_site.specs.declared.error.StepError.{StepError}
use Rattle.pv_site.specs.declared.error.StepError.TheVariants.{Fault, Down, NoMemory}

module _ {W : Type 0} (M : LogModel W) where
  -- Room was made, and then the content appended, or not.
  pub appended-calls : (old mid new : W) (content : List ℕ) → M.goes old (reserve (length content)) true mid → M.goes mid (append content) true new
      → Makes M.goes old (append_calls content) true new
  appended-calls old mid new content reserved appended = inr (mid, reserved, inr (new, appended, (refl, refl)))

  pub failed-calls : (old mid new : W) (content : List ℕ) → Keeps M old mid → M.goes old (reserve (length content)) true mid → M.goes mid (append content) false new
      → FailsToAppend M old new content
  failed-calls old mid new content kept reserved failed = inr (mid, kept, reserved, failed)

  -- These are the calls, and one of them failed.
  pub calls-made : (old new : W) (content : List ℕ) → FailsToAppend M old new content → Makes M.goes old (append_calls content) false new
  calls-made old new content fails =
      ⊎_elim (λ roomless. inl (refl, roomless.1)) (λ reserved. inr (reserved.0, reserved.2, inl (refl, reserved.3))) fails

  -- No call was made.
  pub uncalled : (log : W) → MayReserve M log log
  uncalled log = inl refl

pub ruleset record_joins = (StaysUp-trans, StaysUp-GoesDown, keeping_may_add, appended-calls, failed-calls, uncalled)

module _ {W : Type 0} (M : LogModel W) (old new : W) where
  -- Where no room was made nothing is written.
  pub unmade : (entry : Record) → M.is_intact old → M.is_down old ≡ false → (error : StepError) → MakesRoomFor M old new entry (Err error) → Writes M old new entry (Err error)
  unmade entry intact up Fault made = (made.3, made.0, (made.2.0, made.2.1, keeping_may_add M old new made.2.0 intact up made.1, inl (made.1, made.2.2)))
  unmade entry intact up Down made = made
  unmade entry intact up NoMemory made = made

  -- The log holds the records that it held.
  pub holds-kept : (surplus : ℕ) (records : List Record) → StaysUp M old new → Keeps M old new → HoldsRecords M old surplus records → HoldsRecords M new surplus records
  holds-kept surplus records up kept holds = record {
    up = up.is_up;
    size = kept.size ∙ holds.size;
    held = λ contents is. holds.held contents (sym kept.contents ∙ is);
  }

  held-more : (was : Option Contents) → M.contents old ≡ was → (surplus : ℕ) (records : List Record) (more : Record) (content : List ℕ) → Adds M old new content
      → HoldsRecords M old surplus records → SpellsRecord more content
      → (contents : Contents) → M.contents new ≡ Some contents → SpellRecords (records ++ more ∷ []) contents
  held-more (Some was) is surplus records more content adds holds spelled contents now =
      let same : contents ≡ was ++ content ∷ [] = let both : Some contents ≡ Some (was ++ content ∷ []) = sym now ∙ adds.contents was is in cc in
      subst (SpellRecords (records ++ more ∷ [])) (sym same) (spelled-more records was more content (holds.held was is) spelled)
  held-more None is surplus records more content adds holds spelled contents now =
      absurd (true≢false (sym (ap is_some now) ∙ (adds.known ∙ ap is_some is)))

  -- The log holds one record more.
  pub holds-more : (surplus : ℕ) (records : List Record) (more : Record) (content : List ℕ) → StaysUp M old new → Adds M old new content → SpellsRecord more content
      → HoldsRecords M old surplus records → HoldsRecords M new surplus (records ++ more ∷ [])
  holds-more surplus records more content up adds spelled holds = record {
    up = up.is_up;
    size = omega (arith, adds.size, holds.size, longer-more surplus records more, record-length more content spelled);
    held = held-more (M.contents old) refl surplus records more content adds holds spelled;
  }

  -- The log holds the records after a step.
  pub holds-after : (surplus : ℕ) (records : List Record) (appended : Option Record) → Logs M old new appended → HoldsRecords M old surplus records
      → HoldsRecords M new surplus (records ++ option_to_list appended)
  holds-after surplus records None same holds =
      subst (λ log. HoldsRecords M log surplus (records ++ [])) (sym same) (subst (HoldsRecords M old surplus) (sym (append-nil records)) holds)
  holds-after surplus records (Some more) logged holds = holds-more surplus records more logged.1.0 logged.0 logged.1.2 logged.1.1 holds

  -- Its limit is what it was.
  pub limit-after : (appended : Option Record) → Logs M old new appended → M.limit new ≡ M.limit old
  limit-after None same = ap M.limit same
  limit-after (Some more) logged = logged.1.2.limit

-- The length of a record's bytes, and an untouched log.
pub ruleset record_lengths = (record-length, uncalled)

-- An untouched log.
pub ruleset keeps_itself = (Keeps-refl, uncalled)
