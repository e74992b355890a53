-- What an append does to the journal as a log.
use Rattle.std.proofs.Common.{◌≡◌, inl, inr, ⊎_elim, ℕ, ◌+◌, ◌-◌, false, List, [], ◌∷◌, ◌++◌, Option, Some, None, Result, Ok, length, arith, refl, sym, ◌∙◌, ap, subst, length-append}
use Rattle.std.specs.Prelude.{is_some, option_and_then}
use Rattle.byteorder.specs.Endian.{big_bytes}
use Rattle.pv_base.specs.BigEndian.{big_endian}
use Rattle.pv_base.proofs.BigEndianLemmas.{bytes_high_first-big_endian}
use Rattle.pv_base.specs.declared.failure.Failed.{Failed as Fault}
use Rattle.pv_disk_model.specs.DiskModel.{DiskModel}
use Rattle.pv_disk_model.specs.Disk as disk
use Rattle.pv_disk_model.specs.Size.{Contents}
use Rattle.pv_disk_model.specs.Log.{IsBeforeOrAfter, LeavesOnly, Adds, MayAdd}
use Rattle.pv_format.specs.Journal.{framed, record_of, records_of, IsJournal, IsNotOurs, end_of}
use Rattle.pv_format.specs.JournalContents.{contents_of}
use Rattle.pv_law_journal.proofs.ContentsLemmas.{contents_of-is, contents_of-journal}
use Rattle.pv_law_journal.proofs.OneAnswer.{same_contents, not_both}
use Rattle.pv_journal.specs.Journal.{IsIntact, contents_now, HasRoom}
use Rattle.pv_law_journal.proofs.SizeLemmas.{known_bytes}
use Rattle.pv_journal.specs.JournalModel.{journal_model}
use Rattle.pv_journal.specs.Appending.{StandsFor, IsReady, WritesRecord}
use Rattle.pv_journal.specs.declared.journal.Journal.{Journal}
use Rattle.pv_law_calls.proofs.LookLemmas.{known_before, still_left}
use Rattle.pv_law_calls.proofs.RecordLemmas.{length-record_of, records_of-push}

end_of-push : (contents : Contents) (content : List ℕ) → end_of (contents ++ content ∷ []) ≡ end_of contents + (5 + length content)
end_of-push contents content = omega (arith, ap length (records_of-push contents content), length-append (records_of contents) (record_of content), length-record_of content)

-- A disk that reads as no journal where it has to be one tells nothing.
pub silent : (content : Option (List ℕ)) (place : ℕ) → ((bytes : List ℕ) → content ≡ Some bytes → (contents : Contents) × IsJournal contents bytes)
    → ((bytes : List ℕ) → content ≡ Some bytes → IsNotOurs bytes place) → is_some (option_and_then contents_of content) ≡ false
silent None place journal none = refl
silent (Some bytes) place journal none = let is = journal bytes refl in absurd (not_both is.0 bytes place is.1 (none bytes refl))

before_or_after : (contents was : Contents) (content image : List ℕ) (left : Option Contents) → contents ≡ was → StandsFor contents content image → left ≡ contents_of image → IsBeforeOrAfter was content left
before_or_after contents was content image left same (inl before) is = inl (is ∙ contents_of-is contents image before ∙ ap Some same)
before_or_after contents was content image left same (inr after) is =
    inr (is ∙ contents_of-is (contents ++ content ∷ []) image after ∙ ap (λ (c : Contents). Some (c ++ content ∷ [])) same)

-- Whether the contents are known is as whether the bytes are, where they are a journal.
told_alike : (old new : Option (List ℕ)) → is_some new ≡ is_some old → ((bytes : List ℕ) → old ≡ Some bytes → (contents : Contents) × (contents_of bytes ≡ Some contents))
    → ((bytes : List ℕ) → new ≡ Some bytes → (contents : Contents) × (contents_of bytes ≡ Some contents))
    → is_some (option_and_then contents_of new) ≡ is_some (option_and_then contents_of old)
told_alike None None alike before after = refl
told_alike None (Some bytes) alike before after = cc
told_alike (Some bytes) None alike before after = cc
told_alike (Some old) (Some new) alike before after = ap is_some (after new refl).1 ∙ sym (ap is_some (before old refl).1)

module _ {D : Type 0} (M : DiskModel D) (old new : Journal D) (content frame : List ℕ) (intact : IsIntact M old) (up : old.down ≡ false) (room : HasRoom M old (length content))
    (frame_is : frame ≡ framed content ++ 0 ∷ []) (alike : is_some (M.content new.disk) ≡ is_some (M.content old.disk)) (limit : new.limit ≡ old.limit) where
  -- The disk is ready for the record.
  pub is_ready : (bytes : List ℕ) → M.content old.disk ≡ Some bytes → (contents : Contents) × IsReady M old.disk (old.length - 1) frame contents content bytes
  is_ready bytes known =
      let rest = intact.at_rest up bytes known in (
        rest.0,
        record {
          known = known;
          journal = rest.1;
          gate = omega (arith, rest.2);
          framed_is = frame_is;
          short = omega (arith, room.within, intact.limited);
          durable = intact.durable up bytes known;
        },
      )

  abbrev Written : (X : Type 0) → Result X Fault → Type 0
  Written X result = (contents : Contents) (c bytes : List ℕ) → IsReady M old.disk (old.length - 1) frame contents c bytes → WritesRecord M {X = X} {E = Fault} old.disk new.disk contents c result

  abbrev Told : Type 0
  Told = (was : Contents) → contents_now M old ≡ Some was → (bytes : List ℕ) × (contents : Contents) × (contents ≡ was) × IsReady M old.disk (old.length - 1) frame contents content bytes

  told_ready : Told
  told_ready was is =
      let known = known_bytes (M.content old.disk) was is in
      let ready = is_ready known.0 known.1 in
      (known.0, ready.0, same_contents ready.0 was known.0 ready.1.journal (contents_of-journal was known.0 known.2), ready.1)

  moments : {X : Type 0} (result : Result X Fault) → Written X result → (was : Contents) → contents_now M old ≡ Some was → LeavesOnly (journal_model M) old new (IsBeforeOrAfter was content)
  moments result written was is =
      let ready = told_ready was is in
      let leaves = (written ready.1 content ready.0 ready.3).any_moment in
      record {
        later = leaves.later;
        each = λ left since. before_or_after ready.1 was content since.0 left ready.2 (leaves.each since.0 since.1) since.2;
        before = λ t left le since.
            ⊎_elim (λ earlier. inl (since.0, earlier, since.2)) (λ stands. inr (before_or_after ready.1 was content since.0 left ready.2 stands since.2)) (leaves.before t since.0 le since.1);
        keeps = λ t left le since. (since.0, leaves.keeps t since.0 le since.1, since.2);
      }

  -- What is known after the calls is one of the two.
  now_stands : {X : Type 0} (result : Result X Fault) → Written X result → (bytes : List ℕ) → M.content new.disk ≡ Some bytes → (contents : Contents) × StandsFor contents content bytes × Told
  now_stands result written bytes now =
      let before = known_before (M.content old.disk) (M.content new.disk) bytes alike now in
      let ready = is_ready before.0 before.1 in
      let leaves = (written ready.0 content before.0 ready.1).any_moment in
      (ready.0, still_left M old.disk new.disk (StandsFor ready.0 content) leaves bytes (M.is_left new.disk bytes now), told_ready)

  has_contents : (contents : Contents) (bytes : List ℕ) → StandsFor contents content bytes → (held : Contents) × (contents_of bytes ≡ Some held)
  has_contents contents bytes (inl before) = (contents, contents_of-is contents bytes before)
  has_contents contents bytes (inr after) = (contents ++ content ∷ [], contents_of-is (contents ++ content ∷ []) bytes after)

  contents_alike : {X : Type 0} (result : Result X Fault) → Written X result → is_some (contents_now M new) ≡ is_some (contents_now M old)
  contents_alike result written =
      told_alike (M.content old.disk) (M.content new.disk) alike
      (λ bytes known. let rest = intact.at_rest up bytes known in (rest.0, contents_of-is rest.0 bytes rest.1))
      (λ bytes now. let stands = now_stands result written bytes now in has_contents stands.0 bytes stands.1)

  pub fails_to_add : {X : Type 0} (result : Result X Fault) → Written X result → new.length ≡ old.length → MayAdd (journal_model M) old new content
  fails_to_add result written same_length = record {
    contents = λ was is.
        let ready = told_ready was is in
        let now = known_before (M.content new.disk) (M.content old.disk) ready.0 (sym alike) ready.3.known in
        let leaves = (written ready.1 content ready.0 ready.3).any_moment in
        let stands = still_left M old.disk new.disk (StandsFor ready.1 content) leaves now.0 (M.is_left new.disk now.0 now.1) in
        before_or_after ready.1 was content now.0 (contents_now M new) ready.2 stands (ap (option_and_then contents_of) now.1);
    known = contents_alike result written;
    size = inl same_length;
    limit = limit;
    any_moment = moments result written;
  }

  pub adds : {X : Type 0} (x : X) → Written X (Ok x) → new.length ≡ old.length + (5 + length content) → Adds (journal_model M) old new content
  adds x written longer = record {
    contents = λ was is.
        let ready = told_ready was is in
        let done = (written ready.1 content ready.0 ready.3).done in
        ap (option_and_then contents_of) done.1 ∙ contents_of-is (ready.1 ++ content ∷ []) done.0 done.2 ∙ ap (λ (c : Contents). Some (c ++ content ∷ [])) ready.2;
    known = contents_alike (Ok x) written;
    size = longer;
    limit = limit;
    any_moment = moments (Ok x) written;
    durable = λ was is left may.
        let ready = told_ready was is in
        let done = (written ready.1 content ready.0 ready.3).done in
        may.2 ∙ ap contents_of (done.3 may.0 may.1) ∙ contents_of-is (ready.1 ++ content ∷ []) done.0 done.2 ∙ ap (λ (c : Contents). Some (c ++ content ∷ [])) ready.2;
  }

  now_at_rest : {X : Type 0} (x : X) → Written X (Ok x) → new.length ≡ old.length + (5 + length content) → (bytes : List ℕ) → M.content new.disk ≡ Some bytes
      → (contents : Contents) × IsJournal contents bytes × (new.length ≡ end_of contents + 1) × disk.Only bytes (M.may_leave new.disk)
  now_at_rest x written longer bytes now =
      let before = known_before (M.content old.disk) (M.content new.disk) bytes alike now in
      let ready = is_ready before.0 before.1 in
      let done = (written ready.0 content before.0 ready.1).done in
      let same : done.0 ≡ bytes = cc in (
        ready.0 ++ content ∷ [],
        subst (IsJournal (ready.0 ++ content ∷ [])) same done.2,
        omega (arith, longer, end_of-push ready.0 content, ready.1.gate, intact.starts),
        subst (λ (l : List ℕ). disk.Only l (M.may_leave new.disk)) same done.3,
      )

  pub still_intact : {X : Type 0} (x : X) → Written X (Ok x) → new.length ≡ old.length + (5 + length content) → IsIntact M new
  still_intact x written longer = record {
    starts = omega (arith, longer, intact.starts);
    bounded = omega (arith, longer, room.within, intact.limited);
    limited = omega (arith, limit, intact.limited);
    at_rest = λ is_up bytes now. let all = now_at_rest x written longer bytes now in (all.0, all.1, all.2);
    durable = λ is_up bytes now. (now_at_rest x written longer bytes now).3;
  }

-- What the kit writes of a number.
pub written_four : (number : ℕ) → big_bytes 4 number ≡ big_endian 4 number
written_four number = bytes_high_first-big_endian 4 number
