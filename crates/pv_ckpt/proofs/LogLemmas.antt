-- What an append does to a log in two areas as a log.
use Rattle.std.proofs.Common.{◌≡◌, inl, inr, ⊎_elim, ℕ, ◌+◌, ◌==◌, false, List, [], ◌∷◌, ◌++◌, Option, Some, None, Result, Ok, length, arith, refl, sym, ◌∙◌, ap, subst, append_assoc, length-append}
use Rattle.std.specs.Prelude.{is_some, option_and_then}
use Rattle.std.proofs.lemmas.List.Sums.{sum_by-append, sum_by-cons}
use Rattle.pv_base.specs.declared.failure.Failed.{Failed as Fault}
use Rattle.pv_disk_model.specs.DiskModel.{DiskModel}
use Rattle.pv_disk_model.specs.Disk as disk
use Rattle.pv_disk_model.specs.Size.{Contents, size_of}
use Rattle.pv_disk_model.specs.Log.{IsBeforeOrAfter, LeavesOnly, Adds, MayAdd}
use Rattle.pv_format.specs.Journal.{framed, record_of, records_of}
use Rattle.pv_law_calls.proofs.LookLemmas.{known_before, still_left}
use Rattle.pv_law_calls.proofs.RecordLemmas.{length-record_of, records_of-push}
use Rattle.pv_law_checkpoints.specs.Appending.{AreSameRoots, IsWithOrWithout}
use Rattle.pv_law_checkpoints.specs.LogContents.{log_contents_of}
use Rattle.pv_law_checkpoints.specs.Roots.{IsRoot}
use Rattle.pv_law_checkpoints.specs.TwoAreas.{IsTwoAreas, IsLog, IsNotOurs}
use Rattle.pv_law_checkpoints.proofs.ContentsLemmas.{log_contents_of-is, log_contents_of-log}
use Rattle.pv_law_checkpoints.proofs.OneAnswer.{one_contents, one_log}
use Rattle.pv_ckpt.specs.Appending.{StandsFor, IsReady, WritesRecord}
use Rattle.pv_ckpt.specs.CkptLog.{IsIntact, IsLogOf, contents_now, HasRoom}
use Rattle.pv_ckpt.specs.CkptModel.{ckpt_model, log_bytes}
use Rattle.pv_ckpt.specs.Roots.{IsHeld, IsRootOf}
use Rattle.pv_ckpt.specs.declared.ckpt_log.CkptLog.{CkptLog}
use Rattle.pv_ckpt.specs.declared.roots.Root.{Root}

-- A log has contents.
pub checkpointed : (at : ℕ) (packed later : Contents) (bytes : List ℕ) → IsLog at packed later bytes → IsTwoAreas (packed ++ later) bytes
checkpointed at packed later bytes log = record { at = at; packed = packed; later = later; log = log; is = refl }

pub contents_are : (at : ℕ) (packed later : Contents) (bytes : List ℕ) → IsLog at packed later bytes → log_contents_of bytes ≡ Some (packed ++ later)
contents_are at packed later bytes log = log_contents_of-is (packed ++ later) bytes (checkpointed at packed later bytes log)

-- A disk that reads as no log where it has to be one tells nothing.
pub silent : (content : Option (List ℕ)) (place : ℕ) → ((bytes : List ℕ) → content ≡ Some bytes → (contents : Contents) × IsTwoAreas contents bytes)
    → ((bytes : List ℕ) → content ≡ Some bytes → IsNotOurs bytes place) → is_some (option_and_then log_contents_of content) ≡ false
silent None place log none = refl
silent (Some bytes) place log none = let is = log bytes refl in absurd ((one_log bytes).not_both is.0 place is.1 (none bytes refl))

-- Whether the contents are known is as whether the bytes are, where they are a log.
told_alike : (old new : Option (List ℕ)) → is_some new ≡ is_some old → ((bytes : List ℕ) → old ≡ Some bytes → (contents : Contents) × (log_contents_of bytes ≡ Some contents))
    → ((bytes : List ℕ) → new ≡ Some bytes → (contents : Contents) × (log_contents_of bytes ≡ Some contents))
    → is_some (option_and_then log_contents_of new) ≡ is_some (option_and_then log_contents_of old)
told_alike None None alike before after = refl
told_alike None (Some bytes) alike before after = cc
told_alike (Some bytes) None alike before after = cc
told_alike (Some old) (Some new) alike before after = ap is_some (after new refl).1 ∙ sym (ap is_some (before old refl).1)

before_or_after : (at : ℕ) (packed later was : Contents) (content image : List ℕ) (left : Option Contents) → packed ++ later ≡ was → IsWithOrWithout at packed later content image
    → left ≡ log_contents_of image → IsBeforeOrAfter was content left
before_or_after at packed later was content image left same (inl before) is = inl (is ∙ contents_are at packed later image before ∙ ap Some same)
before_or_after at packed later was content image left same (inr after) is =
    inr (is ∙ contents_are at packed (later ++ content ∷ []) image after ∙ ap Some (sym (append_assoc packed later (content ∷ []))) ∙ ap (λ (c : Contents). Some (c ++ content ∷ [])) same)

pub size_of-push : (contents : Contents) (content : List ℕ) → size_of (contents ++ content ∷ []) ≡ size_of contents + (5 + length content)
size_of-push contents content =
    omega (arith, sum_by-append (λ (c : List ℕ). 5 + length c) contents (content ∷ []), sum_by-cons (λ (c : List ℕ). 5 + length c) content [])

-- The root is as it was where both read the same.
root_kept : (old new : List ℕ) (root : Root) (end : ℕ) (packed later : Contents) (now : Contents) → IsHeld old root end packed later → AreSameRoots old new root.at → IsLog root.at packed now new
    → IsRootOf new root
root_kept old new root end packed later now held same log = record {
  starts = log.starts;
  in_force = log.in_force;
  number = held.root_is.number ∙ sym same.own.number;
  place = held.root_is.place ∙ sym same.own.place;
  size = held.root_is.size ∙ sym same.own.size;
  other = held.root_is.other ∙ ap (λ g. g == 1) (sym same.other.gate);
}

module _ {D : Type 0} (M : DiskModel D) (old new : CkptLog D) (content frame : List ℕ) (intact : IsIntact M old) (up : old.down ≡ false) (room : HasRoom M old (length content))
    (frame_is : frame ≡ framed content ++ 0 ∷ []) (alike : is_some (M.content new.disk) ≡ is_some (M.content old.disk)) (limit : new.limit ≡ old.limit) (root : new.root ≡ old.root) where
  -- The disk is ready for the record.
  pub is_ready : (bytes : List ℕ) → M.content old.disk ≡ Some bytes → (is : IsLogOf bytes old) × IsReady M old.disk old.end frame old.root.at is.0 is.1 content bytes
  is_ready bytes known =
      let is = intact.at_rest up bytes known in (
        is,
        record {
          known = known;
          log = is.2.log;
          gate = is.2.end_is;
          framed_is = frame_is;
          short = omega (arith, room.within, intact.limited);
          durable = intact.durable up bytes known;
        },
      )

  abbrev Written : (X : Type 0) → Result X Fault → Type 0
  Written X result = (at : ℕ) (packed later : Contents) (c bytes : List ℕ) → IsReady M old.disk old.end frame at packed later c bytes
      → WritesRecord M {X = X} {E = Fault} old.disk new.disk at packed later c bytes result

  abbrev Told : Contents → Type 0
  Told was = (bytes : List ℕ) × (is : IsLogOf bytes old) × (is.0 ++ is.1 ≡ was) × IsReady M old.disk old.end frame old.root.at is.0 is.1 content bytes

  told_ready : (was : Contents) → contents_now M old ≡ Some was → Told was
  told_ready was told =
      let known = log_bytes (M.content old.disk) was told in
      let ready = is_ready known.0 known.1 in
      let is = ready.0 in
      (known.0, is, one_contents (is.0 ++ is.1) was known.0 (checkpointed old.root.at is.0 is.1 known.0 is.2.log) (log_contents_of-log was known.0 known.2), ready.1)

  moments : {X : Type 0} (result : Result X Fault) → Written X result → (was : Contents) → contents_now M old ≡ Some was → LeavesOnly (ckpt_model M) old new (IsBeforeOrAfter was content)
  moments result written was told =
      let ready = told_ready was told in
      let is = ready.1 in
      let leaves = (written old.root.at is.0 is.1 content ready.0 ready.3).any_moment in
      record {
        later = leaves.later;
        each = λ left since. before_or_after old.root.at is.0 is.1 was content since.0 left ready.2 (leaves.each since.0 since.1).0 since.2;
        before = λ t left le since.
            ⊎_elim (λ earlier. inl (since.0, earlier, since.2)) (λ stands. inr (before_or_after old.root.at is.0 is.1 was content since.0 left ready.2 stands.0 since.2))
            (leaves.before t since.0 le since.1);
        keeps = λ t left le since. (since.0, leaves.keeps t since.0 le since.1, since.2);
      }

  -- What is known after the calls is one of the two.
  now_stands : {X : Type 0} (result : Result X Fault) → Written X result → (bytes : List ℕ) → M.content new.disk ≡ Some bytes
      → (was : List ℕ) × (is : IsLogOf was old) × StandsFor old.root.at is.0 is.1 content was bytes
  now_stands result written bytes now =
      let before = known_before (M.content old.disk) (M.content new.disk) bytes alike now in
      let ready = is_ready before.0 before.1 in
      let is = ready.0 in
      let leaves = (written old.root.at is.0 is.1 content before.0 ready.1).any_moment in
      (before.0, is, still_left M old.disk new.disk (StandsFor old.root.at is.0 is.1 content before.0) leaves bytes (M.is_left new.disk bytes now))

  has_contents : (at : ℕ) (packed later : Contents) (bytes : List ℕ) → IsWithOrWithout at packed later content bytes → (held : Contents) × (log_contents_of bytes ≡ Some held)
  has_contents at packed later bytes (inl before) = (packed ++ later, contents_are at packed later bytes before)
  has_contents at packed later bytes (inr after) = (packed ++ (later ++ content ∷ []), contents_are at packed (later ++ content ∷ []) bytes after)

  contents_alike : {X : Type 0} (result : Result X Fault) → Written X result → is_some (contents_now M new) ≡ is_some (contents_now M old)
  contents_alike result written =
      told_alike (M.content old.disk) (M.content new.disk) alike
      (λ bytes known. let is = intact.at_rest up bytes known in (is.0 ++ is.1, contents_are old.root.at is.0 is.1 bytes is.2.log))
      (λ bytes now. let stands = now_stands result written bytes now in let is = stands.1 in has_contents old.root.at is.0 is.1 bytes stands.2.0)

  pub fails_to_add : {X : Type 0} (result : Result X Fault) → Written X result → new.length ≡ old.length → MayAdd (ckpt_model M) old new content
  fails_to_add result written same_length = record {
    contents = λ was told.
        let ready = told_ready was told in
        let is = ready.1 in
        let now = known_before (M.content new.disk) (M.content old.disk) ready.0 (sym alike) ready.3.known in
        let leaves = (written old.root.at is.0 is.1 content ready.0 ready.3).any_moment in
        let stands = still_left M old.disk new.disk (StandsFor old.root.at is.0 is.1 content ready.0) leaves now.0 (M.is_left new.disk now.0 now.1) in
        before_or_after old.root.at is.0 is.1 was content now.0 (contents_now M new) ready.2 stands.0 (ap (option_and_then log_contents_of) now.1);
    known = contents_alike result written;
    size = inl same_length;
    limit = limit;
    any_moment = moments result written;
  }

  -- Contents with one more, as the block and the records hold them.
  grown : (packed later was : Contents) → packed ++ later ≡ was → packed ++ (later ++ content ∷ []) ≡ was ++ content ∷ []
  grown packed later was same = sym (append_assoc packed later (content ∷ [])) ∙ ap (λ (c : Contents). c ++ content ∷ []) same

  pub adds : {X : Type 0} (x : X) → Written X (Ok x) → new.length ≡ old.length + (5 + length content) → Adds (ckpt_model M) old new content
  adds x written longer = record {
    contents = λ was told.
        let ready = told_ready was told in
        let is = ready.1 in
        let done = (written old.root.at is.0 is.1 content ready.0 ready.3).done in
        ap (option_and_then log_contents_of) done.1 ∙ contents_are old.root.at is.0 (is.1 ++ content ∷ []) done.0 done.2 ∙ ap Some (grown is.0 is.1 was ready.2);
    known = contents_alike (Ok x) written;
    size = longer;
    limit = limit;
    any_moment = moments (Ok x) written;
    durable = λ was told left may.
        let ready = told_ready was told in
        let is = ready.1 in
        let done = (written old.root.at is.0 is.1 content ready.0 ready.3).done in
        may.2 ∙ ap log_contents_of (done.4 may.0 may.1) ∙ contents_are old.root.at is.0 (is.1 ++ content ∷ []) done.0 done.2 ∙ ap Some (grown is.0 is.1 was ready.2);
  }

  module _ {X : Type 0} (x : X) (written : Written X (Ok x)) (longer : new.length ≡ old.length + (5 + length content)) (further : new.end ≡ old.end + (5 + length content)) where
    now_at_rest : (bytes : List ℕ) → M.content new.disk ≡ Some bytes → IsLogOf bytes new × disk.Only bytes (M.may_leave new.disk)
    now_at_rest bytes now =
        let before = known_before (M.content old.disk) (M.content new.disk) bytes alike now in
        let ready = is_ready before.0 before.1 in
        let is = ready.0 in
        let done = (written old.root.at is.0 is.1 content before.0 ready.1).done in
        let more = is.1 ++ content ∷ [] in
        let same : done.0 ≡ bytes = cc in
        let log : IsLog old.root.at is.0 more bytes = subst (IsLog old.root.at is.0 more) same done.2 in
        let roots : AreSameRoots before.0 bytes old.root.at = subst (λ (l : List ℕ). AreSameRoots before.0 l old.root.at) same done.3 in
        let held : IsHeld bytes old.root new.end is.0 more = record {
          root_is = root_kept before.0 bytes old.root old.end is.0 is.1 more is.2 roots log;
          log = log;
          end_is = omega (arith, further, is.2.end_is, roots.own.place, roots.own.size, ap length (records_of-push is.1 content), length-append (records_of is.1) (record_of content), length-record_of content);
        } in (
          (
            is.0,
            more,
            subst (λ (r : Root). IsHeld bytes r new.end is.0 more) (sym root) held,
            longer ∙ ap (λ n. n + (5 + length content)) is.3 ∙ sym (size_of-push (is.0 ++ is.1) content) ∙ ap size_of (append_assoc is.0 is.1 (content ∷ [])),
          ),
          subst (λ (l : List ℕ). disk.Only l (M.may_leave new.disk)) same done.4,
        )

    pub still_intact : IsIntact M new
    still_intact =
        let at : new.root.at ≡ old.root.at = ap Root.at root in
        let place : new.root.place ≡ old.root.place = ap Root.place root in
        let size : new.root.size ≡ old.root.size = ap Root.size root in
        record {
          starts = omega (arith, longer, intact.starts);
          bounded = omega (arith, longer, room.within, intact.limited);
          limited = omega (arith, limit, intact.limited);
          root = subst IsRoot (sym at) intact.root;
          behind_roots = omega (arith, place, intact.behind_roots);
          in_range = omega (arith, place, intact.in_range);
          packed = omega (arith, place, size, further, intact.packed);
          short = omega (arith, place, further, longer, intact.short);
          at_rest = λ is_up bytes now. (now_at_rest bytes now).0;
          durable = λ is_up bytes now. (now_at_rest bytes now).1;
        }
