-- Records, gone through one after another.
use Rattle.std.proofs.Common.{◌≡◌, ℕ, ◌+◌, ◌^◌, ◌<◌, false, true, List, [], ◌∷◌, ◌++◌, Option, None, Some, length, drop, refl, sym, ◌∙◌, ap, subst, arith, length-append}
use Rattle.std.specs.Prelude.{is_some, replicate}
use Rattle.std.specs.List.{flat_map}
use Rattle.std.proofs.lemmas.List.{append-nil, length-replicate}
use Rattle.std.proofs.lemmas.List.Concat.{flat_map-append}
use Rattle.std.proofs.lemmas.List.Elements.{All-nil, All-cons, All-append}
use Rattle.pv_disk_model.specs.DiskModel.{DiskModel}
use Rattle.pv_disk_model.specs.Disk.{Gives}
use Rattle.pv_disk_model.specs.Size.{Contents}
use Rattle.pv_format.specs.Journal.{framed, record_of, records_of, AreShort}
use Rattle.pv_journal.specs.Reading.{HoldsRecord, IsOpenEnd, IsRecord, StandsCut}
use Rattle.pv_law_calls.proofs.GivenLemmas.{gives_more}
use Rattle.pv_law_calls.proofs.RecordLemmas.{length-record_of, records_of-push}
use Rattle.pv_ckpt.specs.Reading.{BeginsAt, ReadsCut, ReadsRecords}
use Rattle.pv_ckpt.proofs.FramedLemmas.{gives_nothing}
use Rattle.pv_ckpt.proofs.ReadLemmas.{begins_more, behind_front}

-- One content more, of each of which this was read.
pushed : (of_record : List ℕ → List ℕ) (later : Contents) (content : List ℕ) → flat_map of_record (later ++ content ∷ []) ≡ flat_map of_record later ++ of_record content
pushed of_record later content =
    flat_map-append of_record later (content ∷ []) ∙ ap (λ (l : List ℕ). flat_map of_record later ++ l) (append-nil (of_record content))

-- The records of these contents were gone through, from that place to this one, and of each so much was read.
pub record HasRead {D : Type 0} (M : DiskModel D) (of_record : List ℕ → List ℕ) (old new : D) (start place : ℕ) (later : Contents) : Type 0 where
  pub short : AreShort later
  pub place_is : place ≡ start + length (records_of later)
  pub gave : Gives M old new (flat_map of_record later)
  pub stands : (bytes : List ℕ) → M.content old ≡ Some bytes → BeginsAt bytes start (records_of later)

module _ {D : Type 0} (M : DiskModel D) (of_record : List ℕ → List ℕ) (old : D) (start : ℕ) where
  pub none_read : HasRead M of_record old old start start []
  none_read = record {
    short = All-nil (λ c. length c < 2 ^ 32);
    place_is = omega arith;
    gave = gives_nothing M old;
    stands = λ bytes is. (drop start bytes, refl);
  }

  module _ (mid : D) (place : ℕ) (later : Contents) (has : HasRead M of_record old mid start place later) where
    -- One more record.
    pub one_more : (new : D) (count : ℕ) (content gave : List ℕ) → length content ≡ count → count < 2 ^ 32 → Gives M mid new gave → gave ≡ of_record content
        → ((bytes : List ℕ) → M.content old ≡ Some bytes → BeginsAt bytes place (record_of content)) → HasRead M of_record old new start (place + (5 + count)) (later ++ content ∷ [])
    one_more new count content gave size fits gives is stands =
        let grown = records_of-push later content in
        let both : Gives M old new (flat_map of_record later ++ of_record content) =
        subst (λ (l : List ℕ). Gives M old new (flat_map of_record later ++ l)) is (gives_more M old mid new (flat_map of_record later) gave has.gave gives) in
        record {
          short = All-append (λ c. length c < 2 ^ 32) later (content ∷ []) has.short (All-cons (λ c. length c < 2 ^ 32) content [] (omega (arith, size, fits)) (All-nil (λ c. length c < 2 ^ 32)));
          place_is = omega (arith, has.place_is, ap length grown, length-append (records_of later) (record_of content), length-record_of content, size);
          gave = subst (Gives M old new) (sym (pushed of_record later content)) both;
          stands = λ bytes known.
              subst (BeginsAt bytes start) (sym grown) (begins_more bytes start place (records_of later) (record_of content) (has.stands bytes known) has.place_is (stands bytes known));
        }

    -- What stands at the place that was read to.
    at_place : (bytes : List ℕ) → M.content old ≡ Some bytes → (tail : List ℕ) × (drop start bytes ≡ records_of later ++ tail) × (drop place bytes ≡ tail)
    at_place bytes known =
        let begins = has.stands bytes known in
        (begins.0, begins.1, ap (λ n. drop n bytes) has.place_is ∙ behind_front bytes start (records_of later) begins.0 begins.1)

    -- A closed gate comes.
    pub ends : (new : D) (gave : List ℕ) → Gives M mid new gave → IsRecord gave None → ((bytes : List ℕ) → M.content old ≡ Some bytes → HoldsRecord (drop place bytes) None)
        → ReadsRecords M of_record old new start place later
    ends new gave gives (gate, closed, is) stands = record {
      short = has.short;
      end_is = has.place_is;
      gate = gate;
      closed = closed;
      gave = gives_more M old mid new (flat_map of_record later) (gate ∷ []) has.gave (subst (Gives M mid new) is gives);
      stands = λ bytes known.
          let there = at_place bytes known in
          let next = stands bytes known in
          (next.0, next.1, next.2, there.1 ∙ ap (λ (l : List ℕ). records_of later ++ l) (sym there.2 ∙ next.3));
    }

    -- An open gate comes, and no whole record.
    pub is_cut : (new : D) (left : ℕ) (gave : List ℕ) → Gives M mid new gave → IsOpenEnd left gave → ((bytes : List ℕ) → M.content old ≡ Some bytes → StandsCut (drop place bytes))
        → ReadsCut M of_record old new start place later
    is_cut new left gave gives (rest, few, is, past) stands = record {
      short = has.short;
      end_is = has.place_is;
      read = rest;
      few = few;
      gave = gives_more M old mid new (flat_map of_record later) (1 ∷ rest) has.gave (subst (Gives M mid new) is gives);
      stands = λ bytes known.
          let there = at_place bytes known in
          let next = stands bytes known in
          (next.0, there.1 ∙ ap (λ (l : List ℕ). records_of later ++ l) (sym there.2 ∙ next.1), next.2);
    }

-- A record that stands there, as a front of what stands there.
pub record_there : (content more : List ℕ) (gate : ℕ) (bytes : List ℕ) (place : ℕ) → drop place bytes ≡ 1 ∷ (framed content ++ gate ∷ more) → BeginsAt bytes place (record_of content)
record_there content more gate bytes place is = (gate ∷ more, is)

-- A content that is one of the bytes where they are known, and else any of that length.
pub content_for : (held : Option (List ℕ)) (count : ℕ) (P : List ℕ → List ℕ → Type 0) → ((bytes : List ℕ) → held ≡ Some bytes → (content : List ℕ) × (length content ≡ count) × P bytes content)
    → (content : List ℕ) × (length content ≡ count) × ((bytes : List ℕ) → held ≡ Some bytes → P bytes content)
content_for None count P known = (replicate count 0, length-replicate {A = ℕ} count 0, λ bytes is. absurd (let both : false ≡ true = ap is_some is in cc))
content_for (Some bytes) count P known =
    let found = known bytes refl in
    (found.0, found.1, λ other is. let same : bytes ≡ other = cc in subst (λ (l : List ℕ). P l found.0) same found.2)
