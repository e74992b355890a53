-- Contents of which the old spellings are replaced, one more at a time; and each is its record as it is written.
use Rattle.std.proofs.Common.{◌≡◌, ⊎_elim, inr, ℕ, suc, List, [], ◌∷◌, ◌++◌, All, refl, ap, subst}
use Rattle.std.proofs.lemmas.List.Elements.{All-nil, All-cons}
use Rattle.pv_disk_model.specs.Size.{Contents}
use Rattle.pv_format.specs.Contents.{AreWritten, SpellRecords}
use Rattle.pv_format.specs.Record.{Record}
use Rattle.pv_format.specs.RecordSpelling.{IsReadAs, SpellsOldRecord, SpellsRecord}
use Rattle.pv_law_checkpoints.specs.TwoAreas.{IsTwoAreas}
use Rattle.pv_law_format.proofs.AnswerLemmas.{one-record}
use Rattle.pv_law_format.proofs.RecordCode.{not-old}
use Rattle.pv_upgrade.specs.Renewing.{AreRenewed, IsNotOld, IsRespelled, Renews, none, kept, replaced}

-- One more that stays.
pub kept-more : (done made : Contents) (count : ℕ) (content : List ℕ) → AreRenewed done made count → IsNotOld content → AreRenewed (done ++ content ∷ []) (made ++ content ∷ []) count
kept-more done made count content none not = kept content [] [] 0 not none
kept-more done made count content (kept first done' made' _ new rest) not = kept first (done' ++ content ∷ []) (made' ++ content ∷ []) count new (kept-more done' made' count content rest not)
kept-more done made count content (replaced was is done' made' count' one rest) not =
    replaced was is (done' ++ content ∷ []) (made' ++ content ∷ []) count' one (kept-more done' made' count' content rest not)

-- One more that is replaced.
pub replaced-more : (done made : Contents) (count : ℕ) (old new : List ℕ) → AreRenewed done made count → IsRespelled old new → AreRenewed (done ++ old ∷ []) (made ++ new ∷ []) (suc count)
replaced-more done made count old new none one = replaced old new [] [] 0 one none
replaced-more done made count old new (kept first done' made' _ stays rest) one =
    kept first (done' ++ old ∷ []) (made' ++ new ∷ []) (suc count) stays (replaced-more done' made' count old new rest one)
replaced-more done made count old new (replaced was is done' made' count' first rest) one =
    replaced was is (done' ++ old ∷ []) (made' ++ new ∷ []) (suc count') first (replaced-more done' made' count' old new rest one)

-- Where none is replaced, all stay.
pub all-kept : (old new : Contents) (count : ℕ) → AreRenewed old new count → count ≡ 0 → new ≡ old
all-kept old new count none is = refl
all-kept old new count (kept content old' new' _ stays rest) is = ap (λ (l : Contents). content ∷ l) (all-kept old' new' count rest is)
all-kept old new count (replaced was now old' new' count' one rest) is = absurd (let wrong : ⊥ = cc in wrong)

-- What is read as a record and isn't an old spelling is the record as it is written.
written-or-old : (entry : Record) (content : List ℕ) → IsReadAs entry content → IsNotOld content → SpellsRecord entry content
written-or-old entry content read not = ⊎_elim (λ (written : SpellsRecord entry content). written) (λ (old : SpellsOldRecord entry content). absurd (not entry old)) read

-- Contents that are read as records are these as they are written, when the old spellings are replaced.
pub renewed-written : (old new : Contents) (count : ℕ) (records : List Record) → AreRenewed old new count → SpellRecords records old → AreWritten records new
renewed-written old new count [] none read = tt
renewed-written old new count (entry ∷ records) none read = absurd read
renewed-written old new count [] (kept content old' new' _ stays rest) read = absurd read
renewed-written old new count (entry ∷ records) (kept content old' new' _ stays rest) read =
    (written-or-old entry content read.0 stays, renewed-written old' new' count records rest read.1)
renewed-written old new count [] (replaced was is old' new' count' one rest) read = absurd read
renewed-written old new count (entry ∷ records) (replaced was is old' new' count' one rest) read = (
  subst (λ (e : Record). SpellsRecord e is) (one-record was one.entry entry (inr one.old) read.0) one.new,
  renewed-written old' new' count' records rest read.1,
)

-- None of them is an old spelling.
pub renewed-not-old : (old new : Contents) (count : ℕ) → AreRenewed old new count → All IsNotOld new
renewed-not-old old new count none = All-nil IsNotOld
renewed-not-old old new count (kept content old' new' _ stays rest) = All-cons IsNotOld content new' stays (renewed-not-old old' new' count rest)
renewed-not-old old new count (replaced was is old' new' count' one rest) =
    All-cons IsNotOld is new' (λ entry old_one. not-old one.entry entry is one.new old_one) (renewed-not-old old' new' count' rest)

-- The contents of a log that is read as records, with the old spellings replaced.
pub renews : (was : List ℕ) (contents renewed : Contents) (count : ℕ) (records : List Record) → IsTwoAreas contents was → SpellRecords records contents
    → AreRenewed contents renewed count → Renews was renewed count
renews was contents renewed count records log spelled all = record {
  contents = contents;
  log = log;
  records = records;
  spelled = spelled;
  replaced = all;
  written = renewed-written contents renewed count records all spelled;
  none_old = renewed-not-old contents renewed count all;
}
