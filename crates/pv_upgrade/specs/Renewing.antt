-- Contents with their old spellings replaced.
use Rattle.std.specs.Prelude.{ℕ, suc, List, [], ◌∷◌, All}
use Rattle.pv_disk_model.specs.Size.{Contents}
use Rattle.pv_format.specs.Contents.{AreWritten, SpellRecords}
use Rattle.pv_format.specs.Record.{Record}
use Rattle.pv_format.specs.RecordSpelling.{SpellsOldRecord, SpellsRecord}
use Rattle.pv_law_checkpoints.specs.TwoAreas.{IsTwoAreas}

-- The content is no old spelling.
abbrev pub IsNotOld : List ℕ → Type 0
IsNotOld content = (entry : Record) → SpellsOldRecord entry content → ⊥

-- The first content is an old spelling of a record, and the second is that record as it is written.
pub record IsRespelled (was is : List ℕ) : Type 0 where
  pub entry : Record
  pub old : SpellsOldRecord entry was
  pub new : SpellsRecord entry is

-- The second contents are the first ones, but that so many old spellings are replaced, all of them.
pub data AreRenewed : (old new : Contents) (count : ℕ) → Type 0 where
  none : AreRenewed [] [] 0
  kept : (content : List ℕ) (old new : Contents) (count : ℕ) → IsNotOld content → AreRenewed old new count → AreRenewed (content ∷ old) (content ∷ new) count
  replaced : (was is : List ℕ) (old new : Contents) (count : ℕ) → IsRespelled was is → AreRenewed old new count → AreRenewed (was ∷ old) (is ∷ new) (suc count)

-- The bytes are a log that is read as records. These are its contents with so many old spellings replaced, so that each is its record as it is written, and none is an old spelling.
pub record Renews (was : List ℕ) (renewed : Contents) (count : ℕ) : Type 0 where
  pub contents : Contents
  pub log : IsTwoAreas contents was
  pub records : List Record
  pub spelled : SpellRecords records contents
  pub replaced : AreRenewed contents renewed count
  pub written : AreWritten records renewed
  pub none_old : All IsNotOld renewed
