-- What reads give, one after another.
use Rattle.std.proofs.Common.{ℕ, List, [], ◌++◌, Option, Some, None, sym, ◌∙◌}
use Rattle.std.specs.Io.KnownBytes.{Appends, Keeps}
use Rattle.std.proofs.KnownBytes.{Appends-trans}
use Rattle.std.proofs.lemmas.List.{append-nil}
use Rattle.pv_disk_model.specs.DiskModel.{DiskModel}
use Rattle.pv_disk_model.specs.Disk.{Gives, GivesNothing}
use Rattle.pv_law_calls.specs.Reading.{Gave}

Keeps-Appends : (a b : Option (List ℕ)) → Keeps a b → Appends a b []
Keeps-Appends None b kept = tt
Keeps-Appends (Some xs) None kept = absurd kept
Keeps-Appends (Some xs) (Some ys) kept = kept ∙ sym (append-nil xs)

module _ {D : Type 0} (M : DiskModel D) where
  pub gives_none : (old new : D) → GivesNothing M old new → Gives M old new []
  gives_none old new kept = Keeps-Appends (M.given old) (M.given new) kept

  pub gives_more : (old mid new : D) (first second : List ℕ) → Gives M old mid first → Gives M mid new second → Gives M old new (first ++ second)
  gives_more old mid new first second before now = Appends-trans (M.given old) (M.given mid) (M.given new) first second before now

  -- A call that reads nothing comes before.
  pub gave_later : (old mid new : D) (P : List ℕ → Type 0) → GivesNothing M old mid → Gave M mid new P → Gave M old new P
  gave_later old mid new P none gave = (gave.0, gives_more old mid new [] gave.0 (gives_none old mid none) gave.1, gave.2)
