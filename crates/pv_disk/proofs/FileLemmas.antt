-- A disk of which no content is known does what each call of a disk is to do, whether the call fails or not.
use Rattle.std.proofs.Common.{◌≡◌, ◌≤◌, ℕ, List, length, Ok, Err, inl, refl, arith}
use Rattle.std.specs.Prelude.{⊤}
use Rattle.std.proofs.lemmas.Option.{none-some}
use Rattle.pv_base.specs.Fault.{risen}
use Rattle.pv_base.specs.declared.failure.Failed.{Failed as Fault}
use Rattle.pv_disk_model.specs.Disk.{LeavesOnly, LeftTorn, Observes, Writes, Syncs}
use Rattle.pv_disk.specs.Folder.{FileState, file_disk}

leaves : (old new : FileState) (P : List ℕ → Type 0) → ((left : List ℕ) → P left) → LeavesOnly file_disk old new P
leaves old new P all = record {
  later = omega arith;
  each = λ left since. all left;
  before = λ t left le since. inl since;
  keeps = λ t left le since. since;
}

torn : (old : FileState) (place count : ℕ) (left : List ℕ) → LeftTorn file_disk old place count left
torn old place count left = (left, tt, record { before = refl; after = refl; no_shorter = omega arith; no_longer = omega arith })

pub write_done : {X : Type 0} (disk : FileState) (place : ℕ) (bytes : List ℕ) (x : X) → Writes file_disk {X = X} disk disk place bytes (Ok x)
write_done disk place bytes x = record {
  content = λ was is. absurd (none-some was is);
  known = refl;
  any_moment = leaves disk disk (LeftTorn file_disk disk place (length bytes)) (torn disk place (length bytes));
  room = omega arith;
  writes = omega arith;
  fault = (omega arith, tt);
  uncounted = refl;
}

-- What the reads have given is all that a read changes.
pub read_done : {X : Type 0} (old new : FileState) (x : X) → new.faults ≡ old.faults → Observes file_disk {X = X} old new (Ok x)
read_done old new x same = record {
  content = refl;
  known = refl;
  any_moment = leaves old new (λ left. ⊤) (λ left. tt);
  room = omega arith;
  writes = omega arith;
  fault = (omega (arith, same), tt);
  uncounted = same;
}

module _ {X : Type 0} (old new : FileState) (rises : old.faults ≤ new.faults) (counted : new.faults ≡ risen old.faults) (e : Fault) where
  pub read_failed : Observes file_disk {X = X} old new (Err e)
  read_failed = record {
    content = tt;
    known = refl;
    any_moment = leaves old new (λ left. ⊤) (λ left. tt);
    room = omega arith;
    writes = omega arith;
    fault = (rises, omega (arith, counted));
    uncounted = tt;
  }

  pub sync_failed : Syncs file_disk {X = X} old new (Err e)
  sync_failed = record { observes = read_failed; durable = tt }

  pub write_failed : (place : ℕ) (bytes : List ℕ) → Writes file_disk {X = X} old new place bytes (Err e)
  write_failed place bytes = record {
    content = tt;
    known = refl;
    any_moment = leaves old new (LeftTorn file_disk old place (length bytes)) (torn old place (length bytes));
    room = omega arith;
    writes = omega arith;
    fault = (rises, omega (arith, counted));
    uncounted = tt;
  }
