-- A polyvalue and what comes after it, or its first fault.
use Rattle.std.proofs.Common.{ℕ, ℤ, List, Option, Some, None, IfSome, Result, Ok, Err, IfOk, IfErr, refl}
use Rattle.pv_base.specs.Answer.{Answers}
use Rattle.pv_base.specs.BigEndian.{AreBytes}
use Rattle.pv_base.specs.Polyvalue.{Case}
use Rattle.pv_base.proofs.AnswerLemmas.{answered}
use Rattle.pv_bytes.specs.Reading.{Rest}
use Rattle.pv_format.specs.FirstFault.{Fault, TreeFault}
use Rattle.pv_format.specs.Form.{in_tree}
use Rattle.pv_format.specs.Layout.{anything, polyvalue_then}
use Rattle.pv_format.specs.PolyvalueSpelling.{BeginsWith, SpellsPolyvalue}
use Rattle.pv_fields.specs.Decoding.{Passes, Stops}
use Rattle.pv_law_format.proofs.AnswerLemmas.{one-polyvalue-answer}
use Rattle.pv_tree.specs.declared.poly.Poly.{Poly}
use Rattle.pv_replay.specs.Faults.{fault_of}
use Rattle.pv_replay.specs.declared.error.PolyError.{PolyError}
use Rattle.pv_replay.proofs.PolyLemmas.{within_tree}
use Rattle.pv_replay.proofs.poly.take_poly.Goals as goal

module _ (old new : Rest) (all : AreBytes old.left) where
  told : (told : Option Fault) → Stops (polyvalue_then in_tree) old told → IfSome told (TreeFault old.place old.left)
  told (Some fault) stops = within_tree old.place old.left fault (stops anything)
  told None stops = tt

  answers : (result : Result (Poly ℤ) PolyError) → IfOk result (λ poly. Passes (SpellsPolyvalue poly) (polyvalue_then in_tree) old new)
      → IfErr result (λ e. Stops (polyvalue_then in_tree) old (fault_of e))
      → Answers (λ (read : List (Case ℤ) × List ℕ). BeginsWith read.0 read.1 old.left) (TreeFault old.place old.left) (λ (poly : Poly ℤ). (poly, new.left)) fault_of result
  answers (Ok poly) passes stops =
      answered (λ (read : List (Case ℤ) × List ℕ). BeginsWith read.0 read.1 old.left) (TreeFault old.place old.left) (one-polyvalue-answer old.left old.place all)
      (λ (poly : Poly ℤ). (poly, new.left)) fault_of (Ok poly)
      (record { front = passes.taken.front; back = new.left; whole = passes.taken.taken.bytes; first = passes.taken.is; second = refl }) tt
  answers (Err e) passes stops =
      answered (λ (read : List (Case ℤ) × List ℕ). BeginsWith read.0 read.1 old.left) (TreeFault old.place old.left) (one-polyvalue-answer old.left old.place all)
      (λ (poly : Poly ℤ). (poly, new.left)) fault_of (Err e) tt (told (fault_of e) stops)

pub returns-clause-answer : goal.returns-clause-answer
returns-clause-answer c = answers c.args.take.now c.read_poly.new.take c.place.ensures.bytes c.read_poly.result c.read_poly.ensures.passes c.read_poly.ensures.stops
