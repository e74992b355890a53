-- What bytes are, by what they begin with: a log in two areas, a journal, or none of the form.
use Rattle.std.proofs.Common.{◌≡◌, ◌<◌, ℕ, Bool, true, false, List, length, Result, Err, refl, sym, ap, subst, ◌∙◌, arith}
use Rattle.std.specs.Prelude.{Vec, IfSome, MatchBool, take}
use Rattle.std.specs.Str.{bytes_eq}
use Rattle.std.specs.declared.alloc.Global.{Global}
use Rattle.std.proofs.lemmas.List.{take_all}
use Rattle.std.proofs.lemmas.Slice.Eq.{bytes_eq-Decides}
use Rattle.pv_base.proofs.AnswerLemmas.{answered}
use Rattle.pv_base.specs.Answer.{Answers, HasOneAnswer}
use Rattle.pv_disk.specs.declared.disk_error.LookError.{LookError}
use Rattle.pv_disk.specs.declared.disk_error.LookError.TheVariants.{Failed, NotOurs, NoMemory}
use Rattle.pv_disk_model.specs.Size.{Contents}
use Rattle.pv_format.specs.Journal as journals
use Rattle.pv_format.specs.Journal.{IsJournal}
use Rattle.pv_journal.specs.Opening.{contents_in, place_in}
use Rattle.pv_law_checkpoints.proofs.OneAnswer.{one_log}
use Rattle.pv_law_checkpoints.specs.Roots.{start}
use Rattle.pv_law_checkpoints.specs.TwoAreas as two_areas
use Rattle.pv_law_checkpoints.specs.TwoAreas.{IsTwoAreas}
use Rattle.pv_law_journal.proofs.OneAnswer.{one_answer}
use Rattle.pv_show.specs.SiteText.{IsFoundIn, log, no_log}

-- Bytes that are fewer begin otherwise.
pub begins-not : (bytes : List ℕ) → length bytes < 8 → false ≡ bytes_eq (take 8 bytes) start
begins-not bytes few = by (bytes_eq (take 8 bytes) start) refl
  where
    by : (test : Bool) → bytes_eq (take 8 bytes) start ≡ test → false ≡ test
    by false is = refl
    by true is =
        let same : take 8 bytes ≡ start = (bytes_eq-Decides (take 8 bytes) start).0 is in
        let whole : bytes ≡ start = sym (take_all 8 bytes (omega (arith, few))) ∙ same in
        let size : length bytes ≡ 8 = ap length whole in
        absurd (omega (arith, few, size))

module _ (bytes : List ℕ) where
  abbrev IsOf : Bool → Contents → Type 0
  IsOf test contents = MatchBool test (IsTwoAreas contents bytes) (IsJournal contents bytes)

  abbrev IsNoneOf : Bool → ℕ → Type 0
  IsNoneOf test place = MatchBool test (two_areas.IsNotOurs bytes place) (journals.IsNotOurs bytes place)

  -- There is one answer, whichever form it is of.
  one-found : (test : Bool) → HasOneAnswer (IsOf test) (IsNoneOf test)
  one-found true = one_log bytes
  one-found false = one_answer bytes

  module _ (looked : Result (Vec (Vec ℕ Global) Global) LookError) where
    -- What is answered of the form that the bytes begin as is what is found in them.
    pub found-by : (test : Bool) → test ≡ bytes_eq (take 8 bytes) start → Answers (IsOf test) (IsNoneOf test) contents_in place_in looked
        → Answers (λ contents. IsFoundIn bytes (log contents)) (λ place. IsFoundIn bytes (no_log place)) contents_in place_in looked
    found-by test is answers = subst (λ (b : Bool). Answers (IsOf b) (IsNoneOf b) contents_in place_in looked) is answers

  -- Where the disk failed before it was known, nothing is told.
  pub untold : (e : LookError) → ((at : ℕ) → e ≡ NotOurs at → ⊥)
      → Answers (λ contents. IsFoundIn bytes (log contents)) (λ place. IsFoundIn bytes (no_log place)) contents_in place_in (Err e)
  untold e none =
      answered (IsOf (bytes_eq (take 8 bytes) start)) (IsNoneOf (bytes_eq (take 8 bytes) start)) (one-found (bytes_eq (take 8 bytes) start)) contents_in place_in (Err e) tt
      (silent e none)
    where
      silent : (e : LookError) → ((at : ℕ) → e ≡ NotOurs at → ⊥) → IfSome (place_in e) (IsNoneOf (bytes_eq (take 8 bytes) start))
      silent (NotOurs at) other = absurd (other at refl)
      silent Failed other = tt
      silent NoMemory other = tt
