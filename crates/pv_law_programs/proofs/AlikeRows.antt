-- A program does the same to rows that have the same values of its items.
use Rattle.std.proofs.Common.{◌≡◌, ℕ, ℤ, pos, Bool, true, false, cond, List, Result, Ok, Err, refl, sym, ap, ◌∙◌, subst, inl, inr}
use Rattle.std.specs.Prelude.{◌==◌, IsTrue, neg_ℤ, not}
use Rattle.std.proofs.lemmas.Bool.{cases_Bool, eq-eqb, or_left, or_right}
use Rattle.pv_model.specs.Check.{reads, names_item}
use Rattle.pv_model.specs.Syntax.{Expr, number, item, minus, negation, two, Program, end, assign, require, certain, return, when, when_else}
use Rattle.pv_base.specs.declared.reply.Decline.{Decline}
use Rattle.pv_base.specs.declared.reply.Decline.TheVariants.{Require}
use Rattle.pv_base.specs.declared.reply.Reply.TheVariants.{Value, Declined}
use Rattle.pv_model.specs.Meaning.{Row, with_row, within, holds, truth, with_value, with_left, value_of, Course, ended, returned, refused, then_with, then_run, course_of, effect_of, exec}
use Rattle.pv_model.specs.ProgramLaws.{HaveSameValues, HaveSameValuesOf}
use Rattle.pv_law_programs.proofs.ProgramLemmas.{lacks-with_row, value_in-with_row-same, value_in-with_row-other}

module _ (set : ℕ → Bool) where
  -- The set has each item that a test names.
  abbrev Covers : (ℕ → Bool) → Type 0
  Covers names_it = (n : ℕ) → IsTrue (names_it n) → IsTrue (set n)

  with_row-alike : (rows others : List Row) (n : ℕ) (v : ℤ) → IsTrue (set n) → HaveSameValuesOf set rows others
      → HaveSameValuesOf set (with_row rows n v) (with_row others n v)
  with_row-alike rows others n v of_set same = λ m it. (
    lacks-with_row rows n m v ∙ (same m it).0 ∙ sym (lacks-with_row others n m v),
    elim (cases_Bool (n == m)) [
      | inl is ↦
          value_in-with_row-same rows n m v is
          ∙ ap (λ (b : Bool). cond b (pos 0) v) (same n of_set).0
          ∙ sym (value_in-with_row-same others n m v is)
      | inr other ↦ value_in-with_row-other rows n m v other ∙ (same m it).1 ∙ sym (value_in-with_row-other others n m v other)
    ],
  )

  value_of-alike : (e : Expr) (rows others : List Row) → Covers (reads e) → HaveSameValuesOf set rows others → value_of e rows ≡ value_of e others
  value_of-alike (number z) rows others covers same = refl
  value_of-alike (item n) rows others covers same = ap (λ (z : ℤ). Ok z) (same n (covers n (eq-eqb n n refl))).1
  value_of-alike (minus e) rows others covers same =
      ap (λ (r : Result ℤ Decline). with_value r (λ v. within (neg_ℤ v))) (value_of-alike e rows others covers same)
  value_of-alike (negation e) rows others covers same =
      ap (λ (r : Result ℤ Decline). with_value r (λ v. Ok (truth (not (holds v))))) (value_of-alike e rows others covers same)
  value_of-alike (two op left right) rows others covers same =
      let on_left = value_of-alike left rows others (λ n r. covers n (or_left (reads left n) (reads right n) r)) same in
      let on_right = value_of-alike right rows others (λ n r. covers n (or_right (reads left n) (reads right n) r)) same in
      λ i. with_value (on_left i) (λ v. with_left op v (on_right i))

  abbrev AreAlike : Course → Course → Type 0
  AreAlike (ended rows) (ended others) = HaveSameValuesOf set rows others
  AreAlike (returned v rows) (returned w others) = (v ≡ w) × HaveSameValuesOf set rows others
  AreAlike (refused d) (refused e) = d ≡ e
  AreAlike o p = ⊥

  then_with-alike : (r s : Result ℤ Decline) (go on : ℤ → Course) → r ≡ s → ((v : ℤ) → AreAlike (go v) (on v)) → AreAlike (then_with r go) (then_with s on)
  then_with-alike r s go on same alike = subst (λ (t : Result ℤ Decline). AreAlike (then_with r go) (then_with t on)) same (on_one r)
    where
      on_one : (r : Result ℤ Decline) → AreAlike (then_with r go) (then_with r on)
      on_one (Ok v) = alike v
      on_one (Err d) = refl

  then_run-alike : (o p : Course) (go on : List Row → Course) → AreAlike o p
      → ((rows others : List Row) → HaveSameValuesOf set rows others → AreAlike (go rows) (on others)) → AreAlike (then_run o go) (then_run p on)
  then_run-alike (ended rows) (ended others) go on a alike = alike rows others a
  then_run-alike (ended rows) (returned w others) go on a alike = absurd a
  then_run-alike (ended rows) (refused e) go on a alike = absurd a
  then_run-alike (returned v rows) (ended others) go on a alike = absurd a
  then_run-alike (returned v rows) (returned w others) go on a alike = a
  then_run-alike (returned v rows) (refused e) go on a alike = absurd a
  then_run-alike (refused d) (ended others) go on a alike = absurd a
  then_run-alike (refused d) (returned w others) go on a alike = absurd a
  then_run-alike (refused d) (refused e) go on a alike = a

  cond-alike : (b : Bool) (x y z w : Course) → AreAlike x z → AreAlike y w → AreAlike (cond b x y) (cond b z w)
  cond-alike true x y z w p q = p
  cond-alike false x y z w p q = q

  run-alike : (program : Program) (rows others : List Row) → Covers (names_item program) → HaveSameValuesOf set rows others
      → AreAlike (course_of program rows) (course_of program others)
  run-alike end rows others covers same = same
  run-alike (assign n e next) rows others covers same =
      then_with-alike (value_of e rows) (value_of e others) _ _
      (value_of-alike e rows others (λ m r. covers m (or_right (n == m) _ (or_left (reads e m) (names_item next m) r))) same)
      (λ v. run-alike next (with_row rows n v) (with_row others n v) (λ m r. covers m (or_right (n == m) _ (or_right (reads e m) (names_item next m) r)))
      (with_row-alike rows others n v (covers n (or_left (n == n) _ (eq-eqb n n refl))) same))
  run-alike (require e next) rows others covers same =
      then_with-alike (value_of e rows) (value_of e others) _ _ (value_of-alike e rows others (λ m r. covers m (or_left (reads e m) (names_item next m) r)) same)
      (λ v. cond-alike (holds v) _ (refused Require) _ (refused Require) (run-alike next rows others (λ m r. covers m (or_right (reads e m) (names_item next m) r)) same) refl)
  run-alike (certain n next) rows others covers same = run-alike next rows others (λ m r. covers m (or_right (n == m) (names_item next m) r)) same
  run-alike (return e next) rows others covers same =
      then_with-alike (value_of e rows) (value_of e others) _ _ (value_of-alike e rows others (λ m r. covers m (or_left (reads e m) (names_item next m) r)) same)
      (λ v. (refl, same))
  run-alike (when e body next) rows others covers same =
      then_with-alike (value_of e rows) (value_of e others) _ _ (value_of-alike e rows others (λ m r. covers m (or_left (reads e m) _ r)) same)
      (λ v. then_run-alike _ _ (course_of next) (course_of next)
      (cond-alike (holds v) (course_of body rows) (ended rows) (course_of body others) (ended others)
      (run-alike body rows others (λ m r. covers m (or_right (reads e m) _ (or_left (names_item body m) (names_item next m) r))) same) same)
      (λ now then. run-alike next now then (λ m r. covers m (or_right (reads e m) _ (or_right (names_item body m) (names_item next m) r)))))
  run-alike (when_else e body other next) rows others covers same =
      then_with-alike (value_of e rows) (value_of e others) _ _ (value_of-alike e rows others (λ m r. covers m (or_left (reads e m) _ r)) same)
      (λ v. then_run-alike _ _ (course_of next) (course_of next)
      (cond-alike (holds v) (course_of body rows) (course_of other rows) (course_of body others) (course_of other others)
      (run-alike body rows others (λ m r. covers m (or_right (reads e m) _ (or_left (names_item body m) _ r))) same)
      (run-alike other rows others (λ m r. covers m (or_right (reads e m) _ (or_right (names_item body m) _ (or_left (names_item other m) (names_item next m) r)))) same))
      (λ now then. run-alike next now then (λ m r. covers m (or_right (reads e m) _ (or_right (names_item body m) _ (or_right (names_item other m) (names_item next m) r))))))

  effect_of-alike : (rows others : List Row) (o p : Course) → HaveSameValuesOf set rows others → AreAlike o p
      → ((effect_of rows o).reply ≡ (effect_of others p).reply) × HaveSameValuesOf set (effect_of rows o).rows (effect_of others p).rows
  effect_of-alike rows others (ended now) (ended then) same a = (refl, a)
  effect_of-alike rows others (ended now) (returned w then) same a = absurd a
  effect_of-alike rows others (ended now) (refused e) same a = absurd a
  effect_of-alike rows others (returned v now) (ended then) same a = absurd a
  effect_of-alike rows others (returned v now) (returned w then) same a = (ap (λ (z : ℤ). Value z) a.0, a.1)
  effect_of-alike rows others (returned v now) (refused e) same a = absurd a
  effect_of-alike rows others (refused d) (ended then) same a = absurd a
  effect_of-alike rows others (refused d) (returned w then) same a = absurd a
  effect_of-alike rows others (refused d) (refused e) same a = (ap (λ (x : Decline). Declined x) a, same)

  pub own_rows_alone : (program : Program) (rows others : List Row) → Covers (names_item program) → HaveSameValuesOf set rows others
      → ((exec program rows).reply ≡ (exec program others).reply) × HaveSameValuesOf set (exec program rows).rows (exec program others).rows
  unfolding exec
  own_rows_alone program rows others covers same =
      effect_of-alike rows others (course_of program rows) (course_of program others) same (run-alike program rows others covers same)

-- Where the set has all items, the rows may stand in any order.
pub order_of_rows_is_free : (program : Program) (rows others : List Row) → HaveSameValues rows others
    → ((exec program rows).reply ≡ (exec program others).reply) × HaveSameValues (exec program rows).rows (exec program others).rows
order_of_rows_is_free program rows others same =
    let alike = own_rows_alone (λ _. true) program rows others (λ _ _. refl) (λ n _. same n) in
    (alike.0, λ n. alike.1 n refl)
