-- Grants, entries, messages, records and the order fit together after each step.
use Rattle.std.proofs.Common.{◌≡◌, ⊎_elim, ℕ, Bool, List, refl, sym, ap, subst, ◌∙◌}
use Rattle.std.specs.Prelude.{IsTrue, ◌||◌}
use Rattle.std.specs.List.{Contains}
use Rattle.std.proofs.lemmas.Bool.{or_cases, or_left, or_right}
use Rattle.pv_base.proofs.ContainsLemmas.{Contains-nil}
use Rattle.pv_base.specs.Want.{Want}
use Rattle.pv_format.specs.Message.{lock}
use Rattle.pv_law_acts.proofs.ListLemmas.{listed-either}
use Rattle.pv_law_acts.proofs.PassedLemmas.{numbers-passed, numbers-always-passed, no-work-yet, no-grant-yet, only-epochs-yet}
use Rattle.pv_law_acts.proofs.StepLemmas.{acts-hold, sent-stays}
use Rattle.pv_law_acts.specs.Acts.{Acts, no_act}
use Rattle.pv_law_acts.specs.Passed.{AreNumbersPassed}
use Rattle.pv_law_acts.specs.Seen.{HoldsAgeless, Sent, AreCompatible}
use Rattle.pv_law_acts.specs.Steps.{NewGrant, NewPlace, MayGrow, as_was, one_more, IsStep}
use Rattle.pv_law_outcomes.proofs.EntryLemmas.{entries-right}
use Rattle.pv_law_outcomes.proofs.MessageLemmas.{placing-entry, places-right, wants-same, sent-right, records-right}
use Rattle.pv_law_outcomes.proofs.OrderLemmas.{no-end, once-more}
use Rattle.pv_law_outcomes.specs.Coherent.{AreOnce, IsRecordRight, IsCoherent}
use Rattle.pv_protocol.specs.Committed.{home_of}
use Rattle.pv_protocol.specs.State.{Setup, Grant, Placed}
use Rattle.pv_protocol.specs.World.{World, opening}

either-sym : (a b : Bool) → IsTrue (a || b) → IsTrue (b || a)
either-sym a b h = ⊎_elim (λ left. or_right b a left) (λ right. or_left b a right) (or_cases a b h)

compatible-sym : (wants others : List Want) → AreCompatible wants others → AreCompatible others wants
compatible-sym wants others are want other wanted has same exclusive = are other want has wanted (sym same) (either-sym want.exclusive other.exclusive exclusive)

module _ (setup : Setup) (w v : World) (step : IsStep setup w v) (passed : AreNumbersPassed w) (right : IsCoherent setup w) where
  asked : (n : ℕ) (grant : Grant) → HoldsAgeless v n grant → Sent v (home_of grant.txn) n (lock grant.txn grant.wants)
  asked n grant h =
      sent-stays setup w v step (home_of grant.txn) n (lock grant.txn grant.wants)
      (⊎_elim (λ old. right.asked n grant old) (λ (new : NewGrant setup w v n grant). new.asked) (step.grants n grant h))

  compatible : (n : ℕ) (grant other : Grant) → HoldsAgeless v n grant → HoldsAgeless v n other → (grant.txn ≡ other.txn → ⊥) → AreCompatible grant.wants other.wants
  compatible n grant other h k apart =
      ⊎_elim
      (λ old. ⊎_elim
      (λ old'. right.compatible n grant other old old' apart)
      (λ (new' : NewGrant setup w v n other). compatible-sym other.wants grant.wants (new'.free grant old))
      (step.grants n other k))
      (λ (new : NewGrant setup w v n grant). ⊎_elim
      (λ old'. new.free other old')
      (λ same. absurd (apart (sym (ap (λ (g : Grant). g.txn) same))))
      (new.only other k))
      (step.grants n grant h)

  -- A new place is of no transaction of the order.
  pub new-apart : (placed : Placed) → NewPlace setup w v placed → (other : Placed) → Contains w.order other → other.txn ≡ placed.txn → ⊥
  new-apart placed new other h same =
      (right.entries (home_of placed.txn) placed.txn new.entry (placing-entry setup w v step passed right placed new placed.txn refl)).unplaced new.may.asks other h same

  same-place : MayGrow setup w v (NewPlace setup w v) w.order v.order → (placed other : Placed) → Contains v.order placed → Contains v.order other
      → placed.txn ≡ other.txn → placed ≡ other
  same-place (as_was is) placed other h k same =
      right.same_place placed other (subst (λ all. Contains all placed) is h) (subst (λ all. Contains all other) is k) same
  same-place (one_more more new is) placed other h k same =
      ⊎_elim
      (λ old. ⊎_elim
      (λ old'. right.same_place placed other old old' same)
      (λ (last' : more ≡ other). absurd (new-apart more new placed old (same ∙ sym (ap (λ (p : Placed). p.txn) last'))))
      (listed-either w.order more other (subst (λ all. Contains all other) is k)))
      (λ (last : more ≡ placed). ⊎_elim
      (λ old'. absurd (new-apart more new other old' (sym same ∙ sym (ap (λ (p : Placed). p.txn) last))))
      (λ (last' : more ≡ other). sym last ∙ last')
      (listed-either w.order more other (subst (λ all. Contains all other) is k)))
      (listed-either w.order more placed (subst (λ all. Contains all placed) is h))

  once : MayGrow setup w v (NewPlace setup w v) w.order v.order → AreOnce v.order
  once (as_was is) = subst AreOnce (sym is) right.once
  once (one_more more new is) = subst AreOnce (sym is) (once-more w.order more right.once (new-apart more new))

  pub stays-coherent : IsCoherent setup v
  stays-coherent = record {
    entries = entries-right setup w v step passed right;
    asked = asked;
    compatible = compatible;
    sent = sent-right setup w v step passed right;
    same_wants = wants-same setup w v step passed right;
    records = records-right setup w v step passed right;
    places = places-right setup w v step passed right;
    same_place = same-place step.order;
    once = once step.order;
  }

module _ (setup : Setup) where
  coherent-first : IsCoherent setup (opening setup)
  coherent-first = record {
    entries = λ n txn entry works. absurd (no-work-yet setup n txn entry works);
    asked = λ n grant h. absurd (no-grant-yet setup n grant h);
    compatible = λ n grant other h k apart. absurd (no-grant-yet setup n grant h);
    sent = λ from to message h. absurd (Contains-nil _ h);
    same_wants = λ from to txn wants others h k. absurd (Contains-nil _ h);
    records = λ n. only-epochs-yet setup (IsRecordRight setup (opening setup) n) (λ epoch. tt) n;
    places = λ placed h. absurd (Contains-nil placed h);
    same_place = λ placed other h k same. absurd (Contains-nil placed h);
    once = λ before after placed other is h same. absurd (no-end placed before after is);
  }

  -- The numbers in use are passed, and all fits together.
  pub record IsSound (world : World) : Type 0 where
    pub passed : AreNumbersPassed world
    pub right : IsCoherent setup world

  pub always-sound : (world : World) → Acts setup (opening setup) world → IsSound world
  always-sound world acts =
      acts-hold setup IsSound
      (λ w v step sound. record { passed = numbers-passed setup w v step sound.passed; right = stays-coherent setup w v step sound.passed sound.right })
      (opening setup) world acts
      (record { passed = numbers-always-passed setup (opening setup) (no_act (opening setup)); right = coherent-first })
