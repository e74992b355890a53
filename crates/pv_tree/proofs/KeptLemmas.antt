-- What is known of nodes is known once there are more.
use Rattle.std.proofs.Common.{ℕ, List, IsTrue, Option, refl, sym, subst, ◌∙◌, arith}
use Rattle.pv_base.specs.declared.literal.Literal.{Literal}
use Rattle.pv_base.specs.declared.txn.TxnId.{TxnId}
use Rattle.pv_base.specs.Polyvalue.{Case, names, IsCanonical, IsSettled}
use Rattle.pv_tree.specs.Meanings.{cases_at, Keeps}
use Rattle.pv_tree.specs.Settling.{Settles, AreNoted}

module _ {V : Type 0} where
  pub keeps-itself : (meanings : List (List (Case V))) → Keeps meanings meanings
  keeps-itself meanings = record { longer = omega arith; kept = λ number within. refl }

  pub keeps-trans : (old middle new : List (List (Case V))) → Keeps old middle → Keeps middle new → Keeps old new
  keeps-trans old middle new first second = record {
    longer = omega (arith, first.longer, second.longer);
    kept = λ number within. second.kept number (omega (arith, within, first.longer)) ∙ first.kept number within;
  }

  pub settles-kept : (literals : List Literal) (cases : List (Case V)) (old new : List (List (Case V))) (number : ℕ) → Keeps old new → Settles literals cases old number
      → Settles literals cases new number
  settles-kept literals cases old new number keeps is =
      let same = sym (keeps.kept number is.there) in record {
        there = omega (arith, is.there, keeps.longer);
        settled = subst (λ (c : List (Case V)). IsSettled literals cases c) same is.settled;
        named = subst (λ (c : List (Case V)). (u : TxnId) → IsTrue (names c u) → IsTrue (names cases u)) same is.named;
        canonical = subst IsCanonical same is.canonical;
      }

  pub noted-kept : (literals : List Literal) (source old new : List (List (Case V))) (noted : List (Option ℕ)) → Keeps old new → AreNoted literals source old noted
      → AreNoted literals source new noted
  noted-kept literals source old new noted keeps are number found is = settles-kept literals (cases_at source number) old new found keeps (are number found is)
